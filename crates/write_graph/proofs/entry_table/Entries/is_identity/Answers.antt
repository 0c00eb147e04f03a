use Rattle.std.proofs.Common.{◌∙◌, ap, sym, subst, ◌<◌, length, arith}
use Rattle.write_graph.specs.Cells.{identity_of}
use Rattle.write_graph.specs.Heads.{Entries}
use Rattle.write_graph.proofs.Tabled.{length-kept, identity-kept}
use Rattle.write_graph.proofs.entry_table.Entries.is_identity.Goals as goal

pub get-requires : goal.get-requires
get-requires c =
    let lt = subst (λ (v : Entries). c.args.i < length v.items) (sym c.self.view_is) c.requires in
    omega (arith, lt, length-kept c.self.inside.lsns.items c.self.inside.heads.items c.self.inside.objects.items c.self.invariant.count, c.self.invariant.count)

pub returns : goal.returns
returns c =
    let lt = subst (λ (v : Entries). c.args.i < length v.items) (sym c.self.view_is) c.requires in
    identity-kept c.self.inside.lsns.items c.self.inside.heads.items c.self.inside.objects.items c.args.i c.get.result c.self.invariant lt c.get.ensures ∙ ap (λ (v : Entries). identity_of v.items c.args.i) c.self.view_is
