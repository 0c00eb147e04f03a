use Rattle.std.proofs.Common.{◌≡◌, ◌∙◌, ap, sym, subst, ℕ, List, ◌<◌, length, arith}
use Rattle.std.specs.Prelude.{slice_index}
use Rattle.std.proofs.lemmas.List.{get_or_default}
use Rattle.write_graph.specs.Graph.{lsns}
use Rattle.write_graph.specs.Heads.{Entries}
use Rattle.write_graph.proofs.Tabled.{length-kept, lsns-kept}
use Rattle.write_graph.proofs.entry_table.Entries.lsn.Goals as goal

pub index-requires : goal.index-requires
index-requires c =
    let lt = subst (λ (v : Entries). c.args.i < length v.items) (sym c.self.view_is) c.requires in
    omega (arith, lt, length-kept c.self.inside.lsns.items c.self.inside.heads.items c.self.inside.objects.items c.self.invariant.count, c.self.inside.lsns.ok.0)

pub returns : goal.returns
returns c =
    let lt = subst (λ (v : Entries). c.args.i < length v.items) (sym c.self.view_is) c.requires in
    let ns = c.self.inside.lsns.items in
    let read : c.index.result.now ≡ slice_index ns c.args.i = c.index.ensures ∙ get_or_default ns c.args.i c.index.result.now 0 (omega (arith, lt, length-kept c.self.inside.lsns.items c.self.inside.heads.items c.self.inside.objects.items c.self.invariant.count)) in
    read ∙ ap (λ (xs : List ℕ). slice_index xs c.args.i) (sym (lsns-kept c.self.inside.lsns.items c.self.inside.heads.items c.self.inside.objects.items c.self.invariant.count)) ∙ ap (λ (v : Entries). slice_index (lsns v.items) c.args.i) c.self.view_is
