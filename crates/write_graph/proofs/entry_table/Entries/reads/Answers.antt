use Rattle.std.proofs.Common.{◌∙◌, ap, sym, subst, ℕ, List, ◌+◌, ◌<◌, length, slice_range, arith}
use Rattle.write_graph.specs.Cells.{reads_of}
use Rattle.write_graph.specs.Heads.{Entries}
use Rattle.write_graph.proofs.Tabled.{length-kept, head-kept, reads-kept, length-range}
use Rattle.write_graph.proofs.entry_table.Entries.reads.Goals as goal

pub get-head-requires : goal.get-head-requires
get-head-requires c =
    let lt = subst (λ (v : Entries). c.args.i < length v.items) (sym c.self.view_is) c.requires in
    omega (arith, lt, length-kept c.self.inside.lsns.items c.self.inside.heads.items c.self.inside.objects.items c.self.invariant.count, c.self.invariant.count)

pub part-requires : goal.part-requires
part-requires c =
    let lt = subst (λ (v : Entries). c.args.i < length v.items) (sym c.self.view_is) c.requires in
    omega (arith, (head-kept c.self.inside.lsns.items c.self.inside.heads.items c.self.inside.objects.items c.args.i c.get-head.result c.self.invariant lt c.get-head.ensures).there, ap length c.as_slice.ensures.value)

pub returns-clause-value : goal.returns-clause-value
returns-clause-value c =
    let lt = subst (λ (v : Entries). c.args.i < length v.items) (sym c.self.view_is) c.requires in
    c.part.ensures ∙ ap (λ (xs : List ℕ). slice_range xs c.get-head.result.start (c.get-head.result.start + c.get-head.result.reads)) c.as_slice.ensures.value ∙ reads-kept c.self.inside.lsns.items c.self.inside.heads.items c.self.inside.objects.items c.args.i c.get-head.result c.self.invariant lt c.get-head.ensures ∙ ap (λ (v : Entries). reads_of v.items c.args.i) c.self.view_is

pub returns-clause-few : goal.returns-clause-few
returns-clause-few c =
    let lt = subst (λ (v : Entries). c.args.i < length v.items) (sym c.self.view_is) c.requires in
    omega (arith, ap length c.part.ensures, length-range c.as_slice.result.now c.get-head.result.start c.get-head.result.reads, (head-kept c.self.inside.lsns.items c.self.inside.heads.items c.self.inside.objects.items c.args.i c.get-head.result c.self.invariant lt c.get-head.ensures).few_reads)
