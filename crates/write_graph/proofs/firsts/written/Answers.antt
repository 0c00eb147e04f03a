use Rattle.std.proofs.Common.{◌∙◌, ap, subst, ℕ, List, ◌++◌}
use Rattle.std.specs.List.Sorted.{IsPermutation}
use Rattle.write_graph.proofs.FirstWriters.{keys-listed}
use Rattle.write_graph.proofs.firsts.written.Goals as goal

pub returns : goal.returns
returns c =
    keys-listed c.args.firsts.now.entries c.sort.new.self.items c.keys.ensures.unique (subst (λ (xs : List ℕ). IsPermutation xs c.sort.new.self.items) (c.in_ok-extend_from_slice.ensures.items ∙ ap (λ (xs : List ℕ). xs ++ c.as_slice.result.now) c.new-objects.ensures.items ∙ c.as_slice.ensures ∙ c.keys.ensures.rest) c.in_ok-sort.ensures.permutation) c.in_ok-sort.ensures.sorted
