use Rattle.std.proofs.Common.{◌≡◌, ◌≤◌, ℕ, length}
use Rattle.std.specs.Vec.{vec_capacity}
use Rattle.std.specs.Prelude.{None, max, slice_index_or}
use Rattle.graph_nodes.specs.ArcPages.{count_pages}
use Rattle.graph_nodes.proofs.arcs.add_pages.Given as goal

abbrev pub invariant-loop-i : goal.invariant-loop-i
invariant-loop-i l = ((k : ℕ) → slice_index_or l.pages.items k None ≡ slice_index_or l.fn.pages.items k None) × (count_pages l.pages.items ≡ count_pages l.fn.pages.items) ×
    (length l.pages.items ≡ l.i) × (l.i ≤ max (length l.fn.pages.items) l.count) × (length l.fn.pages.items ≤ l.i) × (vec_capacity l.fn.pages ≤ vec_capacity l.pages)
