use Rattle.std.proofs.Common.{◌≡◌, ℕ, ◌≤◌, max, length}
use Rattle.std.specs.Vec.{vec_capacity}
use Rattle.graph_nodes.specs.Arcs.{name_at}
use Rattle.graph_nodes.proofs.name_table.fill.Given as goal

abbrev pub invariant-loop-m : goal.invariant-loop-m
invariant-loop-m l = ((k : ℕ) → name_at l.names.items k ≡ name_at l.fn.names.items k) × (length l.names.items ≡ l.m) × (l.m ≤ max (length l.fn.names.items) l.count) × (vec_capacity l.fn.names ≤ vec_capacity l.names)
