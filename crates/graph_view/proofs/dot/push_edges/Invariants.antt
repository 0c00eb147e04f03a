use Rattle.std.proofs.Common.{◌≡◌, ◌++◌, take}
use Rattle.std.specs.Prelude.{string_bytes}
use Rattle.std.specs.List.{flat_map}
use Rattle.graph_view.specs.Dot.{edges_from}
use Rattle.graph_view.proofs.dot.push_edges.Given as goal

abbrev pub invariant-loop-from : goal.invariant-loop-from
invariant-loop-from l = string_bytes l.text ≡ string_bytes l.fn.text ++ flat_map (λ e. edges_from l.entries e.lsn) (take l.from-index l.entries)
