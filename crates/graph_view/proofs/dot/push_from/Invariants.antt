use Rattle.std.proofs.Common.{◌≡◌, ◌++◌, take}
use Rattle.std.specs.Prelude.{string_bytes}
use Rattle.std.specs.List.{flat_map}
use Rattle.graph_view.specs.Dot.{edges_between}
use Rattle.graph_view.proofs.dot.push_from.Given as goal

abbrev pub invariant-loop-to : goal.invariant-loop-to
invariant-loop-to l = string_bytes l.text ≡ string_bytes l.fn.text ++ flat_map (λ e. edges_between l.entries l.from e.lsn) (take l.to-index l.entries)
