use Rattle.std.proofs.Common.{◌≡◌, ◌+◌, ◌-◌}
use Rattle.page_map.specs.Steps.{cells_from}
use Rattle.map_client.specs.Ranging.{behind}
use Rattle.map_client.proofs.ranging_pairs.push_rising.Given as goal

abbrev pub invariant-loop-i : goal.invariant-loop-i
invariant-loop-i l = behind l.fn.pairs.items (cells_from l.leaf l.first l.count) ≡ behind l.pairs.items (cells_from l.leaf (l.first + l.i) (l.count - l.i))
