use Rattle.std.proofs.Common.{◌≡◌, ◌≤◌, reverse, option_map}
use Rattle.page_map.specs.Steps.{cells_from}
use Rattle.map_client.specs.Ranging.{behind}
use Rattle.map_client.proofs.ranging_pairs.push_falling.Given as goal

abbrev pub invariant-loop-left : goal.invariant-loop-left
invariant-loop-left l = record {
  few : l.left ≤ l.count;
  same : behind l.fn.pairs.items (option_map reverse (cells_from l.leaf l.first l.count)) ≡ behind l.pairs.items (option_map reverse (cells_from l.leaf l.first l.left));
}

abbrev pub decreases-loop-left : goal.decreases-loop-left
decreases-loop-left l = l.left
