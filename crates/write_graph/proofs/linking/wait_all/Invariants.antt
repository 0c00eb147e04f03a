use Rattle.std.proofs.Common.{◌≡◌, ◌+◌, ◌*◌}
use Rattle.write_graph.proofs.Led.{AreWaitingTo}
use Rattle.write_graph.proofs.linking.wait_all.Given as goal

abbrev pub invariant-loop-x : goal.invariant-loop-x
invariant-loop-x l = (l.cell ≡ 8 * l.slot + l.x-index) × AreWaitingTo l.objects l.slot l.x-index l.fn.rows l.rows
