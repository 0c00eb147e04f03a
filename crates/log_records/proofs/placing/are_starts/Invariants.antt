use Rattle.std.proofs.Common.{take}
use Rattle.log_records.proofs.Starts.{AreSeen}
use Rattle.log_records.proofs.placing.are_starts.Given as goal

abbrev pub invariant-loop-object : goal.invariant-loop-object
invariant-loop-object l = AreSeen l.objects l.base l.next l.least (take l.object-index l.starts)
