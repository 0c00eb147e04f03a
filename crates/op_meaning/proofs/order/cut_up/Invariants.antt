use Rattle.std.proofs.Common.{length}
use Rattle.op_meaning.proofs.RecordLemmas.{AreFirst}
use Rattle.op_meaning.proofs.order.cut_up.Given as goal

abbrev pub invariant-loop-rest : goal.invariant-loop-rest
invariant-loop-rest l = AreFirst (λ r. r.now) l.width l.bytes l.found.items l.rest

abbrev pub decreases-loop-rest : goal.decreases-loop-rest
decreases-loop-rest l = length l.rest
