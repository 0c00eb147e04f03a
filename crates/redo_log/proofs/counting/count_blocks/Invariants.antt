use Rattle.log_blocks.specs.Payloads.{ahead}
use Rattle.op_codec.specs.AllOps.{all_meaning}
use Rattle.redo_log.proofs.CountLemmas.{IsCountingBlocks}
use Rattle.redo_log.proofs.counting.count_blocks.Given as goal

abbrev pub invariant-loop-alloc : goal.invariant-loop-alloc
invariant-loop-alloc g l = IsCountingBlocks l.fn.choice (all_meaning l.fn.b) (g.M.Machine.disk l.fn.machine) (g.M.Machine.disk l.machine) l.fn.payloads l.payloads l.fn.tally.items l.tally.items

abbrev pub decreases-loop-alloc : goal.decreases-loop-alloc
decreases-loop-alloc g l = ahead l.payloads
