use Rattle.log_blocks.specs.Payloads.{remaining}
use Rattle.op_codec.specs.AllOps.{all_meaning}
use Rattle.redo_log.proofs.CountLemmas.{IsCountingBlock}
use Rattle.redo_log.proofs.counting.count_block.Given as goal

abbrev pub invariant-loop-alloc : goal.invariant-loop-alloc
invariant-loop-alloc g l = IsCountingBlock l.fn.choice (all_meaning l.fn.b) (g.M.Machine.disk l.fn.machine) (g.M.Machine.disk l.machine) l.fn.payloads l.payloads l.fn.tally.items l.tally.items

abbrev pub decreases-loop-alloc : goal.decreases-loop-alloc
decreases-loop-alloc g l = remaining l.payloads
