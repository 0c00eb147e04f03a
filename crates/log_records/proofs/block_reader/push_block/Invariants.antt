use Rattle.log_blocks.specs.Payloads.{ahead}
use Rattle.log_records.proofs.Blocks.{IsGathering}
use Rattle.log_records.proofs.block_reader.push_block.Given as goal

abbrev pub invariant-loop-record : goal.invariant-loop-record
invariant-loop-record g l = IsGathering (g.O.Oper.meaning l.fn.records.bounds) (g.M.Machine.disk l.fn.m) (g.M.Machine.disk l.m) l.fn.from l.fn.records l.records l.into.items

abbrev pub decreases-loop-record : goal.decreases-loop-record
decreases-loop-record g l = ahead l.records.payloads
