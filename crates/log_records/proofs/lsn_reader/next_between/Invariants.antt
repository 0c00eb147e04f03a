use Rattle.log_blocks.specs.Payloads.{ahead}
use Rattle.log_records.proofs.LsnReading.{IsPassing}
use Rattle.log_records.proofs.lsn_reader.next_between.Given as goal

abbrev pub invariant-loop-record : goal.invariant-loop-record
invariant-loop-record g l = IsPassing (g.O.Oper.meaning l.fn.records.bounds) l.fn.from l.fn.end (g.M.Machine.disk l.fn.m) (g.M.Machine.disk l.m) l.fn.records l.records

abbrev pub decreases-loop-record : goal.decreases-loop-record
decreases-loop-record g l = ahead l.records.payloads
