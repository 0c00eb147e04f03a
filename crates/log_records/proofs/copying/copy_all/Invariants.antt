use Rattle.log_blocks.specs.Payloads.{ahead}
use Rattle.log_records.proofs.CopyingAll.{IsCopyingAll}
use Rattle.log_records.proofs.copying.copy_all.Given as goal

abbrev pub invariant-loop-code : goal.invariant-loop-code
invariant-loop-code g l = IsCopyingAll g.O.Oper.meaning l.fn.b l.log (g.M.Machine.disk l.fn.m) (g.M.Machine.disk l.m) (g.T.Machine.disk l.fn.target) (g.T.Machine.disk l.target) l.reader l.fn.out l.out l.fn.blocks l.blocks

abbrev pub decreases-loop-code : goal.decreases-loop-code
decreases-loop-code g l = ahead l.reader.payloads
