use Rattle.log_records.specs.LsnReader.{left_of}
use Rattle.redo_pass.proofs.Doing.{IsDoing}
use Rattle.redo_pass.proofs.redoing.redo.Given as goal

abbrev pub invariant-loop-reader : goal.invariant-loop-reader
invariant-loop-reader g l = IsDoing g.O.Oper.meaning l.marks l.plan l.fn.store (g.M.Machine.disk l.fn.machine) (g.M.Machine.disk l.machine) l.store l.reader

abbrev pub decreases-loop-reader : goal.decreases-loop-reader
decreases-loop-reader g l = left_of l.reader
