use Rattle.std.proofs.Common.{length}
use Rattle.redo_pass.proofs.Limits.{HasLimited}
use Rattle.redo_pass.proofs.limit.keep_within.Given as goal

abbrev pub invariant-loop-marks : goal.invariant-loop-marks
invariant-loop-marks g l = HasLimited g.O.Oper.meaning l.fn.marks (g.M.Machine.disk l.fn.machine) (g.M.Machine.disk l.machine) l.fn.store l.store

abbrev pub decreases-loop-marks : goal.decreases-loop-marks
decreases-loop-marks g l = length l.store.parts.volatile.entries
