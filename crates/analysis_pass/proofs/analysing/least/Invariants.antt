use Rattle.std.proofs.Common.{◌≡◌, take}
use Rattle.analysis_pass.specs.Analysis.{least_start}
use Rattle.analysis_pass.proofs.analysing.least.Given as goal

abbrev pub invariant-loop-start : goal.invariant-loop-start
invariant-loop-start l = l.least ≡ least_start l.next (take l.start-index l.starts)
