use Rattle.std.proofs.Common.{◌≡◌, is_some, length}
use Rattle.app_program.specs.Program.{program_in}
use Rattle.app_program.proofs.program.is_program.Given as goal

abbrev pub invariant-loop-rest : goal.invariant-loop-rest
invariant-loop-rest l = is_some (program_in l.bytes) ≡ is_some (program_in l.rest)

abbrev pub decreases-loop-rest : goal.decreases-loop-rest
decreases-loop-rest l = length l.rest
