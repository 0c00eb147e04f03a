use Rattle.app_program.specs.CodeLaws.{state_in-state_code}
use Rattle.app_program.specs.OneCode.{state_has_code}
use Rattle.app_program.proofs.machine_laws.machines_have_one_code.Goals as goal

pub returns : goal.returns
returns c = record { found = state_in-state_code; only = state_has_code }
