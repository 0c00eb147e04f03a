use Rattle.op_meaning.specs.AppStateLaws.{length-stepped, state_has_code, state_in-state_code}
use Rattle.op_meaning.proofs.state_codes.states_have_one_code.Goals as goal

pub returns : goal.returns
returns c = record { found = state_in-state_code; only = state_has_code; step = length-stepped }
