use Rattle.app_steps.proofs.Refused.{why_refused}
use Rattle.app_steps.proofs.program_runs.why_a_step_is_refused.Goals as goal

pub returns : goal.returns
returns c = λ p commands app refusal e. why_refused p commands app refusal e
