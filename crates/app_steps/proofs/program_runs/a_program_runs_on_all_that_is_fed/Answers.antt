use Rattle.app_steps.proofs.ProgramRuns.{program_runs}
use Rattle.app_steps.proofs.program_runs.a_program_runs_on_all_that_is_fed.Goals as goal

pub returns : goal.returns
returns c = λ p before commands app code range holds empty is. program_runs p app code range holds before commands empty is
