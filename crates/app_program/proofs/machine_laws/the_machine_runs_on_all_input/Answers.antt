use Rattle.app_program.specs.History.{runs_on_all}
use Rattle.app_program.proofs.machine_laws.the_machine_runs_on_all_input.Goals as goal

pub returns : goal.returns
returns c = runs_on_all
