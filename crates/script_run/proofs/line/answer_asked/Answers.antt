use Rattle.script_run.proofs.AnsweringLemmas.{answers_said, answers_stopped}
use Rattle.script_run.proofs.line.answer_asked.Goals as goal

pub returns-in_err-outcome : goal.returns-in_err-outcome
returns-in_err-outcome g c = answers_stopped c.from_residual.result c.do_asked.result _ c.from_residual.ensures.1 c.from_residual.ensures.0 c.in_err-outcome.was c.do_asked.ensures.found

pub returns : goal.returns
returns g c = answers_said c.say_outcome.result c.in_ok-outcome.ensures.found (g.met.M.Machine.lawful c.say_outcome.new.machine) c.engine_stands.ensures c.stop_is_said.ensures.alone c.stop_is_said.ensures.within c.say_outcome.ensures
