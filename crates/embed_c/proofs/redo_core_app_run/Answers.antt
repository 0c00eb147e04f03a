use Rattle.app_steps.specs.Steps.{step_of}
use Rattle.embed_c.specs.Answers.{of_exec, told}
use Rattle.embed_c.specs.Calls.{DoesRun, StagesRun, TellsSteps}
use Rattle.embed_c.specs.Within.{Tells}
use Rattle.embed_c.proofs.OnHandles.{was_closed, was_open}
use Rattle.embed_c.proofs.redo_core_app_run.Goals as goal

pub returns-in-None : goal.returns-in-None
returns-in-None c = was_closed (Tells (DoesRun (step_of c.args.app) c.args.most) (StagesRun (step_of c.args.app) c.args.most) (told of_exec) (λ made. TellsSteps made c.args.steps.now)) c.in-None.ensures.none c.in-None.ensures.left

pub returns-in-Some : goal.returns-in-Some
returns-in-Some c = was_open (Tells (DoesRun (step_of c.args.app) c.args.most) (StagesRun (step_of c.args.app) c.args.most) (told of_exec) (λ made. TellsSteps made c.app_run-answer.new.steps)) c.in-Some.ensures.some c.deref_mut.ensures.value c.put_back.ensures c.app_run-answer.ensures
