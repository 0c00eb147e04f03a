use Rattle.embed_c.specs.Answers.{of_work, told}
use Rattle.embed_c.specs.Calls.{IsCalled, TellsCount}
use Rattle.embed_c.specs.Upkept.{DoesTend}
use Rattle.embed_c.proofs.OnHandles.{was_closed, was_open}
use Rattle.embed_c.proofs.upkeep.redo_core_tend.Goals as goal

pub returns-in-None : goal.returns-in-None
returns-in-None c = was_closed (IsCalled (told of_work) (λ old new made. DoesTend c.args.most old new made × TellsCount made c.args.installed.now)) c.in-None.ensures.none c.in-None.ensures.left

pub returns-in-Some : goal.returns-in-Some
returns-in-Some c = was_open (IsCalled (told of_work) (λ old new made. DoesTend c.args.most old new made × TellsCount made c.tend-answer.new.installed)) c.in-Some.ensures.some c.deref_mut.ensures.value c.put_back.ensures c.tend-answer.ensures
