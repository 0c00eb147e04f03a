use Rattle.embed_c.specs.Answers.{of_work, told}
use Rattle.embed_c.specs.Calls.{DoesInstall, IsCalled, TellsInstall}
use Rattle.embed_c.proofs.OnHandles.{was_closed, was_open}
use Rattle.embed_c.proofs.redo_core_install.Goals as goal

pub returns-in-None : goal.returns-in-None
returns-in-None c = was_closed (IsCalled (told of_work) (λ old new made. DoesInstall old new made × TellsInstall made c.args.installed.now)) c.in-None.ensures.none c.in-None.ensures.left

pub returns-in-Some : goal.returns-in-Some
returns-in-Some c = was_open (IsCalled (told of_work) (λ old new made. DoesInstall old new made × TellsInstall made c.install-answer.new.installed)) c.in-Some.ensures.some c.deref_mut.ensures.value c.put_back.ensures c.install-answer.ensures
