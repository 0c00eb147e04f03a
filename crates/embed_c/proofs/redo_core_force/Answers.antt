use Rattle.embed_c.specs.Answers.{of_work, told}
use Rattle.embed_c.specs.Calls.{DoesForce, IsCalled, TellsCount}
use Rattle.embed_c.proofs.OnHandles.{was_closed, was_open}
use Rattle.embed_c.proofs.redo_core_force.Goals as goal

pub returns-in-None : goal.returns-in-None
returns-in-None c = was_closed (IsCalled (told of_work) (λ old new made. DoesForce old new made × TellsCount made c.args.count.now)) c.in-None.ensures.none c.in-None.ensures.left

pub returns-in-Some : goal.returns-in-Some
returns-in-Some c = was_open (IsCalled (told of_work) (λ old new made. DoesForce old new made × TellsCount made c.force-answer.new.count)) c.in-Some.ensures.some c.deref_mut.ensures.value c.put_back.ensures c.force-answer.ensures
