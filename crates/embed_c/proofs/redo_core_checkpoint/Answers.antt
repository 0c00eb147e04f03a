use Rattle.embed_c.specs.Answers.{of_work, told}
use Rattle.embed_c.specs.Calls.{DoesCheckpoint, IsCalled}
use Rattle.embed_c.proofs.OnHandles.{was_closed, was_open}
use Rattle.embed_c.proofs.redo_core_checkpoint.Goals as goal

pub returns-in-None : goal.returns-in-None
returns-in-None c = was_closed (IsCalled (told of_work) DoesCheckpoint) c.in-None.ensures.none c.in-None.ensures.left

pub returns-in-Some : goal.returns-in-Some
returns-in-Some c = was_open (IsCalled (told of_work) DoesCheckpoint) c.in-Some.ensures.some c.deref_mut.ensures.value c.put_back.ensures c.checkpoint-answer.ensures
