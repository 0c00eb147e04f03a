use Rattle.embed_c.specs.Answers.{told_end}
use Rattle.embed_c.specs.Calls.{DoesEnd, IsCalled}
use Rattle.embed_c.proofs.OnHandles.{was_closed, was_open}
use Rattle.embed_c.proofs.redo_core_end.Goals as goal

pub returns-in-None : goal.returns-in-None
returns-in-None c = was_closed (IsCalled told_end DoesEnd) c.in-None.ensures.none c.in-None.ensures.left

pub returns-in-Some : goal.returns-in-Some
returns-in-Some c = was_open (IsCalled told_end DoesEnd) c.in-Some.ensures.some c.deref_mut.ensures.value c.put_back.ensures c.end-answer.ensures
