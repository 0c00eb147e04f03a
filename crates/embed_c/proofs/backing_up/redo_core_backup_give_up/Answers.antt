use Rattle.embed_c.specs.Answers.{told}
use Rattle.embed_c.specs.Backups.{DoesGiveUp, of_backup}
use Rattle.embed_c.specs.Calls.{IsCalled}
use Rattle.embed_c.proofs.OnHandles.{was_closed, was_open}
use Rattle.embed_c.proofs.backing_up.redo_core_backup_give_up.Goals as goal

pub returns-in-None : goal.returns-in-None
returns-in-None c = was_closed (IsCalled (told of_backup) DoesGiveUp) c.in-None.ensures.none c.in-None.ensures.left

pub returns-in-Some : goal.returns-in-Some
returns-in-Some c = was_open (IsCalled (told of_backup) DoesGiveUp) c.in-Some.ensures.some c.deref_mut.ensures.value c.put_back.ensures c.give_up_backup-answer.ensures
