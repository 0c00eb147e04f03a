use Rattle.embed_c.specs.Answers.{told}
use Rattle.embed_c.specs.Backups.{DoesFinish, IsCalledWith, TellsNumber, of_backup}
use Rattle.embed_c.proofs.OnTargets.{both_open}
use Rattle.embed_c.proofs.backing_up.redo_core_backup_finish.Goals as goal

pub returns : goal.returns
returns c = both_open (IsCalledWith (told of_backup) (λ from to old new made. DoesFinish from to old new made × TellsNumber made c.finish_backup-answer.new.commands))
    c.in-Some.ensures.some c.deref_mut-2.ensures.value c.put_back-2.ensures c.in-Some-take.ensures.some c.deref_mut-3.ensures.value c.put_back-3.ensures c.finish_backup-answer.ensures
