use Rattle.embed_c.specs.Backups.{TellsNextOf}
use Rattle.embed_c.proofs.OnTargets.{was_closed, was_open}
use Rattle.embed_c.proofs.backing_up.redo_core_target_next.Goals as goal

pub returns-in-None : goal.returns-in-None
returns-in-None c = was_closed (TellsNextOf c.args.call.now c.args.into.now c.args.into.now) c.in-None.ensures.none c.in-None.ensures.left

pub returns-in-Some : goal.returns-in-Some
returns-in-Some c = was_open (TellsNextOf c.next_call-answer.new.call c.args.into.now c.next_call-answer.new.into) c.in-Some.ensures.some c.deref_mut.ensures.value c.put_back.ensures c.next_call-answer.ensures
