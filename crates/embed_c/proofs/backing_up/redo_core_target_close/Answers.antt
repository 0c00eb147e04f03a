use Rattle.embed_c.specs.Backups.{target_of}
use Rattle.embed_c.proofs.OnTargets.{now_closed, was_none}
use Rattle.embed_c.proofs.backing_up.redo_core_target_close.Goals as goal

pub returns-in-None : goal.returns-in-None
returns-in-None c = was_none (target_of c.args.handle.now) (target_of c.take.new.self) c.in-None.ensures.none c.in-None.ensures.left

pub returns-in-Some : goal.returns-in-Some
returns-in-Some c = now_closed (target_of c.args.handle.now) (target_of c.take.new.self) c.in-Some.target.value c.in-Some.ensures.some c.in-Some.ensures.left
