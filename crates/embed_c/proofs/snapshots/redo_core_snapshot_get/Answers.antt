use Rattle.embed_c.specs.Snapshots.{Recalls}
use Rattle.embed_c.proofs.OnHandles.{was_closed, was_open}
use Rattle.embed_c.proofs.snapshots.redo_core_snapshot_get.Goals as goal

pub returns-in-None : goal.returns-in-None
returns-in-None c = was_closed (Recalls c.args.object c.args.into.now c.args.into.now c.args.length.now) c.in-None.ensures.none c.in-None.ensures.left

pub returns-in-Some : goal.returns-in-Some
returns-in-Some c = was_open (Recalls c.args.object c.args.into.now c.recall-answer.new.into c.recall-answer.new.length) c.in-Some.ensures.some c.deref_mut.ensures.value c.put_back.ensures c.recall-answer.ensures
