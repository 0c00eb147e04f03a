use Rattle.embed_c.specs.Snapshots.{KeepsObjects}
use Rattle.embed_c.proofs.OnHandles.{was_closed, was_open}
use Rattle.embed_c.proofs.snapshots.redo_core_snapshot_keep.Goals as goal

pub returns-in-None : goal.returns-in-None
returns-in-None c = was_closed (KeepsObjects c.args.objects.now) c.in-None.ensures.none c.in-None.ensures.left

pub returns-in-Some : goal.returns-in-Some
returns-in-Some c = was_open (KeepsObjects c.args.objects.now) c.in-Some.ensures.some c.deref_mut.ensures.value c.put_back.ensures c.keep-answer.ensures
