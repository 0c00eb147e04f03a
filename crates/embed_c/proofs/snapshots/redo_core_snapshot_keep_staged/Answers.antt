use Rattle.embed_c.specs.Snapshots.{KeepsStaged}
use Rattle.embed_c.proofs.OnHandles.{was_closed, was_open}
use Rattle.embed_c.proofs.snapshots.redo_core_snapshot_keep_staged.Goals as goal

pub returns-in-None : goal.returns-in-None
returns-in-None c = was_closed KeepsStaged c.in-None.ensures.none c.in-None.ensures.left

pub returns-in-Some : goal.returns-in-Some
returns-in-Some c = was_open KeepsStaged c.in-Some.ensures.some c.deref_mut.ensures.value c.put_back.ensures c.keep_staged-answer.ensures
