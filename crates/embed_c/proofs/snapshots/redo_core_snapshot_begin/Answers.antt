use Rattle.embed_c.specs.Snapshots.{BeginsSnapshot}
use Rattle.embed_c.proofs.OnHandles.{was_closed, was_open}
use Rattle.embed_c.proofs.snapshots.redo_core_snapshot_begin.Goals as goal

pub returns-in-None : goal.returns-in-None
returns-in-None c = was_closed BeginsSnapshot c.in-None.ensures.none c.in-None.ensures.left

pub returns-in-Some : goal.returns-in-Some
returns-in-Some c = was_open BeginsSnapshot c.in-Some.ensures.some c.deref_mut.ensures.value c.put_back.ensures c.begin_snapshot-answer.ensures
