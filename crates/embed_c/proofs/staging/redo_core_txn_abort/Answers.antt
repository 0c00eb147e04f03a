use Rattle.embed_c.specs.Staging.{Drops}
use Rattle.embed_c.proofs.OnHandles.{was_closed, was_open}
use Rattle.embed_c.proofs.staging.redo_core_txn_abort.Goals as goal

pub returns-in-None : goal.returns-in-None
returns-in-None c = was_closed Drops c.in-None.ensures.none c.in-None.ensures.left

pub returns-in-Some : goal.returns-in-Some
returns-in-Some c = was_open Drops c.in-Some.ensures.some c.deref_mut.ensures.value c.put_back.ensures c.drop_transaction-answer.ensures
