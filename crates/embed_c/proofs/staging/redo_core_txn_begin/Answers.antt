use Rattle.embed_c.specs.Staging.{Begins}
use Rattle.embed_c.proofs.OnHandles.{was_closed, was_open}
use Rattle.embed_c.proofs.staging.redo_core_txn_begin.Goals as goal

pub returns-in-None : goal.returns-in-None
returns-in-None c = was_closed Begins c.in-None.ensures.none c.in-None.ensures.left

pub returns-in-Some : goal.returns-in-Some
returns-in-Some c = was_open Begins c.in-Some.ensures.some c.deref_mut.ensures.value c.put_back.ensures c.begin_transaction-answer.ensures
