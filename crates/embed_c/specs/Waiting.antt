-- The calls of a session that C has to make.
use Rattle.std.specs.Prelude.{◌≡◌, ◌++◌, ℕ, List}
use Rattle.disk_model.specs.Call as disk
use Rattle.formats.specs.declared.params.Params.{Params}
use Rattle.op_codec.specs.AllOps.{AllOps, all_meaning}
use Rattle.store_engine.specs.Engine.{Holds}
use Rattle.write_queue.specs.Memory.{LooksTheSame, disk_of, waiting_in}
use Rattle.write_queue.specs.declared.queue_mem.QueueMem.{QueueMem}
use Rattle.embed.specs.declared.store.Store.{Store}
use Rattle.embed_c.specs.Next.{IsNext, left_in}
use Rattle.embed_c.specs.declared.session.Session.{Session}
use Rattle.embed_c.specs.declared.taken.Call.{Call}

-- those that were taken from the machine and not given, and then those that wait in it
abbrev pub pending : Session → List disk.Call
pending s = left_in s.taken ++ waiting_in s.store.machine

-- the engine is as it was, the machine looks the same, and the store stands for the same commands
pub record KeepsStore (old new : Store QueueMem) : Type 0 where
  pub engine : new.engine ≡ old.engine
  pub same : LooksTheSame old.machine new.machine
  pub holds : (p : Params) (commands : List AllOps) → Holds all_meaning p (disk_of old.machine) old.engine commands → Holds all_meaning p (disk_of new.machine) new.engine commands

-- C is told the next call, and nothing else is done
module _ (told : Call) (before after : List ℕ) (old new : Session) (answer : ℕ) where
  pub record TellsNext : Type 0 where
    pub next : IsNext (pending old) (pending new) told before after answer
    pub store : KeepsStore old.store new.store
    pub detail : new.detail ≡ old.detail
    pub pairs : new.pairs ≡ old.pairs
    pub snapshot : new.snapshot ≡ old.snapshot
    pub staging : new.staging ≡ old.staging
