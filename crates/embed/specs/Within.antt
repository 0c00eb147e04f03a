-- Calls within a transaction: they stage commands beside those that are staged, and the store is only read.
use Rattle.std.specs.Prelude.{◌≡◌, ◌⊎◌, ◌≤◌, ◌++◌, ℕ, List, [], Option, Result, true, false, length, take}
use Rattle.disk_model.specs.Disk.{Disk, Passes}
use Rattle.formats.specs.declared.params.Params.{Params}
use Rattle.execution.specs.declared.exec_err.ExecErr.{ExecErr}
use Rattle.op_codec.specs.AllOps.{AllOps, all_meaning}
use Rattle.running_store.specs.Calls.{IsFailed}
use Rattle.running_store.specs.Courses.{Stop}
use Rattle.running_store.specs.Taking.{Ending}
use Rattle.running_store.specs.Taking.Ending.{Done, Stopped}
use Rattle.store_engine.specs.Engine.{Holds}
use Rattle.store_engine.specs.Lists.{ending_of}
use Rattle.transactions.specs.Staged.{IsStaged, OnlyReads}
use Rattle.transactions.specs.declared.transaction.Transaction.{Transaction}
use Rattle.embed.specs.Embedded.{IsStillBroken}
use Rattle.embed.specs.declared.store.Store.{Store}

-- the commands of a transaction are staged on a store that has these
abbrev pub IsStagedOn : Params → List AllOps → Transaction AllOps → Type 0
IsStagedOn p commands t = IsStaged all_meaning p commands t.ops.items t.bytes t.made

-- Of these commands the first `done` are in the transaction now, behind those that it had: all of them where the call is done. Unless
-- the disk failed, it is staged on what the store stands for. Nothing is logged, so the log stops none.
pub record StagesMore (p : Params) (commands : List AllOps) (t u : Transaction AllOps) (ops : List AllOps) (ending : Ending) : Type 0 where
  pub done : ℕ
  pub front : done ≤ length ops
  pub all : ending ≡ Done → done ≡ length ops
  pub behind : u.ops.items ≡ t.ops.items ++ take done ops
  pub staged : IsFailed ending ⊎ IsStagedOn p commands u
  pub unstopped : (stop : Stop) → ending ≡ Stopped stop → ⊥

-- A call on a store and its transaction, which ended with this error, or none.
module _ {M : Type 0} (disk : M → Disk) (old new : Store M) (t u : Transaction AllOps) where
  -- where the store stands for commands on which the transaction is staged, this holds of all of them, the staged ones behind the others
  abbrev pub OfAll : (Params → List AllOps → Type 0) → Type 0
  OfAll says = (p : Params) (commands : List AllOps) → Holds all_meaning p (disk old.machine) old.engine commands → IsStagedOn p commands t → says p (commands ++ t.ops.items)

  -- The store is only read. Of all commands, the staged ones among them, the call stages those that are a function of them, and it
  -- answers so. After a fault of the disk it answers that again, and does nothing.
  pub record IsCallWithin {A E : Type 0} (ops : Params → List AllOps → List AllOps) (answers : Params → List AllOps → Type 0) (fault : E) (error : Option ExecErr) (result : Result A E) : Type 0 where
    pub time : Passes (disk old.machine) (disk new.machine)
    pub reads : old.engine.broken ≡ false → OnlyReads all_meaning (disk old.machine) (disk new.machine) old.engine new.engine (IsFailed (ending_of error))
    pub stages : (p : Params) (commands : List AllOps) → Holds all_meaning p (disk old.machine) old.engine commands → IsStagedOn p commands t →
        StagesMore p commands t u (ops p (commands ++ t.ops.items)) (ending_of error)
    pub says : OfAll answers
    pub broken : old.engine.broken ≡ true → IsStillBroken fault old new result × (u ≡ t)

-- nothing is staged
abbrev pub stages_none : Params → List AllOps → List AllOps
stages_none p commands = []
