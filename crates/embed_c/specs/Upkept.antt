-- What upkeep in small pieces does.
use Rattle.std.specs.Prelude.{◌≡◌, true, false, ℕ, None, Result, IfSome, max}
use Rattle.formats.specs.declared.read_err.ReadErr.{ReadErr}
use Rattle.formats.specs.declared.read_err.ReadErr.TheVariants as reading
use Rattle.checkpointing.specs.declared.upkeep_report.UpkeepReport.{UpkeepReport}
use Rattle.op_codec.specs.AllOps.{all_meaning}
use Rattle.store_engine.specs.Calls.{IsTending, work_of_install}
use Rattle.store_engine.specs.Engine.{group_size}
use Rattle.store_engine.specs.Upkept.{IsKeptUp, IsLeftAlone}
use Rattle.store_engine.specs.declared.pace.Pace.{Pace}
use Rattle.store_engine.specs.declared.work_err.WorkErr.{WorkErr}
use Rattle.write_queue.specs.Memory.{disk_of}
use Rattle.write_queue.specs.declared.queue_mem.QueueMem.{QueueMem}
use Rattle.embed.specs.Embedded.{IsStillBroken}
use Rattle.embed.specs.declared.store.Store.{Store}
use Rattle.embed_c.specs.Answers.{of_read, told}
use Rattle.embed_c.specs.Calls.{DoesWork, IsCalled}
use Rattle.embed_c.specs.declared.session.Session.{Session}

-- so many nodes of the write graph at most were installed together, or one, or none was left
abbrev pub DoesTend : ℕ → Store QueueMem → Store QueueMem → Result ℕ WorkErr → Type 0
DoesTend most = DoesWork work_of_install (λ d e before after its. IsTending all_meaning d e before after (max 1 most) its)

-- what the pace finds due of upkeep was done; in a group nothing is due
pub record DoesKeepUp (pace later : Pace) (old new : Store QueueMem) (made : Result UpkeepReport ReadErr) : Type 0 where
  pub in_group : old.engine.broken ≡ false → IfSome (group_size old.engine) (λ size. IsLeftAlone old.machine new.machine old.engine new.engine pace later made)
  pub alone : old.engine.broken ≡ false → old.engine.group ≡ None → IsKeptUp all_meaning (disk_of old.machine) (disk_of new.machine) old.engine new.engine pace later made
  pub broken : old.engine.broken ≡ true → IsStillBroken reading.DiskFault old new made

-- by the pace of the session
abbrev pub KeepsUp : Session → Session → ℕ → Type 0
KeepsUp old new answer = IsCalled (told of_read) (DoesKeepUp old.pace new.pace) old new answer
