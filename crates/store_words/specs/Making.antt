-- What the making of a store leaves and says.
use Rattle.std.specs.Prelude.{◌≡◌, ◌++◌, ◌≢◌, ◌⊎◌}
use Rattle.disk_model.specs.Disk.{Files, Disk, LeavesOnly, IsSettled}
use Rattle.disk_model.specs.declared.machine.FileNo.TheVariants.{Objects}
use Rattle.formats.specs.Objects.{BeginsStore}
use Rattle.store_engine.specs.Engine.{InEachImage}
use Rattle.formats.specs.declared.params.Params.{Params}
use Rattle.restart.specs.Starts.{OrAtStart}
use Rattle.shell_base.specs.Notices as notices
use Rattle.shell_base.specs.Store.{IsNew, IsNewStore}
use Rattle.shell_base.specs.Keeps.{KeepsFiles}
use Rattle.shell_base.specs.Status.{IsOfInit}
use Rattle.shell_base.specs.declared.status.Status.{Status}
use Rattle.shell_base.specs.declared.status.Status.TheVariants.{Done, AlreadyStore, DiskFault}

-- or a store begins
abbrev pub ReadsStore : Disk → Type 0
ReadsStore d = (files : Files) → d.agrees files → BeginsStore (files Objects)

-- a store is there already, also after each crash: the files read as before, and that is said
pub record SaysStore (old new : Disk) : Type 0 where
  pub begins : BeginsStore (old.reads Objects)
  pub reads : new.reads ≡ old.reads
  pub said : new.said ≡ old.said ++ notices.already_a_store
  pub each : InEachImage new (λ (files : Files). BeginsStore (files Objects))

-- The making of a store with these numbers.
pub record IsMaking (p : Params) (old new : Disk) (status : Status) : Type 0 where
  pub ends : IsOfInit status
  -- the files are those of a new store, which stand for no commands
  pub done : old.tells_files → status ≡ Done → InEachImage new (IsNewStore p)
  -- nothing is said then, nor where the disk fails
  pub quiet : old.tells_files → (status ≡ Done) ⊎ (status ≡ DiskFault) → new.said ≡ old.said
  -- at each moment there is what a crash at the start could leave, no store, or one without commands; nothing is said
  pub images : old.tells_moments → (BeginsStore (old.reads Objects) → ⊥) → LeavesOnly old new (OrAtStart old (λ files said. IsNew p files × (said ≡ old.said)))
  pub from_settled : old.tells_moments → IsSettled old → (BeginsStore (old.reads Objects) → ⊥) → LeavesOnly old new (λ files said. IsNew p files × (said ≡ old.said))
  -- but where the disk fails, the machine is settled then
  pub settled : old.tells_files → status ≢ DiskFault → IsSettled new
  -- a store that is there is kept, and none is made there
  pub keeps : old.tells_files → BeginsStore (old.reads Objects) → KeepsFiles old new
  pub fresh : old.tells_files → status ≡ Done → BeginsStore (old.reads Objects) → ⊥
  pub already : old.tells_files → status ≡ AlreadyStore → SaysStore old new
  pub read : status ≡ AlreadyStore → ReadsStore new
