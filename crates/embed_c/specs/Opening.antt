-- What a session is that was opened on files.
use Rattle.std.specs.Prelude.{◌≡◌, ◌≢◌, ◌⊎◌, ⊤, false, ℕ, List, [], None, length}
use Rattle.disk_model.specs.Disk.{Files, IsSettled}
use Rattle.disk_model.specs.declared.machine.FileNo.TheVariants.{Objects}
use Rattle.formats.specs.Bytes.{IsClosedAt}
use Rattle.formats.specs.FirstFault.{IsDamaged}
use Rattle.formats.specs.Objects.{BeginsStore, IsInRange}
use Rattle.formats.specs.declared.params.Params.{Params}
use Rattle.op_codec.specs.AllOps.{AllOps, all_meaning}
use Rattle.restart.specs.WellFormed.{IsWellFormed}
use Rattle.stable_objects.specs.Reading.{IsNoDamage}
use Rattle.stable_objects.specs.declared.open_err.OpenErr.{OpenErr}
use Rattle.stable_objects.specs.declared.open_err.OpenErr.TheVariants.{DiskFault, NotAStore, Damaged, Memory}
use Rattle.store_engine.specs.Engine.{Holds, IsAttached, IsNew, forced_in}
use Rattle.store_engine.specs.Store.{Stands}
use Rattle.write_queue.specs.Memory.{IsLeftByFront, disk_of, first_files, taken_from, waiting_in}
use Rattle.write_queue.specs.declared.queue_mem.QueueMem.{QueueMem}
use Rattle.embed_c.specs.Answers.{alone, of_open}
use Rattle.embed_c.specs.Next.{left_in}
use Rattle.embed_c.specs.declared.answer.Answer.{Answer}
use Rattle.embed_c.specs.declared.session.Session.{Session}

-- a machine to which these files were handed, with no call since
pub record IsHanded (files : Files) (m : QueueMem) : Type 0 where
  pub first : first_files m ≡ files
  pub reads : (disk_of m).reads ≡ files
  pub settled : IsSettled (disk_of m)
  pub taken : taken_from m ≡ []
  pub waiting : waiting_in m ≡ []

-- The store of a session may be called. Its machine was handed these files, and no call was taken from it: all that were made wait.
pub record IsReady (files : Files) (s : Session) : Type 0 where
  pub unbroken : s.store.engine.broken ≡ false
  pub group : s.store.engine.group ≡ None
  pub copied : s.store.engine.copied ≡ None
  pub attached : IsAttached all_meaning (disk_of s.store.machine) s.store.engine
  pub first : first_files s.store.machine ≡ files
  pub untaken : taken_from s.store.machine ≡ []
  pub taken : left_in s.taken ≡ []
  pub staging : s.staging ≡ None

-- A store was opened on these files, all of which were on the disk. If they stood for some commands, the store has these, and
-- all are durable: whatever front of the calls that wait is made on the files, a crash leaves files that stand for them.
pub record IsOpened (files : Files) (s : Session) : Type 0 where
  pub ready : IsReady files s
  pub holds : (p : Params) (commands : List AllOps) → Stands all_meaning p files commands →
      Holds all_meaning p (disk_of s.store.machine) s.store.engine commands × (forced_in s.store.engine ≡ length commands)
  pub kept : (p : Params) (commands : List AllOps) → Stands all_meaning p files commands →
      (left : Files) (said : List ℕ) → IsLeftByFront s.store.machine left said → Stands all_meaning p left commands

-- There was no store. One without commands was laid out over these files, and opened: whatever front of the calls that wait is made
-- on the files, a crash leaves no store, or one without commands.
pub record IsCreated (p : Params) (files : Files) (s : Session) : Type 0 where
  pub ready : IsReady files s
  pub fresh : BeginsStore (files Objects) → ⊥
  pub holds : Holds all_meaning p (disk_of s.store.machine) s.store.engine []
  pub kept : (left : Files) (said : List ℕ) → IsLeftByFront s.store.machine left said → IsNew all_meaning p left

-- Why files are not opened as a store: the objects gate is closed, or a check of them fails first. A fault of the machine in memory
-- is memory that was refused, as the other is.
abbrev pub HasOpenCause : Files → OpenErr → Type 0
HasOpenCause files NotAStore = IsClosedAt 0 (files Objects)
HasOpenCause files (Damaged file place) = IsDamaged all_meaning files file place
HasOpenCause files DiskFault = ⊤
HasOpenCause files Memory = ⊤

-- C is told why these files were not opened: files that meet their format are neither called damaged nor no store.
pub record IsUnopened (files : Files) (told : Answer) : Type 0 where
  pub cause : OpenErr
  pub told_is : told ≡ of_open cause
  pub why : HasOpenCause files cause
  pub whole : IsWellFormed all_meaning files → IsNoDamage cause

-- C is told why no store with these numbers was made of these files: the numbers are out of their ranges, a store is there, or memory
-- was refused, to the machine or beside it.
abbrev pub IsUncreated : Params → Files → Answer → Type 0
IsUncreated p files told = ((told ≡ alone 2) × (IsInRange p → ⊥)) ⊎ (((told ≡ alone 6) × BeginsStore (files Objects)) ⊎ ((told ≡ alone 5) ⊎ (told ≡ alone 8)))

-- a call was not done
abbrev pub IsFailure : Answer → Type 0
IsFailure answer = answer.number ≢ 0
