-- What the files are where a restart reports that they are damaged, or no store, on any machine.
use Rattle.std.specs.Prelude.{◌≡◌, ◌⊎◌, ◌<◌, ℕ, Result, IsErrOf}
use Rattle.disk_model.specs.Disk.{Files, Disk, OthersStay, Runs, In, Any, Same}
use Rattle.disk_model.specs.declared.machine.FileNo.{FileNo}
use Rattle.disk_model.specs.declared.machine.FileNo.TheVariants.{Objects}
use Rattle.oper_core.specs.Meaning.{Meaning}
use Rattle.oper_core.specs.declared.bounds.Bounds.{Bounds}
use Rattle.formats.specs.Bytes.{IsClosedAt}
use Rattle.formats.specs.FirstFault.{IsDamaged}
use Rattle.formats.specs.Objects.{place_in}
use Rattle.stable_objects.specs.Reading.{IsLongValue}
use Rattle.stable_objects.specs.declared.open_err.OpenErr.{OpenErr}
use Rattle.stable_objects.specs.declared.open_err.OpenErr.TheVariants.{NotAStore, Damaged}
use Rattle.running_store.specs.Parts.{Parts}
use Rattle.redo_pass.specs.Causes.{IsRedoFault}
use Rattle.restart.specs.WellFormed.{IsWellFormed}

-- Files that agreed before met their format. These differ from them at most in the objects file, and there a slot of an object,
-- open or not, has at this place a length that is more than the store allows, or goes past the end of the file.
pub record IsDamagedSince {O : Type 0} (meaning : Bounds → Meaning O) (old : Disk) (files : Files) (file : FileNo) (place : ℕ) : Type 0 where
  pub loaded : Files
  pub before : old.agrees loaded
  pub formed : IsWellFormed meaning loaded
  pub others : OthersStay Objects loaded files
  pub file_is : file ≡ Objects
  pub object : ℕ
  pub below : object < formed.params.objects
  pub slot : ℕ
  pub two : slot < 2
  pub long : IsLongValue formed.params.cap (place_in (loaded Objects) object slot) (files Objects) place

-- Each of the files that agree with what was read either is damaged at this place, by the first check that fails, or has a
-- length here that is too great while it differs at most in the objects file from files that met their format. The second is
-- what a redo finds.
abbrev pub IsReadAsDamaged : {O : Type 0} → (Bounds → Meaning O) → Disk → Disk → FileNo → ℕ → Type 0
IsReadAsDamaged meaning old new file place = (files : Files) → new.agrees files → IsDamaged meaning files file place ⊎ IsDamagedSince meaning old files file place

-- A redo, which changed the objects file alone, found this fault.
pub record IsFoundInRedo {O : Type 0} (meaning : Bounds → Meaning O) (old new : Disk) (before after : Parts) (file : FileNo) (place : ℕ) : Type 0 where
  pub runs : Runs (In Objects Any) Same old new
  pub fault : IsRedoFault (meaning before.log.bounds) old new before.log.log before.volatile.objects.slots after.volatile.objects.slots file place

-- Where a restart reports damage, all files that agree with what was read are read as damaged there. Where it finds no store,
-- the objects gate is closed in all of them.
pub record IsReported {O : Type 0} (meaning : Bounds → Meaning O) (old new : Disk) (result : Result Parts OpenErr) : Type 0 where
  pub damaged : (file : FileNo) (place : ℕ) → IsErrOf result (Damaged file place) → IsReadAsDamaged meaning old new file place
  pub no_store : IsErrOf result NotAStore → (files : Files) → new.agrees files → IsClosedAt 0 (files Objects)
