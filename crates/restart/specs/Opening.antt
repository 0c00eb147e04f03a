-- What a restart begins with, and what it says of the files and leaves of them.
use Rattle.std.specs.Prelude.{◌≡◌, ◌⊎◌, ℕ, List, Result, Ok, Err, OnOk, IfOk, IfErr, IsErrOf}
use Rattle.disk_model.specs.Disk.{Disk, Passes, Rises, Stays, IsSettled, LeavesOnly}
use Rattle.disk_model.specs.Silent.{IsSilent}
use Rattle.disk_model.specs.declared.machine.FileNo.{FileNo}
use Rattle.disk_model.specs.declared.machine.FileNo.TheVariants.{Objects}
use Rattle.oper_core.specs.Meaning.{Meaning}
use Rattle.oper_core.specs.declared.bounds.Bounds.{Bounds}
use Rattle.formats.specs.Bytes.{IsOpenAt, IsClosedAt}
use Rattle.formats.specs.FirstFault.{IsDamaged}
use Rattle.formats.specs.Image.{EndsAt}
use Rattle.formats.specs.Objects.{is_second, layout_in}
use Rattle.formats.specs.declared.params.Params.{Params}
use Rattle.stable_objects.specs.Reading.{IsNoDamage}
use Rattle.stable_objects.specs.declared.open_err.OpenErr.{OpenErr}
use Rattle.stable_objects.specs.declared.open_err.OpenErr.TheVariants.{DiskFault, NotAStore, Damaged, Memory}
use Rattle.explain_core.specs.Sound.{IsSound}
use Rattle.explain_core.specs.World.{World, Step}
use Rattle.standing.specs.Moments.{ShowsSome}
use Rattle.standing.specs.Standing.{FilesShow}
use Rattle.running_store.specs.Kept.{IsAttached}
use Rattle.running_store.specs.Parts.{Parts}
use Rattle.running_store.specs.StoreView.{StoreView}
use Rattle.running_store.specs.Taking.{ArePartsInUse}
use Rattle.restart.specs.Starts.{OrAtStart}
use Rattle.restart.specs.WellFormed.{IsWellFormed}

-- The machine reports its files, which need not be settled; what reads give shows the world, which is sound, and there the
-- log in force has this length.
pub record OpensOn {O : Type 0} (m : Meaning O) (p : Params) (d : Disk) (used : ℕ) (w : World O) : Type 0 where
  pub told : d.tells_files
  pub sound : IsSound m w
  pub shows : FilesShow m p d.reads w
  pub ends : EndsAt d.reads used

-- What a restart says on every machine: time passes and nothing is said, and a fault of the disk is counted. What it opens
-- is in use, and settled; where the machine reports its files, it is attached to them.
pub record IsOpening {O : Type 0} (meaning : Bounds → Meaning O) (old new : Disk) (result : Result Parts OpenErr) : Type 0 where
  pub time : Passes old new
  pub quiet : old.tells_files → new.said ≡ old.said
  pub fault : IsErrOf result DiskFault → Rises old.disk_faults new.disk_faults
  pub settled : OnOk result (IsSettled new)
  pub in_use : IfOk result ArePartsInUse
  pub attached : IfOk result (IsAttached meaning new)

-- the file keeps its version, its numbers, and the place of its first slot
pub record KeepsLayout (old new : List ℕ) : Type 0 where
  pub version : is_second new ≡ is_second old
  pub layout : layout_in new ≡ layout_in old

-- What a restart says of the files, where the machine reports them. A store is opened only where they meet their format;
-- where they do, they are neither called damaged nor no store. Where they do not, they stay as they are, and the damage
-- that is reported is there, and none other: it is that of the first check that fails.
pub record IsJudged {O : Type 0} (meaning : Bounds → Meaning O) (old new : Disk) (result : Result Parts OpenErr) : Type 0 where
  pub read : OnOk result (IsWellFormed meaning old.reads)
  pub layout : OnOk result (KeepsLayout (old.reads Objects) (new.reads Objects))
  pub whole : IsWellFormed meaning old.reads → IfErr result IsNoDamage
  pub kept : IsWellFormed meaning old.reads ⊎ Stays old new
  pub no_store : IsErrOf result NotAStore → IsClosedAt 0 (old.reads Objects)
  pub damaged : (file : FileNo) (place : ℕ) → IsErrOf result (Damaged file place) → IsDamaged meaning old.reads file place
  -- unless the disk fails or memory runs out
  pub exactly : (file : FileNo) (place : ℕ) → IsDamaged meaning old.reads file place
      → IsErrOf result (Damaged file place) ⊎ (IsErrOf result Memory ⊎ IsErrOf result DiskFault)
  pub memory : IsErrOf result Memory → IsOpenAt 0 (old.reads Objects)

-- At each moment each image is one that a crash at the start could have left, or shows the world after some first steps;
-- nothing is said.
abbrev pub OpensThrough : {O : Type 0} → Meaning O → Params → Disk → Disk → World O → List (Step O) → Type 0
OpensThrough m p old new w steps = LeavesOnly old new (OrAtStart old (IsSilent (ShowsSome m p w steps) old.said))

-- the parts of the store that a restart answers
abbrev pub opened : Result StoreView OpenErr → Result Parts OpenErr
opened (Ok it) = Ok it.parts
opened (Err cause) = Err cause
