-- What an upgrade says: why it was not done, and what the files stand for at its moments and after it.
use Rattle.std.specs.Prelude.{◌≡◌, ◌⊎◌, ◌↔◌, ℕ, ⊤, true, List, take, Result, Ok, Err, OnOk, IsErrOf}
use Rattle.disk_model.specs.Disk.{Files, Disk, LeavesOnly, Passes, Rises, Stays}
use Rattle.disk_model.specs.Silent.{IsSilent}
use Rattle.disk_model.specs.declared.machine.FileNo.{FileNo}
use Rattle.disk_model.specs.declared.machine.FileNo.TheVariants.{Objects}
use Rattle.oper_core.specs.Meaning.{Meaning}
use Rattle.oper_core.specs.declared.bounds.Bounds.{Bounds}
use Rattle.formats.specs.Objects.{is_second}
use Rattle.formats.specs.declared.params.Params.{Params}
use Rattle.formats.specs.declared.read_err.ReadErr.{ReadErr}
use Rattle.formats.specs.declared.read_err.ReadErr.TheVariants as of_read
use Rattle.stable_objects.specs.Upgrades.Growing.{IsCutAt, IsGrowing}
use Rattle.stable_objects.specs.Upgrades.Larger.{IsFirst, IsLarger, HasLastHead}
use Rattle.store_engine.specs.Engine.{EngineView, Holds, InEachImage, IsAttached, forced_in, params_of}
use Rattle.store_engine.specs.Store.{Stands}
use Rattle.store_engine.specs.declared.upgrade_err.UpgradeErr.{UpgradeErr}
use Rattle.store_engine.specs.declared.upgrade_err.UpgradeErr.TheVariants.{AlreadyTwo, Smaller, DiskFault, Damaged, Memory}

-- why a store was not made larger, since a call that reads failed
abbrev pub upgrade_from_read : ReadErr → UpgradeErr
upgrade_from_read of_read.DiskFault = DiskFault
upgrade_from_read (of_read.Damaged file place) = Damaged file place
upgrade_from_read of_read.Memory = Memory

-- the store of the engine is of version 1
abbrev pub IsFirstStore : EngineView → Type 0
IsFirstStore engine = IsFirst engine.parts.volatile.objects.slots

-- the store may be made one with these numbers: it is of version 1, and none of its own is greater
pub record MayGrow (engine : EngineView) (q : Params) : Type 0 where
  pub first : IsFirstStore engine
  pub larger : IsLarger (params_of engine) q

-- one of these numbers is smaller than the store's, and these are the store's
pub record IsTooSmall (engine : EngineView) (q : Params) (objects cap : ℕ) : Type 0 where
  pub first : IsFirstStore engine
  pub smaller : IsLarger (params_of engine) q → ⊥
  pub objects_are : objects ≡ (params_of engine).objects
  pub cap_is : cap ≡ (params_of engine).cap

-- What an upgrade answers, and why. No two of the first three hold at once, so the second and the third come exactly where
-- their causes do.
abbrev pub HasUpgradeCause : EngineView → Params → Type 0 → Result (Unit {0}) UpgradeErr → Type 0
HasUpgradeCause engine q rises (Ok done) = MayGrow engine q
HasUpgradeCause engine q rises (Err AlreadyTwo) = IsFirstStore engine → ⊥
HasUpgradeCause engine q rises (Err (Smaller objects cap)) = IsTooSmall engine q objects cap
HasUpgradeCause engine q rises (Err DiskFault) = MayGrow engine q × rises
HasUpgradeCause engine q rises (Err (Damaged file place)) = MayGrow engine q
HasUpgradeCause engine q rises (Err Memory) = MayGrow engine q

-- a store that is of version 2, or greater, is left as it was: so much is so there
abbrev pub WhereIdle : Type 0 → Result (Unit {0}) UpgradeErr → Type 0
WhereIdle stays (Ok done) = ⊤
WhereIdle stays (Err AlreadyTwo) = stays
WhereIdle stays (Err (Smaller objects cap)) = stays
WhereIdle stays (Err DiskFault) = ⊤
WhereIdle stays (Err (Damaged file place)) = ⊤
WhereIdle stays (Err Memory) = ⊤

-- the last slot's head stands in the objects file, if the slot is open, as in each file that calls of this store made
abbrev pub IsUncut : Disk → EngineView → Type 0
IsUncut d engine = HasLastHead engine.parts.volatile.objects.slots (d.reads Objects)

-- the objects file is of version 2
abbrev pub IsSecond : Files → Type 0
IsSecond files = is_second (files Objects) ≡ true

module _ {O : Type 0} (meaning : Bounds → Meaning O) where
  -- the files are those of a store of version 2 with these numbers, and stand for the commands
  pub record IsUpgraded (q : Params) (commands : List O) (files : Files) : Type 0 where
    pub second : IsSecond files
    pub stands : Stands meaning q files commands

  -- the files stand for the commands, in the store that was there or in the larger one
  abbrev pub StandsInEither : Params → Params → List O → Files → Type 0
  StandsInEither p q commands files = Stands meaning p files commands ⊎ IsUpgraded q commands files

  -- What an upgrade to a store with these numbers answers and leaves, where this is the engine that is used up.
  pub record IsUpgrading (old new : Disk) (engine : EngineView) (q : Params) (answer : Result (Unit {0}) UpgradeErr) : Type 0 where
    pub time : Passes old new
    pub quiet : old.tells_files → new.said ≡ old.said
    pub cause : HasUpgradeCause engine q (Rises old.disk_faults new.disk_faults) answer
    pub idle : WhereIdle (Stays old new) answer
    pub left : (p : Params) (commands : List O) → Holds meaning p old engine commands → WhereIdle (InEachImage new (λ files. Stands meaning p files (take (forced_in engine) commands))) answer
    -- the store is of version 2 exactly where the objects file says so
    pub version : old.tells_files → IsAttached meaning old engine → (IsErrOf answer AlreadyTwo ↔ IsSecond old.reads)
    pub damaged : old.tells_files → IsAttached meaning old engine → (file : FileNo) (place : ℕ) → IsErrOf answer (Damaged file place) → IsCutAt engine.parts.volatile.objects.slots (old.reads Objects) file place
    -- done, each image is of the larger store, and stands for the commands that were forced
    pub upgraded : (p : Params) (commands : List O) → Holds meaning p old engine commands → OnOk answer (InEachImage new (IsUpgraded q (take (forced_in engine) commands)))
    -- and whatever was answered it stands for them, as at each moment meanwhile
    pub stands : (p : Params) (commands : List O) → Holds meaning p old engine commands → InEachImage new (StandsInEither p q (take (forced_in engine) commands))
    pub images : old.tells_moments → (p : Params) (commands : List O) → Holds meaning p old engine commands
        → LeavesOnly old new (IsSilent (StandsInEither p q (take (forced_in engine) commands)) old.said)
    -- then the other files are as they were, and each object has its pair in the one store or the other
    pub growing : old.tells_moments → (p : Params) (commands : List O) → Holds meaning p old engine commands → LeavesOnly old new (IsGrowing old engine.parts.volatile.objects.slots q)
