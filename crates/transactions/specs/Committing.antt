-- How the commands of a transaction are added, all in one group.
use Rattle.std.specs.Prelude.{◌≡◌, ◌≤◌, ◌⊎◌, ◌++◌, ⊤, ℕ, List, length, take, None, Some, Result, Ok, Err}
use Rattle.disk_model.specs.Disk.{Disk}
use Rattle.oper_core.specs.Meaning.{Meaning}
use Rattle.oper_core.specs.declared.bounds.Bounds.{Bounds}
use Rattle.formats.specs.declared.params.Params.{Params}
use Rattle.explain_core.specs.World.{end_of}
use Rattle.running_store.specs.Calls.{IsFailed}
use Rattle.store_engine.specs.Engine.{EngineView, Holds, forced_in, group_size}
use Rattle.store_engine.specs.Lists.{IsCutOff, ending_of}
use Rattle.transactions.specs.Room.{HasRoomFor}
use Rattle.transactions.specs.declared.commit_err.CommitErr.{CommitErr}
use Rattle.transactions.specs.declared.commit_err.CommitErr.TheVariants.{LogFull, DiskFault, Cut}

-- a group is open without a command; all the commands before it are forced, and what a moment of it said was said before
pub record HasBegun {O : Type 0} (meaning : Bounds → Meaning O) (p : Params) (old new : Disk) (before after : EngineView) (commands : List O) : Type 0 where
  pub holds : Holds meaning p new after commands
  pub next : end_of holds.world ≡ before.parts.log.next
  pub forced : forced_in after ≡ length commands
  pub fewer : forced_in before ≤ length commands
  pub at : ℕ
  pub group : after.group ≡ Some at
  pub size : group_size after ≡ Some 0
  pub quiet : new.said ≡ old.said

-- What a commit leaves: all the commands are added, and wait for a force; or none, for want of room; or, where it was cut off, some
-- first ones, in a group that is still open; after a fault nothing is said.
abbrev pub IsLeft : {O : Type 0} → (Bounds → Meaning O) → Params → Disk → EngineView → EngineView → List O → List O → Result (Unit {0}) CommitErr → Type 0
IsLeft meaning p new before after commands ops (Ok value) = Holds meaning p new after (commands ++ ops) × (forced_in after ≡ length commands) × (after.group ≡ None)
IsLeft meaning p new before after commands ops (Err DiskFault) = ⊤
IsLeft meaning p new before after commands ops (Err LogFull) = Holds meaning p new after commands × (forced_in after ≡ length commands) × (after.group ≡ None)
    × (HasRoomFor meaning after ops → ⊥)
IsLeft meaning p new before after commands ops (Err (Cut e)) = IsCutOff (ending_of (Some e)) × (IsFailed (ending_of (Some e)) ⊎ ((done : ℕ) × Holds meaning p new after (commands ++ take done ops) × (group_size after ≡ Some (length (take done ops)))))

-- What a commit that forces nothing leaves: all the commands are added, or none, for want of room; or, where it was cut off, some first
-- ones. As many commands are forced as before; after a fault nothing is said.
abbrev pub IsLeftLazily : {O : Type 0} → (Bounds → Meaning O) → Params → Disk → EngineView → EngineView → List O → List O → Result (Unit {0}) CommitErr → Type 0
IsLeftLazily meaning p new before after commands ops (Ok value) = Holds meaning p new after (commands ++ ops) × (forced_in after ≡ forced_in before)
IsLeftLazily meaning p new before after commands ops (Err DiskFault) = ⊥
IsLeftLazily meaning p new before after commands ops (Err LogFull) = Holds meaning p new after commands × (forced_in after ≡ forced_in before) × (HasRoomFor meaning after ops → ⊥)
IsLeftLazily meaning p new before after commands ops (Err (Cut e)) = IsCutOff (ending_of (Some e)) × (IsFailed (ending_of (Some e)) ⊎ ((done : ℕ) × Holds meaning p new after (commands ++ take done ops) × (forced_in after ≡ forced_in before)))
