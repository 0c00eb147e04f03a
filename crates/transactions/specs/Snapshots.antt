-- Snapshots: as commands change objects, the values that these had are kept.
use Rattle.std.specs.Prelude.{◌≡◌, ◌<◌, ◌++◌, ⊤, ℕ, All, List, [], ◌∷◌, length, Some, IfSome, IsSome, Result, Ok, Err}
use Rattle.std.specs.Result.{result_err}
use Rattle.disk_model.specs.Disk.{Disk}
use Rattle.oper_core.specs.Meaning.{Meaning}
use Rattle.oper_core.specs.declared.bounds.Bounds.{Bounds}
use Rattle.formats.specs.declared.params.Params.{Params}
use Rattle.dirty_cache.specs.Contents.{Contents, held}
use Rattle.execution.specs.Answers.{ending_of_error}
use Rattle.execution.specs.declared.exec_err.ExecErr.{ExecErr}
use Rattle.running_store.specs.Calls.{IsFailed}
use Rattle.store_engine.specs.Commands.{HasRun}
use Rattle.store_engine.specs.Engine.{EngineView}
use Rattle.store_engine.specs.Lists.{AreCalls}
use Rattle.store_engine.specs.Store.{meaning_in, state_of}
use Rattle.transactions.specs.Keeping.{KeepsOld}
use Rattle.transactions.specs.Staged.{OnlyReads}
use Rattle.transactions.specs.declared.snapshot.Snapshot.{Snapshot}
use Rattle.transactions.specs.declared.snapshot_err.SnapshotErr.{SnapshotErr}
use Rattle.transactions.specs.declared.snapshot_err.SnapshotErr.TheVariants.{GivenUp, Read}

-- each of these objects that a store with so many has is kept
abbrev pub AreKept : ℕ → Contents → List ℕ → Type 0
AreKept count kept objects = All (λ x. x < count → IsSome (held kept x)) objects

module _ {O : Type 0} (meaning : Bounds → Meaning O) (p : Params) where
  -- these commands write kept objects alone
  abbrev pub WriteKept : Contents → List O → Type 0
  WriteKept kept [] = ⊤
  WriteKept kept (op ∷ ops) = AreKept p.objects kept ((meaning_in meaning p).writes op) × WriteKept kept ops

  -- Where a store had the commands `base` when a snapshot began, and has `commands` now: these are those and some more, which write
  -- kept objects alone, and each object that is kept has the value that it had then.
  pub record Keeps (kept : Contents) (base commands : List O) : Type 0 where
    pub since : List O
    pub behind : commands ≡ base ++ since
    pub writes : WriteKept kept since
    pub values : (x : ℕ) → x < p.objects → IfSome (held kept x) (λ e. e.bytes ≡ state_of meaning p base x)

  -- it is a snapshot of the state after `base` in a store that has `commands` now, unless it was given up
  pub record IsSnapshot (snapshot : Snapshot) (base commands : List O) : Type 0 where
    pub begun : snapshot.at ≡ length base
    pub keeps : IfSome snapshot.kept (λ kept. Keeps kept base commands)

  -- all that commands write is kept by it, unless it was given up
  abbrev pub Covers : Snapshot → List O → Type 0
  Covers snapshot ops = IfSome snapshot.kept (λ kept. WriteKept kept ops)

-- what it keeps it kept before, or it is kept beside that, unless it was given up
abbrev pub KeepsOn : Snapshot → Snapshot → Type 0
KeepsOn old new = IfSome new.kept (λ after. (before : Contents) × (old.kept ≡ Some before) × KeepsOld before after)

-- the disk failed while a value was read
abbrev pub HasFailed : {T : Type 0} → Result T SnapshotErr → Type 0
HasFailed (Ok value) = ⊥
HasFailed (Err GivenUp) = ⊥
HasFailed (Err (Read cause)) = IsFailed (ending_of_error cause)

-- Beside a snapshot a command first reads values that are to be kept, which leaves what the store stands for, and is then done as it is
-- done without one: the engine's own contract holds of that, word for word. Here `disk` is what proofs know of a machine.
pub record RunsBeside {O T : Type 0} (meaning : Bounds → Meaning O) (disk : T → Disk) (old new : T) (before after : EngineView) (op : O) (result : Result ℕ ExecErr) : Type 0 where
  pub mid : T
  pub between : EngineView
  pub reads : OnlyReads meaning (disk old) (disk mid) before between ⊥
  pub run : HasRun meaning (disk mid) (disk new) between after op result
  pub calls : AreCalls meaning (disk mid) (disk new) between after (result_err result)
