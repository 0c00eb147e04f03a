-- The snapshot of a session: how it begins and ends, how values are kept for it, and how they are read.
use Rattle.std.specs.Prelude.{◌≡◌, ◌⊎◌, true, false, ℕ, List, Option, None, Some, Result, Ok, Err, IfOk, IfSome, IsErrOf, IsSome}
use Rattle.formats.specs.declared.params.Params.{Params}
use Rattle.execution.specs.declared.exec_err.ExecErr.TheVariants as commands
use Rattle.op_codec.specs.AllOps.{AllOps, all_meaning}
use Rattle.store_engine.specs.Engine.{Holds, params_of}
use Rattle.store_engine.specs.Store.{state_of}
use Rattle.transactions.specs.Snapshots.{AreKept, Covers, HasFailed, IsSnapshot, KeepsOn}
use Rattle.transactions.specs.Staged.{OnlyReads}
use Rattle.transactions.specs.declared.snapshot.Snapshot.{Snapshot}
use Rattle.transactions.specs.declared.snapshot_err.SnapshotErr.{SnapshotErr}
use Rattle.transactions.specs.declared.snapshot_err.SnapshotErr.TheVariants.{GivenUp, Read}
use Rattle.transactions.specs.declared.transaction.Transaction.{Transaction}
use Rattle.write_queue.specs.Memory.{disk_of}
use Rattle.write_queue.specs.declared.queue_mem.QueueMem.{QueueMem}
use Rattle.embed.specs.Embedded.{GivesValue, IsStillBroken}
use Rattle.embed.specs.declared.store.Store.{Store}
use Rattle.embed_c.specs.Answers.{alone, done_answer, of_exec}
use Rattle.embed_c.specs.Calls.{DoesNothing, IsCalled, IsUntaken, TellsLength}
use Rattle.embed_c.specs.declared.answer.Answer.{Answer}
use Rattle.embed_c.specs.declared.session.Session.{Session}

-- a snapshot of the state that the store has was begun
pub record HasSnapshot (old new : Session) (answer : ℕ) : Type 0 where
  pub none : old.snapshot ≡ None
  pub begun : Snapshot
  pub stands : IsSome begun.kept
  pub of_state : (p : Params) (commands : List AllOps) → Holds all_meaning p (disk_of old.store.machine) old.store.engine commands → IsSnapshot all_meaning p begun commands commands
  pub snapshot : new.snapshot ≡ Some begun
  pub number : answer ≡ 0
  pub detail : new.detail ≡ done_answer.detail
  pub store : new.store ≡ old.store
  pub taken : new.taken ≡ old.taken
  pub pairs : new.pairs ≡ old.pairs
  pub staging : new.staging ≡ old.staging

-- or one is open, or memory ran out
abbrev pub BeginsSnapshot : Session → Session → ℕ → Type 0
BeginsSnapshot old new answer = HasSnapshot old new answer ⊎ ((IsSome old.snapshot × DoesNothing (alone 25) old new answer) ⊎ DoesNothing (alone 8) old new answer)

-- the snapshot was dropped
pub record DropsSnapshot (old new : Session) (answer : ℕ) : Type 0 where
  pub there : IsSome old.snapshot
  pub snapshot : new.snapshot ≡ None
  pub number : answer ≡ 0
  pub detail : new.detail ≡ done_answer.detail
  pub store : new.store ≡ old.store
  pub taken : new.taken ≡ old.taken
  pub pairs : new.pairs ≡ old.pairs
  pub staging : new.staging ≡ old.staging

abbrev pub EndsSnapshot : Session → Session → ℕ → Type 0
EndsSnapshot old new answer = DropsSnapshot old new answer ⊎ ((old.snapshot ≡ None) × DoesNothing (alone 26) old new answer)

-- The store was read for the snapshot, which is one of the same state still or was given up. After that it covers what it is to cover;
-- where it did before nothing of it changes, and what it kept it keeps. On a store that a fault has broken nothing is done.
pub record DoesKeep (covers : Snapshot → Type 0) (old new : Store QueueMem) (s t : Snapshot) : Type 0 where
  pub reads : old.engine.broken ≡ false → OnlyReads all_meaning (disk_of old.machine) (disk_of new.machine) old.engine new.engine (new.engine.broken ≡ true)
  pub whole : old.engine.broken ≡ false → IsSome t.kept → new.engine.broken ≡ false
  pub kept : old.engine.broken ≡ false → covers t
  pub on : KeepsOn s t
  pub stands : covers s → t ≡ s
  pub same : (p : Params) (base commands : List AllOps) → Holds all_meaning p (disk_of old.machine) old.engine commands → IsSnapshot all_meaning p s base commands → IsSnapshot all_meaning p t base commands
  pub broken : old.engine.broken ≡ true → (new ≡ old) × (t ≡ s)

-- that was done on a session, and nothing else
pub record HasKept (covers : Snapshot → Type 0) (s : Snapshot) (old new : Session) (answer : ℕ) : Type 0 where
  pub after : Snapshot
  pub store : DoesKeep covers old.store new.store s after
  pub snapshot : new.snapshot ≡ Some after
  pub number : answer ≡ 0
  pub detail : new.detail ≡ done_answer.detail
  pub untaken : IsUntaken old.store.machine new.store.machine
  pub taken : new.taken ≡ old.taken
  pub pairs : new.pairs ≡ old.pairs
  pub staging : new.staging ≡ old.staging

abbrev pub KeepsFor : (Snapshot → Type 0) → Option Snapshot → Session → Session → ℕ → Type 0
KeepsFor covers None old new answer = DoesNothing (alone 26) old new answer
KeepsFor covers (Some s) old new answer = HasKept covers s old new answer

-- these objects are kept
abbrev pub AreKeptIn : Session → List ℕ → Snapshot → Type 0
AreKeptIn old objects t = IfSome t.kept (λ kept. AreKept (params_of old.store.engine).objects kept objects)

abbrev pub KeepsObjects : List ℕ → Session → Session → ℕ → Type 0
KeepsObjects objects old new answer = KeepsFor (AreKeptIn old objects) old.snapshot old new answer

-- all is kept that the staged commands write; where none are staged nothing is done
abbrev pub KeepsStagedFor : Option (Transaction AllOps) → Session → Session → ℕ → Type 0
KeepsStagedFor None old new answer = DoesNothing (alone 24) old new answer
KeepsStagedFor (Some t) old new answer = KeepsFor (λ s. Covers all_meaning (params_of old.store.engine) s t.ops.items) old.snapshot old new answer

abbrev pub KeepsStaged : Session → Session → ℕ → Type 0
KeepsStaged old new answer = KeepsStagedFor old.staging old new answer

-- the front of the value that an object had when the snapshot began was copied into some room
pub record DoesRecall (s : Snapshot) (object : ℕ) (before after : List ℕ) (old new : Store QueueMem) (made : Result (Option ℕ) SnapshotErr) : Type 0 where
  pub reads : old.engine.broken ≡ false → OnlyReads all_meaning (disk_of old.machine) (disk_of new.machine) old.engine new.engine (HasFailed made)
  pub value : (p : Params) (base commands : List AllOps) → Holds all_meaning p (disk_of old.machine) old.engine commands → IsSnapshot all_meaning p s base commands →
      IfOk made (GivesValue p.objects object (state_of all_meaning p base object) before after)
  pub given_up : old.engine.broken ≡ false → s.kept ≡ None → made ≡ Err GivenUp
  pub stands : IsErrOf made GivenUp → s.kept ≡ None
  pub broken : old.engine.broken ≡ true → IsStillBroken (Read commands.DiskFault) old new made

abbrev pub told_recalled : Result (Option ℕ) SnapshotErr → Answer
told_recalled (Ok (Some n)) = done_answer
told_recalled (Ok None) = alone 32
told_recalled (Err GivenUp) = alone 27
told_recalled (Err (Read cause)) = of_exec cause

abbrev pub RecallsFor : ℕ → List ℕ → List ℕ → ℕ → Option Snapshot → Session → Session → ℕ → Type 0
RecallsFor object before after long None old new answer = DoesNothing (alone 26) old new answer
RecallsFor object before after long (Some s) old new answer = IsCalled told_recalled (λ old new made. DoesRecall s object before after old new made × TellsLength made long) old new answer

abbrev pub Recalls : ℕ → List ℕ → List ℕ → ℕ → Session → Session → ℕ → Type 0
Recalls object before after long old new answer = RecallsFor object before after long old.snapshot old new answer
