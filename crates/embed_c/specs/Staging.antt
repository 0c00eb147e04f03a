-- What a session does within a transaction, and how one begins and ends.
use Rattle.std.specs.Prelude.{◌≡◌, ◌⊎◌, ◌+◌, ◌-◌, ◌≤◌, ◌^◌, ◌++◌, true, false, ℕ, Bool, List, [], Option, None, Some, Result, Ok, Err, IfOk, IsErrOf, IsSome, length, min, take}
use Rattle.std.specs.Option.{is_some}
use Rattle.disk_model.specs.Disk.{LeavesOnly}
use Rattle.disk_model.specs.Silent.{IsSilent}
use Rattle.formats.specs.declared.params.Params.{Params}
use Rattle.execution.specs.Answers.{ending_of_exec}
use Rattle.execution.specs.declared.exec_err.ExecErr.{ExecErr}
use Rattle.execution.specs.declared.exec_err.ExecErr.TheVariants as commands
use Rattle.op_codec.specs.AllOps.{AllOps, all_meaning}
use Rattle.running_store.specs.Calls.{IsFailed}
use Rattle.store_engine.specs.Engine.{Between, Holds, forced_in, group_size, params_of, used_in}
use Rattle.store_engine.specs.Store.{Stands, state_of}
use Rattle.transactions.specs.Admitted.{HasStaged}
use Rattle.transactions.specs.Committing.{IsLeft, IsLeftLazily}
use Rattle.transactions.specs.Staged.{IsStaged, OnlyReads}
use Rattle.transactions.specs.declared.commit_err.CommitErr.{CommitErr}
use Rattle.transactions.specs.declared.commit_err.CommitErr.TheVariants as committing
use Rattle.transactions.specs.declared.transaction.Transaction.{Transaction}
use Rattle.write_queue.specs.Memory.{disk_of}
use Rattle.write_queue.specs.declared.queue_mem.QueueMem.{QueueMem}
use Rattle.embed.specs.Embedded.{GivesValue, IsStillBroken}
use Rattle.embed.specs.declared.store.Store.{Store}
use Rattle.embed_c.specs.Answers.{alone, done_answer, of_exec, telling, told, told_value}
use Rattle.embed_c.specs.Calls.{DoesExec, DoesGet, DoesNothing, IsCalled, IsUntaken, TellsLength}
use Rattle.embed_c.specs.GivenUp.{IsGivenUp, IsLost, IsReopened, LosesUnforced}
use Rattle.embed_c.specs.Handles.{not_open}
use Rattle.embed_c.specs.declared.answer.Answer.{Answer}
use Rattle.embed_c.specs.declared.session.Session.{Session}

-- a transaction has these commands, staged on a store that has others
abbrev pub IsStagedOn : Params → List AllOps → Transaction AllOps → Type 0
IsStagedOn p commands t = IsStaged all_meaning p commands t.ops.items t.bytes t.made

-- A call on the store of a session and its open transaction came to something, and that is what C is told. The store's files, and
-- all else that is kept for C, are as they were.
module _ {R : Type 0} (told : R → Answer) (does : Store QueueMem → Store QueueMem → Transaction AllOps → Transaction AllOps → R → Type 0) (t : Transaction AllOps) (old new : Session) (answer : ℕ) where
  pub record IsCalledIn : Type 0 where
    pub made : R
    pub after : Transaction AllOps
    pub store : does old.store new.store t after made
    pub staging : new.staging ≡ Some after
    pub number : answer ≡ (told made).number
    pub detail : new.detail ≡ (told made).detail
    pub untaken : IsUntaken old.store.machine new.store.machine
    pub taken : new.taken ≡ old.taken
    pub pairs : new.pairs ≡ old.pairs
    pub snapshot : new.snapshot ≡ old.snapshot

-- a command was staged, after the others
pub record DoesStage (op : AllOps) (old new : Store QueueMem) (t u : Transaction AllOps) (made : Result (Unit {0}) ExecErr) : Type 0 where
  pub reads : old.engine.broken ≡ false → OnlyReads all_meaning (disk_of old.machine) (disk_of new.machine) old.engine new.engine (IsFailed (ending_of_exec made))
  pub staged : (p : Params) (commands : List AllOps) → Holds all_meaning p (disk_of old.machine) old.engine commands → IsStagedOn p commands t →
      HasStaged all_meaning p commands t.ops.items u.ops.items u.bytes u.made op made
  pub broken : old.engine.broken ≡ true → IsStillBroken commands.DiskFault old new made × (u ≡ t)

-- the front of the value that an object has after the staged commands was copied into some room
pub record DoesSee (object : ℕ) (before after : List ℕ) (old new : Store QueueMem) (t u : Transaction AllOps) (made : Result (Option ℕ) ExecErr) : Type 0 where
  pub reads : old.engine.broken ≡ false → OnlyReads all_meaning (disk_of old.machine) (disk_of new.machine) old.engine new.engine (IsFailed (ending_of_exec made))
  pub value : (p : Params) (commands : List AllOps) → Holds all_meaning p (disk_of old.machine) old.engine commands → IsStagedOn p commands t →
      IfOk made (GivesValue p.objects object (state_of all_meaning p (commands ++ t.ops.items) object) before after)
  pub broken : old.engine.broken ≡ true → IsStillBroken commands.DiskFault old new made
  pub same : u ≡ t

abbrev pub told_seen : Result (Option ℕ) ExecErr → Answer
told_seen (Ok (Some n)) = done_answer
told_seen (Ok None) = alone 32
told_seen (Err cause) = of_exec cause

-- a command was run, or, where a transaction is open, staged
abbrev pub RunsOrStages : AllOps → Option (Transaction AllOps) → Session → Session → ℕ → Type 0
RunsOrStages op None old new answer = IsCalled (told of_exec) (DoesExec op) old new answer
RunsOrStages op (Some t) old new answer = IsCalledIn (told of_exec) (DoesStage op) t old new answer

abbrev pub Runs : AllOps → Session → Session → ℕ → Type 0
Runs op old new answer = RunsOrStages op old.staging old new answer

-- the value of an object was read, or, where a transaction is open, the one that it has after the staged commands
abbrev pub ReadsOrSees : ℕ → List ℕ → List ℕ → ℕ → Option (Transaction AllOps) → Session → Session → ℕ → Type 0
ReadsOrSees object before after long None old new answer = IsCalled told_value (λ old new made. DoesGet object before after old new made × TellsLength made long) old new answer
ReadsOrSees object before after long (Some t) old new answer = IsCalledIn told_seen (λ old new t u made. DoesSee object before after old new t u made × TellsLength made long) t old new answer

abbrev pub Gets : ℕ → List ℕ → List ℕ → ℕ → Session → Session → ℕ → Type 0
Gets object before after long old new answer = ReadsOrSees object before after long old.staging old new answer

-- A call that takes no part in a transaction: where one is open C is told so, and nothing is done.
abbrev pub ApartFrom : Option (Transaction AllOps) → (Session → Session → ℕ → Type 0) → Session → Session → ℕ → Type 0
ApartFrom None does old new answer = does old new answer
ApartFrom (Some t) does old new answer = DoesNothing (alone 23) old new answer

abbrev pub Apart : (Session → Session → ℕ → Type 0) → Session → Session → ℕ → Type 0
Apart does old new answer = ApartFrom old.staging does old new answer

abbrev pub IsWithin : Session → Session → ℕ → Type 0
IsWithin old new answer = (is_some old.staging ≡ true) × DoesNothing (alone 23) old new answer

-- a transaction without commands was begun
pub record IsBegun (old new : Session) (answer : ℕ) : Type 0 where
  pub started : Transaction AllOps
  pub empty : started.ops.items ≡ []
  pub staged : (p : Params) (commands : List AllOps) → IsStagedOn p commands started
  pub staging : new.staging ≡ Some started
  pub alone : (old.staging ≡ None) × (old.store.engine.broken ≡ false → old.store.engine.group ≡ None)
  pub number : answer ≡ 0
  pub detail : new.detail ≡ done_answer.detail
  pub store : new.store ≡ old.store
  pub taken : new.taken ≡ old.taken
  pub pairs : new.pairs ≡ old.pairs
  pub snapshot : new.snapshot ≡ old.snapshot

-- why none was: one is open, or a group is, or memory ran out
abbrev pub IsBarred : Session → Answer → Type 0
IsBarred old told = (IsSome old.staging × (told ≡ alone 23)) ⊎ (((size : ℕ) × (group_size old.store.engine ≡ Some size) × (told ≡ telling 18 size 0 0)) ⊎ (told ≡ alone 8))

abbrev pub Begins : Session → Session → ℕ → Type 0
Begins old new answer = IsBegun old new answer ⊎ ((told : Answer) × IsBarred old told × DoesNothing told old new answer)

-- the open transaction was dropped
pub record IsDropped (old new : Session) (answer : ℕ) : Type 0 where
  pub there : IsSome old.staging
  pub staging : new.staging ≡ None
  pub number : answer ≡ 0
  pub detail : new.detail ≡ done_answer.detail
  pub store : new.store ≡ old.store
  pub taken : new.taken ≡ old.taken
  pub pairs : new.pairs ≡ old.pairs
  pub snapshot : new.snapshot ≡ old.snapshot

abbrev pub Drops : Session → Session → ℕ → Type 0
Drops old new answer = IsDropped old new answer ⊎ ((old.staging ≡ None) × DoesNothing (alone 24) old new answer)

-- The staged commands were added, or none of them; at each moment a crash leaves what is there of the commands before them alone.
pub record DoesCommit (old new : Store QueueMem) (t u : Transaction AllOps) (made : Result (Unit {0}) CommitErr) : Type 0 where
  pub left : (p : Params) (commands : List AllOps) → Holds all_meaning p (disk_of old.machine) old.engine commands → IsStagedOn p commands t →
      old.engine.parts.log.next + length t.ops.items ≤ 2 ^ 62 → IsLeft all_meaning p (disk_of new.machine) old.engine new.engine commands t.ops.items made
  pub images : (p : Params) (commands : List AllOps) → Holds all_meaning p (disk_of old.machine) old.engine commands → IsStagedOn p commands t →
      LeavesOnly (disk_of old.machine) (disk_of new.machine) (Between all_meaning p (disk_of old.machine) None (forced_in old.engine) (length commands) commands)
  pub kept : IsErrOf made committing.LogFull → (u.ops ≡ t.ops) × (u.bytes ≡ t.bytes) × (u.made ≡ t.made)
  pub broken : old.engine.broken ≡ true → IsStillBroken committing.DiskFault old new made × (u ≡ t)

-- what C is told of it, where so many bytes of the log are used then, so many are those of the records, and so many are allowed
abbrev pub told_commit : ℕ → ℕ → ℕ → Result (Unit {0}) CommitErr → Answer
told_commit used bytes limit (Ok value) = done_answer
told_commit used bytes limit (Err committing.LogFull) = telling 16 used (min (bytes + 5) (2 ^ 64 - 1)) limit
told_commit used bytes limit (Err committing.DiskFault) = alone 5
told_commit used bytes limit (Err (committing.Cut cause)) = of_exec cause

-- the transaction stays open only where the log had no room for it
abbrev pub kept_after : Result (Unit {0}) CommitErr → Transaction AllOps → Option (Transaction AllOps)
kept_after (Ok value) t = None
kept_after (Err committing.LogFull) t = Some t
kept_after (Err committing.DiskFault) t = None
kept_after (Err (committing.Cut cause)) t = None

-- A commit on the store of a session and its open transaction came to something, and that is what C is told.
pub record IsCommittedBy (does : Store QueueMem → Store QueueMem → Transaction AllOps → Transaction AllOps → Result (Unit {0}) CommitErr → Type 0) (t : Transaction AllOps) (old new : Session) (answer : ℕ) : Type 0 where
  pub made : Result (Unit {0}) CommitErr
  pub after : Transaction AllOps
  pub store : does old.store new.store t after made
  pub staging : new.staging ≡ kept_after made after
  pub number : answer ≡ (told_commit (used_in new.store.engine) after.bytes (params_of new.store.engine).limit made).number
  pub detail : new.detail ≡ (told_commit (used_in new.store.engine) after.bytes (params_of new.store.engine).limit made).detail
  pub untaken : IsUntaken old.store.machine new.store.machine
  pub taken : new.taken ≡ old.taken
  pub pairs : new.pairs ≡ old.pairs
  pub snapshot : new.snapshot ≡ old.snapshot

abbrev pub IsCommitted : Transaction AllOps → Session → Session → ℕ → Type 0
IsCommitted = IsCommittedBy DoesCommit

abbrev pub CommitsFor : Option (Transaction AllOps) → Session → Session → ℕ → Type 0
CommitsFor None old new answer = DoesNothing (alone 24) old new answer
CommitsFor (Some t) old new answer = IsCommitted t old new answer

abbrev pub Commits : Session → Session → ℕ → Type 0
Commits old new answer = CommitsFor old.staging old new answer

-- A commit that was cut off has left its group open, which was given up then: so the store stands for the commands before it.
abbrev pub CommitsAndGivesUp : Session → Session → ℕ → Type 0
CommitsAndGivesUp old new answer = (cut : Session) × Commits old cut answer × IsSome cut.store.engine.group × IsGivenUp cut new

-- The open transaction of the session behind a handle was to be committed. Where it was cut off, and the store is not there again, for
-- want of memory or with its machine, the session was dropped, and 5 is answered. Nothing is done within a group.
abbrev pub CommitsOn : Option Session → Option Session → ℕ → Type 0
CommitsOn None new answer = (new ≡ None) × (answer ≡ not_open)
CommitsOn (Some old) None answer = (cut : Session) × (says : ℕ) × Commits old cut says × IsSome cut.store.engine.group × IsLost cut.store × (answer ≡ 5)
CommitsOn (Some old) (Some new) answer = ((size : ℕ) × (group_size old.store.engine ≡ Some size) × DoesNothing (telling 18 size 0 0) old new answer)
    ⊎ (Commits old new answer ⊎ CommitsAndGivesUp old new answer)

-- The staged commands were added, or none of them, and nothing was forced; at each moment a crash leaves just what was forced before.
pub record DoesCommitLazily (old new : Store QueueMem) (t u : Transaction AllOps) (made : Result (Unit {0}) CommitErr) : Type 0 where
  pub left : (p : Params) (commands : List AllOps) → Holds all_meaning p (disk_of old.machine) old.engine commands → IsStagedOn p commands t →
      old.engine.parts.log.next + length t.ops.items ≤ 2 ^ 62 → IsLeftLazily all_meaning p (disk_of new.machine) old.engine new.engine commands t.ops.items made
  pub images : (p : Params) (commands : List AllOps) → Holds all_meaning p (disk_of old.machine) old.engine commands → IsStagedOn p commands t →
      old.engine.parts.log.next + length t.ops.items ≤ 2 ^ 62 →
      LeavesOnly (disk_of old.machine) (disk_of new.machine) (IsSilent (λ files. Stands all_meaning p files (take (forced_in old.engine) commands)) (disk_of old.machine).said)
  pub kept : IsErrOf made committing.LogFull → (u.ops ≡ t.ops) × (u.bytes ≡ t.bytes) × (u.made ≡ t.made)
  pub broken : old.engine.broken ≡ true → IsStillBroken committing.DiskFault old new made × (u ≡ t)

abbrev pub is_cut_off : Result (Unit {0}) CommitErr → Bool
is_cut_off (Ok value) = false
is_cut_off (Err committing.LogFull) = false
is_cut_off (Err committing.DiskFault) = false
is_cut_off (Err (committing.Cut cause)) = true

-- that was done, and was cut off or not
pub record IsCommittedLazily (t : Transaction AllOps) (old new : Session) (answer : ℕ) (cut : Bool) : Type 0 where
  pub done : IsCommittedBy DoesCommitLazily t old new answer
  pub cut_off : cut ≡ is_cut_off done.made

abbrev pub CommitsLazilyFor : Option (Transaction AllOps) → Session → Session → ℕ → Bool → Type 0
CommitsLazilyFor None old new answer cut = DoesNothing (alone 24) old new answer × (cut ≡ false)
CommitsLazilyFor (Some t) old new answer cut = IsCommittedLazily t old new answer cut

abbrev pub CommitsLazily : Session → Session → ℕ → Bool → Type 0
CommitsLazily old new answer cut = CommitsLazilyFor old.staging old new answer cut

-- The open transaction of the session behind a handle was to be committed, and nothing forced. Where it was cut off, all that is not
-- forced was given up; where the store is not there again then, for want of memory or with its machine, the session was dropped, and
-- 5 is answered. Nothing is done within a group.
abbrev pub CommitsLazilyOn : Option Session → Option Session → ℕ → Type 0
CommitsLazilyOn None new answer = (new ≡ None) × (answer ≡ not_open)
CommitsLazilyOn (Some old) None answer = (cut : Session) × (says : ℕ) × CommitsLazily old cut says true × LosesUnforced cut.store × (answer ≡ 5)
CommitsLazilyOn (Some old) (Some new) answer = ((size : ℕ) × (group_size old.store.engine ≡ Some size) × DoesNothing (telling 18 size 0 0) old new answer)
    ⊎ (CommitsLazily old new answer false ⊎ ((cut : Session) × CommitsLazily old cut answer true × IsReopened cut new))
