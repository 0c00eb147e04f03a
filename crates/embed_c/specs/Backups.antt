-- What a call on a backup says, and what C is told of it. The files of the backup are a second machine, the target.
use Rattle.std.specs.Prelude.{◌≡◌, ◌⊎◌, ◌++◌, ◌+◌, true, false, ℕ, List, [], Option, None, Some, Result, Ok, Err, IfErr, IfOk, IsErrOf, OnErr, OnOk, length, min}
use Rattle.disk_model.specs.Call as disk
use Rattle.disk_model.specs.Disk.{Files, In, LeavesOnly, Rises, Runs, Same, Stays}
use Rattle.disk_model.specs.declared.machine.FileNo.{FileNo}
use Rattle.disk_model.specs.declared.machine.FileNo.TheVariants.{Objects}
use Rattle.formats.specs.Objects.{BeginsStore}
use Rattle.formats.specs.declared.params.Params.{Params}
use Rattle.explain_core.specs.History.{commands_of}
use Rattle.explain_core.specs.World.{World, run}
use Rattle.log_records.specs.Loading.{IsTailFault}
use Rattle.running_store.specs.Courses.{force_steps}
use Rattle.stable_objects.specs.Making.{KeepsGate}
use Rattle.restart.specs.Starts.{OrAtStart}
use Rattle.op_codec.specs.AllOps.{AllOps as Command, all_meaning}
use Rattle.store_engine.specs.Engine.{InEachImage, IsAttached, IsEngineRead, ShowsIn, params_of}
use Rattle.store_engine.specs.Store.{meaning_in}
use Rattle.backup_copy.specs.Calls.{BeginsNone, CopiesUpTo, CopyFailsBy, FinishFailsBy, ForcesFirst, HasLength, HasStartCause, IsFault, IsQuiet, IsShutOrWhole, IsUntouched, LooksFirst, NoneIn, but_copied, copied_by_finish, copied_by_start}
use Rattle.backup_copy.specs.Copies.{Copies}
use Rattle.backup_copy.specs.Length.{backup_length}
use Rattle.backup_copy.specs.Refusals.{IsRefusedSo, judge_copy, judge_finish, judge_start}
use Rattle.backup_copy.specs.declared.backup_err.BackupErr.{BackupErr}
use Rattle.backup_copy.specs.declared.backup_err.BackupErr.TheVariants as backup
use Rattle.write_queue.specs.Codes.{file_number}
use Rattle.write_queue.specs.Memory.{LooksTheSame, disk_of, waiting_in}
use Rattle.write_queue.specs.declared.queue_mem.QueueMem.{QueueMem}
use Rattle.embed.specs.Embedded.{AreSaved, IsStillBroken}
use Rattle.embed.specs.declared.store.Store.{Store}
use Rattle.embed_c.specs.Answers.{alone, telling}
use Rattle.embed_c.specs.Calls.{DoesNothing, IsCalled, IsUntaken}
use Rattle.embed_c.specs.Handles.{already_open, not_open}
use Rattle.embed_c.specs.Next.{IsNext, left_in}
use Rattle.embed_c.specs.Opening.{IsHanded}
use Rattle.embed_c.specs.declared.answer.Answer.{Answer}
use Rattle.embed_c.specs.declared.session.Session.{Session}
use Rattle.embed_c.specs.declared.taken.Call.{Call}
use Rattle.embed_c.specs.declared.target.Target.{Target}
use Rattle.embed_c.specs.declared.target_handle.RedoTarget.{RedoTarget}

-- a call on a backup was not done
abbrev pub of_backup : BackupErr → Answer
of_backup (backup.InGroup size) = telling 18 size 0 0
of_backup (backup.InBackup copied) = telling 20 copied 0 0
of_backup backup.NoBackup = alone 21
of_backup backup.AlreadyStore = alone 6
of_backup (backup.NotCopied copied) = telling 22 copied 0 0
of_backup backup.DiskFault = alone 5
of_backup backup.TargetFault = alone 11
of_backup (backup.Damaged file place) = telling 4 (file_number file) place 0
of_backup (backup.LogFull used need limit) = telling 16 used need limit
of_backup backup.Memory = alone 8

-- these files were handed to the target, and no call was made on it
pub record IsTargetOf (files : Files) (t : Target) : Type 0 where
  pub handed : IsHanded files t.machine
  pub taken : left_in t.taken ≡ []

-- the calls on the target that C has to make: those that were taken and not given, and then those that wait
abbrev pub pending_on : Target → List disk.Call
pending_on t = left_in t.taken ++ waiting_in t.machine

-- C is told the next of them, and nothing else is done
module _ (told : Call) (before after : List ℕ) (old new : Target) (answer : ℕ) where
  pub record TellsNextOf : Type 0 where
    pub next : IsNext (pending_on old) (pending_on new) told before after answer
    pub machine : LooksTheSame old.machine new.machine

-- A call on a store whose disk has not failed: it is what the calls on a backup do with engine and target.
module _ (target target' : QueueMem) (old new : Store QueueMem) where
  -- a count of faults of the store's disk rose, or one of the target's
  abbrev pub RisesHere : Type 0
  RisesHere = Rises (disk_of old.machine).disk_faults (disk_of new.machine).disk_faults

  abbrev pub RisesThere : Type 0
  RisesThere = Rises (disk_of target).disk_faults (disk_of target').disk_faults

  -- a backup was started
  pub record Starts (made : Result (Unit {0}) BackupErr) : Type 0 where
    pub refused : IfErr (judge_start old.engine) (λ why. IsRefusedSo why old.machine new.machine target target' old.engine new.engine made)
    pub forces : IfOk (judge_start old.engine) (λ done. LooksFirst all_meaning (disk_of old.machine) (disk_of new.machine) old.engine new.engine (IsUntouched old.machine new.machine old.engine new.engine) made)
    pub copied : new.engine.copied ≡ copied_by_start old.engine.copied made
    pub begun : (p : Params) (w : World Command) → ShowsIn all_meaning p (disk_of old.machine) old.engine w →
        OnOk made (Copies all_meaning p (disk_of new.machine) new.engine (run (meaning_in all_meaning p) w (force_steps (meaning_in all_meaning p) w)) (disk_of target'))
    -- a store that is there stays; where there is none, a crash leaves none meanwhile
    pub kept : BeginsStore ((disk_of target).reads Objects) → Stays (disk_of target) (disk_of target')
    pub moments : BeginsNone (disk_of target).reads → LeavesOnly (disk_of target) (disk_of target') (OrAtStart (disk_of target) (NoneIn (disk_of target)))
    pub quiet : IsQuiet (disk_of target) (disk_of target')
    pub cause : IfOk (judge_start old.engine) (λ done. HasStartCause (BeginsStore ((disk_of target).reads Objects)) (BeginsNone (disk_of target).reads) RisesHere RisesThere made)

  -- objects were copied
  pub record CopiesMore (count : ℕ) (made : Result ℕ BackupErr) : Type 0 where
    pub refused : IfErr (judge_copy old.engine) (λ why. IsRefusedSo why old.machine new.machine target target' old.engine new.engine made)
    pub read : IsEngineRead all_meaning (disk_of old.machine) (disk_of new.machine) old.engine (but_copied old.engine new.engine) (IsErrOf made backup.DiskFault)
    pub attached : IsAttached all_meaning (disk_of old.machine) old.engine → IsAttached all_meaning (disk_of new.machine) new.engine
    pub runs : Runs (In Objects KeepsGate) Same (disk_of target) (disk_of target')
    pub up_to : IfOk (judge_copy old.engine) (λ copied. CopiesUpTo copied (min (copied + count) (params_of old.engine).objects) new.engine.copied made)
    pub answers : IfOk made (λ n. new.engine.copied ≡ Some n)
    pub goes_on : (p : Params) (w : World Command) → Copies all_meaning p (disk_of old.machine) old.engine w (disk_of target) →
        IsFault made ⊎ Copies all_meaning p (disk_of new.machine) new.engine w (disk_of target')
    pub undamaged : IsAttached all_meaning (disk_of old.machine) old.engine → (file : FileNo) (place : ℕ) → IsErrOf made (backup.Damaged file place) → ⊥
    pub cause : IfOk (judge_copy old.engine) (λ copied. IfErr made (CopyFailsBy (disk_of new.machine) old.engine new.engine.copied RisesHere RisesThere))

  -- a backup was finished
  pub record Finishes (made : Result ℕ BackupErr) : Type 0 where
    pub refused : IfErr (judge_finish old.engine) (λ why. IsRefusedSo why old.machine new.machine target target' old.engine new.engine made)
    pub forces : IfOk (judge_finish old.engine) (λ done. ForcesFirst all_meaning (disk_of old.machine) (disk_of new.machine) old.engine new.engine made)
    pub copied : new.engine.copied ≡ copied_by_finish old.engine.copied made
    -- the target stands for the commands that the store stands for, with its history, and so does whatever a crash leaves of it
    pub saved : (p : Params) (w : World Command) → Copies all_meaning p (disk_of old.machine) old.engine w (disk_of target) →
        IfOk made (λ n. (n ≡ length (commands_of w.history)) × InEachImage (disk_of target') (AreSaved p w.history))
    -- meanwhile a crash leaves none, or that store
    pub moments : (p : Params) (w : World Command) → Copies all_meaning p (disk_of old.machine) old.engine w (disk_of target) →
        LeavesOnly (disk_of target) (disk_of target') (IsShutOrWhole all_meaning p (commands_of w.history) (disk_of target))
    pub again : (p : Params) (w : World Command) → Copies all_meaning p (disk_of old.machine) old.engine w (disk_of target) →
        IfOk (judge_finish old.engine) (λ done. OnErr made (IsFault made ⊎ Copies all_meaning p (disk_of new.machine) new.engine (run (meaning_in all_meaning p) w (force_steps (meaning_in all_meaning p) w)) (disk_of target')))
    pub quiet : IsQuiet (disk_of target) (disk_of target')
    pub undamaged : IsAttached all_meaning (disk_of old.machine) old.engine → (file : FileNo) (place : ℕ) → IsErrOf made (backup.Damaged file place) → ⊥
    pub cause : IfOk (judge_finish old.engine) (λ done. IfErr made (FinishFailsBy RisesHere RisesThere (IsTailFault (all_meaning new.engine.parts.log.bounds) (disk_of new.machine) new.engine.parts.log.log) new.engine))
    pub long : (p : Params) (w : World Command) → ShowsIn all_meaning p (disk_of old.machine) old.engine w →
        HasLength (backup_length (meaning_in all_meaning p) (run (meaning_in all_meaning p) w (force_steps (meaning_in all_meaning p) w))) made

  -- where the disk has failed before, nothing is done
  pub record DoesBackup {T : Type 0} (does : Result T BackupErr → Type 0) (made : Result T BackupErr) : Type 0 where
    pub done : old.engine.broken ≡ false → does made
    pub broken : old.engine.broken ≡ true → IsStillBroken backup.DiskFault old new made × (target' ≡ target)

-- the backup that was being made was given up
pub record DoesGiveUp (old new : Store QueueMem) (made : Result (Unit {0}) BackupErr) : Type 0 where
  pub refused : old.engine.broken ≡ false → IfErr (judge_copy old.engine) (λ why. (made ≡ Err why) × (new ≡ old))
  pub given_up : old.engine.broken ≡ false → IfOk (judge_copy old.engine) (λ copied. (made ≡ Ok tt) × (new ≡ record old { engine = record old.engine { copied = None } }))
  pub broken : old.engine.broken ≡ true → IsStillBroken backup.DiskFault old new made

abbrev pub DoesStart : QueueMem → QueueMem → Store QueueMem → Store QueueMem → Result (Unit {0}) BackupErr → Type 0
DoesStart target target' old new = DoesBackup target target' old new (Starts target target' old new)

abbrev pub DoesCopy : ℕ → QueueMem → QueueMem → Store QueueMem → Store QueueMem → Result ℕ BackupErr → Type 0
DoesCopy count target target' old new = DoesBackup target target' old new (CopiesMore target target' old new count)

abbrev pub DoesFinish : QueueMem → QueueMem → Store QueueMem → Store QueueMem → Result ℕ BackupErr → Type 0
DoesFinish target target' old new = DoesBackup target target' old new (Finishes target target' old new)

-- how many objects are copied, or commands saved
abbrev pub TellsNumber : Result ℕ BackupErr → ℕ → Type 0
TellsNumber made count = IfOk made (λ n. count ≡ n)

-- A call on session and target came to something, and that is what C is told. No call is taken from either machine, and those that
-- were taken for C are as they were.
module _ {R : Type 0} (told : R → Answer) (does : QueueMem → QueueMem → Store QueueMem → Store QueueMem → R → Type 0) (old new : Session) (target target' : Target) (answer : ℕ) where
  pub record IsCalledWith : Type 0 where
    pub call : IsCalled told (does target.machine target'.machine) old new answer
    pub untaken : IsUntaken target.machine target'.machine
    pub taken : target'.taken ≡ target.taken

-- the target behind a handle; none where it is closed
abbrev pub target_of : RedoTarget → Option Target
target_of handle = handle.inside.target

abbrev pub no_target : ℕ
no_target = 21

-- A call was made on the target behind a handle, which is there afterwards too. A handle that is closed stays closed, and C is told
-- so.
abbrev pub OnTarget : (Target → Target → ℕ → Type 0) → Option Target → Option Target → ℕ → Type 0
OnTarget does None None answer = answer ≡ no_target
OnTarget does None (Some new) answer = ⊥
OnTarget does (Some old) None answer = ⊥
OnTarget does (Some old) (Some new) answer = does old new answer

-- the same of session and target: where one of them is not there nothing is done, and C is told so
abbrev pub OnBoth : (Session → Session → Target → Target → ℕ → Type 0) → Option Session → Option Session → Option Target → Option Target → ℕ → Type 0
OnBoth does None new target target' answer = (new ≡ None) × (target' ≡ target) × (answer ≡ not_open)
OnBoth does (Some old) None target target' answer = ⊥
OnBoth does (Some old) (Some new) None target' answer = (target' ≡ None) × DoesNothing (alone no_target) old new answer
OnBoth does (Some old) (Some new) (Some target) None answer = ⊥
OnBoth does (Some old) (Some new) (Some target) (Some target') answer = does old new target target' answer

-- A handle that was closed: a target over these files is behind it now, and 0 is answered, or there was no memory, and it stays
-- closed. A handle that was open stays as it was, and C is told so.
abbrev pub OpensTarget : Files → Option Target → Option Target → ℕ → Type 0
OpensTarget files (Some old) new answer = (new ≡ Some old) × (answer ≡ already_open)
OpensTarget files None None answer = answer ≡ 8
OpensTarget files None (Some new) answer = IsTargetOf files new × (answer ≡ 0)

-- the target behind a handle was dropped
abbrev pub ClosesTarget : Option Target → Option Target → ℕ → Type 0
ClosesTarget (Some old) new answer = (new ≡ None) × (answer ≡ 0)
ClosesTarget None new answer = (new ≡ None) × (answer ≡ no_target)
