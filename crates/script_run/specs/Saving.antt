-- The backup that a run makes on a second machine.
use Rattle.std.specs.Prelude.{◌≡◌, ◌≤◌, ◌⊎◌, ◌↔◌, ◌++◌, ⊤, ℕ, List, [], ◌∷◌, length, take, Contains, None, Result, Ok, Err, Bool, IfErr, IfOk, OnOk, OnErr, IfSome, false}
use Rattle.disk_model.specs.Disk.{Files, Disk, LeavesOnly, Passes, Rises}
use Rattle.disk_model.specs.declared.machine.FileNo.TheVariants.{Objects}
use Rattle.formats.specs.Objects.{BeginsStore}
use Rattle.formats.specs.declared.params.Params.{Params}
use Rattle.explain_core.specs.History.{commands_of}
use Rattle.explain_core.specs.World.{World}
use Rattle.restart.specs.Starts.{OrAtStart}
use Rattle.op_codec.specs.AllOps.{all_meaning}
use Rattle.script_lines.specs.Grammar.{Request, AsksFor}
use Rattle.script_lines.specs.declared.line.Line.TheVariants.{Save}
use Rattle.script_lines.specs.declared.line.Saving.TheVariants.{Start as bstart, Copy as bcopy, Finish as bfinish}
use Rattle.script_lines.specs.Replies.{Reply, ok, full, saved, backup_denied, reply_of}
use Rattle.script_lines.specs.declared.answer.Answer.{Answer}
use Rattle.script_lines.specs.declared.answer.Answer.TheVariants as answers
use Rattle.script_lines.specs.declared.backup_denial.BackupDenial.TheVariants as denials
use Rattle.standing.specs.Moments.{TakesSome}
use Rattle.oper_core.specs.Meaning.{Meaning}
use Rattle.running_store.specs.Courses.{Course, course, force_course}
use Rattle.running_store.specs.Courses.Stop.{Through}
use Rattle.store_engine.specs.Engine.{EngineView, InEachImage, forced_in, used_in}
use Rattle.backup_copy.specs.Copies.{Copies}
use Rattle.backup_copy.specs.declared.backup_err.BackupErr.{BackupErr}
use Rattle.backup_copy.specs.declared.backup_err.BackupErr.TheVariants as errors
use Rattle.shell_base.specs.declared.budget.Budget.{Budget}
use Rattle.shell_base.specs.Store.{Between, Command, Holds, IsAttached, IsWellFormed, Opens, ShowsIn, Stands, meaning_in}
use Rattle.shell_base.specs.First.{Stage, IsFirst, stage_of}
use Rattle.shell_base.specs.Stops.{IsUndamaged}
use Rattle.shell_base.specs.declared.status.Status.{Status}
use Rattle.shell_base.specs.declared.status.Status.TheVariants.{BackupFault as BackupFailed}
use Rattle.shell_base.specs.declared.stop.Stop.{Stop}
use Rattle.shell_base.specs.declared.stop.Stop.TheVariants.{BackupFault, Damaged, DiskFault, Memory}
use Rattle.script_run.specs.Groups.{open_in}
use Rattle.script_run.specs.Replies.{IsOfBackup}
use Rattle.script_run.specs.Answers.{SaysTruly, with_begun, with_line}
use Rattle.script_run.specs.Found.{IsDone}
use Rattle.script_run.specs.Printed.{SaysSaved}
use Rattle.script_run.specs.declared.tending.Tending.{Tending}
use Rattle.script_run.specs.Run.{IsAnswered, IsCausedBeside, IsPartly, LineMoment, LineStage}

-- the line starts a backup, goes on with it or ends it
abbrev pub AsksBackup : List ℕ → Type 0
AsksBackup line = (request : Request) × IsOfBackup request × AsksFor line request

-- how the error of such a call is answered
abbrev pub answer_of_backup_error : BackupErr → Result Answer Stop
answer_of_backup_error (errors.InGroup commands) = Ok answers.InGroup
answer_of_backup_error (errors.InBackup copied) = Ok (answers.BackupDenied denials.InBackup)
answer_of_backup_error errors.NoBackup = Ok (answers.BackupDenied denials.NoBackup)
answer_of_backup_error errors.AlreadyStore = Ok (answers.BackupDenied denials.AlreadyStore)
answer_of_backup_error (errors.NotCopied copied) = Ok (answers.BackupDenied denials.NotCopied)
answer_of_backup_error errors.DiskFault = Err DiskFault
answer_of_backup_error errors.TargetFault = Err BackupFault
answer_of_backup_error (errors.Damaged file place) = Err (Damaged file place)
answer_of_backup_error (errors.LogFull used need limit) = Ok (answers.Full used need limit)
answer_of_backup_error errors.Memory = Err Memory

-- A store is in the backup after this answer, where one was before it or not: `saved` makes one.
abbrev pub store_after : Type 0 → Reply → Type 0
store_after there (saved n) = ⊤
store_after there reply = there

-- after all these answers
abbrev pub store_behind : Type 0 → List Reply → Type 0
store_behind there [] = there
store_behind there (reply ∷ replies) = store_behind (store_after there reply) replies

-- the answer says truly whether a store was there: `refused AlreadyStore` where one was, and no backup starts there
abbrev pub FindsStore : Type 0 → List ℕ → Reply → Type 0
FindsStore there line (backup_denied denials.AlreadyStore) = there
FindsStore there line ok = AsksFor line (Save bstart) → there → ⊥
FindsStore there line reply = ⊤

-- so do all these answers to these lines
abbrev pub AllFindStore : Type 0 → List (List ℕ) → List Reply → Type 0
AllFindStore there [] [] = ⊤
AllFindStore there (line ∷ lines) (reply ∷ replies) = FindsStore there line reply × AllFindStore (store_after there reply) lines replies
AllFindStore there lines replies = ⊥

-- one of these lines is to end a backup
abbrev pub AsksFinish : List (List ℕ) → Type 0
AsksFinish lines = (line : List ℕ) × Contains lines line × AsksFor line (Save bfinish)

-- one of these lines was to end a backup, and was answered by `full`
abbrev pub FinishIsFull : List (List ℕ) → List Reply → Type 0
FinishIsFull (line ∷ lines) (full used need limit ∷ replies) = AsksFor line (Save bfinish) ⊎ FinishIsFull lines replies
FinishIsFull (line ∷ lines) (reply ∷ replies) = FinishIsFull lines replies
FinishIsFull lines replies = ⊥

-- These files are no store, or the one that one of these answers to these lines says is saved; where a line that was to end the
-- backup got `full`, they may stand for some other first of the commands.
abbrev pub IsNoneOrSaved : Params → List (List ℕ) → List Reply → List Command → Files → Type 0
IsNoneOrSaved p lines replies commands files = (BeginsStore (files Objects) → ⊥) ⊎ ((n : ℕ) × Contains replies (saved n) × Stands p files (take n commands))
    ⊎ (FinishIsFull lines replies × (n : ℕ) × (n ≤ length commands) × Stands p files (take n commands))

-- or where the next line is to end it, and got no answer, for all of them
abbrev pub MayBeLeft : Params → List (List ℕ) → List Reply → List (List ℕ) → List Command → Files → Type 0
MayBeLeft p lines replies next commands files = IsNoneOrSaved p lines replies commands files ⊎ (AsksFinish next × Stands p files commands)

-- files that a crash at this state's moment would have left
abbrev pub WasThere : Disk → Files → List ℕ → Type 0
WasThere start files said = start.left_since start.clock files said

-- nothing was written: the files are those of the first state, and a crash leaves what it left then
abbrev pub KeepsAll : Disk → Disk → Type 0
KeepsAll start now = (now.reads ≡ start.reads) × (start.tells_moments → LeavesOnly start now (WasThere start))

-- The backup's machine was in the first of these states as the run began.
module _ (p : Params) (start : Disk) where
  -- What these answers to these lines, behind which this next one was come to, say of the backup's files, where there are these
  -- commands now. Where one is `saved n`, each image stands for the first n of the commands, which are those that were accepted
  -- up to that line; and each says truly whether a store was there. One that was there as the run began is left as it is. At
  -- each moment of the run a crash leaves of them what one at the start could leave, no store, or the one that is saved.
  pub record SaysOfBackup (lines : List (List ℕ)) (replies : List Reply) (next : List (List ℕ)) (commands : List Command) (now : Disk) : Type 0 where
    pub time : Passes start now
    pub saves : (n : ℕ) → Contains replies (saved n) → (n ≤ length commands) × InEachImage now (λ files. Stands p files (take n commands))
    pub finds : AllFindStore (BeginsStore (start.reads Objects)) lines replies
    pub kept : BeginsStore (start.reads Objects) → KeepsAll start now
    pub images : start.tells_moments → LeavesOnly start now (OrAtStart start (λ files said. MayBeLeft p lines replies next commands files))

  -- the backup so far, between two lines, where engine and files show the world
  pub record BackupGoing (lines : List (List ℕ)) (replies : List Reply) (commands : List Command) (d : Disk) (engine : EngineView) (w : World Command) (now : Disk) : Type 0 where
    pub says : SaysOfBackup lines replies [] commands now
    pub store : BeginsStore (now.reads Objects) ↔ store_behind (BeginsStore (start.reads Objects)) replies
    pub copying : IfSome engine.copied (λ n. Copies all_meaning p d engine w now)

  -- So it is of the first of these commands, all of them forced: an abort takes none of them away.
  pub record BackupSoFar (lines : List (List ℕ)) (replies : List Reply) (commands : List Command) (d : Disk) (engine : EngineView) (w : World Command) (now : Disk) : Type 0 where
    pub count : ℕ
    pub forced : count ≤ forced_in engine
    pub going : BackupGoing lines replies (take count commands) d engine w now

  module _ (old new : Disk) (before after : EngineView) (w : World Command) (commands : List Command) (line : List ℕ) (backup backed : Disk) where
    -- with this answer to the line the backup goes on to this world, and these commands
    abbrev pub BackupGoesOn : Reply → List Command → World Command → Type 0
    BackupGoesOn reply all v = backup.tells_files → (lines : List (List ℕ)) (replies : List Reply) → BackupSoFar lines replies commands old before w backup
        → BackupSoFar (lines ++ line ∷ []) (replies ++ reply ∷ []) all new after v backed

    -- what the answers say stays true where the line gets none
    abbrev pub BackupStays : Type 0
    BackupStays = backup.tells_files → (lines : List (List ℕ)) (replies : List Reply) → BackupSoFar lines replies commands old before w backup → SaysOfBackup lines replies (line ∷ []) commands backed

    -- and where a beginning of its answer was said, with that, of so many commands, which split no group
    abbrev pub BackupIsSaid : Reply → List Command → Type 0
    BackupIsSaid reply added = (kept : ℕ) × (kept ≤ length (commands ++ added)) × ((kept ≡ forced_in before) ⊎ ((before.group ≡ None) × (length commands ≤ kept)))
        × (backup.tells_files → (lines : List (List ℕ)) (replies : List Reply) → BackupSoFar lines replies commands old before w backup → SaysOfBackup (lines ++ line ∷ []) (replies ++ reply ∷ []) [] (take kept (commands ++ added)) backed)

    -- what the line asks for is done, and nothing is said of it yet; or the call ended without an answer
    pub record IsDoneBeside {A : Type 0} (reply : A → Reply) (result : Result A Stop) : Type 0 where
      pub whole : IfOk result (λ found. (d : IsDone p old new before after w commands line (reply found)) × BackupGoesOn (reply found) (commands_of d.world.history) d.world)
      pub stopped : OnErr result BackupStays

    abbrev pub IsSavingDone : Result Answer Stop → Type 0
    IsSavingDone = IsDoneBeside reply_of

    -- The line was answered, or a beginning of its answer was said, or nothing, and the backup went on.
    pub record AnsweringBeside (result : Result Bool Stop) : Type 0 where
      pub whole : IfOk result (λ refusing. (a : IsAnswered p old new before after w commands line refusing) × BackupGoesOn a.reply a.all a.kept.holds.world)
      pub partly : OnErr result (((new.said ≡ old.said) × BackupStays) ⊎ ((part : IsPartly p old new (stage_of before w) commands line) × BackupIsSaid part.reply part.added))
      pub images : old.tells_moments → LeavesOnly old new (LineMoment p old before (open_in w) commands line)
      pub steps : old.tells_moments → LeavesOnly old new (LineStage p (stage_of before w) old.said line)

-- what may be done with the store for a line of a backup: a force as it starts and ends, nothing between
abbrev pub saving_course : Request → Meaning Command → World Command → ℕ → Course Command
saving_course (Save (bcopy count)) m w used = course [] used Through
saving_course request m w used = force_course m w used

-- What a call for such a line makes of engine and machine, on every machine.
pub record IsSaving (request : Request) (old now : Disk) (before after : EngineView) (backup backed : Disk) (result : Result Answer Stop) : Type 0 where
  pub time : Passes old now
  pub backup_time : Passes backup backed
  pub quiet : old.tells_files → now.said ≡ old.said
  pub images : (p : Params) (commands : List Command) → Holds p old before commands → old.tells_moments → LeavesOnly old now (Between p old before.group (forced_in before) (length commands) commands)
  pub steps : (p : Params) (w : World Command) → ShowsIn p old before w → w.group ≡ None → old.tells_moments → TakesSome (meaning_in p) p old now w (saving_course request (meaning_in p) w (used_in before)).steps
  pub cause : IfErr result (λ stop. IsCausedBeside stop old now backup backed)
  pub undamaged : old.tells_files → IsAttached old before → IfErr result IsUndamaged
  pub attached : IsAttached old before → OnOk result (IsAttached now after)
  pub unbroken : OnOk result (after.broken ≡ false)

-- Through these lines the backup's machine came from one state to the other: a line that is of no backup did nothing with it.
abbrev pub PassesBy : {T : Type 0} → List (List ℕ) → T → T → Type 0
PassesBy [] before after = after ≡ before
PassesBy {T} (line ∷ lines) before after = (mid : T) × ((AsksBackup line → ⊥) → mid ≡ before) × PassesBy lines mid after

-- What a run makes of the backup, and what its answers say of it.
pub record IsBackedUp {T : Type 0} (tending : Tending) (disk : T → Disk) (p : Params) (first : Stage) (commands : List Command) (script : List (List ℕ)) (old new : Disk) (before after : T) : Type 0 where
  pub truly : SaysTruly tending p first commands script old new
  -- of the lines that were answered, and the next one, only those of a backup do anything with its files
  pub passes : PassesBy (with_line truly.says.story.lines truly.says.story.work ++ take 1 truly.says.story.todo) before after
  pub says : (disk before).tells_files → SaysOfBackup p (disk before) (with_line truly.says.story.lines truly.says.story.work) (with_begun truly.says.story.replies truly.says.story.work)
      (take 1 truly.says.story.todo) (truly.says.story.account.commands ++ truly.says.story.added) (disk after)

-- So it is of what was printed: where a whole line says that n commands are saved, one of the answers does, and each image
-- stands for the first n.
pub record IsSavedAsSaid {T : Type 0} (tending : Tending) (disk : T → Disk) (p : Params) (first : Stage) (commands : List Command) (script : List (List ℕ)) (old new : Disk) (before after : T) : Type 0 where
  pub backed : IsBackedUp tending disk p first commands script old new before after
  pub printed : (disk before).tells_files → (n : ℕ) → SaysSaved backed.truly.says.bytes n → Contains (with_begun backed.truly.says.story.replies backed.truly.says.story.work) (saved n)
      × (n ≤ length (backed.truly.says.story.account.commands ++ backed.truly.says.story.added))
      × InEachImage (disk after) (λ files. Stands p files (take n (backed.truly.says.story.account.commands ++ backed.truly.says.story.added)))

-- What a run makes of the backup, where the source reports that it has this script.
pub record IsBackupOfRun {T : Type 0} (tending : Tending) (budget : Budget) (disk : T → Disk) (told : Type 0) (script : List (List ℕ)) (old new : Disk) (before after : T) : Type 0 where
  pub opened : (p : Params) (commands : List Command) → Opens p old commands → told → (first : Stage) → IsFirst budget p commands old first → IsSavedAsSaid tending disk p first commands script old new before after
  -- of a source that reports nothing the same holds with some script
  pub untold : (some : List (List ℕ)) × ((p : Params) (commands : List Command) → Opens p old commands → (first : Stage) → IsFirst budget p commands old first → IsSavedAsSaid tending disk p first commands some old new before after)
  -- on files that stand for commands a store that was there as the run began is left as it is, whatever the source
  pub kept : (p : Params) (commands : List Command) → Opens p old commands → (disk before).tells_files → BeginsStore ((disk before).reads Objects) → KeepsAll (disk before) (disk after)
  -- no store is opened in files that break their format, and then nothing is done with the backup
  pub unopened : old.tells_files → (IsWellFormed old.reads → ⊥) → after ≡ before

-- What holds of the backup's machine on every call of the program: time passes, and the status says that its disk failed only
-- where that was counted.
pub record IsBesideRun (before after : Disk) (status : Status) : Type 0 where
  pub time : Passes before after
  pub fault : status ≡ BackupFailed → Rises before.disk_faults after.disk_faults
