-- One line's answer, and a whole run.
use Rattle.std.specs.Prelude.{◌≡◌, ℕ, ◌≤◌, ◌⊎◌, ◌↔◌, ⊤, ◌++◌, List, [], ◌∷◌, length, take, Contains, Option, None, Bool, true, Result, IfOk, OnErr}
use Rattle.std.specs.List.{flat_map, list_any}
use Rattle.disk_model.specs.Disk.{Files, Disk, LeavesOnly, Rises, IsSettled}
use Rattle.disk_model.specs.Silent.{IsSilent}
use Rattle.formats.specs.Image.{EndsAt}
use Rattle.formats.specs.declared.params.Params.{Params}
use Rattle.script_lines.specs.Replies.{Reply, forced, said_line}
use Rattle.explain_core.specs.World.{World, run}
use Rattle.standing.specs.Standing.{FilesShow}
use Rattle.store_engine.specs.Engine.{EngineView, InEachImage, forced_in}
use Rattle.store_engine.specs.declared.pace.Pace.{Pace}
use Rattle.shell_base.specs.Store.{Command, meaning_in, Stands, Holds, Kept, Between}
use Rattle.shell_base.specs.First.{Stage, stage_of}
use Rattle.shell_base.specs.Status.{IsCut}
use Rattle.shell_base.specs.declared.status.Status.{Status}
use Rattle.shell_base.specs.declared.status.Status.TheVariants.{DoneWithRefusals}
use Rattle.shell_base.specs.declared.stop.Stop.{Stop}
use Rattle.shell_base.specs.declared.stop.Stop.TheVariants.{DiskFault, Damaged, ReadFault, SayFault, BackupFault, Memory, TooLong}
use Rattle.shell_base.specs.Stops.{IsCaused}
use Rattle.script_run.specs.Groups.{Account, AreInOrder, AreWhole, Becomes, Regroups, account_of, open_in, waiting}
use Rattle.script_run.specs.Made.{IsFront}
use Rattle.script_run.specs.Replies.{Replies, IsTrueIn, is_refusing}
use Rattle.script_run.specs.Answers.{Answers, Moment, EndsInside, TrueWithin, SaysTruly}
use Rattle.script_run.specs.Stages.{AllGoBy, IsTendedTo, Leads, PacedStage, finish_course, paced_in, unpaced}
use Rattle.script_run.specs.Courses.{IsBeingSaid, IsBetween, IsWorkedOn, StageMoment}
use Rattle.script_run.specs.declared.tending.Tending.{Tending}

-- a moment while this answer to a line is found and said after these bytes: it is true where the bytes said end inside it,
-- with these commands of the open group waiting
pub record IsTrueSaying (p : Params) (before : List ℕ) (ops : List Command) (line : List ℕ) (reply : Reply) (files : Files) (said : List ℕ) : Type 0 where
  pub true_in : EndsInside before reply said → IsTrueIn p files ops line reply
  pub no_shorter : length before ≤ length said
  pub no_longer : length said ≤ length (before ++ said_line reply)

-- a moment of a run that has said these answers to these lines after these bytes, and no more than these
pub record IsTrueSoFar (p : Params) (before : List ℕ) (lines : List (List ℕ)) (replies : List Reply) (waits : List (List Command)) (now : List ℕ) (files : Files) (said : List ℕ) : Type 0 where
  pub true_within : TrueWithin p before lines replies waits files said
  pub no_longer : length said ≤ length now

-- a line was answered, where engine and files showed the world
pub record IsAnswered (p : Params) (old new : Disk) (before after : EngineView) (w : World Command) (commands : List Command) (line : List ℕ) (refusing : Bool) : Type 0 where
  pub reply : Reply
  pub added : List Command
  pub replies : Replies p (open_in w) commands line reply added
  pub said : new.said ≡ old.said ++ said_line reply
  pub all : List Command
  pub becomes : Becomes line reply (open_in w) commands added all
  pub kept : Kept p before new after all
  pub regroups : Regroups line reply commands (open_in w) (open_in kept.holds.world)
  pub acked : (n : ℕ) → reply ≡ forced n → n ≤ forced_in after
  pub kind : refusing ≡ is_refusing reply
  pub truly : old.tells_moments → LeavesOnly old new (IsTrueSaying p old.said (waiting (open_in w) (commands ++ added)) line reply)
  pub leads : Leads p (stage_of before w) line reply (stage_of after kept.holds.world)

-- the bytes said while a line is answered, from this stage: a beginning of its answer
pub record IsPartly (p : Params) (old new : Disk) (stage : Stage) (commands : List Command) (line : List ℕ) : Type 0 where
  pub reply : Reply
  pub added : List Command
  pub replies : Replies p (open_in stage.world) commands line reply added
  pub count : ℕ
  pub said_is : new.said ≡ old.said ++ take count (said_line reply)
  pub truly : old.tells_moments → LeavesOnly old new (IsTrueSaying p old.said (waiting (open_in stage.world) (commands ++ added)) line reply)
  pub after : Stage
  pub leads : Leads p stage line reply after

-- a moment while a line is worked on and nothing is said of it: some first commands that it asks for may be done
pub record Working (p : Params) (old : Disk) (before : EngineView) (commands : List Command) (line : List ℕ) (files : Files) (said : List ℕ) : Type 0 where
  pub added : List Command
  pub front : (added ≡ []) ⊎ IsFront p commands line added
  pub between : Between p old before.group (forced_in before) (length commands) (commands ++ added) files said

-- a moment while an answer is said, where the open group began after so many commands, or none was open
pub record During (p : Params) (old : Disk) (before : EngineView) (group : Option ℕ) (commands : List Command) (line : List ℕ) (files : Files) (said : List ℕ) : Type 0 where
  pub reply : Reply
  pub added : List Command
  pub replies : Replies p group commands line reply added
  pub tied : IsTrueIn p files (waiting group (commands ++ added)) line reply
  pub count : ℕ
  pub said_is : said ≡ old.said ++ take count (said_line reply)
  pub kept : ℕ
  pub enough : forced_in before ≤ kept
  pub within : kept ≤ length (commands ++ added)
  pub which : (kept ≡ forced_in before) ⊎ ((before.group ≡ None) × (length commands ≤ kept))
  pub stands : Stands p files (take kept (commands ++ added))
  pub acked : (n : ℕ) → reply ≡ forced n → n ≤ kept

-- a moment while a line is answered
abbrev pub LineMoment : Params → Disk → EngineView → Option ℕ → List Command → List ℕ → Files → List ℕ → Type 0
LineMoment p old before group commands line files said =
    Working p old before commands line files said ⊎ During p old before group commands line files said

-- a moment while a line is answered in this stage: nothing is said after these bytes, or a part of its answer
abbrev pub LineStage : Params → Stage → List ℕ → List ℕ → Files → List ℕ → Type 0
LineStage p s before line files said =
    IsSilent (IsWorkedOn p s (line ∷ [])) before files said ⊎ ((part : List ℕ) × (said ≡ before ++ part) × IsBeingSaid p s line part files)

-- a moment of a run so far: after the lines that it was given no more than upkeep is done
pub record StageSoFar (tending : Tending) (p : Params) (first : Stage) (script : List (List ℕ)) (before : List ℕ) (files : Files) (said : List ℕ) : Type 0 where
  pub is : StageMoment tending p first script before files said
  pub waiting : is.todo ≡ [] → (is.part ≡ []) × IsBetween tending p is.stage files

-- a moment of a run so far: nothing of an open group is stable
pub record MomentSoFar (p : Params) (commands : List Command) (script : List (List ℕ)) (before : List ℕ) (files : Files) (said : List ℕ) : Type 0 where
  pub is : Moment p commands script before files said
  pub unclosed : AreWhole is.kept is.story.account

-- A run so far, from a start with these commands and this stage: the answers to the lines that were taken. So much was done behind the
-- last of them.
pub record GoingOn (does : PacedStage → PacedStage → Type 0) (tending : Tending) (p : Params) (first : Stage) (start now : Disk) (engine : EngineView) (pace : Pace) (commands : List Command) (script todo : List (List ℕ)) (refusing : Bool) : Type 0 where
  pub lines : List (List ℕ)
  pub replies : List Reply
  pub waits : List (List Command)
  pub account : Account
  pub script_is : script ≡ lines ++ todo
  pub said_is : now.said ≡ start.said ++ flat_map said_line replies
  pub answers : Answers p (account_of commands) lines replies waits account
  pub holds : Holds p now engine account.commands
  pub group : account.group ≡ open_in holds.world
  pub whole : AreWhole (forced_in engine) account
  pub ends_within : AreInOrder account
  pub all_before : length commands ≤ forced_in engine
  pub acked : (n : ℕ) → Contains replies (forced n) → n ≤ forced_in engine
  pub kind : refusing ≡ list_any is_refusing replies
  pub images : start.tells_moments → LeavesOnly start now (MomentSoFar p commands script start.said)
  pub truly : start.tells_moments → LeavesOnly start now (IsTrueSoFar p start.said lines replies waits now.said)
  pub stage : PacedStage
  pub goes : AllGoBy tending p (unpaced first) lines replies stage
  pub done : does stage (paced_in engine holds.world pace)
  pub steps : start.tells_moments → LeavesOnly start now (StageSoFar tending p first script start.said)

-- the store was tended, and the next line may be read
abbrev pub Going : Tending → Params → Stage → Disk → Disk → EngineView → Pace → List Command → List (List ℕ) → List (List ℕ) → Bool → Type 0
Going tending p = GoingOn (IsTendedTo tending p) tending p

-- nothing was done
abbrev pub FreshGoing : Tending → Params → Stage → Disk → Disk → EngineView → Pace → List Command → List (List ℕ) → List (List ℕ) → Bool → Type 0
FreshGoing tending p = GoingOn (λ old new. old ≡ new) tending p

-- A whole run: each line is answered, the files stand for all that was added, and the status reports refusals. The
-- stages go from the first on, with each answer; behind the last one, and the upkeep that is due there, an open group is closed, and the files
-- show the world after a force, and the log in them ends where the stage had its length.
pub record IsComplete (tending : Tending) (p : Params) (first : Stage) (start now : Disk) (commands : List Command) (script : List (List ℕ)) (status : Status) : Type 0 where
  pub replies : List Reply
  pub waits : List (List Command)
  pub account : Account
  pub answers : Answers p (account_of commands) script replies waits account
  pub said_is : now.said ≡ start.said ++ flat_map said_line replies
  pub stands : InEachImage now (λ files. Stands p files account.commands)
  pub settled : IsSettled now
  pub refusals : (status ≡ DoneWithRefusals) ↔ (list_any is_refusing replies ≡ true)
  pub last : PacedStage
  pub goes : AllGoBy tending p (unpaced first) script replies last
  pub tended : PacedStage
  pub upkept : IsTendedTo tending p last tended
  pub shows : FilesShow (meaning_in p) p now.reads (run (meaning_in p) tended.stage.world (finish_course (meaning_in p) tended.stage.world tended.stage.used).steps)
  pub ends_last : EndsAt now.reads tended.stage.used

-- the answer to a line is found and not said yet: what it adds is done, and it is true in each image
pub record IsAnswerFound (p : Params) (old now : Disk) (before after : EngineView) (w : World Command) (commands : List Command) (line : List ℕ) (reply : Reply) : Type 0 where
  pub added : List Command
  pub replies : Replies p (open_in w) commands line reply added
  pub quiet : now.said ≡ old.said
  pub all : List Command
  pub becomes : Becomes line reply (open_in w) commands added all
  pub kept : Kept p before now after all
  pub regroups : Regroups line reply commands (open_in w) (open_in kept.holds.world)
  pub tied : InEachImage now (λ files. IsTrueIn p files (waiting (open_in w) (commands ++ added)) line reply)
  pub leads : Leads p (stage_of before w) line reply (stage_of after kept.holds.world)
  pub acked : (n : ℕ) → reply ≡ forced n → n ≤ forced_in after

-- what ends a run while a line is answered has its cause: the disk of the backup may have failed too
abbrev pub IsCausedBeside : Stop → Disk → Disk → Disk → Disk → Type 0
IsCausedBeside BackupFault old new backup backed = Rises backup.disk_faults backed.disk_faults
IsCausedBeside stop old new backup backed = IsCaused stop old new

-- what ends a run early has its cause
abbrev pub StopsWith : Stop → Disk → Disk → ℕ → ℕ → Disk → Disk → Type 0
StopsWith DiskFault old new reads_before reads_now backup backed = Rises old.disk_faults new.disk_faults
StopsWith (Damaged file place) old new reads_before reads_now backup backed = ⊤
StopsWith ReadFault old new reads_before reads_now backup backed = Rises reads_before reads_now
StopsWith SayFault old new reads_before reads_now backup backed = Rises old.say_faults new.say_faults
StopsWith BackupFault old new reads_before reads_now backup backed = Rises backup.disk_faults backed.disk_faults
StopsWith Memory old new reads_before reads_now backup backed = ⊤
StopsWith TooLong old new reads_before reads_now backup backed = ⊤

-- a line was answered, or a beginning of its answer was said, or nothing
pub record Answering (p : Params) (old new : Disk) (before after : EngineView) (w : World Command) (commands : List Command) (line : List ℕ) (result : Result Bool Stop) : Type 0 where
  pub whole : IfOk result (IsAnswered p old new before after w commands line)
  pub partly : OnErr result ((new.said ≡ old.said) ⊎ IsPartly p old new (stage_of before w) commands line)
  pub images : old.tells_moments → LeavesOnly old new (LineMoment p old before (open_in w) commands line)
  pub steps : old.tells_moments → LeavesOnly old new (LineStage p (stage_of before w) old.said line)

-- a script was answered, or a beginning of it, and the run ended with this status
pub record IsRun (tending : Tending) (p : Params) (first : Stage) (start now : Disk) (commands : List Command) (script : List (List ℕ)) (status : Status) : Type 0 where
  pub says : SaysTruly tending p first commands script start now
  pub images : start.tells_moments → LeavesOnly start now (Moment p commands script start.said)
  pub steps : start.tells_moments → LeavesOnly start now (StageMoment tending p first script start.said)
  -- where it was cut short an open group was neither closed nor forced
  pub unclosed : IsCut status → start.tells_moments → LeavesOnly start now (MomentSoFar p commands script start.said)
