-- What the answers of a run go by: the world that engine and files show, the length of the log, and how far a backup is.
use Rattle.std.specs.Prelude.{◌≡◌, ◌⊎◌, ◌+◌, ◌^◌, ◌++◌, ◌<◌, ◌≤◌, ⊤, ℕ, IsTrue, List, [], ◌∷◌, length, min, take, Option, None, Some, Ok}
use Rattle.std.specs.Option.{is_some}
use Rattle.oper_core.specs.Meaning.{Meaning}
use Rattle.formats.specs.declared.params.Params.{Params}
use Rattle.explain_core.specs.History.{commands_of}
use Rattle.explain_core.specs.Turns.{count_below, dirty_in}
use Rattle.explain_core.specs.World.{World, Step, run, end_of}
use Rattle.explain_core.specs.World.Step.{End}
use Rattle.running_store.specs.Courses.{Course, Stop, course, force_course, force_steps}
use Rattle.cache_manager.specs.InstallCourses.{logged_in, install_course, drain_course}
use Rattle.running_store.specs.Courses.Stop.{Through, Full, At_end, Worn}
use Rattle.op_codec.specs.AllOps.{all_meaning}
use Rattle.script_lines.specs.Grammar.{Request, AsksFor}
use Rattle.script_lines.specs.declared.line.Line.TheVariants.{Ask, Keep, Group, Save}
use Rattle.script_lines.specs.declared.line.Upkeep.TheVariants.{Install as install, Drain as drain, Checkpoint as checkpoint, Trim as trim}
use Rattle.script_lines.specs.declared.line.Grouping.TheVariants.{Begin as begin_group, End as end_group, Abort as abort_group}
use Rattle.script_lines.specs.declared.line.Saving.TheVariants.{Start as bstart, Copy as bcopy, Finish as bfinish}
use Rattle.script_lines.specs.Replies.{Reply, ok, ran, forced, refused, bad_tree, tree_full, denied, full, end, stat, copied, saved, backup_denied}
use Rattle.script_lines.specs.declared.backup_denial.BackupDenial.{BackupDenial}
use Rattle.script_lines.specs.declared.backup_denial.BackupDenial.TheVariants.{InBackup, NoBackup, AlreadyStore, NotCopied}
use Rattle.script_lines.specs.declared.answer.StatLine.{StatLine}
use Rattle.checkpointing.specs.Courses.{checkpoint_course, trim_course, upkeep_course as tending_course}
use Rattle.checkpointing.specs.Told.{TellsUpkeep}
use Rattle.checkpointing.specs.declared.due.Due.{Due}
use Rattle.checkpointing.specs.declared.upkeep_report.UpkeepReport.{UpkeepReport}
use Rattle.restart.specs.Courses.{restart_course}
use Rattle.store_engine.specs.Calls.{begin_course, end_course}
use Rattle.store_engine.specs.Engine.{EngineView, group_bytes, is_name, so_far}
use Rattle.store_engine.specs.Paces.{due_at, first_pace, load_of, pace_after}
use Rattle.store_engine.specs.declared.pace.Pace.{Pace}
use Rattle.backup_copy.specs.Length.{backup_length}
use Rattle.store_engine.specs.Lists.{commands_course}
use Rattle.shell_base.specs.Store.{Command, meaning_in}
use Rattle.shell_base.specs.First.{Stage, marks_of, stage_of}
use Rattle.shell_base.specs.declared.budget.Budget.TheVariants.{Usual}
use Rattle.script_run.specs.Made.{Made, AsksMade}
use Rattle.script_run.specs.Groups.{Becomes, open_in, waiting}
use Rattle.script_run.specs.Replies.{Replies, IsGranted}
use Rattle.script_run.specs.declared.tending.Tending.{Tending}
use Rattle.script_run.specs.declared.tending.Tending.TheVariants.{ByHand, ByLine}

-- the stage after a course
abbrev pub stage_after : Params → Stage → Course Command → Stage
stage_after p s c = record { world = run (meaning_in p) s.world c.steps; used = c.used; identities = s.identities + length (logged_in c.steps); copied = s.copied }

-- the stage with so many objects copied, or none while no backup is made
abbrev pub with_copied : Option ℕ → Stage → Stage
with_copied copies s = record { world = s.world; used = s.used; identities = s.identities; copied = copies }

-- What is done for a request that adds no command, in a world with a log of a length; this is the epoch of the log in force,
-- and so many objects are copied.
abbrev pub upkeep_course : ℕ → ℕ → Request → Meaning Command → World Command → ℕ → Course Command
upkeep_course epoch copies (Keep install) m w used = install_course m copies w used
upkeep_course epoch copies (Keep drain) m w used = drain_course m copies w used
upkeep_course epoch copies (Keep checkpoint) m w used = checkpoint_course m w used
upkeep_course epoch copies (Keep trim) m w used = trim_course m epoch w used
upkeep_course epoch copies (Group begin_group) m w used = begin_course m w used
upkeep_course epoch copies (Group end_group) m w used = end_course m w used
upkeep_course epoch copies request m w used = course [] used Through

-- such a request may be done beside a backup: a trim may not, and the start of one and an abort take courses of their own
abbrev pub IsBesideBackup : Option ℕ → Request → Type 0
IsBesideBackup copies (Keep trim) = copies ≡ None
IsBesideBackup copies (Save bstart) = ⊥
IsBesideBackup copies (Group abort_group) = ⊥
IsBesideBackup copies request = ⊤

-- a request for values changes nothing
abbrev pub IsQuestion : Request → Type 0
IsQuestion (Ask question) = ⊤
IsQuestion request = ⊥

-- what is done behind the last line: the open group is closed, if there is one, and the log is forced
abbrev pub closing_steps : Option ℕ → List (Step Command)
closing_steps None = []
closing_steps (Some n) = End ∷ []

abbrev pub finish_course : Meaning Command → World Command → ℕ → Course Command
finish_course m w used = course (closing_steps w.group ++ force_steps m w) used Through

-- The line has the engine take this course: that of the commands that it asks for, one after the other, that of an install, a
-- drain, a checkpoint or a trim, or of the beginning or the end of a group, where the open group and a backup allow it; or none,
-- where it asks for values.
abbrev pub HasCourse : Params → Stage → List ℕ → Course Command → Type 0
HasCourse p s line c = ((it : Made) × AsksMade p (commands_of s.world.history) line it × (c ≡ commands_course (meaning_in p) p.limit it.ops s.world s.used))
    ⊎ (((request : Request) × (epoch : ℕ) × IsGranted (open_in s.world) request × IsBesideBackup s.copied request × AsksFor line request × (c ≡ upkeep_course epoch (so_far s.copied) request (meaning_in p) s.world s.used))
    ⊎ ((request : Request) × IsQuestion request × AsksFor line request × (c ≡ course [] s.used Through)))

-- the course ends so, and leads from the old stage to the new one
abbrev pub Ends : Params → Stage → List ℕ → Stop → Stage → Type 0
Ends p old line stop new = (c : Course Command) × HasCourse p old line c × (c.stop ≡ stop) × (new ≡ stage_after p old c)

-- The line gives up the open group, whose commands all wait: without them the log has so many bytes, those in the files.
pub record GivesUp (p : Params) (s : Stage) (line : List ℕ) (used : ℕ) : Type 0 where
  pub asks : AsksFor line (Group abort_group)
  pub inside : IsTrue (is_some (open_in s.world))
  pub waits : s.used ≡ used + group_bytes all_meaning p (waiting (open_in s.world) (commands_of s.world.history))

-- what is done for it: the files are opened again, as after a crash
abbrev pub abort_course : Params → World Command → ℕ → Course Command
abort_course p w used = restart_course (meaning_in p) (marks_of Usual p) w used

-- the stage after that, as a call begins with it
abbrev pub reopened : Params → World Command → ℕ → Stage
reopened p w used = record { world = run (meaning_in p) w (abort_course p w used).steps; used = (abort_course p w used).used; identities = 0; copied = None }

-- so an abort leads from the old stage to the new one: a backup is given up too
abbrev pub Aborts : Params → Stage → List ℕ → Stage → Type 0
Aborts p old line new = (used : ℕ) × GivesUp p old line used × (new ≡ reopened p old.world used)

-- the counts that are told of a stage: of its graph, its cache and its log, and of the commands that are forced and accepted
pub record IsCounted (p : Params) (s : Stage) (counts : StatLine) : Type 0 where
  pub nodes : counts.nodes ≡ count_below (end_of s.world) (is_name all_meaning p s.world)
  pub dirty : counts.dirty ≡ dirty_in (meaning_in p) s.world
  pub uninstalled : counts.uninstalled ≡ count_below (end_of s.world) s.world.graph
  pub forced : counts.forced ≡ length (commands_of (take s.world.forced s.world.history))
  pub accepted : counts.accepted ≡ length (commands_of s.world.history)
  pub used : counts.used ≡ s.used
  pub identities : counts.identities ≡ s.identities

-- the stage after a force
abbrev pub forced_stage : Params → Stage → Stage
forced_stage p s = stage_after p s (force_course (meaning_in p) s.world s.used)

-- a backup starts after a force, where none is made: nothing is copied yet
abbrev pub StartsBackup : Stage → List ℕ → Stage → Stage → Type 0
StartsBackup old line mid new = AsksFor line (Save bstart) × (old.copied ≡ None) × (new ≡ with_copied (Some 0) mid)

-- of so many objects so many more are copied, or all that are left
abbrev pub CopiesMore : ℕ → Stage → List ℕ → ℕ → Stage → Type 0
CopiesMore objects old line now new = (before count : ℕ) × AsksFor line (Save (bcopy count)) × (old.copied ≡ Some before) × (now ≡ min (before + count) objects) × (new ≡ with_copied (Some now) old)

-- so many bytes has the log of a backup that is taken in this stage
abbrev pub backup_bytes : Params → Stage → ℕ
backup_bytes p s = backup_length (meaning_in p) s.world

-- The log of a backup, all of whose objects are copied, would be too long after a force: the store's own log has so many bytes
-- then, and the backup's so many. It goes on.
abbrev pub IsBackupFull : Params → Stage → List ℕ → ℕ → ℕ → Stage → Stage → Type 0
IsBackupFull p old line used need mid new = AsksFor line (Save bfinish) × (old.copied ≡ Some p.objects) × (used ≡ mid.used) × (need ≡ backup_bytes p mid) × (new ≡ mid)

-- one whose log has room ends after a force
abbrev pub EndsBackup : Params → Stage → Stage → Stage → Type 0
EndsBackup p old mid new = (old.copied ≡ Some p.objects) × (backup_bytes p mid ≤ 2 ^ 48) × (new ≡ with_copied None mid)

-- a line is refused so where so many objects are copied, of so many, or where no backup is made
abbrev pub IsDeniedAt : ℕ → Option ℕ → BackupDenial → Type 0
IsDeniedAt objects copies InBackup = IsTrue (is_some copies)
IsDeniedAt objects copies NoBackup = copies ≡ None
IsDeniedAt objects copies AlreadyStore = copies ≡ None
IsDeniedAt objects copies NotCopied = (n : ℕ) × (copies ≡ Some n) × (n < objects)

-- What an answer says of the old stage, and the new one: where nothing stops the course it is `ok`, `ran` or a refusal, `full`
-- comes where its next record or log has no room, with these numbers, and `end` where no number is left for a record, or no
-- epoch for a log; `forced` comes after a force; `stat` counts. A backup starts with an `ok` too, and an open group is given up;
-- `copied` says how far it is, it ends with `saved`, after a force, where its log has at most 2^48 bytes, and its lines are
-- denied by how far it is. No other answer changes anything.
abbrev pub GoesBy : Params → Stage → List ℕ → Reply → Stage → Type 0
GoesBy p old line ok new = Ends p old line Through new ⊎ (StartsBackup old line (forced_stage p old) new ⊎ Aborts p old line new)
GoesBy p old line (ran k) new = Ends p old line Through new
GoesBy p old line (refused why) new = Ends p old line Through new
GoesBy p old line bad_tree new = Ends p old line Through new
GoesBy p old line tree_full new = Ends p old line Through new
GoesBy p old line (denied why) new = Ends p old line Through new
GoesBy p old line (full used need limit) new = Ends p old line (Full used need limit) new ⊎ IsBackupFull p old line used need (forced_stage p old) new
GoesBy p old line (end number) new = Ends p old line (At_end number) new ⊎ Ends p old line (Worn number) new
GoesBy p old line (forced n) new = new ≡ forced_stage p old
GoesBy p old line (stat counts) new = IsCounted p old counts × (new ≡ old)
GoesBy p old line (copied now) new = CopiesMore p.objects old line now new
GoesBy p old line (saved n) new = EndsBackup p old (forced_stage p old) new
GoesBy p old line (backup_denied why) new = IsDeniedAt p.objects old.copied why × (new ≡ old)
GoesBy p old line reply new = new ≡ old

-- A line asked in the old stage gets this answer, goes by it to the new stage, and adds commands to those of the world, or takes
-- those of the open group away.
pub record Leads (p : Params) (old : Stage) (line : List ℕ) (reply : Reply) (new : Stage) : Type 0 where
  pub added : List Command
  pub replies : Replies p (open_in old.world) (commands_of old.world.history) line reply added
  pub becomes : Becomes line reply (open_in old.world) (commands_of old.world.history) added (commands_of new.world.history)
  pub goes : GoesBy p old line reply new

-- What a run goes by: the stage, and the pace that finds upkeep due.
pub record PacedStage : Type 0 where
  pub stage : Stage
  pub pace : Pace

-- as a run begins
abbrev pub unpaced : Stage → PacedStage
unpaced s = record { stage = s; pace = first_pace }

-- where engine and files show this world
abbrev pub paced_in : EngineView → World Command → Pace → PacedStage
paced_in engine w pace = record { stage = stage_of engine w; pace = pace }

-- what the pace finds due there
abbrev pub due_in : Params → PacedStage → Due
due_in p at = due_at at.pace (load_of (meaning_in p) p at.stage.copied at.stage.world at.stage.used)

-- This is the course of the upkeep that is due, in a stage in which no group is open: first the trim, and, though that may be stopped,
-- then the turn.
pub record IsUpkeep (p : Params) (at : PacedStage) (epoch : ℕ) (c : Course Command) : Type 0 where
  pub alone : at.stage.world.group ≡ None
  pub course_is : c ≡ tending_course (meaning_in p) (due_in p at) epoch (so_far at.stage.copied) at.stage.world at.stage.used

-- It was done in a log of this epoch, and the pace goes on by what became of its trim and of its turn.
pub record TakesUpkeep (p : Params) (epoch : ℕ) (old new : PacedStage) : Type 0 where
  pub its : Course Command
  pub due : IsUpkeep p old epoch its
  pub report : UpkeepReport
  pub told : TellsUpkeep (meaning_in p) (due_in p old) epoch (so_far old.stage.copied) old.stage.world old.stage.used report
  pub stage_is : new.stage ≡ stage_after p old.stage its
  pub pace_is : new.pace ≡ pace_after old.pace (Ok report) new.stage.used p.limit

-- Before a line is read, in a log of this epoch: by hand nothing is done, and by line the upkeep that is due, but nothing within a
-- group.
abbrev pub IsTendedIn : ℕ → Tending → Params → PacedStage → PacedStage → Type 0
IsTendedIn epoch ByHand p old new = new ≡ old
IsTendedIn epoch ByLine p old new = (IsTrue (is_some old.stage.world.group) × (new ≡ old)) ⊎ TakesUpkeep p epoch old new

-- in a log of some epoch: a run does not say which
abbrev pub IsTendedTo : Tending → Params → PacedStage → PacedStage → Type 0
IsTendedTo tending p old new = (epoch : ℕ) × IsTendedIn epoch tending p old new

-- a line that is asked after the old stage, when the store was tended, leads to the new one by this answer
abbrev pub LeadsOn : Tending → Params → PacedStage → List ℕ → Reply → PacedStage → Type 0
LeadsOn tending p old line reply new = (tended : PacedStage) × IsTendedTo tending p old tended × Leads p tended.stage line reply new.stage × (new.pace ≡ tended.pace)

-- the answers to all these lines, one after the other, from the first stage to the last
abbrev pub AllGoBy : Tending → Params → PacedStage → List (List ℕ) → List Reply → PacedStage → Type 0
AllGoBy tending p first [] [] last = last ≡ first
AllGoBy tending p first (line ∷ lines) (reply ∷ replies) last = (mid : PacedStage) × LeadsOn tending p first line reply mid × AllGoBy tending p mid lines replies last
AllGoBy tending p first [] (reply ∷ replies) last = ⊥
AllGoBy tending p first (line ∷ lines) [] last = ⊥
