-- What a redo begins with, and what it leaves.
use Rattle.std.specs.Prelude.{◌≡◌, ◌≤◌, ◌-◌, ◌*◌, ℕ, false, List, []}
use Rattle.disk_model.specs.Disk.{Files, Disk}
use Rattle.disk_model.specs.declared.machine.FileNo.TheVariants.{Objects}
use Rattle.oper_core.specs.Meaning.{Meaning, state_after}
use Rattle.formats.specs.declared.params.Params.{Params}
use Rattle.formats.specs.declared.record.Record.{Record}
use Rattle.log_records.specs.RecordLog.{RecordLogView, Keeps}
use Rattle.log_records.specs.Rewriting.{from_lsn}
use Rattle.stable_objects.specs.SlotsView.{SlotsView, AreOf}
use Rattle.explain_core.specs.History.{commands_of}
use Rattle.explain_core.specs.Turns.{must_install, turns}
use Rattle.explain_core.specs.World.{World, Step, run, end_of, plan_of, IsLive}
use Rattle.explain_core.specs.declared.marks.Marks.{Marks}
use Rattle.standing.specs.Members.{table_of}
use Rattle.standing.specs.Standing.{FilesShow, IsFound}
use Rattle.analysis_pass.specs.Analysis.{PlanView}
use Rattle.running_store.specs.Parts.{Volatile, ShowsVolatile}
use Rattle.redo_pass.specs.Rising.{AreMembers}

-- The world is the one that a restart finds in the files: they show it, it is sound, and it is as a crash leaves it. The
-- slots are those of the objects file, the records are the world's members from an LSN on that is not above the next to
-- replay, and the plan says what the last of the world's checkpoints says, and starts at the next to replay.
pub record IsRedoDue {O : Type 0} (m : Meaning O) (p : Params) (files : Files) (slots : SlotsView) (plan : PlanView) (records : List (Record O)) (w : World O) : Type 0 where
  pub found : IsFound m p files (commands_of w.history) w
  pub params : slots.params ≡ p
  pub of_file : AreOf slots (files Objects)
  pub from : ℕ
  pub low : from ≤ w.next
  pub members : AreMembers w.history from records
  pub start : plan.start ≡ w.next
  pub table : table_of plan.table ≡ plan_of w.tables w.base

-- The same, where the log keeps some records, all of which are stable, and the plan's start says which of them are due.
pub record IsLogDue {O : Type 0} (m : Meaning O) (p : Params) (d : Disk) (log : RecordLogView) (slots : SlotsView) (plan : PlanView) (w : World O) : Type 0 where
  pub stable : List (Record O)
  pub keeps : Keeps m d log stable []
  pub due : IsRedoDue m p d.reads slots plan (from_lsn plan.start stable) w

-- the steps of a whole redo: all its turns, of which there are at most twice as many as members are left to replay
abbrev pub redo_steps : {O : Type 0} → Meaning O → Marks → World O → List (Step O)
redo_steps m marks w = turns m marks (2 * (end_of w - w.next)) w

-- the world after them
abbrev pub redone_world : {O : Type 0} → Meaning O → Marks → World O → World O
redone_world m marks w = run m w (redo_steps m marks w)

-- The redo of this world is over. Files and store show the world after all its steps: nothing is left to replay, no more
-- objects are dirty and no more members wait than the marks say, or no node is thin, and the cache is the state after the commands.
pub record IsRedone {O : Type 0} (m : Meaning O) (p : Params) (files : Files) (it : Volatile) (marks : Marks) (w : World O) : Type 0 where
  pub files_show : FilesShow m p files (redone_world m marks w)
  pub store_shows : ShowsVolatile m p (files Objects) it (redone_world m marks w)
  pub live : IsLive (redone_world m marks w)
  pub enough : must_install m marks (redone_world m marks w) ≡ false
  pub map_is : (x : ℕ) → ((redone_world m marks w).cache x).value ≡ state_after m (commands_of w.history) x
