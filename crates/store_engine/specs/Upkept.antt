-- What upkeep makes of an engine in which no group is open.
use Rattle.std.specs.Prelude.{◌≡◌, ℕ, Result, Ok, IfOk, IsErrOf}
use Rattle.disk_model.specs.Disk.{Disk}
use Rattle.disk_model.specs.declared.machine.FileNo.{FileNo}
use Rattle.oper_core.specs.Meaning.{Meaning}
use Rattle.oper_core.specs.declared.bounds.Bounds.{Bounds}
use Rattle.formats.specs.Limits.{log_limit}
use Rattle.formats.specs.declared.params.Params.{Params}
use Rattle.formats.specs.declared.read_err.ReadErr.{ReadErr}
use Rattle.formats.specs.declared.read_err.ReadErr.TheVariants.{Damaged}
use Rattle.explain_core.specs.World.{World}
use Rattle.running_store.specs.Calls.{ending_of_read}
use Rattle.checkpointing.specs.Courses.{IsModest, upkeep_course}
use Rattle.checkpointing.specs.Told.{TellsUpkeep}
use Rattle.checkpointing.specs.declared.due.Due.{Due}
use Rattle.checkpointing.specs.declared.task_outcome.TaskOutcome.TheVariants.{NotDue}
use Rattle.checkpointing.specs.declared.upkeep_report.UpkeepReport.{UpkeepReport}
use Rattle.store_engine.specs.Engine.{EngineView, IsAttached, IsEngineCall, KeepsCommands, ShowsIn, TakesIn, logged_since, params_of, so_far, used_in}
use Rattle.store_engine.specs.Paces.{due_at, load_of, pace_after}
use Rattle.store_engine.specs.Store.{meaning_in}
use Rattle.store_engine.specs.declared.pace.Pace.{Pace}

-- the epoch of its log
abbrev pub epoch_in : EngineView → ℕ
epoch_in engine = engine.parts.log.log.header.epoch

-- nothing was due
abbrev pub nothing_due : UpkeepReport
nothing_due = record { trim = NotDue; turn = NotDue }

-- What is due of upkeep was taken, and nothing else was done. A trim or a turn that was stopped is told.
pub record TakesDue {O : Type 0} (meaning : Bounds → Meaning O) (old new : Disk) (before after : EngineView) (due : Due) (answer : Result UpkeepReport ReadErr) : Type 0 where
  pub call : IsEngineCall meaning log_limit old new before after (logged_since before after) (ending_of_read answer)
  pub takes : TakesIn meaning old new before after (λ m w used. upkeep_course m due (epoch_in before) (so_far before.copied) w used) (ending_of_read answer)
  pub commands : KeepsCommands meaning old new before after (ending_of_read answer)
  pub told : (p : Params) (w : World O) → ShowsIn meaning p old before w → IfOk answer (TellsUpkeep (meaning_in meaning p) due (epoch_in before) (so_far before.copied) w (used_in before))
  pub undamaged : old.tells_files → IsAttached meaning old before → (file : FileNo) (place : ℕ) → IsErrOf answer (Damaged file place) → ⊥

-- What the pace finds due of the world was taken; on every machine that is no more than a short trim and one turn. The pace goes on by
-- what became of it.
pub record IsKeptUp {O : Type 0} (meaning : Bounds → Meaning O) (old new : Disk) (before after : EngineView) (pace later : Pace) (answer : Result UpkeepReport ReadErr) : Type 0 where
  pub due : Due
  pub modest : IsModest (params_of before) before.copied (used_in before) due
  pub at_pace : (p : Params) (w : World O) → ShowsIn meaning p old before w → due ≡ due_at pace (load_of (meaning_in meaning p) p before.copied w (used_in before))
  pub done : TakesDue meaning old new before after due answer
  pub paced : later ≡ pace_after pace answer (used_in after) (params_of after).limit

-- In a group nothing is due, and nothing is done.
pub record IsLeftAlone {M : Type 0} (old new : M) (before after : EngineView) (pace later : Pace) (answer : Result UpkeepReport ReadErr) : Type 0 where
  pub answer_is : answer ≡ Ok nothing_due
  pub machine : new ≡ old
  pub engine : after ≡ before
  pub same : later ≡ pace
