-- What upkeep tells of its trim and of its turn.
use Rattle.std.specs.Prelude.{◌≡◌, ℕ, Option, None, Some, Result, Ok, Err}
use Rattle.oper_core.specs.Meaning.{Meaning}
use Rattle.formats.specs.declared.read_err.ReadErr.{ReadErr}
use Rattle.formats.specs.declared.read_err.ReadErr.TheVariants as of_read
use Rattle.log_records.specs.declared.rewrite_err.RewriteErr.{RewriteErr}
use Rattle.log_records.specs.declared.rewrite_err.RewriteErr.TheVariants as of_rewrite
use Rattle.explain_core.specs.World.{World, run}
use Rattle.running_store.specs.Courses.{Stop}
use Rattle.running_store.specs.Courses.Stop.{Through, Full, At_end, Worn}
use Rattle.cache_manager.specs.declared.install_err.InstallErr.{InstallErr}
use Rattle.cache_manager.specs.declared.install_err.InstallErr.TheVariants as of_install
use Rattle.checkpointing.specs.Courses.{trim_due, turn_due}
use Rattle.checkpointing.specs.declared.due.Due.{Due}
use Rattle.checkpointing.specs.declared.task_outcome.TaskOutcome.{TaskOutcome}
use Rattle.checkpointing.specs.declared.task_outcome.TaskOutcome.TheVariants.{NotDue, Done, LogFull, LsnEnd, Exhausted}
use Rattle.checkpointing.specs.declared.upkeep_report.UpkeepReport.{UpkeepReport}

-- what is told of a task that was due, by what stopped it
abbrev pub outcome_of_stop : Stop → TaskOutcome
outcome_of_stop Through = Done
outcome_of_stop (Full used need limit) = LogFull used need limit
outcome_of_stop (At_end lsn) = LsnEnd lsn
outcome_of_stop (Worn epoch) = Exhausted epoch

-- and of one that was due or not
abbrev pub outcome_of : {T : Type 0} → Option T → Stop → TaskOutcome
outcome_of None stop = NotDue
outcome_of (Some most) stop = outcome_of_stop stop

-- A trim or a turn that is stopped is no failure of upkeep; a fault of the disk, damage, and want of memory are.
abbrev pub outcome_of_trim : {T : Type 0} → Result T RewriteErr → Result TaskOutcome ReadErr
outcome_of_trim (Ok value) = Ok Done
outcome_of_trim (Err (of_rewrite.LogFull used need limit)) = Ok (LogFull used need limit)
outcome_of_trim (Err (of_rewrite.Exhausted epoch)) = Ok (Exhausted epoch)
outcome_of_trim (Err of_rewrite.DiskFault) = Err of_read.DiskFault
outcome_of_trim (Err (of_rewrite.Damaged file place)) = Err (of_read.Damaged file place)
outcome_of_trim (Err of_rewrite.Memory) = Err of_read.Memory

abbrev pub outcome_of_turn : {T : Type 0} → Result T InstallErr → Result TaskOutcome ReadErr
outcome_of_turn (Ok value) = Ok Done
outcome_of_turn (Err (of_install.LogFull used need limit)) = Ok (LogFull used need limit)
outcome_of_turn (Err (of_install.LsnEnd lsn)) = Ok (LsnEnd lsn)
outcome_of_turn (Err of_install.DiskFault) = Err of_read.DiskFault
outcome_of_turn (Err of_install.Memory) = Err of_read.Memory

-- It tells of the trim and of the turn that they were not due, exactly where they were not, and else what stopped them, if anything.
pub record TellsUpkeep {O : Type 0} (m : Meaning O) (due : Due) (epoch copied : ℕ) (w : World O) (used : ℕ) (it : UpkeepReport) : Type 0 where
  pub trim : it.trim ≡ outcome_of due.trim (trim_due m due.trim epoch w used).stop
  pub turn : let c = trim_due m due.trim epoch w used in it.turn ≡ outcome_of due.turn (turn_due m due.turn copied (run m w c.steps) c.used).stop
