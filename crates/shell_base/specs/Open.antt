-- A store that was opened, or not.
use Rattle.std.specs.Prelude.{◌≡◌, ◌≢◌, List, length, None}
use Rattle.disk_model.specs.Disk.{Disk, LeavesOnly, Rises}
use Rattle.formats.specs.declared.params.Params.{Params}
use Rattle.stable_objects.specs.declared.open_err.OpenErr.{OpenErr}
use Rattle.stable_objects.specs.declared.open_err.OpenErr.TheVariants.{DiskFault}
use Rattle.restart.specs.Starts.{OrAtStart}
use Rattle.store_engine.specs.Engine.{EngineView, forced_in}
use Rattle.shell_base.specs.Judging.{CountsFaults, JudgesFiles, ReadsNoStore}
use Rattle.shell_base.specs.declared.budget.Budget.{Budget}
use Rattle.shell_base.specs.First.{Stage, IsFirst, stage_of, OpeningMoment}
use Rattle.shell_base.specs.Status.{IsOfUnopened}
use Rattle.shell_base.specs.Store.{Command, IsWellFormed, Holds, Between, Opens}
use Rattle.shell_base.specs.declared.status.Status.{Status}
use Rattle.shell_base.specs.declared.status.Status.TheVariants.{NotAStore, DiskFault as DiskFailed, SayFault, Memory}

-- What the opening of files that stand for commands leaves: nothing is said, and at each moment there is what a crash at the
-- start could leave, or files that stand for the commands. There is a stage that a restart with this budget makes of
-- the files.
pub record OpensFiles (budget : Budget) (p : Params) (commands : List Command) (old new : Disk) : Type 0 where
  pub quiet : new.said ≡ old.said
  pub images : old.tells_moments → LeavesOnly old new (OrAtStart old (Between p old None (length commands) (length commands) commands))
  -- what reads give then stands for them, whether the store was opened or not
  pub again : old.tells_moments → Opens p new commands
  pub first : (first : Stage) × IsFirst budget p commands old first
  pub steps : old.tells_moments → (first : Stage) → (is : IsFirst budget p commands old first) → LeavesOnly old new (OrAtStart old (OpeningMoment budget p commands old first is))

-- An engine on files that stand for commands, all of them forced, with no group open and no backup made. Each stage that a
-- restart may make of the files is the engine's, by a world that it shows.
pub record IsOpen (budget : Budget) (p : Params) (commands : List Command) (old new : Disk) (engine : EngineView) : Type 0 where
  pub all : forced_in engine ≡ length commands
  pub alone : engine.group ≡ None
  pub uncopied : engine.copied ≡ None
  pub shows : (first : Stage) → IsFirst budget p commands old first → (holds : Holds p new engine commands) × (first ≡ stage_of engine holds.world)

-- Why the store was not opened, by the status that the program ends with. On files that meet their format it says nothing.
pub record IsUnopened (old new : Disk) (status : Status) : Type 0 where
  pub ends : IsOfUnopened status
  pub judged : old.tells_files → JudgesFiles old new status
  pub read : status ≡ NotAStore → ReadsNoStore new
  pub quiet : old.tells_files → IsWellFormed old.reads → (status ≢ SayFault) × (status ≢ Memory)
  pub faults : CountsFaults old new status

-- Where a store was not opened for this cause, a fault of the disk is reported only where it is the cause, and one of the
-- output only where that was counted.
pub record HandsOn (cause : OpenErr) (old new : Disk) (status : Status) : Type 0 where
  pub disk : status ≡ DiskFailed → cause ≡ DiskFault
  pub output : status ≡ SayFault → Rises old.say_faults new.say_faults
