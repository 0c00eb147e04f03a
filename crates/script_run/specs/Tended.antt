-- What upkeep does before a line is read.
use Rattle.std.specs.Prelude.{◌≡◌, List, length, IfSome, Bool, true, false, Result, IfErr, OnOk}
use Rattle.disk_model.specs.Disk.{Disk, LeavesOnly, Passes}
use Rattle.disk_model.specs.Silent.{IsSilent}
use Rattle.formats.specs.declared.params.Params.{Params}
use Rattle.explain_core.specs.World.{World, Step, run}
use Rattle.store_engine.specs.Beside.{MayGoBeside}
use Rattle.store_engine.specs.Engine.{EngineView, forced_in, so_far}
use Rattle.store_engine.specs.Upkept.{epoch_in}
use Rattle.store_engine.specs.declared.pace.Pace.{Pace}
use Rattle.shell_base.specs.Stops.{IsCaused, IsUndamaged}
use Rattle.shell_base.specs.Store.{Between, Command, Holds, IsAttached, Kept, meaning_in}
use Rattle.shell_base.specs.declared.stop.Stop.{Stop}
use Rattle.script_run.specs.Courses.{IsBetween}
use Rattle.script_run.specs.Groups.{open_in}
use Rattle.script_run.specs.Stages.{IsTendedIn, paced_in}
use Rattle.script_run.specs.declared.tending.Tending.{Tending}
use Rattle.script_run.specs.declared.tending.Tending.TheVariants.{ByHand, ByLine}

-- how a run tends its store, by whether the words ask for it
abbrev pub tending_of : Bool → Tending
tending_of false = ByHand
tending_of true = ByLine

-- The store was tended: engine and files stand for the same commands, and the same group is open, or none. A trim was done in a log
-- of the epoch that the engine's has. What was done may be done beside a backup, if one is made.
pub record IsTended (tending : Tending) (p : Params) (now : Disk) (before after : EngineView) (pace later : Pace) (w : World Command) (commands : List Command) : Type 0 where
  pub kept : Kept p before now after commands
  pub same : open_in kept.holds.world ≡ open_in w
  pub leads : IsTendedIn (epoch_in before) tending p (paced_in before w pace) (paced_in after kept.holds.world later)
  pub copied : after.copied ≡ before.copied
  pub beside : IfSome before.copied (λ n. (steps : List (Step Command)) × MayGoBeside (meaning_in p) (so_far before.copied) w steps × (kept.holds.world ≡ run (meaning_in p) w steps))

-- Where engine and files stand for commands, it was tended so, or the call has ended early, and nothing is said. What stands
-- before `images` holds on every machine.
pub record Tends {T : Type 0} (tending : Tending) (old now : Disk) (before after : EngineView) (pace later : Pace) (result : Result T Stop) : Type 0 where
  pub time : Passes old now
  pub quiet : old.tells_files → now.said ≡ old.said
  pub cause : IfErr result (λ stop. IsCaused stop old now)
  pub undamaged : old.tells_files → IsAttached old before → IfErr result IsUndamaged
  pub attached : IsAttached old before → OnOk result (IsAttached now after)
  pub unbroken : OnOk result (after.broken ≡ false)
  pub images : (p : Params) (commands : List Command) → Holds p old before commands → old.tells_moments → LeavesOnly old now (Between p old before.group (forced_in before) (length commands) commands)
  pub works : (p : Params) (commands : List Command) → (holds : Holds p old before commands) → old.tells_moments → LeavesOnly old now (IsSilent (IsBetween tending p (paced_in before holds.world pace)) old.said)
  pub done : (p : Params) (commands : List Command) → (holds : Holds p old before commands) → OnOk result (IsTended tending p now before after pace later holds.world commands)
