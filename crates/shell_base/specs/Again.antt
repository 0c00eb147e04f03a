-- A call whose restart was refused memory leaves what it found, so that it may be made again.
use Rattle.std.specs.Prelude.{◌≡◌, List}
use Rattle.disk_model.specs.Disk.{Disk, LeavesOnly}
use Rattle.formats.specs.declared.params.Params.{Params}
use Rattle.restart.specs.Starts.{OrAtStart}
use Rattle.shell_base.specs.declared.budget.Budget.{Budget}
use Rattle.shell_base.specs.First.{OpeningMoment, Stage, IsFirst}
use Rattle.shell_base.specs.Store.{Command, Opens, Stands}

-- What reads give stands for the commands that it stood for, and nothing was said. What a crash at any moment leaves is what
-- one at the start could leave, or it stands for these commands alone.
pub record StandsStill (p : Params) (commands : List Command) (old new : Disk) : Type 0 where
  pub opens : Opens p new commands
  pub quiet : new.said ≡ old.said
  pub images : LeavesOnly old new (OrAtStart old (λ files said. Stands p files commands × (said ≡ old.said)))

-- So it does where a restart with this budget was refused memory, and from each stage that the restart may make of the files each
-- image shows the world after some first steps of its course, or is one that a crash at the start could leave.
pub record IsStartRefused (budget : Budget) (p : Params) (commands : List Command) (old new : Disk) : Type 0 where
  pub still : StandsStill p commands old new
  pub steps : (first : Stage) → (is : IsFirst budget p commands old first) → LeavesOnly old new (OrAtStart old (OpeningMoment budget p commands old first is))
