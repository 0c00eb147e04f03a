-- A store is made larger.
use Rattle.std.specs.Prelude.{◌≡◌, ◌≢◌, ◌⊎◌, ◌<◌, ◌++◌, ⊤, ℕ, List}
use Rattle.disk_model.specs.Disk.{Files, Disk, LeavesOnly, IsSettled, OthersStay, SaysFront}
use Rattle.disk_model.specs.declared.machine.FileNo.TheVariants.{Objects}
use Rattle.formats.specs.Objects.{IsObjectsFile, cell_of}
use Rattle.formats.specs.declared.params.Params.{Params}
use Rattle.stable_objects.specs.Upgrades.Growing.{IsGrown}
use Rattle.stable_objects.specs.Upgrades.Larger.{IsLarger}
use Rattle.explain_core.specs.World.{World}
use Rattle.standing.specs.Standing.{FilesShow}
use Rattle.restart.specs.Starts.{OrAtStart}
use Rattle.store_engine.specs.Engine.{InEachImage}
use Rattle.store_engine.specs.Upgrading.{IsSecond}
use Rattle.shell_base.specs.declared.budget.Budget.{Budget}
use Rattle.shell_base.specs.Again.{IsStartRefused}
use Rattle.shell_base.specs.Judging.{ReadsNoStore}
use Rattle.shell_base.specs.First.{OpeningMoment, Stage, IsFirst}
use Rattle.shell_base.specs.Notices as notices
use Rattle.shell_base.specs.Status.{IsOfSecond, IsOfUpgrade}
use Rattle.shell_base.specs.Store.{Command, IsUpgraded, Opens, Stands, StandsInEither, meaning_in}
use Rattle.shell_base.specs.declared.status.Status.{Status}
use Rattle.shell_base.specs.declared.status.Status.TheVariants.{Done, NotAStore, DiskFault, Memory, RestartMemory, AlreadyTwo, Smaller}
use Rattle.store_words.specs.Cut.{JudgesUpgrade, last_length}

-- The line that says why a store in these files, with the numbers p, is not made one with the numbers q: it is of version 2, one of
-- its own numbers is greater, or its objects file is cut.
abbrev pub IsWhyNot : Params → Params → Files → List ℕ → Type 0
IsWhyNot p q files line = (IsSecond files × (line ≡ notices.already_version_two))
    ⊎ (((IsLarger p q → ⊥) × (line ≡ notices.smaller p.objects p.cap)) ⊎ (line ≡ notices.damaged Objects (last_length (files Objects))))

-- after these bytes nothing was said, or a part of that line
abbrev pub SaysWhyNot : Params → Params → Files → List ℕ → List ℕ → Type 0
SaysWhyNot p q files before said = (said ≡ before) ⊎ ((line : List ℕ) × IsWhyNot p q files line × SaysFront line before said)

-- A moment of an upgrade of a store that was in such files: they stand for these commands, in the store that was there or in the
-- larger one, and no more was said than why it is not made larger.
abbrev pub UpgradeMoment : Params → Params → List Command → Files → List ℕ → Files → List ℕ → Type 0
UpgradeMoment p q commands was before files said = StandsInEither p q commands files × SaysWhyNot p q was before said

-- each object of a store with these numbers has the pair that it had
pub record KeepsPairs (p : Params) (old new : List ℕ) : Type 0 where
  pub whole : IsObjectsFile p new
  pub cells : (x : ℕ) → x < p.objects → cell_of x new ≡ cell_of x old

-- A store of version 1 with smaller numbers becomes the larger one, in files that show this world: of these the objects file alone
-- changes, each object keeps its pair in it, and it may be that of the larger store.
pub record IsBecoming (p q : Params) (w : World Command) (files : Files) : Type 0 where
  pub there : Files
  pub shows : FilesShow (meaning_in p) p there w
  pub first : IsSecond there → ⊥
  pub larger : IsLarger p q
  pub others : OthersStay Objects there files
  pub objects : KeepsPairs p (there Objects) (files Objects) ⊎ IsGrown p q (there Objects) (files Objects)

-- what is done of a store that showed this world: nothing, or it becomes the larger one
abbrev pub ShowsOrGrows : Params → Params → World Command → Files → Type 0
ShowsOrGrows p q w files = FilesShow (meaning_in p) p files w ⊎ IsBecoming p q w files

-- nothing is said where it ends so
abbrev pub IsSilentUpgrade : Status → Type 0
IsSilentUpgrade Done = ⊤
IsSilentUpgrade DiskFault = ⊤
IsSilentUpgrade Memory = ⊤
IsSilentUpgrade RestartMemory = ⊤
IsSilentUpgrade status = ⊥

-- what the upgrade of an open store leaves and says, whatever its status, where engine and files showed this world
pub record LeavesEither (p q : Params) (commands : List Command) (w : World Command) (old new : Disk) : Type 0 where
  pub images : old.tells_moments → LeavesOnly old new (UpgradeMoment p q commands old.reads old.said)
  pub stands : InEachImage new (StandsInEither p q commands)
  pub said : SaysWhyNot p q old.reads old.said new.said
  pub steps : old.tells_moments → LeavesOnly old new (λ files said. ShowsOrGrows p q w files)

-- What is done at each moment of an upgrade: the restart takes its course, and then nothing is done, or the store becomes the larger
-- one.
module _ (budget : Budget) (p q : Params) (commands : List Command) (old : Disk) (first : Stage) (is : IsFirst budget p commands old first) where
  abbrev pub GrowthMoment : Files → List ℕ → Type 0
  GrowthMoment files said = OpeningMoment budget p commands old first is files said ⊎ ShowsOrGrows p q first.world files

-- A store is made larger, with the numbers q, of files that stand for commands.
pub record IsUpgradeOn (budget : Budget) (p q : Params) (commands : List Command) (old new : Disk) (status : Status) : Type 0 where
  -- what a crash at any moment leaves is what one at the start could leave, or it stands for these commands, in the store that
  -- was there or in the larger one, and no more was said than why it is not made larger
  pub images : old.tells_moments → LeavesOnly old new (OrAtStart old (UpgradeMoment p q commands old.reads old.said))
  pub from_settled : old.tells_moments → IsSettled old → LeavesOnly old new (UpgradeMoment p q commands old.reads old.said)
  -- but where the disk may have failed, or memory the opening, that is so of the files then
  pub stands : status ≢ DiskFault → status ≢ RestartMemory → InEachImage new (StandsInEither p q commands)
  -- with status 0 they are those of the larger store
  pub done : status ≡ Done → InEachImage new (IsUpgraded q commands)
  -- with status 0, and with 5 and 8, nothing is said, and with no status more than why it is not made larger
  pub quiet : IsSilentUpgrade status → new.said ≡ old.said
  pub said : SaysWhyNot p q old.reads old.said new.said
  -- a store of version 2 is not made larger, and that is said
  pub second : IsSecond old.reads → IsOfSecond status
  pub already : status ≡ AlreadyTwo → IsSecond old.reads × (new.said ≡ old.said ++ notices.already_version_two)
  -- no number of the store is greater than it was to get; where one is, that is said
  pub larger : status ≡ Done → IsLarger p q
  pub smaller : status ≡ Smaller → (IsLarger p q → ⊥) × (new.said ≡ old.said ++ notices.smaller p.objects p.cap)
  -- where the restart was refused memory, the files stand for these commands still
  pub unopened : old.tells_moments → status ≡ RestartMemory → IsStartRefused budget p commands old new
  -- with each of these two it is left as it was
  pub idle : (status ≡ AlreadyTwo) ⊎ (status ≡ Smaller) → InEachImage new (λ files. Stands p files commands)
  pub store : status ≢ NotAStore
  -- the restart takes its course, and nothing else is done but that the store grows: a crash at any moment leaves what one at the
  -- start could leave, or the world after some first steps of the course, or after all of it that of the store or the larger one
  pub steps : old.tells_moments → (first : Stage) → (is : IsFirst budget p commands old first) → LeavesOnly old new (OrAtStart old (GrowthMoment budget p q commands old first is))

-- An upgrade of any files.
pub record IsUpgradeCall (budget : Budget) (q : Params) (old new : Disk) (status : Status) : Type 0 where
  pub stands : (p : Params) (commands : List Command) → Opens p old commands → IsUpgradeOn budget p q commands old new status
  pub ends : IsOfUpgrade status
  pub judged : old.tells_files → JudgesUpgrade old new status
  pub read : status ≡ NotAStore → ReadsNoStore new
