-- The stage with which a call begins: that of the restart, and what is done while the store is opened.
use Rattle.std.specs.Prelude.{◌≡◌, ◌/◌, ◌^◌, ℕ, List, max, min, Option, None, ◌⊎◌}
use Rattle.disk_model.specs.Disk.{Disk, Files}
use Rattle.formats.specs.declared.params.Params.{Params}
use Rattle.explain_core.specs.History.{commands_of}
use Rattle.explain_core.specs.World.{World, run}
use Rattle.explain_core.specs.declared.marks.Marks.{Marks}
use Rattle.restart.specs.Courses.{restart_course}
use Rattle.restart.specs.Opening.{OpensOn}
use Rattle.store_engine.specs.Engine.{EngineView, used_in}
use Rattle.disk_model.specs.Silent.{IsSilent}
use Rattle.standing.specs.Moments.{ShowsSome}
use Rattle.standing.specs.Standing.{FilesShow}
use Rattle.shell_base.specs.declared.budget.Budget.{Budget}
use Rattle.shell_base.specs.declared.budget.Budget.TheVariants.{Usual, Least}
use Rattle.shell_base.specs.Store.{Command, meaning_in}

-- a world that engine and files show, the length of the log, what waits for a force counted, how many identity writes were
-- logged since the restart, and how many objects are copied, while a backup is made
pub record Stage : Type 0 where
  pub world : World Command
  pub used : ℕ
  pub identities : ℕ
  pub copied : Option ℕ

-- that of an engine which shows the world
abbrev pub stage_of : EngineView → World Command → Stage
stage_of engine w = record { world = w; used = used_in engine; identities = engine.identities; copied = engine.copied }

-- How many objects may be dirty in a redo before it installs: as many as have at most 64 MiB together, and at least 64; or as many as
-- have at most 1 MiB together, at least 1, and at most 1,024. A store of version 1 has no more than the first, so its usual redo installs
-- nothing.
abbrev pub redo_dirty : Budget → Params → ℕ
redo_dirty Usual p = max 64 (2 ^ 26 / p.cap)
redo_dirty Least p = max 1 (min 1024 (2 ^ 20 / p.cap))

-- how many records may wait in the graph before that: as many as a graph has room for, or 1,024
abbrev pub redo_waiting : Budget → ℕ
redo_waiting Usual = 2 ^ 28
redo_waiting Least = 1024

-- the marks of a redo: as many nodes at most are installed together as objects may be dirty, or 64, if that is more
abbrev pub marks_of : Budget → Params → Marks
marks_of budget p = record { dirty = redo_dirty budget p; waiting = redo_waiting budget; most = max 64 (redo_dirty budget p) }

-- The first stage of a call: that of a restart with this budget, from a world that the files show, with these commands.
pub record IsFirst (budget : Budget) (p : Params) (commands : List Command) (old : Disk) (first : Stage) : Type 0 where
  pub used : ℕ
  pub world : World Command
  pub found : OpensOn (meaning_in p) p old used world
  pub commands_are : commands_of world.history ≡ commands
  pub world_is : first.world ≡ run (meaning_in p) world (restart_course (meaning_in p) (marks_of budget p) world used).steps
  pub used_is : first.used ≡ (restart_course (meaning_in p) (marks_of budget p) world used).used
  pub none_logged : first.identities ≡ 0
  pub none_copied : first.copied ≡ None

module _ (budget : Budget) (p : Params) (commands : List Command) (old : Disk) (first : Stage) (is : IsFirst budget p commands old first) where
  -- while the store is opened nothing is said, and the image shows the world after some first steps of the restart's course
  abbrev pub OpeningMoment : Files → List ℕ → Type 0
  OpeningMoment files said = IsSilent (ShowsSome (meaning_in p) p is.world (restart_course (meaning_in p) (marks_of budget p) is.world is.used).steps) old.said files said

  -- a moment of a dump: after the opening the image shows the world that the restart has made, whatever is said
  abbrev pub TableMoment : Files → List ℕ → Type 0
  TableMoment files said = OpeningMoment files said ⊎ FilesShow (meaning_in p) p files first.world
