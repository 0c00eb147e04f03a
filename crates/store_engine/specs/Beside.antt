-- What the calls of an engine leave of a copy of its slots, which is taken object by object meanwhile. Here `disk` is what proofs
-- know of a machine.
use Rattle.std.specs.Prelude.{◌⊎◌, ℕ, List}
use Rattle.disk_model.specs.Disk.{Disk}
use Rattle.oper_core.specs.Cell.{Cell}
use Rattle.oper_core.specs.Meaning.{Meaning}
use Rattle.oper_core.specs.declared.bounds.Bounds.{Bounds}
use Rattle.formats.specs.declared.params.Params.{Params}
use Rattle.explain_core.specs.Backup.{AreBeside, IsCopied}
use Rattle.explain_core.specs.World.{World, Step, AreAllowed}
use Rattle.running_store.specs.Calls.{IsFailed}
use Rattle.running_store.specs.Courses.{Course}
use Rattle.running_store.specs.Taking.{Ending}
use Rattle.store_engine.specs.Engine.{EngineView, FollowsIn, ShowsIn}
use Rattle.store_engine.specs.Grouping.{ungrouped}
use Rattle.store_engine.specs.Store.{meaning_in}

-- the steps may be taken, each in its turn, while the objects below a number are copied
pub record MayGoBeside {O : Type 0} (m : Meaning O) (copied : ℕ) (w : World O) (steps : List (Step O)) : Type 0 where
  pub allowed : AreAllowed m w steps
  pub beside : AreBeside m copied w steps

module _ {O : Type 0} (meaning : Bounds → Meaning O) where
  -- engine and files show a world, and these cells are a copy of its first slots
  pub record ShowsCopied (p : Params) (d : Disk) (engine : EngineView) (copied : ℕ) (cells : ℕ → Cell) : Type 0 where
    pub world : World O
    pub shows : ShowsIn meaning p d engine world
    pub is_copied : IsCopied (meaning_in meaning p) (ungrouped world) copied cells

module _ {O T : Type 0} (meaning : Bounds → Meaning O) (disk : T → Disk) where
  -- a call that takes a course which may go beside the copy, some first steps of it or all, leaves a copy
  abbrev pub CourseKeepsCopy : Type 0
  CourseKeepsCopy = (p : Params) (old new : T) (before after : EngineView) (copied : ℕ) (cells : ℕ → Cell) (w : World O) (course : Course O) (ending : Ending)
      → ShowsIn meaning p (disk old) before w → IsCopied (meaning_in meaning p) (ungrouped w) copied cells → MayGoBeside (meaning_in meaning p) copied w course.steps
      → FollowsIn meaning p (disk new) after w course ending → IsFailed ending ⊎ ShowsCopied meaning p (disk new) after copied cells
