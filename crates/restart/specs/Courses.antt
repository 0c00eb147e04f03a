-- What a restart does, as a function of the world that the files show, of the log's length, and of the marks by which its redo
-- installs.
use Rattle.std.specs.Prelude.{ℕ, ◌∷◌, max, min}
use Rattle.oper_core.specs.Meaning.{Meaning}
use Rattle.formats.specs.declared.params.Params.{Params}
use Rattle.explain_core.specs.World.{World, step}
use Rattle.explain_core.specs.World.Step.{Crash}
use Rattle.explain_core.specs.declared.marks.Marks.{Marks}
use Rattle.running_store.specs.Courses.{Course, course, and_then}
use Rattle.running_store.specs.Courses.Stop.{Through}
use Rattle.running_store.specs.Laid.Limits.{objects_within}
use Rattle.checkpointing.specs.Courses.{closing_course}
use Rattle.redo_pass.specs.Redo.{redo_steps}
use Rattle.restart.specs.declared.tuning.Tuning.{Tuning}

-- how many objects may be dirty in a redo before it installs
abbrev pub dirty_limit : Tuning → Params → ℕ
dirty_limit tuning p = min (objects_within tuning.redo_dirty tuning.redo_bytes p) tuning.redo_most

-- the marks of a redo: as many nodes at most are installed together, or more
abbrev pub redo_marks : Tuning → Params → Marks
redo_marks tuning p = record { dirty = dirty_limit tuning p; waiting = tuning.redo_waiting; most = max (dirty_limit tuning p) tuning.redo_round }

-- all turns of the redo, and after them a checkpoint, where the log has room for one
abbrev pub opening_course : {O : Type 0} → Meaning O → Marks → World O → ℕ → Course O
opening_course m marks w used = and_then m w (course (redo_steps m marks w) used Through) (λ v used. closing_course m v used)

-- a crash, and all turns of the redo
abbrev pub redo_course : {O : Type 0} → Meaning O → Marks → World O → ℕ → Course O
redo_course m marks w used = course (Crash ∷ redo_steps m marks (step m w Crash)) used Through

-- and after them a checkpoint, where the log has room for one
abbrev pub restart_course : {O : Type 0} → Meaning O → Marks → World O → ℕ → Course O
restart_course m marks w used = and_then m w (redo_course m marks w used) (λ v used. closing_course m v used)
