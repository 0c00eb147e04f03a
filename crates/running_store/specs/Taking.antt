-- What a call on parts that show a world takes of its course, and how it ends.
pub mod Laws
pub mod Rests
use Rattle.std.specs.Prelude.{◌≡◌, ⊤, ℕ}
use Rattle.disk_model.specs.Disk.{Disk}
use Rattle.oper_core.specs.Meaning.{Meaning}
use Rattle.oper_core.specs.declared.bounds.Bounds.{Bounds}
use Rattle.formats.specs.Objects.{bounds_of}
use Rattle.formats.specs.declared.params.Params.{Params}
use Rattle.log_blocks.specs.LogView.{used_of}
use Rattle.explain_core.specs.Taken.{IsAfterSome}
use Rattle.explain_core.specs.World.{World, run}
use Rattle.standing.specs.Moments.{TakesSome}
use Rattle.running_store.specs.Courses.{Course, Stop}
use Rattle.running_store.specs.Courses.Stop.{Through}
use Rattle.running_store.specs.Laid.Flushed.{AreEarly}
use Rattle.running_store.specs.Parts.{AreInUse, Parts, Shows, meaning_in}

-- how a call ended: well, stopped, short of memory, or by a fault of the disk
pub data Ending : Type 0 where
  Done : Ending
  Stopped : (stop : Stop) → Ending
  Short : Ending
  Failed : Ending

-- parts and files show the world after the whole course, and the log is as long as the course says
pub record IsAfter {O : Type 0} (m : Meaning O) (p : Params) (d : Disk) (it : Parts) (w : World O) (course : Course O) : Type 0 where
  pub shows : Shows m p d it (run m w course.steps)
  pub used : used_of it.log.log ≡ course.used

-- Done, the call took the whole course, which nothing stops; stopped, it took the whole course, which that stops; short of
-- memory, it took some first steps of it; after a fault nothing is said.
abbrev pub Follows : {O : Type 0} → Meaning O → Params → Disk → Parts → World O → Course O → Ending → Type 0
Follows m p d it w course Done = (course.stop ≡ Through) × IsAfter m p d it w course
Follows m p d it w course (Stopped stop) = (course.stop ≡ stop) × IsAfter m p d it w course
Follows m p d it w course Short = IsAfterSome m (λ v. Shows m p d it v) w course.steps
Follows m p d it w course Failed = ⊤

-- The call takes its course, a function of the world that parts and files show as it begins; a crash at any moment of it
-- leaves the world after some first steps of the course.
pub record Takes {O : Type 0} (meaning : Bounds → Meaning O) (old new : Disk) (before after : Parts) (course : Meaning O → World O → ℕ → Course O) (ending : Ending) : Type 0 where
  pub follows : (p : Params) (w : World O) → Shows (meaning_in meaning p) p old before w
      → Follows (meaning_in meaning p) p new after w (course (meaning_in meaning p) w (used_of before.log.log)) ending
  pub steps : old.tells_moments → (p : Params) (w : World O) → Shows (meaning_in meaning p) p old before w
      → TakesSome (meaning_in meaning p) p old new w (course (meaning_in meaning p) w (used_of before.log.log)).steps

-- What holds of parts on every machine: the log is one of the store, the store is in use, and the LSNs of its slots
-- are below the next LSN.
pub record ArePartsInUse (it : Parts) : Type 0 where
  pub bounds : it.log.bounds ≡ bounds_of it.volatile.objects.slots.params
  pub store : AreInUse it.volatile.objects.slots.params it.log.next it.volatile
  pub early : AreEarly it.log.next it.volatile.objects
