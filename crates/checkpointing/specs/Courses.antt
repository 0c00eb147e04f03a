-- What a checkpoint, a trim, the checkpoint at the end of a restart, and upkeep do, as functions of the world and of the log's length.
-- No group is open in the world.
use Rattle.std.specs.Prelude.{◌≡◌, ◌≤◌, ◌+◌, ◌/◌, ◌^◌, ℕ, nat_lt, nat_le, if◌then◌else◌, List, [], ◌∷◌, ◌++◌, Option, None, Some, IfSome, max, min}
use Rattle.oper_core.specs.Meaning.{Meaning}
use Rattle.explain_core.specs.World.{World, Step, run}
use Rattle.explain_core.specs.World.Step.{Block_gate, Checkpoint}
use Rattle.running_store.specs.Courses.{Course, is_through, course, and_then, grown, force_steps, force_course, room_steps}
use Rattle.running_store.specs.Courses.Stop.{Through, Full, Worn}
use Rattle.formats.specs.Limits.{log_limit, lsn_end}
use Rattle.formats.specs.declared.params.Params.{Params}
use Rattle.running_store.specs.Laid.Limits.{objects_within}
use Rattle.running_store.specs.Calls.Rewrites.{checkpoint_length, rewrite_within}
use Rattle.cache_manager.specs.InstallCourses.{turn_course}
use Rattle.checkpointing.specs.declared.due.Due.{Due}

-- the same steps, where it does not matter what stops them
abbrev pub unstopped : {O : Type 0} → Course O → Course O
unstopped c = course c.steps c.used Through

-- a checkpoint is taken, and forced
abbrev pub checkpoint_steps : {O : Type 0} → List (Step O)
checkpoint_steps = Checkpoint ∷ Block_gate ∷ []

module _ {O : Type 0} (m : Meaning O) where
  -- a checkpoint is logged and forced, where the log has a place for it
  abbrev pub logged_course : World O → ℕ → Course O
  logged_course w used =
      let n = checkpoint_length m w in
      if nat_lt log_limit (grown m w used n) then course [] used (Full used (n + 5) log_limit) else course checkpoint_steps (grown m w used n) Through

  -- room is made for it first
  abbrev pub taking_course : World O → ℕ → Course O
  taking_course w used = and_then m w (course (room_steps m w (checkpoint_length m w)) used Through) logged_course

  -- The checkpoint of a call; where it is refused, what waits is forced.
  abbrev pub checkpoint_course : World O → ℕ → Course O
  checkpoint_course w used =
      let c = taking_course w used in
      if is_through c.stop then c else course (c.steps ++ force_steps m (run m w c.steps)) c.used c.stop

  -- A restart ends with such a checkpoint, or, where the log has no place for it, with none.
  abbrev pub closing_course : World O → ℕ → Course O
  closing_course w used = let c = taking_course w used in course c.steps c.used Through

  -- A trim of a log of this epoch: of the last one (`lsn_end`) none is made; else all that waits is forced, and the log rewritten,
  -- where the file of the new one has at most so many bytes.
  abbrev pub trim_within : ℕ → ℕ → World O → ℕ → Course O
  trim_within most epoch w used =
      if nat_le lsn_end epoch then course [] used (Worn epoch) else and_then m w (force_course m w used) (rewrite_within m most)

  -- that of a call: it may be as long as a log's
  abbrev pub trim_course : ℕ → World O → ℕ → Course O
  trim_course = trim_within log_limit

  -- the trim and the turn of upkeep, each where it is due
  abbrev pub trim_due : Option ℕ → ℕ → World O → ℕ → Course O
  trim_due None epoch w used = course [] used Through
  trim_due (Some most) epoch w used = trim_within most epoch w used

  abbrev pub turn_due : Option ℕ → ℕ → World O → ℕ → Course O
  turn_due None copied w used = course [] used Through
  turn_due (Some most) copied w used = turn_course m copied (max 1 most) w used

  -- Upkeep: first the one, and, though that may be stopped, then the other.
  abbrev pub upkeep_course : Due → ℕ → ℕ → World O → ℕ → Course O
  upkeep_course due epoch copied w used =
      and_then m w (unstopped (trim_due due.trim epoch w used)) (λ v used. unstopped (turn_due due.turn copied v used))

-- No more upkeep is due than this, where the log has so many bytes: a trim to 2^20 bytes and to half of that, but none while the
-- slots are copied; and a turn of a full round.
pub record IsModest (p : Params) (copied : Option ℕ) (used : ℕ) (due : Due) : Type 0 where
  pub trim : IfSome due.trim (λ most. most ≤ min (2 ^ 20) (used / 2))
  pub beside : IfSome copied (λ n. due.trim ≡ None)
  pub turn : IfSome due.turn (λ most. most ≤ objects_within 64 (2 ^ 20) p)
