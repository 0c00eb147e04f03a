-- The courses of calls beside a copy of the slots, and what they leave of it.
use Rattle.std.proofs.Common.{◌≡◌, subst, sym, refl, ℕ, ◌+◌, Bool, true, false, List, [], ◌∷◌, ◌++◌, inl, inr, ◌⊎◌, Option, None, Some}
use Rattle.std.specs.Prelude.{max, nat_lt, if◌then◌else◌}
use Rattle.std.specs.List.{AllByRecursion}
use Rattle.disk_model.specs.Disk.{Disk}
use Rattle.oper_core.specs.Cell.{Cell}
use Rattle.oper_core.specs.Meaning.{Meaning, IsSmall}
use Rattle.oper_core.specs.declared.bounds.Bounds.{Bounds}
use Rattle.oper_core.specs.declared.refusal.Refusal.{Refusal}
use Rattle.formats.specs.Limits.{log_limit}
use Rattle.formats.specs.Objects.{bounds_of}
use Rattle.formats.specs.declared.params.Params.{Params}
use Rattle.explain_core.specs.Backup.{AreBeside, IsCopied}
use Rattle.explain_core.specs.History.{Member, with_lsn}
use Rattle.explain_core.specs.History.Member.{Identity}
use Rattle.explain_core.specs.RoundGates.{Gate, gate_step, gates_of, picked}
use Rattle.explain_core.specs.RunLaws.{Begins, allowed-append, begins-all, begins-allowed}
use Rattle.explain_core.specs.Sound.{IsSound}
use Rattle.explain_core.specs.TurnLaws.{run_none}
use Rattle.explain_core.specs.World.{World, Step, step, run, AreAllowed}
use Rattle.explain_core.specs.World.Step.{Begin}
use Rattle.running_store.specs.Calls.{IsFailed}
use Rattle.running_store.specs.Courses.{Course, and_then, course, force_steps, grown, is_through, room_steps}
use Rattle.running_store.specs.Courses.Stop.{Through, Full}
use Rattle.running_store.specs.Calls.Rewrites.{checkpoint_length}
use Rattle.running_store.specs.Running.{IsRunning}
use Rattle.running_store.specs.Taking.{Ending}
use Rattle.running_store.specs.Taking.Ending.{Done, Stopped, Short, Failed}
use Rattle.cache_manager.specs.EachStep.{each_append, each_either, each_force, each_room, each_then}
use Rattle.cache_manager.specs.FreeSteps.{IsFree}
use Rattle.cache_manager.specs.InstallCourses.{turn_course}
use Rattle.checkpointing.specs.Courses.{taking_course, checkpoint_steps, checkpoint_course, logged_course, trim_due, turn_due, unstopped, upkeep_course}
use Rattle.checkpointing.specs.declared.due.Due.{Due}
use Rattle.execution.specs.Courses.{append_course, exec_course, refusal_in, unless_refused}
use Rattle.store_engine.specs.Beside.{MayGoBeside, ShowsCopied}
use Rattle.store_engine.specs.Engine.{EngineView, FollowsIn, ShowsIn}
use Rattle.store_engine.specs.Grouping.{ungrouped}
use Rattle.store_engine.specs.Store.{meaning_in}
use Rattle.store_engine.proofs.Begins.{force_still}
use Rattle.store_engine.proofs.CommandSteps.{each_placed}
use Rattle.store_engine.proofs.Keeping.{small_shown}

module _ {O : Type 0} (m : Meaning O) (copied : ℕ) where
  -- all steps may be taken in any world meanwhile
  abbrev AreFree : List (Step O) → Type 0
  AreFree steps = AllByRecursion (IsFree copied) steps

  abbrev free_either : (b : Bool) (c e : Course O) → AreFree c.steps → AreFree e.steps → AreFree (if b then c else e).steps
  free_either = each_either m (IsFree copied)

  abbrev pub free_force : (w : World O) → AllByRecursion (IsFree copied) (force_steps m w)
  free_force = each_force m (IsFree copied) (λ v. tt)

  pub free_begin : (w : World O) → AllByRecursion (IsFree copied) (force_steps m w ++ Begin ∷ [])
  free_begin w = each_append m (IsFree copied) (force_steps m w) (Begin ∷ []) (free_force w) (λ v. tt, tt)

  -- ---- a checkpoint

  free_logged : (w : World O) (used : ℕ) → AreFree (logged_course m w used).steps
  free_logged w used =
      let n = checkpoint_length m w in
      free_either (nat_lt log_limit (grown m w used n)) (course [] used (Full used (n + 5) log_limit)) (course checkpoint_steps (grown m w used n) Through) tt (λ v. tt, (λ v. tt, tt))

  free_taking : (w : World O) (used : ℕ) → AreFree (taking_course m w used).steps
  free_taking w used =
      each_then m (IsFree copied) w (course (room_steps m w (checkpoint_length m w)) used Through) (logged_course m) (each_room m (IsFree copied) (λ v. tt) w (checkpoint_length m w)) (λ v used. free_logged v used)

  pub free_checkpoint : (w : World O) (used : ℕ) → AllByRecursion (IsFree copied) (checkpoint_course m w used).steps
  free_checkpoint w used =
      let c = taking_course m w used in
      free_either (is_through c.stop) c (course (c.steps ++ force_steps m (run m w c.steps)) c.used c.stop) (free_taking w used)
      (each_append m (IsFree copied) c.steps (force_steps m (run m w c.steps)) (free_taking w used) (free_force (run m w c.steps)))

  -- ---- a command

  pub free_exec : (grouped : Bool) (limit : ℕ) (op : O) (w : World O) (used : ℕ) → AllByRecursion (IsFree copied) (exec_course m grouped limit op w used).steps
  free_exec grouped limit op w used = unless (refusal_in m w op)
    where
      unless : (o : Option Refusal) → AreFree (unless_refused used (append_course m grouped limit op w used) o).steps
      unless None = each_placed m (IsFree copied) (λ member v. tt) (λ v. tt) grouped limit op w used
      unless (Some refusal) = tt

module _ {O : Type 0} (m : Meaning O) where
  -- ---- the beginning of a group

  pub begin_may : (w : World O) → IsRunning m w → AreAllowed m w (force_steps m w) → IsRunning m (run m w (force_steps m w)) → AreAllowed m w (force_steps m w ++ Begin ∷ [])
  begin_may w is may after = allowed-append m w (force_steps m w) (Begin ∷ []) may ((after.live, ((force_still m w is.sound.forced).forced, after.alone)), tt)

  -- ---- first steps

  beside_parts : (copied : ℕ) (w : World O) (xs ys : List (Step O)) → AreBeside m copied w (xs ++ ys) → AreBeside m copied w xs × AreBeside m copied (run m w xs) ys
  unfolding run
  beside_parts copied w [] ys are = (tt, are)
  beside_parts copied w (x ∷ xs) ys are = let more = beside_parts copied (step m w x) xs ys are.1 in ((are.0, more.0), more.1)

  beside_both : (copied : ℕ) (w : World O) (xs ys : List (Step O)) → AreBeside m copied w xs → AreBeside m copied (run m w xs) ys → AreBeside m copied w (xs ++ ys)
  unfolding run
  beside_both copied w [] ys first second = second
  beside_both copied w (x ∷ xs) ys first second = (first.0, beside_both copied (step m w x) xs ys first.1 second)

  -- slot gates may be opened beside the copy by the history alone, so any of them may
  beside_picked : (copied : ℕ) (which : List Bool) (v w : World O) (gates : List Gate) → v.history ≡ w.history → AreBeside m copied v (gates_of gates) → AreBeside m copied w (gates_of (picked which gates))
  unfolding step
  beside_picked copied which v w [] same are = tt
  beside_picked copied [] v w (g ∷ gates) same are = tt
  beside_picked copied (true ∷ which) v w (g ∷ gates) same are = (
    λ less. let one = are.0 less in (one.0, one.1, one.2, (one.3.0, subst (λ (h : List (Member O)). with_lsn h one.0 ≡ Some (Identity one.1 one.3.0)) same one.3.1)),
    beside_picked copied which (step m v (gate_step g)) (step m w (gate_step g)) gates same are.1,
  )
  beside_picked copied (false ∷ which) v w (g ∷ gates) same are = beside_picked copied which (step m v (gate_step g)) w gates same are.1

  -- of a course that may go beside the copy some steps may
  front_beside : (copied : ℕ) (w : World O) (steps taken : List (Step O)) → MayGoBeside m copied w steps → Begins steps taken → MayGoBeside m copied w taken
  front_beside copied w steps taken may begins =
      let first = beside_parts copied w begins.front (gates_of begins.gates ++ begins.rest) (subst (λ (l : List (Step O)). AreBeside m copied w l) begins.split may.beside) in
      let v = run m w begins.front in
      let gates = (beside_parts copied v (gates_of begins.gates) begins.rest first.1).0 in
      record {
        allowed = begins-allowed m w steps taken begins may.allowed;
        beside = subst (λ (l : List (Step O)). AreBeside m copied w l) (sym begins.picks) (beside_both copied w begins.front (gates_of (picked begins.which begins.gates)) first.0 (beside_picked copied begins.which v v begins.gates refl gates));
      }

  -- a copy of a world is one of it but for its open group, and back
  pub in_group : (w : World O) (copied : ℕ) (cells : ℕ → Cell) → IsCopied m (ungrouped w) copied cells → IsCopied m w copied cells
  in_group w copied cells is = record { origin = is.origin; since = is.since }

  pub out_of_group : (w : World O) (copied : ℕ) (cells : ℕ → Cell) → IsCopied m w copied cells → IsCopied m (ungrouped w) copied cells
  out_of_group w copied cells is = record { origin = is.origin; since = is.since }

-- a store that is shown has small numbers
small_of : {O : Type 0} (meaning : Bounds → Meaning O) (p : Params) (d : Disk) (engine : EngineView) (w : World O) → ShowsIn meaning p d engine w → IsSmall (bounds_of p)
small_of meaning p d engine w shows = small_shown (meaning_in meaning p) p d engine.parts (ungrouped w) shows.shows

-- the law of lists of steps beside a copy
abbrev pub CopyStays : {O : Type 0} → (Bounds → Meaning O) → Type 0
CopyStays {O} meaning = (b : Bounds) (copied : ℕ) (cells : ℕ → Cell) (w : World O) (steps : List (Step O)) → IsSmall b → IsSound (meaning b) w → IsCopied (meaning b) w copied cells → AreAllowed (meaning b) w steps
    → AreBeside (meaning b) copied w steps → IsCopied (meaning b) (run (meaning b) w steps) copied cells

module _ {O : Type 0} (meaning : Bounds → Meaning O) (stays : CopyStays meaning) where
  pub copy_some : (b : Bounds) (copied : ℕ) (cells : ℕ → Cell) (w : World O) (steps taken : List (Step O)) → IsSmall b → IsSound (meaning b) w → IsCopied (meaning b) (ungrouped w) copied cells
      → MayGoBeside (meaning b) copied w steps → Begins steps taken → IsCopied (meaning b) (ungrouped (run (meaning b) w taken)) copied cells
  copy_some b copied cells w steps taken small sound is may begins =
      let front = front_beside (meaning b) copied w steps taken may begins in
      out_of_group (meaning b) (run (meaning b) w taken) copied cells (stays b copied cells w taken small sound (in_group (meaning b) w copied cells is) front.allowed front.beside)

  module _ (p : Params) (old new : Disk) (before after : EngineView) (copied : ℕ) (cells : ℕ → Cell) (w : World O) where
    abbrev m : Meaning O
    m = meaning_in meaning p

    copy_taken : (steps taken : List (Step O)) → ShowsIn meaning p old before w → IsCopied m (ungrouped w) copied cells → MayGoBeside m copied w steps → Begins steps taken → ShowsIn meaning p new after (run m w taken)
        → ShowsCopied meaning p new after copied cells
    copy_taken steps taken shows is may begins now = record {
      world = run m w taken;
      shows = now;
      is_copied = copy_some (bounds_of p) copied cells w steps taken (small_of meaning p old before w shows) shows.sound is may begins;
    }

    pub copy_course : (c : Course O) (ending : Ending) → ShowsIn meaning p old before w → IsCopied m (ungrouped w) copied cells → MayGoBeside m copied w c.steps → FollowsIn meaning p new after w c ending
        → IsFailed ending ⊎ ShowsCopied meaning p new after copied cells
    copy_course c Done shows is may f = inr (copy_taken c.steps c.steps shows is may (begins-all c.steps) f.1.shows)
    copy_course c (Stopped stop) shows is may f = inr (copy_taken c.steps c.steps shows is may (begins-all c.steps) f.1.shows)
    copy_course c Short shows is may f = inr (copy_taken c.steps f.taken shows is may f.begins f.holds)
    copy_course c Failed shows is may f = inl tt

-- upkeep without a trim is its turn
module _ {O : Type 0} (m : Meaning O) (copied : ℕ) (w : World O) (turns : (most used : ℕ) → AreBeside m copied w (turn_course m copied most w used).steps) where
  turn_beside : (due : Option ℕ) (used : ℕ) → AreBeside m copied w (turn_due m due copied w used).steps
  turn_beside None used = tt
  turn_beside (Some most) used = turns (max 1 most) used

  pub upkeep_beside : (due : Due) (epoch used : ℕ) → due.trim ≡ None → AreBeside m copied w (upkeep_course m due epoch copied w used).steps
  upkeep_beside due epoch used none =
      subst (λ (trim : Option ℕ). AreBeside m copied w (and_then m w (unstopped (trim_due m trim epoch w used)) (λ v used. unstopped (turn_due m due.turn copied v used))).steps) (sym none)
      (subst (λ (v : World O). AreBeside m copied w (turn_due m due.turn copied v used).steps) (sym (run_none m w)) (turn_beside due.turn used))
