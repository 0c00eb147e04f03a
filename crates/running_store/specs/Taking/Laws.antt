-- Calls that take courses, one after the other: the first course, and then the second unless the first is stopped.
use Rattle.std.proofs.Common.{◌≡◌, sym, subst, ap, ℕ, List, [], refl}
use Rattle.std.specs.Prelude.{IsFalse}
use Rattle.std.proofs.lemmas.Bool.{both_ways}
use Rattle.disk_model.specs.Disk.{Disk, IsDisk}
use Rattle.oper_core.specs.Meaning.{Meaning}
use Rattle.oper_core.specs.declared.bounds.Bounds.{Bounds}
use Rattle.formats.specs.declared.params.Params.{Params}
use Rattle.log_blocks.specs.LogView.{used_of}
use Rattle.explain_core.specs.RunLaws.{run-append}
use Rattle.explain_core.specs.Taken.{IsAfterSome, after_behind, after_longer, after_none}
use Rattle.explain_core.specs.TurnLaws.{run_none}
use Rattle.explain_core.specs.World.{World, Step, run}
use Rattle.standing.specs.Moments.{TakesSome, moments_longer, moments_twice}
use Rattle.running_store.specs.Courses.Laws.{behind_both, behind_stopped, behind_through, joined}
use Rattle.running_store.specs.Courses.{Course, Stop, and_then, behind, course, is_through}
use Rattle.running_store.specs.Courses.Stop.{Through, Full, At_end, Worn}
use Rattle.running_store.specs.Steps.Finished.{IsQuiet}
use Rattle.running_store.specs.Parts.{Parts, Shows, meaning_in}
use Rattle.running_store.specs.Parts.Stored.{stays_shown, store_shown}
use Rattle.running_store.specs.Taking.{Ending, Follows, IsAfter, Takes}
use Rattle.running_store.specs.Taking.Ending.{Done, Stopped, Short, Failed}

-- it ended before all was done
abbrev pub IsCut : Ending → Type 0
IsCut Done = ⊥
IsCut (Stopped stop) = IsFalse (is_through stop)
IsCut Short = Unit {0}
IsCut Failed = Unit {0}

module _ {O : Type 0} (m : Meaning O) (p : Params) (new : Disk) (after : Parts) (w : World O) (first second : Course O) where
  -- where the first is taken, and nothing stops it, the second is what both take
  follows_behind : first.stop ≡ Through → (ending : Ending) → Follows m p new after (run m w first.steps) second ending → Follows m p new after w (behind first second first.stop) ending
  follows_behind through ending is = subst (λ (c : Course O). Follows m p new after w c ending) (sym (behind_through first second first.stop (ap is_through through))) (by_ending ending is)
    where
      both : IsAfter m p new after (run m w first.steps) second → IsAfter m p new after w (joined first second)
      both is = record { shows = subst (λ (v : World O). Shows m p new after v) (sym (run-append m w first.steps second.steps)) is.shows; used = is.used }

      by_ending : (ending : Ending) → Follows m p new after (run m w first.steps) second ending → Follows m p new after w (joined first second) ending
      by_ending Done is = (is.0, both is.1)
      by_ending (Stopped stop) is = (is.0, both is.1)
      by_ending Short is = after_behind m (λ v. Shows m p new after v) w first.steps second.steps is
      by_ending Failed is = tt

  -- where the first is cut, it is all that is taken
  follows_cut : (ending : Ending) → IsCut ending → Follows m p new after w first ending → Follows m p new after w (behind first second first.stop) ending
  follows_cut Done cut is = absurd cut
  follows_cut (Stopped Through) cut is = absurd (both_ways _ cut refl)
  follows_cut (Stopped (Full used need limit)) cut is = subst (λ (c : Course O). Follows m p new after w c (Stopped (Full used need limit))) (sym (behind_stopped first second first.stop (ap is_through is.0))) is
  follows_cut (Stopped (At_end lsn)) cut is = subst (λ (c : Course O). Follows m p new after w c (Stopped (At_end lsn))) (sym (behind_stopped first second first.stop (ap is_through is.0))) is
  follows_cut (Stopped (Worn epoch)) cut is = subst (λ (c : Course O). Follows m p new after w c (Stopped (Worn epoch))) (sym (behind_stopped first second first.stop (ap is_through is.0))) is
  follows_cut Short cut is = behind_both (λ (c : Course O). IsAfterSome m (λ v. Shows m p new after v) w c.steps) first second first.stop (λ on. after_longer m (λ v. Shows m p new after v) w first.steps second.steps is) (λ ends. is)
  follows_cut Failed cut is = tt

-- what was taken of the first is some of both
moments_cut : {O : Type 0} (m : Meaning O) (p : Params) (old new : Disk) (w : World O) (first second : Course O) → TakesSome m p old new w first.steps → TakesSome m p old new w (behind first second first.stop).steps
moments_cut m p old new w first second is =
    behind_both (λ (c : Course _). TakesSome m p old new w c.steps) first second first.stop (λ on. moments_longer m p old new w first.steps second.steps is) (λ ends. is)

module _ {O : Type 0} (meaning : Bounds → Meaning O) (first second : Meaning O → World O → ℕ → Course O) where
  -- one call after the other
  abbrev pub both : Meaning O → World O → ℕ → Course O
  both m w used = and_then m w (first m w used) (second m)

  -- a call that is done, and another after it
  pub takes_both : (old mid new : Disk) (before here after : Parts) (ending : Ending) → IsQuiet old mid → Takes meaning old mid before here first Done → Takes meaning mid new here after second ending
      → Takes meaning old new before after both ending
  takes_both old mid new before here after ending quiet one other = record {
    follows = λ p w shows.
        let m = meaning_in meaning p in
        let c = first m w (used_of before.log.log) in
        let done = one.follows p w shows in
        let next = other.follows p (run m w c.steps) done.1.shows in
        follows_behind m p new after w c (second m (run m w c.steps) c.used) done.0 ending
        (subst (λ (k : ℕ). Follows m p new after (run m w c.steps) (second m (run m w c.steps) k) ending) done.1.used next);
    steps = λ told p w shows.
        let m = meaning_in meaning p in
        let c = first m w (used_of before.log.log) in
        let v = run m w c.steps in
        let done = one.follows p w shows in
        let d = second m v c.used in
        let more = subst (λ (k : ℕ). TakesSome m p mid new v (second m v k).steps) done.1.used (other.steps (quiet.time.moments_told.0 told) p v done.1.shows) in
        subst (λ (e : Course O). TakesSome m p old new w e.steps) (sym (behind_through c d c.stop (ap is_through done.0)))
        (moments_twice m p old mid new w c.steps d.steps (quiet.said shows.told) (one.steps told p w shows) more);
  }

  -- a call that is cut, so that the other is not made
  pub takes_first : (old new : Disk) (before after : Parts) (ending : Ending) → IsCut ending → Takes meaning old new before after first ending → Takes meaning old new before after both ending
  takes_first old new before after ending cut one = record {
    follows = λ p w shows.
        let m = meaning_in meaning p in
        let c = first m w (used_of before.log.log) in
        follows_cut m p new after w c (second m (run m w c.steps) c.used) ending cut (one.follows p w shows);
    steps = λ told p w shows.
        let m = meaning_in meaning p in
        let c = first m w (used_of before.log.log) in
        moments_cut m p old new w c (second m (run m w c.steps) c.used) (one.steps told p w shows);
  }

module _ {O : Type 0} (meaning : Bounds → Meaning O) (old new : Disk) (before after : Parts) where
  -- a course that is the same in each world that is shown
  pub takes_same : (one other : Meaning O → World O → ℕ → Course O) (ending : Ending)
      → ((p : Params) (w : World O) → Shows (meaning_in meaning p) p old before w → one (meaning_in meaning p) w (used_of before.log.log) ≡ other (meaning_in meaning p) w (used_of before.log.log))
      → Takes meaning old new before after one ending → Takes meaning old new before after other ending
  takes_same one other ending same takes = record {
    follows = λ p w shows. let m = meaning_in meaning p in subst (λ (c : Course O). Follows m p new after w c ending) (same p w shows) (takes.follows p w shows);
    steps = λ told p w shows. let m = meaning_in meaning p in subst (λ (c : Course O). TakesSome m p old new w c.steps) (same p w shows) (takes.steps told p w shows);
  }

  -- what is taken before a refusal
  pub takes_stop : (steps : Meaning O → World O → List (Step O)) (stop : Stop) → Takes meaning old new before after (λ m w used. course (steps m w) used Through) Done
      → Takes meaning old new before after (λ m w used. course (steps m w) used stop) (Stopped stop)
  takes_stop steps stop one = record {
    follows = λ p w shows. let is = one.follows p w shows in (refl, record { shows = is.1.shows; used = is.1.used });
    steps = one.steps;
  }

  -- after a fault only the moments say something
  pub takes_failed : (one : Meaning O → World O → ℕ → Course O)
      → (old.tells_moments → (p : Params) (w : World O) → Shows (meaning_in meaning p) p old before w → TakesSome (meaning_in meaning p) p old new w (one (meaning_in meaning p) w (used_of before.log.log)).steps)
      → Takes meaning old new before after one Failed
  takes_failed one steps = record { follows = λ p w shows. tt; steps = steps }

-- where nothing is done
module _ {O : Type 0} (meaning : Bounds → Meaning O) (d : Disk) (it : Parts) (lawful : IsDisk d) where
  here_moments : (steps : Meaning O → World O → List (Step O)) → d.tells_moments → (p : Params) (w : World O) → Shows (meaning_in meaning p) p d it w → TakesSome (meaning_in meaning p) p d d w (steps (meaning_in meaning p) w)
  here_moments steps told p w shows = let m = meaning_in meaning p in stays_shown m p d it.volatile w (steps m w) lawful told (store_shown m p d it w shows)

  -- the course is none
  pub takes_none : Takes meaning d d it it (λ m w used. course [] used Through) Done
  takes_none = record {
    follows = λ p w shows. let m = meaning_in meaning p in (refl, record { shows = subst (λ (v : World O). Shows m p d it v) (sym (run_none m w)) shows; used = refl });
    steps = here_moments (λ m w. []);
  }

  -- or there is no memory to begin
  pub takes_nothing : (whole : Meaning O → World O → ℕ → Course O) → Takes meaning d d it it whole Short
  takes_nothing whole = record {
    follows = λ p w shows. let m = meaning_in meaning p in after_none m (λ v. Shows m p d it v) w (whole m w (used_of it.log.log)).steps shows;
    steps = here_moments (λ m w. (whole m w (used_of it.log.log)).steps);
  }
