-- Courses that may be taken, one after the other.
use Rattle.std.proofs.Common.{◌≡◌, sym, subst, ap, ℕ, ◌+◌, Bool, false, List, [], ◌∷◌, ◌++◌, length, refl, arith, inl, inr}
use Rattle.std.specs.Prelude.{IsTrue, IsFalse, ◌^◌, ◌&&◌, nat_lt, nat_le, if◌then◌else◌}
use Rattle.std.proofs.lemmas.Bool.{cases_Bool, both_ways, or_parts, cond_both, ltb-false, cond-true, cond-false}
use Rattle.oper_core.specs.Meaning.{Meaning}
use Rattle.explain_core.specs.RunLaws.{run-append, allowed-append}
use Rattle.explain_core.specs.World.{World, Step, Starts, step, run, end_of, AreAllowed, IsAllStable}
use Rattle.explain_core.specs.World.Step.{Block_gate}
use Rattle.running_store.specs.Courses.{Course, is_through, course, and_then, waits, buffered, grown, force_steps, force_course, room_steps, placed}
use Rattle.running_store.specs.Courses.Stop.{Through, Full, At_end}
use Rattle.running_store.specs.Courses.Laws.{behind_both, through_is}
use Rattle.running_store.specs.Running.{IsRunning, running_after, KeepsSound}

-- the steps of the course may be taken, and where nothing stops it the world after them has P
pub record Goes {O : Type 0} (m : Meaning O) (w : World O) (c : Course O) (P : World O → Type 0) : Type 0 where
  pub allowed : AreAllowed m w c.steps
  pub through : c.stop ≡ Through → P (run m w c.steps)

module _ {O : Type 0} (m : Meaning O) where
  pub goes_weaker : (w : World O) (c : Course O) (P Q : World O → Type 0) → ((v : World O) → P v → Q v) → Goes m w c P → Goes m w c Q
  goes_weaker w c P Q so goes = record { allowed = goes.allowed; through = λ e. so (run m w c.steps) (goes.through e) }

  -- a course that is stopped
  stopped : (w : World O) (c : Course O) (P : World O → Type 0) → is_through c.stop ≡ false → AreAllowed m w c.steps → Goes m w c P
  stopped w c P not_through may = record { allowed = may; through = λ e. absurd (both_ways (is_through c.stop) not_through (ap is_through e)) }

  -- one course, and another in the world that the first leaves
  pub goes_next : (w : World O) (first : Course O) (next : World O → ℕ → Course O) (P Q : World O → Type 0) → Goes m w first P
      → (first.stop ≡ Through → P (run m w first.steps) → Goes m (run m w first.steps) (next (run m w first.steps) first.used) Q) → Goes m w (and_then m w first next) Q
  goes_next w first next P Q goes more =
      let second = next (run m w first.steps) first.used in
      behind_both (λ (c : Course O). Goes m w c Q) first second first.stop
      (λ on.
      let through = through_is first.stop on in
      let rest = more through (goes.through through) in
      record {
        allowed = allowed-append m w first.steps second.steps goes.allowed rest.allowed;
        through = λ s. subst Q (sym (run-append m w first.steps second.steps)) (rest.through s);
      })
      (λ ends. stopped w first Q ends goes.allowed)

  -- or in each in which the same holds
  pub goes_then : (w : World O) (first : Course O) (next : World O → ℕ → Course O) (P Q : World O → Type 0) → Goes m w first P → ((v : World O) → P v → Goes m v (next v first.used) Q) → Goes m w (and_then m w first next) Q
  goes_then w first next P Q goes more = goes_next w first next P Q goes (λ through there. more (run m w first.steps) there)

  pub goes_none : (w : World O) (used : ℕ) (P : World O → Type 0) → P w → Goes m w (course [] used Through) P
  unfolding run
  goes_none w used P here = record { allowed = tt; through = λ e. here }

  goes_one : (w : World O) (used : ℕ) (P : World O → Type 0) → AreAllowed m w (Block_gate ∷ []) → P (step m w Block_gate) → Goes m w (course (Block_gate ∷ []) used Through) P
  unfolding run
  goes_one w used P may there = record { allowed = may; through = λ e. there }

  pub goes_if : (w : World O) (b : Bool) (c e : Course O) (P : World O → Type 0) → (IsTrue b → Goes m w c P) → (IsFalse b → Goes m w e P) → Goes m w (if b then c else e) P
  goes_if w b c e P first second = cond_both b c e (λ (c : Course O). Goes m w c P) first second

  -- the world with another part of the log forced
  abbrev pub with_forced : World O → ℕ → List Starts → List Starts → World O
  with_forced w forced tables pending = record w { forced = forced; tables = tables; pending = pending }

  module _ (keeps : KeepsSound m) where
    gate_running : (w : World O) → IsRunning m w → IsRunning m (step m w Block_gate)
    unfolding run
    gate_running w is = running_after m w (Block_gate ∷ []) keeps is (tt, tt) ((is.live, is.alone), tt)

    -- where nothing waits all is stable
    all_stable : (w : World O) → IsRunning m w → IsFalse (waits m w) → IsAllStable w
    all_stable w is none =
        let parts = or_parts (nat_lt w.forced (length w.history)) (nat_lt 0 (length w.pending)) none in
        (omega (arith, ltb-false w.forced (length w.history) parts.0, is.sound.forced), is.alone)

    -- a force, where something waits
    pub force_goes : (w : World O) (used : ℕ) (P : World O → Type 0) → IsRunning m w
        → ((forced : ℕ) (tables pending : List Starts) → IsRunning m (with_forced w forced tables pending) → IsAllStable (with_forced w forced tables pending) → P (with_forced w forced tables pending))
        → Goes m w (force_course m w used) P
    unfolding step
    force_goes w used P is so = elim (cases_Bool (waits m w)) [
      | inl some ↦ subst (λ (l : List (Step O)). Goes m w (course l used Through) P) (sym (cond-true (waits m w) (Block_gate ∷ []) [] some))
          (goes_one w used P ((is.live, is.alone), tt) (so (length w.history) (w.pending ++ w.tables) [] (gate_running w is) (refl, is.alone)))
      | inr none ↦ subst (λ (l : List (Step O)). Goes m w (course l used Through) P) (sym (cond-false (waits m w) (Block_gate ∷ []) [] none))
          (goes_none w used P (so w.forced w.tables w.pending is (all_stable w is none)))
    ]

    pub force_allowed : (w : World O) → IsRunning m w → AreAllowed m w (force_steps m w)
    force_allowed w is = (force_goes w 0 (λ v. IsRunning m v) is (λ forced tables pending running stable. running)).allowed

    -- a force before a record that would make the block too long
    pub room_goes : (w : World O) (n used : ℕ) (P : World O → Type 0) → IsRunning m w
        → ((forced : ℕ) (tables pending : List Starts) → IsRunning m (with_forced w forced tables pending) → P (with_forced w forced tables pending))
        → Goes m w (course (room_steps m w n) used Through) P
    room_goes w n used P is so = elim (cases_Bool (nat_lt (2 ^ 30) (buffered m w + n))) [
      | inl long ↦ subst (λ (l : List (Step O)). Goes m w (course l used Through) P) (sym (cond-true (nat_lt (2 ^ 30) (buffered m w + n)) (force_steps m w) [] long))
          (force_goes w used P is (λ forced tables pending running stable. so forced tables pending running))
      | inr short ↦ subst (λ (l : List (Step O)). Goes m w (course l used Through) P) (sym (cond-false (nat_lt (2 ^ 30) (buffered m w + n)) (force_steps m w) [] short))
          (goes_none w used P (so w.forced w.tables w.pending is))
    ]

    -- a record, where it has room and an LSN
    pub placed_goes : (w : World O) (used limit n : ℕ) (with_lsn : Bool) (steps : List (Step O)) (P : World O → Type 0) → IsRunning m w
        → AreAllowed m w steps → P (run m w steps) → Goes m w (placed m w used limit n with_lsn steps) P
    placed_goes w used limit n with_lsn steps P is may there =
        goes_if w (nat_lt limit (grown m w used n)) (course (force_steps m w) used (Full used (n + 5) limit)) (if with_lsn && nat_le (2 ^ 62) (end_of w) then course (force_steps m w) used (At_end (end_of w)) else course steps (grown m w used n) Through) P
        (λ full. stopped w (course (force_steps m w) used (Full used (n + 5) limit)) P refl (force_allowed w is))
        (λ fits. goes_if w (with_lsn && nat_le (2 ^ 62) (end_of w)) (course (force_steps m w) used (At_end (end_of w))) (course steps (grown m w used n) Through) P
        (λ at_end. stopped w (course (force_steps m w) used (At_end (end_of w))) P refl (force_allowed w is))
        (λ free. record { allowed = may; through = λ e. there }))
