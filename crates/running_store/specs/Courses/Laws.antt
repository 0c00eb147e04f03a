-- Courses one after the other, and what is left of a course when some of its steps are taken.
use Rattle.std.proofs.Common.{◌≡◌, ◌∙◌, sym, ap, ℕ, List, ◌++◌, refl, append_assoc}
use Rattle.std.specs.Prelude.{IsTrue, IsFalse}
use Rattle.std.proofs.lemmas.Bool.{both_ways}
use Rattle.oper_core.specs.Meaning.{Meaning}
use Rattle.explain_core.specs.World.{World, Step, run}
use Rattle.running_store.specs.Courses.{Course, Stop, is_through, course, behind, and_then}
use Rattle.running_store.specs.Courses.Stop.{Through, Full, At_end, Worn}

pub through_is : (stop : Stop) → IsTrue (is_through stop) → stop ≡ Through
through_is Through is = refl
through_is (Full used need limit) is = absurd (both_ways _ refl is)
through_is (At_end lsn) is = absurd (both_ways _ refl is)
through_is (Worn epoch) is = absurd (both_ways _ refl is)

-- all of both where the first is not stopped, else the first
abbrev pub joined : {O : Type 0} → Course O → Course O → Course O
joined first second = course (first.steps ++ second.steps) second.used second.stop

pub behind_both : {O : Type 0} (P : Course O → Type 0) (first second : Course O) (stop : Stop) → (IsTrue (is_through stop) → P (joined first second)) → (IsFalse (is_through stop) → P first) → P (behind first second stop)
behind_both P first second Through go_on ends = go_on refl
behind_both P first second (Full used need limit) go_on ends = ends refl
behind_both P first second (At_end lsn) go_on ends = ends refl
behind_both P first second (Worn epoch) go_on ends = ends refl

pub behind_through : {O : Type 0} (first second : Course O) (stop : Stop) → IsTrue (is_through stop) → behind first second stop ≡ joined first second
behind_through first second stop is = behind_both (λ c. c ≡ joined first second) first second stop (λ yes_through. refl) (λ not_through. absurd (both_ways _ not_through is))

pub behind_stopped : {O : Type 0} (first second : Course O) (stop : Stop) → IsFalse (is_through stop) → behind first second stop ≡ first
behind_stopped first second stop is = behind_both (λ c. c ≡ first) first second stop (λ yes_through. absurd (both_ways _ is yes_through)) (λ not_through. refl)

-- some steps of a whole course are taken, and this course is left of it
abbrev pub IsLeft : {O : Type 0} → Course O → List (Step O) → Course O → Type 0
IsLeft whole taken rest = whole ≡ course (taken ++ rest.steps) rest.used rest.stop

module _ {O : Type 0} (m : Meaning O) (whole : Course O) (taken : List (Step O)) (w : World O) (first : Course O) (next : World O → ℕ → Course O) (left : IsLeft whole taken (and_then m w first next)) where
  -- the first course of two is taken, and the second is left
  pub left_next : first.stop ≡ Through → IsLeft whole (taken ++ first.steps) (next (run m w first.steps) first.used)
  left_next through =
      let second = next (run m w first.steps) first.used in
      left ∙ ap (λ (c : Course O). course (taken ++ c.steps) c.used c.stop) (behind_through first second first.stop (ap is_through through))
      ∙ ap (λ (l : List (Step O)). course l second.used second.stop) (sym (append_assoc taken first.steps second.steps))
