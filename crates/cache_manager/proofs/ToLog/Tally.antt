-- What steps log, one list of them after the other: each object that they log could be logged before, and not again.
use Rattle.std.proofs.Common.{◌≡◌, ◌∙◌, sym, subst, ap, ℕ, ◌+◌, ◌<◌, ◌≤◌, Bool, List, [], ◌∷◌, ◌++◌, length, refl, arith, inl, inr, append_assoc, length-append, ◌⊎◌}
use Rattle.std.specs.Prelude.{IsTrue, IsFalse, ◌==◌, ◌||◌, nat_eq, if◌then◌else◌}
use Rattle.std.proofs.lemmas.Bool.{both_ways, or_cases, or_left, or_right, or_from, eq-eqb, ne_eqb, eqb-true, cond_both, false_from_ne_true}
use Rattle.std.proofs.lemmas.List.{append-nil}
use Rattle.std.proofs.lemmas.List.Folds.{list_any-append}
use Rattle.oper_core.specs.State.{is_among}
use Rattle.oper_core.specs.Meaning.{Meaning}
use Rattle.explain_core.specs.CountLaws.{count_more}
use Rattle.explain_core.specs.RunLaws.{run-append}
use Rattle.explain_core.specs.Turns.{count_below}
use Rattle.explain_core.specs.World.{World, Step, run}
use Rattle.running_store.specs.Courses.{Course, and_then}
use Rattle.cache_manager.specs.InstallCourses.{logged_by, logged_in}
use Rattle.running_store.specs.Courses.Laws.{behind_both, through_is}
use Rattle.cache_manager.proofs.Counts.{count_le}
use Rattle.cache_manager.proofs.Goes.{Goes}
use Rattle.cache_manager.proofs.Lists.{AreApart}
use Rattle.cache_manager.proofs.Plain.{is_plain, plain_in}

pub logged-append : {O : Type 0} (xs ys : List (Step O)) → logged_in (xs ++ ys) ≡ logged_in xs ++ logged_in ys
logged-append [] ys = refl
logged-append (s ∷ xs) ys = ap (λ (l : List ℕ). logged_by s ++ l) (logged-append xs ys) ∙ sym (append_assoc (logged_by s) (logged_in xs) (logged_in ys))

pub among_append : (x : ℕ) (xs ys : List ℕ) → IsTrue (is_among x (xs ++ ys)) → IsTrue (is_among x xs) ⊎ IsTrue (is_among x ys)
among_append x xs ys there = or_cases (is_among x xs) (is_among x ys) (sym (list_any-append (λ y. x == y) xs ys) ∙ there)

-- two lists of different objects that share none
pub apart_append : (xs ys : List ℕ) → AreApart xs → AreApart ys → ((x : ℕ) → IsTrue (is_among x xs) → IsTrue (is_among x ys) → ⊥) → AreApart (xs ++ ys)
apart_append [] ys first second none = second
apart_append (x ∷ xs) ys first second none = (
  false_from_ne_true _ (λ there. elim (among_append x xs ys there) [
    | inl in_first ↦ both_ways _ first.0 in_first
    | inr in_second ↦ none x (or_left (x == x) (is_among x xs) (eq-eqb x x refl)) in_second
  ]),
  apart_append xs ys first.1 second (λ y in_first in_second. none y (or_right (y == x) (is_among y xs) in_first) in_second),
)

-- different objects that pass one test and not another make it pass so many more
pub counted_apart : (n : ℕ) (objects : List ℕ) (p q : ℕ → Bool) → AreApart objects → ((k : ℕ) → IsTrue (p k) → IsTrue (q k))
    → ((x : ℕ) → IsTrue (is_among x objects) → (x < n) × IsFalse (p x) × IsTrue (q x)) → count_below n p + length objects ≤ count_below n q
counted_apart n [] p q apart so each = omega (arith, count_le n p q (λ k lt held. so k held))
counted_apart n (x ∷ objects) p q apart so each =
    let here = each x (or_left (x == x) (is_among x objects) (eq-eqb x x refl)) in
    let rest = counted_apart n objects (λ k. nat_eq k x || p k) q apart.1
    (λ k held. elim (or_cases (nat_eq k x) (p k) held) [ inl same ↦ subst (λ (j : ℕ). IsTrue (q j)) (sym (eqb-true k x same)) here.2 | inr old ↦ so k old ])
    (λ y there.
    let old = each y (or_right (y == x) (is_among y objects) there) in
    (old.0, or_from (nat_eq y x) (p y) (ne_eqb y x (λ same. both_ways _ apart.0 (subst (λ (z : ℕ). IsTrue (is_among z objects)) same there))) old.1, old.2)) in
    omega (arith, rest, count_more n x p here.0 here.1)

-- after the steps no object may be logged that could not before, and none of those that they log
pub record Tally {O : Type 0} (m : Meaning O) (w : World O) (steps : List (Step O)) : Type 0 where
  pub plain : (y : ℕ) → IsTrue (is_plain (run m w steps) y) → IsTrue (is_plain w y)
  pub logged : (x : ℕ) → IsTrue (is_among x (logged_in steps)) → (x < m.objects) × IsFalse (is_plain (run m w steps) x) × IsTrue (is_plain w x)
  pub apart : AreApart (logged_in steps)

-- nothing is logged, or fewer objects than could be
abbrev pub IsFewer : {O : Type 0} → Meaning O → World O → List (Step O) → Type 0
IsFewer m w steps = (logged_in steps ≡ []) ⊎ (length (logged_in steps) < plain_in m w)

module _ {O : Type 0} (m : Meaning O) where
  -- so many objects less may be logged
  pub tally_count : (w : World O) (steps : List (Step O)) → Tally m w steps → plain_in m (run m w steps) + length (logged_in steps) ≤ plain_in m w
  tally_count w steps tally = counted_apart m.objects (logged_in steps) (is_plain (run m w steps)) (is_plain w) tally.apart tally.plain tally.logged

  -- steps that log nothing
  pub tally_none : (w : World O) (steps : List (Step O)) → logged_in steps ≡ [] → ((y : ℕ) → IsTrue (is_plain (run m w steps) y) → IsTrue (is_plain w y)) → Tally m w steps
  tally_none w steps none plain = record {
    plain = plain;
    logged = λ x there. absurd (both_ways _ refl (subst (λ (l : List ℕ). IsTrue (is_among x l)) none there));
    apart = subst AreApart (sym none) tt;
  }

  pub tally_append : (w : World O) (xs ys : List (Step O)) → Tally m w xs → Tally m (run m w xs) ys → Tally m w (xs ++ ys)
  tally_append w xs ys first second =
      let after : run m w (xs ++ ys) ≡ run m (run m w xs) ys = run-append m w xs ys in
      let all : logged_in (xs ++ ys) ≡ logged_in xs ++ logged_in ys = logged-append xs ys in
      record {
        plain = λ y is. first.plain y (second.plain y (subst (λ (v : World O). IsTrue (is_plain v y)) after is));
        logged = λ x there. elim (among_append x (logged_in xs) (logged_in ys) (subst (λ (l : List ℕ). IsTrue (is_among x l)) all there)) [
          | inl before ↦
              let old = first.logged x before in
              (old.0, subst (λ (v : World O). IsFalse (is_plain v x)) (sym after) (false_from_ne_true _ (λ is. both_ways _ old.1 (second.plain x is))), old.2)
          | inr later ↦
              let new = second.logged x later in
              (new.0, subst (λ (v : World O). IsFalse (is_plain v x)) (sym after) new.1, first.plain x new.2)
        ];
        apart = subst AreApart (sym all) (apart_append (logged_in xs) (logged_in ys) first.apart second.apart (λ x before later. both_ways _ (first.logged x before).1 (second.logged x later).2));
      }

  pub tally_if : (w : World O) (b : Bool) (c e : Course O) → (IsTrue b → Tally m w c.steps) → (IsFalse b → Tally m w e.steps) → Tally m w (if b then c else e).steps
  tally_if w b c e first second = cond_both b c e (λ (c : Course O). Tally m w c.steps) first second

  pub tally_then : (w : World O) (first : Course O) (next : World O → ℕ → Course O) (P : World O → Type 0) → Goes m w first P → Tally m w first.steps → ((v : World O) → P v → Tally m v (next v first.used).steps) → Tally m w (and_then m w first next).steps
  tally_then w first next P goes a b =
      let second = next (run m w first.steps) first.used in
      behind_both (λ (c : Course O). Tally m w c.steps) first second first.stop (λ on. tally_append w first.steps second.steps a (b (run m w first.steps) (goes.through (through_is first.stop on)))) (λ ends. a)

  -- fewer are logged by two lists of steps
  fewer_append : (w : World O) (xs ys : List (Step O)) → Tally m w xs → IsFewer m w xs → IsFewer m (run m w xs) ys → IsFewer m w (xs ++ ys)
  fewer_append w xs ys tally first second =
      let all : logged_in (xs ++ ys) ≡ logged_in xs ++ logged_in ys = logged-append xs ys in
      let count : length (logged_in (xs ++ ys)) ≡ length (logged_in xs) + length (logged_in ys) = ap length all ∙ length-append (logged_in xs) (logged_in ys) in
      elim second [
        | inl none ↦
            let same : logged_in (xs ++ ys) ≡ logged_in xs = all ∙ ap (λ (l : List ℕ). logged_in xs ++ l) none ∙ append-nil (logged_in xs) in
            subst (λ (l : List ℕ). (l ≡ []) ⊎ (length l < plain_in m w)) (sym same) first
        | inr fewer ↦ inr (omega (arith, fewer, count, tally_count w xs tally))
      ]

  pub fewer_then : (w : World O) (first : Course O) (next : World O → ℕ → Course O) (P : World O → Type 0) → Goes m w first P → Tally m w first.steps → IsFewer m w first.steps → ((v : World O) → P v → IsFewer m v (next v first.used).steps) → IsFewer m w (and_then m w first next).steps
  fewer_then w first next P goes tally a b =
      let second = next (run m w first.steps) first.used in
      behind_both (λ (c : Course O). IsFewer m w c.steps) first second first.stop (λ on. fewer_append w first.steps second.steps tally a (b (run m w first.steps) (goes.through (through_is first.stop on)))) (λ ends. a)
