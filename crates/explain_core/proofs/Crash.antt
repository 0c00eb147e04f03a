-- A crash keeps a world sound.
use Rattle.std.proofs.Common.{◌≡◌, ◌∙◌, sym, subst, ℕ, zero, suc, ◌+◌, ◌-◌, ◌<◌, ◌≤◌, Bool, List, [], ◌∷◌, length, take, refl, ap, arith, inl, inr, length-take, length-take-le, Option}
use Rattle.std.specs.Prelude.{IsTrue, slice_get, IfSome}
use Rattle.std.specs.List.{AllByRecursion}
use Rattle.std.proofs.lemmas.Bool.{cases_lt, cases_Bool, both_ways, lt-ltb, le-ltb, or_left}
use Rattle.std.proofs.lemmas.Option.{slice_get_past}
use Rattle.std.proofs.lemmas.List.{take_all, take-take}
use Rattle.std.proofs.Math.Nat.{min-le_left, min-le_right, le-min}
use Rattle.install_order.specs.Order.{Access}
use Rattle.oper_core.specs.Meaning.{Meaning, IsLawful}
use Rattle.explain_core.specs.History.{Member, IsHistory, IsMember, accesses_of, value_at, commands_of}
use Rattle.explain_core.specs.Explains.{Explains}
use Rattle.explain_core.specs.World.{World, Starts, step, plan_of, start_of, least_of}
use Rattle.explain_core.specs.World.Step.{Crash}
use Rattle.explain_core.specs.Sound.{IsSound, SkipsNothing, and_below}
use Rattle.explain_core.proofs.Basics.{IsFront, front-take, value_at-same}
use Rattle.explain_core.specs.GraphLaws.{slice_get-take}
use Rattle.explain_core.proofs.Members.{writes-any}
use Rattle.explain_core.proofs.Core.{Explains-same}

pub history-at : {O : Type 0} (m : Meaning O) (o p : Option (Member O)) (u v : ℕ → List ℕ) → o ≡ p → u ≡ v → IfSome o (λ member. IsMember m u member) → IfSome p (λ member. IsMember m v member)
history-at {O} m o p u v e f h =
    subst (λ (q : Option (Member O)). IfSome q (λ member. IsMember m v member)) e (subst (λ (w : ℕ → List ℕ). IfSome o (λ member. IsMember m w member)) f h)

pub history-take : {O : Type 0} (m : Meaning O) (h : List (Member O)) (f : ℕ) → IsHistory m h → IsHistory m (take f h)
history-take {O} m h f e n = elim (cases_lt n f) [
  | inl lt ↦
      history-at m (slice_get h n) (slice_get (take f h) n) (λ x. value_at m h n x) (λ x. value_at m (take f h) n x) (sym (slice_get-take h f n lt))
      (value_at-same m h (take f h) n (λ i below. sym (slice_get-take h f i (omega arith)))) (e n)
  | inr ge ↦ subst (λ (o : Option (Member O)). IfSome o (λ member. IsMember m (λ x. value_at m (take f h) n x) member)) (sym (slice_get_past (take f h) n (omega (arith, length-take f h)))) tt
]

pub least_of-le : (f : ℕ → ℕ) (n rest : ℕ) → least_of f n rest ≤ rest
least_of-le f zero rest = omega arith
least_of-le f (suc n) rest = omega (arith, min-le_right (f n) (least_of f n rest), least_of-le f n rest)

least_of-below : (f : ℕ → ℕ) (n rest x : ℕ) → x < n → least_of f n rest ≤ f x
least_of-below f zero rest x lt = absurd (omega arith)
least_of-below f (suc n) rest x lt = elim (cases_lt x n) [
  | inl below ↦ omega (arith, min-le_right (f n) (least_of f n rest), least_of-below f n rest x below)
  | inr ge ↦ let e : x ≡ n = omega arith in rw e (min-le_left (f n) (least_of f n rest))
]

pub least_of-from : (f : ℕ → ℕ) (n rest base : ℕ) → base ≤ rest → ((x : ℕ) → base ≤ f x) → base ≤ least_of f n rest
least_of-from f zero rest base le each = le
least_of-from f (suc n) rest base le each = le-min (each n) (least_of-from f n rest base le each)

pub base-within : (installed : ℕ → Bool) (base f : ℕ) → ((n : ℕ) → n < base → IsTrue (installed n)) → ((n : ℕ) → IsTrue (installed n) → n ≤ f) → base ≤ f + 1
base-within i base f below within = elim (cases_lt (f + 1) base) [
  | inl lt ↦ absurd (omega (arith, within (f + 1) (below (f + 1) lt)))
  | inr le ↦ le
]

pub same-below : (installed : ℕ → Bool) (k : ℕ) → ((n : ℕ) → n < k → IsTrue (installed n)) → (n : ℕ) → installed n ≡ and_below k installed n
same-below i k inside n = elim (cases_lt n k) [
  | inl lt ↦ inside n lt ∙ sym (or_left _ (i n) (lt-ltb n k lt))
  | inr le ↦ rw (le-ltb n k le) refl
]

-- the plan skips nothing where the stable checkpoints skip nothing
pub plan_fits : (a : Access) (installed : ℕ → Bool) (base end : ℕ) (tables : List Starts) → base ≤ end → ((n : ℕ) → n < base → IsTrue (installed n)) → AllByRecursion (SkipsNothing a installed base end) tables → SkipsNothing a installed base end (plan_of tables base)
plan_fits a i base end [] le below all = record {
  before = λ n x out w. elim (cases_lt n base) [ inl lt ↦ absurd (both_ways _ out (below n lt)) | inr ge ↦ ge ];
  start = λ x. omega arith;
  from_base = λ x. omega arith;
  next_from_base = omega arith;
  next_within = le;
}
plan_fits a i base end (t ∷ ts) le below all = all.0

-- a checkpoint that skips nothing of the whole skips nothing of the stable front
fits-front : (t a : Access) (f : ℕ) (installed : ℕ → Bool) (base end : ℕ) (table : Starts) → IsFront t a f → SkipsNothing a installed base end table → SkipsNothing t installed base end table
fits-front t a f i base end table front h = record {
  before = λ n x out w. elim (cases_lt f n) [
    | inl lt ↦ absurd (both_ways _ (front.no_writes n x lt) w)
    | inr le ↦ h.before n x out (sym (front.writes n x le) ∙ w)
  ];
  start = h.start;
  from_base = h.from_base;
  next_from_base = h.next_from_base;
  next_within = h.next_within;
}

pub all_fit-front : (t a : Access) (f : ℕ) (installed : ℕ → Bool) (base end : ℕ) (tables : List Starts) → IsFront t a f → AllByRecursion (SkipsNothing a installed base end) tables → AllByRecursion (SkipsNothing t installed base end) tables
all_fit-front t a f i base end [] front all = tt
all_fit-front t a f i base end (x ∷ xs) front all = (fits-front t a f i base end x front all.0, all_fit-front t a f i base end xs front all.1)

-- all below the plan's start are installed
pub start-installed : {O : Type 0} (m : Meaning O) → IsLawful m → (h : List (Member O)) (installed : ℕ → Bool) (base end : ℕ) (t : Starts) → IsHistory m h → end ≤ length h + 1 → SkipsNothing (accesses_of m h) installed base end t → IsTrue (installed 0) → (n : ℕ) → n < start_of m.objects t → IsTrue (installed n)
start-installed m law h installed base end t e le fits first zero lt = first
start-installed {O} m law h installed base end t e le fits first (suc n) lt = elim (cases_Bool (installed (suc n))) [
  | inl there ↦ there
  | inr out ↦
      let within : n < length h = omega (arith, least_of-le t.redo_from m.objects t.next, fits.next_within) in
      let w = writes-any m law h n e within in
      absurd (omega (arith, fits.before (suc n) w.0 out w.2, least_of-below t.redo_from m.objects t.next w.0 w.1))
]

pub crash_sound : {O : Type 0} (m : Meaning O) → IsLawful m → (w : World O) → IsSound m w → IsSound m (step m w Crash)
unfolding step
crash_sound {O} m law w s =
    let h = take w.forced w.history in
    let plan = plan_of w.tables w.base in
    let long : length h ≡ w.forced = length-take-le w.forced w.history s.forced in
    let again : take w.forced h ≡ h = take_all w.forced h (omega arith) in
    let front : IsFront (accesses_of m h) (accesses_of m w.history) w.forced = front-take m w.history w.forced s.forced in
    let base : w.base ≤ w.forced + 1 = base-within w.installed w.base w.forced s.below_base s.installed in
    let good : IsHistory m h = history-take m w.history w.forced s.history in
    let tables : AllByRecursion (SkipsNothing (accesses_of m h) w.installed w.base (w.forced + 1)) w.tables = all_fit-front (accesses_of m h) (accesses_of m w.history) w.forced w.installed w.base (w.forced + 1) w.tables front s.tables in
    let fits : SkipsNothing (accesses_of m h) w.installed w.base (w.forced + 1) plan = plan_fits (accesses_of m h) w.installed w.base (w.forced + 1) w.tables base s.below_base tables in
    let start : start_of m.objects plan ≤ plan.next = least_of-le plan.redo_from m.objects plan.next in
    let inside : (n : ℕ) → n < start_of m.objects plan → IsTrue (w.installed n) = start-installed m law h w.installed w.base (w.forced + 1) plan good (omega arith) fits (s.below_base 0 (omega (arith, s.base))) in
    record {
      history = good;
      forced = omega arith;
      installed = s.installed;
      slots = subst (λ (k : List (Member O)). Explains (accesses_of m k) (value_at m k) w.installed w.slots) (sym again) s.slots;
      tables = tables;
      pending = tt;
      base = s.base;
      below_base = s.below_base;
      counted = s.counted ∙ sym (ap (λ (l : List (Member O)). length (commands_of l)) (take-take (w.base - 1) w.forced w.history (omega (arith, base))));
      all_stable = λ old. sym long;
      graph = λ n e. absurd (both_ways _ refl e);
      next = (least_of-from plan.redo_from m.objects plan.next w.base fits.next_from_base fits.from_base, omega (arith, fits.next_within));
      passed = λ n lt out. absurd (both_ways _ out (inside n lt));
      cache = Explains-same (accesses_of m h) (value_at m h) w.installed (and_below (start_of m.objects plan) w.installed) w.slots (same-below w.installed (start_of m.objects plan) inside) s.slots;
      cache_right = λ x out. elim (s.slots.origin x) [
        | inl z ↦ z.1 ∙ sym (ap (λ n. value_at m h n x) z.0)
        | inr g ↦ absurd (both_ways _ out g.0)
      ];
      cache_late = λ n x e out wr. absurd (both_ways _ refl e);
      dirty = λ x ne. absurd (ne refl);
      group = tt;
    }
