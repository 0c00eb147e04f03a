-- The opening of a block's gate keeps a world sound.
use Rattle.std.proofs.Common.{◌≡◌, sym, subst, ℕ, ◌+◌, ◌≤◌, Bool, List, [], ◌∷◌, ◌++◌, length, take, refl, arith}
use Rattle.std.specs.Prelude.{IsTrue}
use Rattle.std.specs.List.{AllByRecursion}
use Rattle.std.proofs.lemmas.List.{take_all}
use Rattle.install_order.specs.Order.{Access}
use Rattle.oper_core.specs.Meaning.{Meaning}
use Rattle.explain_core.specs.History.{Member, accesses_of, value_at}
use Rattle.explain_core.specs.Explains.{Explains}
use Rattle.explain_core.specs.World.{World, Starts, step, IsLive, NoGroup}
use Rattle.explain_core.specs.World.Step.{Block_gate}
use Rattle.explain_core.specs.Sound.{IsSound, SkipsNothing}
use Rattle.explain_core.proofs.Basics.{front-take, value_at-take}
use Rattle.explain_core.proofs.Core.{Explains-more}
use Rattle.explain_core.proofs.Groups.{of-none}

fits-later : (a : Access) (i : ℕ → Bool) (base end later : ℕ) (t : Starts) → end ≤ later → SkipsNothing a i base end t → SkipsNothing a i base later t
fits-later a i base end later t le h = record { before = h.before; start = h.start; from_base = h.from_base; next_from_base = h.next_from_base; next_within = omega (arith, h.next_within) }

pub all_fit-later : (a : Access) (i : ℕ → Bool) (base end later : ℕ) (ts : List Starts) → end ≤ later → AllByRecursion (SkipsNothing a i base end) ts → AllByRecursion (SkipsNothing a i base later) ts
all_fit-later a i base end later [] le all = tt
all_fit-later a i base end later (t ∷ ts) le all = (fits-later a i base end later t le all.0, all_fit-later a i base end later ts le all.1)

all-append : {X : Type 0} (P : X → Type 0) (xs ys : List X) → AllByRecursion P xs → AllByRecursion P ys → AllByRecursion P (xs ++ ys)
all-append P [] ys h k = k
all-append P (x ∷ xs) ys h k = (h.0, all-append P xs ys h.1 k)

pub gate_sound : {O : Type 0} (m : Meaning O) (w : World O) → IsLive w → NoGroup w → IsSound m w → IsSound m (step m w Block_gate)
unfolding step
gate_sound {O} m w live none s =
    let n = length w.history in
    let a = accesses_of m w.history in
    let within : (k : ℕ) → IsTrue (w.installed k) → k ≤ n = λ k e. omega (arith, s.installed k e, s.forced) in
    let whole : take n w.history ≡ w.history = take_all n w.history (omega arith) in
    record {
      history = s.history;
      forced = omega arith;
      installed = within;
      slots = subst (λ (k : List (Member O)). Explains (accesses_of m k) (value_at m k) w.installed w.slots) (sym whole)
          (Explains-more (accesses_of m (take w.forced w.history)) a (value_at m (take w.forced w.history)) (value_at m w.history) w.forced w.installed w.slots
          (front-take m w.history w.forced s.forced) (λ k x le. value_at-take m w.history w.forced k x le) s.installed s.slots);
      tables = all-append (SkipsNothing a w.installed w.base (n + 1)) w.pending w.tables s.pending (all_fit-later a w.installed w.base (w.forced + 1) (n + 1) w.tables (omega (arith, s.forced)) s.tables);
      pending = tt;
      base = s.base;
      below_base = s.below_base;
      counted = s.counted;
      all_stable = λ old. refl;
      graph = s.graph;
      next = s.next;
      passed = s.passed;
      cache = s.cache;
      cache_right = s.cache_right;
      cache_late = s.cache_late;
      dirty = λ x ne. let d = s.dirty x ne in (d.0, d.1, d.2, λ le. absurd (omega arith));
      group = of-none w.group _ none;
    }
