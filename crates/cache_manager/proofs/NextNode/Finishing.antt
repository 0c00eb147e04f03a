-- A node with at most one object to flush may be installed, and then less is left to do.
use Rattle.std.proofs.Common.{◌≡◌, ◌∙◌, sym, ap, ℕ, ◌<◌, Bool, false, List, [], ◌∷◌, length, refl, arith, inl, inr}
use Rattle.std.specs.Prelude.{IsTrue, IsFalse, ◌==◌, nat_lt}
use Rattle.std.proofs.lemmas.Bool.{cases_eq, both_ways, or_cases, or_left, eq-eqb, ne_eqb, eqb-true, ltb-false, cond-true, cond-false}
use Rattle.oper_core.specs.Cell.{Cell}
use Rattle.oper_core.specs.State.{is_among}
use Rattle.oper_core.specs.Meaning.{Meaning, IsLawful}
use Rattle.explain_core.specs.World.{World, step, run, AreAllowed, IsAllStable, IsInstallable, work_of}
use Rattle.explain_core.specs.World.Step.{Slot_gate, Removal}
use Rattle.running_store.specs.Courses.{Course, course, removal_steps, force_course}
use Rattle.cache_manager.specs.InstallCourses.{next_node, work, finish_steps}
use Rattle.running_store.specs.Courses.Stop.{Through}
use Rattle.running_store.specs.Running.{IsRunning, running_after, KeepsSound}
use Rattle.cache_manager.specs.Upkeep.{upkeep_removal}
use Rattle.cache_manager.proofs.Goes.{Goes, goes_then, force_goes}
use Rattle.cache_manager.proofs.NextNode.Least.{IsNext, next_is, below}
use Rattle.cache_manager.proofs.Plain.{left_in, slot_left, removal_left}
use Rattle.cache_manager.proofs.NextNode.WorkOf.{listed_is, is_listed}

-- a node was installed, so less is left to do
pub record IsInstalled {O : Type 0} (m : Meaning O) (w v : World O) : Type 0 where
  pub running : IsRunning m v
  pub less : left_in m v < left_in m w

module _ {O : Type 0} (m : Meaning O) (lawful : IsLawful m) (keeps : KeepsSound m) where
  module _ (w : World O) (is : IsRunning m w) (stable : IsAllStable w) (node : ℕ → Bool) (next : IsNext m w node) where
    ready : IsInstallable m w node
    ready = (next.inside, next.minimal, stable)

    -- after the slot gate nothing is left to flush
    then_removed : (x : ℕ) → ((y : ℕ) → work_of m w node y → y ≡ x) → AreAllowed m (step m w (Slot_gate node x)) (Removal node ∷ [])
    unfolding step
    then_removed x only = (
      (
        ready,
        λ y later. elim (cases_eq y x) [
          | inl here ↦ later.1 (ap (λ (c : Cell). c.lsn) (cond-true (y == x) (w.cache x) (w.slots y) (eq-eqb y x here)) ∙ ap (λ (z : ℕ). (w.cache z).lsn) (sym here))
          | inr other ↦ other (only y (later.0, λ same. later.1 (ap (λ (c : Cell). c.lsn) (cond-false (y == x) (w.cache x) (w.slots y) (ne_eqb y x other)) ∙ same)))
        ],
      ),
      tt,
    )

    removed_less : left_in m (step m w (Removal node)) < left_in m w
    removed_less = removal_left m w node next.name (below m lawful w is.sound next.name next.member) next.member next.is_name.0

    flushed_less : (x : ℕ) → left_in m (step m (step m w (Slot_gate node x)) (Removal node)) < left_in m w
    unfolding step
    flushed_less x =
        let v = step m w (Slot_gate node x) in
        let less : left_in m (step m v (Removal node)) < left_in m v = removal_left m v node next.name (below m lawful w is.sound next.name next.member) next.member next.is_name.0 in
        omega (arith, less, slot_left m w node x)

    -- the listed objects are the work, and at most one
    listed_allowed : (objects : List ℕ) → ((x : ℕ) → IsTrue (is_among x objects) → work_of m w node x) → ((x : ℕ) → work_of m w node x → IsTrue (is_among x objects))
        → IsFalse (nat_lt 1 (length objects)) → AreAllowed m w (removal_steps m node objects)
    listed_allowed [] due listed few = ((ready, λ y work. both_ways _ refl (listed y work)), tt)
    listed_allowed (x ∷ []) due listed few =
        let only : (y : ℕ) → work_of m w node y → y ≡ x = λ y work. elim (or_cases (y == x) false (listed y work)) [
          | inl here ↦ eqb-true y x here
          | inr none ↦ absurd (both_ways _ refl none)
        ] in
        ((ready, due x (or_left (x == x) false (eq-eqb x x refl)), only), then_removed x only)
    listed_allowed (x ∷ y ∷ objects) due listed few = absurd (omega (arith, ltb-false 1 (length (x ∷ y ∷ objects)) few))

    listed_less : (objects : List ℕ) → IsFalse (nat_lt 1 (length objects)) → left_in m (run m w (removal_steps m node objects)) < left_in m w
    unfolding run
    listed_less [] few = removed_less
    listed_less (x ∷ []) few = flushed_less x
    listed_less (x ∷ y ∷ objects) few = absurd (omega (arith, ltb-false 1 (length (x ∷ y ∷ objects)) few))

  -- where all is stable
  removal_goes : (w : World O) (used : ℕ) (c : ℕ) → IsRunning m w → IsAllStable w → IsTrue (w.graph c) → IsFalse (nat_lt 1 (length (work m w)))
      → Goes m w (course (removal_steps m (next_node m w) (work m w)) used Through) (IsInstalled m w)
  removal_goes w used c is stable there few =
      let node = next_node m w in
      let next = next_is m lawful w is.sound c there in
      let may = listed_allowed w is stable node next (work m w) (listed_is m lawful w is.sound) (is_listed m lawful w is.sound) few in
      record {
        allowed = may;
        through = λ e. record {
          running = running_after m w (removal_steps m node (work m w)) keeps is (upkeep_removal m node (work m w)) may;
          less = listed_less w is stable node next (work m w) few;
        };
      }

  pub finish_goes : (w : World O) (used : ℕ) (c : ℕ) → IsRunning m w → IsTrue (w.graph c) → IsFalse (nat_lt 1 (length (work m w))) → Goes m w (course (finish_steps m w) used Through) (IsInstalled m w)
  finish_goes w used c is there few =
      let next : World O → ℕ → Course O = λ v used. course (removal_steps m (next_node m w) (work m w)) used Through in
      let P : World O → Type 0 = λ v. Goes m v (next v used) (IsInstalled m w) in
      goes_then m w (force_course m w used) next P (IsInstalled m w)
      (force_goes m keeps w used P is (λ forced tables pending running stable.
      let v : World O = record w { forced = forced; tables = tables; pending = pending } in
      let goes = removal_goes v used c running stable there few in
      record { allowed = goes.allowed; through = λ e. let done = goes.through e in record { running = done.running; less = done.less } }))
      (λ v goes. goes)
