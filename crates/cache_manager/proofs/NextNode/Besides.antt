-- A node may be finished beside a copy of the slots exactly where the world's course says so: the identity write that made the
-- version of a dirty object is a node of its own.
use Rattle.std.proofs.Common.{◌≡◌, ◌∙◌, sym, subst, ap, ℕ, ◌<◌, ◌≤◌, Bool, false, List, [], ◌∷◌, length, refl, arith, inl, inr, ◌⊎◌, Some}
use Rattle.std.specs.Prelude.{IsTrue, IsFalse, ◌==◌, nat_lt, slice_get}
use Rattle.std.specs.List.{list_any}
use Rattle.std.proofs.lemmas.Bool.{both_ways, cases_lt, and_parts, and_from, not-true, or_left, or_right, or_from, or_cases, eq-eqb, eqb-true, lt-ltb, le-ltb, ltb-true, not_from_true, not_from_false, false_from_ne_true}
use Rattle.disk_model.specs.Disk.{Disk}
use Rattle.disk_model.specs.declared.machine.FileNo.TheVariants.{Objects}
use Rattle.oper_core.specs.Meaning.{Meaning, IsLawful}
use Rattle.oper_core.specs.State.{is_among}
use Rattle.formats.specs.declared.params.Params.{Params}
use Rattle.write_graph.specs.Graph.{IsLeast, IsNodeNamed, IsSingleIdentity, NamesMinimal}
use Rattle.explain_core.specs.Sound.{IsSound}
use Rattle.explain_core.specs.World.{World, work_of}
use Rattle.cache_manager.specs.Beside.{HasCopied, IsFresh}
use Rattle.cache_manager.specs.InstallCourses.{is_stale, must_log, must_log_in, next_node, work_in}
use Rattle.running_store.specs.Parts.{Parts, Shows, ShowsVolatile, Volatile}
use Rattle.cache_manager.specs.Thin.{IsWork}
use Rattle.cache_manager.proofs.NextNode.Planned.{listed_in}
use Rattle.cache_manager.proofs.NextNode.Work.{next_shown}
use Rattle.cache_manager.proofs.OneRound.Singles.{single_from, single_gives}
use Rattle.cache_manager.proofs.NextNode.WorkOf.{AreAlone, in_work}
use Rattle.cache_manager.proofs.ThinNode.Worlds.{due_from, due_gives, node_is_named}

first_among : (objects : List ℕ) (x : ℕ) → slice_get objects 0 ≡ Some x → IsTrue (is_among x objects)
first_among [] x is = cc
first_among (y ∷ objects) x is = let e : Some y ≡ Some x = is in or_left (x == y) (is_among x objects) (eq-eqb x y (sym (cc e)))

any_from : (q : ℕ → Bool) (objects : List ℕ) (x : ℕ) → IsTrue (is_among x objects) → IsTrue (q x) → IsTrue (list_any q objects)
any_from q [] x there holds = absurd (both_ways _ refl there)
any_from q (y ∷ objects) x there holds = elim (or_cases (x == y) (is_among x objects) there) [
  | inl here ↦ or_left (q y) (list_any q objects) (subst (λ (z : ℕ). IsTrue (q z)) (eqb-true x y here) holds)
  | inr later ↦ or_right (q y) (list_any q objects) (any_from q objects x later holds)
]

-- the one object of a list that passes is its first
first_passes : (q : ℕ → Bool) (objects : List ℕ) → length objects ≤ 1 → IsTrue (list_any q objects) → (x : ℕ) × (slice_get objects 0 ≡ Some x) × IsTrue (q x)
first_passes q [] few some = absurd (both_ways _ refl some)
first_passes q (x ∷ []) few some = elim (or_cases (q x) false some) [ inl here ↦ (x, refl, here) | inr none ↦ absurd (both_ways _ refl none) ]
first_passes q (x ∷ y ∷ objects) few some = absurd (omega (arith, few))

module _ {O : Type 0} (m : Meaning O) (lawful : IsLawful m) (alone : AreAlone) (p : Params) (file : List ℕ) (it : Volatile) (w : World O) (shows : ShowsVolatile m p file it w) (sound : IsSound m w)
    (n : ℕ) (node : ℕ → Bool) (named : IsNodeNamed it.entries n node) (items : List ℕ) (is : IsWork it node items) (copied : ℕ) where
  -- what the node of the store has to flush is what that of the world has
  pub work_same : items ≡ work_in m w node
  work_same = listed_in m lawful w sound node items is.rising (λ x there. due_gives m lawful p file it w shows sound node x ((is.exactly x).0 there)) (λ x due. (is.exactly x).1 (due_from m lawful p file it w shows sound node x due))

  stale_given : (x : ℕ) → work_of m w node x → x < copied → (IsSingleIdentity it.entries n node → ⊥) → IsTrue (is_stale m copied w x)
  stale_given x due low none = and_from (nat_lt x copied) _ (lt-ltb x copied low) (not_from_false _ (false_from_ne_true _ (λ made. none (single_from m lawful alone p file it w shows sound n node named x due made))))

  pub must_in : (1 < length items) ⊎ HasCopied it.entries n copied items → IsTrue (must_log_in m copied w node)
  must_in (inl many) = or_left (nat_lt 1 (length (work_in m w node))) _ (let long = ap length work_same in lt-ltb 1 (length (work_in m w node)) (omega (arith, many, long)))
  must_in (inr has) =
      let there : IsTrue (is_among has.0 (work_in m w node)) = subst (λ (l : List ℕ). IsTrue (is_among has.0 l)) work_same (first_among items has.0 has.1) in
      let stale = stale_given has.0 (in_work m lawful w sound node has.0 there) has.2 (has.3 node named) in
      or_right (nat_lt 1 (length (work_in m w node))) _ (any_from (is_stale m copied w) (work_in m w node) has.0 there stale)

  pub may_in : length items ≤ 1 → IsFresh it.entries n copied items → IsFalse (must_log_in m copied w node)
  may_in few fresh =
      let long = ap length work_same in
      or_from (nat_lt 1 (length (work_in m w node))) _ (le-ltb 1 (length (work_in m w node)) (omega (arith, few, long)))
      (none_stale (work_in m w node) (omega (arith, few, long)) (λ x there. there)
      (λ x first low. fresh x (ap (λ (l : List ℕ). slice_get l 0) work_same ∙ first) low node named))
    where
      none_stale : (objects : List ℕ) → length objects ≤ 1 → ((x : ℕ) → IsTrue (is_among x objects) → IsTrue (is_among x (work_in m w node)))
          → ((x : ℕ) → slice_get objects 0 ≡ Some x → x < copied → IsSingleIdentity it.entries n node) → IsFalse (list_any (is_stale m copied w) objects)
      none_stale [] few all fresh = refl
      none_stale (x ∷ []) few all fresh = or_from (is_stale m copied w x) false (false_from_ne_true _ (λ stale.
          let u = and_parts (nat_lt x copied) _ stale in
          let due = in_work m lawful w sound node x (all x (or_left (x == x) false (eq-eqb x x refl))) in
          let made = single_gives m lawful alone p file it w shows sound n node named x due (fresh x refl (ltb-true x copied u.0)) in
          both_ways _ (not_from_true _ made) u.1)) refl
      none_stale (x ∷ y ∷ objects) few all fresh = absurd (omega (arith, few))

  -- and where the world's may not be finished, the store's may not
  pub in_must : IsTrue (must_log_in m copied w node) → (1 < length items) ⊎ HasCopied it.entries n copied items
  in_must must = elim (or_cases (nat_lt 1 (length (work_in m w node))) (list_any (is_stale m copied w) (work_in m w node)) must) [
    | inl many ↦ let long = ap length work_same in inl (omega (arith, long, ltb-true 1 (length (work_in m w node)) many))
    | inr stale ↦ elim (cases_lt 1 (length items)) [
      | inl many ↦ inl many
      | inr few ↦
          let one = first_passes (is_stale m copied w) items (omega (arith, few)) (subst (λ (l : List ℕ). IsTrue (list_any (is_stale m copied w) l)) (sym work_same) stale) in
          let u = and_parts (nat_lt one.0 copied) _ one.2 in
          inr (
            one.0,
            one.1,
            ltb-true one.0 copied u.0,
            λ s other single.
                let due = due_gives m lawful p file it w shows sound node one.0 ((is.exactly one.0).0 (first_among items one.0 one.1)) in
                let same : node ≡ s = node_is_named m lawful p file it w shows sound n node named ∙ sym (node_is_named m lawful p file it w shows sound n s other) in
                both_ways _ (not-true _ u.1) (single_gives m lawful alone p file it w shows sound n s other one.0 (subst (λ (t : ℕ → Bool). work_of m w t one.0) same due) single),
          )
    ]
  ]

-- so it is of the next node
module _ {O : Type 0} (m : Meaning O) (lawful : IsLawful m) (alone : AreAlone) (p : Params) (d : Disk) (it : Parts) (w : World O) (shows : Shows m p d it w) (n : ℕ) (least : IsLeast (NamesMinimal it.volatile.entries) n)
    (items : List ℕ) (is : (node : ℕ → Bool) → IsNodeNamed it.volatile.entries n node → IsWork it.volatile node items) (copied : ℕ) where
  named : IsNodeNamed it.volatile.entries n (next_node m w)
  named = next_shown m lawful p d it w shows n least

  pub must_shown : (1 < length items) ⊎ HasCopied it.volatile.entries n copied items → IsTrue (must_log m copied w)
  must_shown must = must_in m lawful alone p (d.reads Objects) it.volatile w shows.store shows.running.sound n (next_node m w) named items (is (next_node m w) named) copied must

  pub may_shown : length items ≤ 1 → IsFresh it.volatile.entries n copied items → IsFalse (must_log m copied w)
  may_shown few fresh = may_in m lawful alone p (d.reads Objects) it.volatile w shows.store shows.running.sound n (next_node m w) named items (is (next_node m w) named) copied few fresh
