-- The gates of a round may be opened, in any world whose members are all stable.
use Rattle.std.proofs.Common.{◌≡◌, ◌∙◌, sym, ap, subst, ℕ, zero, suc, ◌+◌, ◌<◌, ◌≤◌, ◌≢◌, Bool, List, [], ◌∷◌, refl, arith, inl, inr, if◌then◌else◌}
use Rattle.std.specs.Prelude.{◌==◌, ◌&&◌, not, IsTrue}
use Rattle.std.proofs.lemmas.Bool.{and_from, and_parts, both_ways, cases_Bool, cases_eq, cases_order, cond-false, cond-true, eq-eqb, eqb-true, ne_eqb, not-true, not_from_false}
use Rattle.oper_core.specs.Meaning.{Meaning, IsLawful}
use Rattle.install_order.specs.Order.{Access, Edge, IsLastWriter, IsMinimal, IsNode, NoEdgeInto, Reaches}
use Rattle.install_order.specs.Order.Edge.{Read_write, Write_write, Lost_version}
use Rattle.install_order.specs.Order.Reaches.{Here, Then}
use Rattle.install_order.specs.Computed.{IsWithin, edge_test, is_flushed, least_below, some_below}
use Rattle.install_order.specs.NodeLaws.{edge-end, edge-start, flushed-iff, least-is, node-is, some-from, some-gives, test-from, walk-on}
use Rattle.explain_core.specs.RoundGates.{AreApart, Gate, IsGateAmong, gate_step, gates_of, one_node, round_allowed}
use Rattle.explain_core.specs.GraphLaws.{graph-within}
use Rattle.explain_core.specs.Sound.{IsSound}
use Rattle.explain_core.specs.Turns.{count_below, has_work, is_entered, due_from, gate_at, is_due, object_at, round_gates}
use Rattle.explain_core.specs.World.{AreAllowed, IsAllStable, IsAllowed, IsInstallable, World, end_of, graph_access, node_named, work_of}

one_last : (a : Access) (x n k : ℕ) → IsLastWriter a x n → IsLastWriter a x k → n ≡ k
one_last a x n k last later = elim (cases_order n k) [
  | inl same ↦ same
  | inr other ↦ elim other [ inl before ↦ absurd (both_ways _ (last.1 k before) later.0) | inr after ↦ absurd (both_ways _ (later.1 n after) last.0) ]
]

-- where some LSN is counted, one passes
some_counted : (n : ℕ) (p : ℕ → Bool) → 1 ≤ count_below n p → IsTrue (some_below n p)
some_counted zero p some = absurd (omega (arith, some))
some_counted (suc n) p some = elim (cases_Bool (p n)) [
  | inl here ↦ some-from (suc n) p n (omega arith) here
  | inr off ↦
      let e : count_below (suc n) p ≡ 0 + count_below n p = ap (λ (b : Bool). (if b then 1 else 0) + count_below n p) off in
      let more = some-gives n p (some_counted n p (omega (arith, some, e))) in
      some-from (suc n) p more.0 (omega (arith, more.1)) more.2
]

counted_some : (n : ℕ) (p : ℕ → Bool) (x : ℕ) → x < n → IsTrue (p x) → 1 ≤ count_below n p
counted_some zero p x lt is = absurd (omega (arith, lt))
counted_some (suc n) p x lt is = elim (cases_eq x n) [
  | inl here ↦
      let e : count_below (suc n) p ≡ 1 + count_below n p = ap (λ (b : Bool). (if b then 1 else 0) + count_below n p) (ap p (sym here) ∙ is) in
      omega (arith, e)
  | inr other ↦ let more = counted_some n p x (omega (arith, lt, other)) is in omega (arith, more)
]

counted_one : (n : ℕ) (p : ℕ → Bool) → count_below n p ≤ 1 → (x y : ℕ) → x < n → y < n → IsTrue (p x) → IsTrue (p y) → y ≡ x
counted_one zero p few x y xs ys px py = absurd (omega (arith, xs))
counted_one (suc n) p few x y xs ys px py = elim (cases_Bool (p n)) [
  | inl top ↦
      let e : count_below (suc n) p ≡ 1 + count_below n p = ap (λ (b : Bool). (if b then 1 else 0) + count_below n p) top in
      elim (cases_eq x n) [
        | inl xn ↦ elim (cases_eq y n) [
          | inl yn ↦ yn ∙ sym xn
          | inr yo ↦ let more = counted_some n p y (omega (arith, ys, yo)) py in absurd (omega (arith, more, e, few))
        ]
        | inr xo ↦ let more = counted_some n p x (omega (arith, xs, xo)) px in absurd (omega (arith, more, e, few))
      ]
  | inr off ↦
      let e : count_below (suc n) p ≡ 0 + count_below n p = ap (λ (b : Bool). (if b then 1 else 0) + count_below n p) off in
      elim (cases_eq x n) [
        | inl xn ↦ absurd (both_ways _ off (ap p (sym xn) ∙ px))
        | inr xo ↦ elim (cases_eq y n) [
          | inl yn ↦ absurd (both_ways _ off (ap p (sym yn) ∙ py))
          | inr yo ↦ counted_one n p (omega (arith, e, few)) x y (omega (arith, xs, xo)) (omega (arith, ys, yo)) px py
        ]
      ]
]

module _ {O : Type 0} (m : Meaning O) (lawful : IsLawful m) (w : World O) (sound : IsSound m w) where
  abbrev a : Access
  a = graph_access m w

  abbrev end : ℕ
  end = end_of w

  pub is_within : IsWithin a m.objects end
  is_within = graph-within m lawful w sound

  -- the members of the graph have LSNs of the history
  pub below : (n : ℕ) → IsTrue (w.graph n) → n < end
  below n there = omega (arith, (sound.graph n there).1, sound.next.1)

  -- what the test says
  none_enters : (node : ℕ → Bool) → IsTrue (not (is_entered m w node)) → NoEdgeInto a node
  none_enters node t o p off held edge =
      both_ways _ (not-true _ t) (some-from end (λ o. not (node o) && some_below end (λ p. node p && edge_test a m.objects end o p)) o (edge-start a m.objects end o p is_within edge)
      (and_from _ _ (not_from_false _ off) (some-from end (λ p. node p && edge_test a m.objects end o p) p (edge-end a m.objects end o p is_within edge) (and_from _ _ held (test-from a m.objects end o p is_within edge)))))

  -- what an edge joins are members of the graph
  from_member : (o p : ℕ) → Edge a o p → IsTrue (w.graph o)
  from_member o p (Read_write x lt r v) = (and_parts (w.graph o) _ r).0
  from_member o p (Write_write x lt r v) = (and_parts (w.graph o) _ r).0
  from_member o p (Lost_version x later lt v none r le l) = (and_parts (w.graph o) _ r).0

  to_member : (o p : ℕ) → Edge a o p → IsTrue (w.graph p)
  to_member o p (Read_write x lt r v) = (and_parts (w.graph p) _ v).0
  to_member o p (Write_write x lt r v) = (and_parts (w.graph p) _ v).0
  to_member o p (Lost_version x later lt v none r le l) = (and_parts (w.graph p) _ v).0

  reached_member : (o p : ℕ) → IsTrue (w.graph o) → Reaches a o p → IsTrue (w.graph p)
  reached_member o p there Here = there
  reached_member o p there (Then mid q walk edge) = to_member mid p edge

  joined : (node : ℕ → Bool) → IsNode a node → (one n : ℕ) → IsTrue (node one) → IsTrue (node n) → Reaches a one n
  joined node is one n first held = walk-on a one is.0 n (is.2 one first).1 (is.2 n held).0

module _ {O : Type 0} (m : Meaning O) (lawful : IsLawful m) (w : World O) (sound : IsSound m w) (stable : IsAllStable w) (may : World O → ℕ → Bool) where
  abbrev acc : Access
  acc = graph_access m w

  work_gives : (node : ℕ → Bool) (x : ℕ) → work_of m w node x → IsTrue (has_work m w node x)
  work_gives node x work = and_from (is_flushed acc (end_of w) node x) _ ((flushed-iff acc m.objects (end_of w) node x (is_within m lawful w sound)).1 work.0) (not_from_false _ (ne_eqb (w.slots x).lsn (w.cache x).lsn work.1))

  work_from : (node : ℕ → Bool) (x : ℕ) → IsTrue (has_work m w node x) → work_of m w node x
  work_from node x is =
      let p = and_parts (is_flushed acc (end_of w) node x) _ is in
      ((flushed-iff acc m.objects (end_of w) node x (is_within m lawful w sound)).0 p.0, λ same. both_ways _ (not-true _ p.1) (eq-eqb _ _ same))

  work_there : (node : ℕ → Bool) (x : ℕ) → work_of m w node x → x < m.objects
  work_there node x work = (is_within m lawful w sound).writes_object work.0.0 x work.0.2.0

  -- one that is due
  module _ (n : ℕ) (due : IsTrue (is_due m may w n)) where
    abbrev node : ℕ → Bool
    node = node_named m w n

    held : IsTrue (w.graph n)
    held = (and_parts (w.graph n) _ due).0

    named_so : IsTrue ((least_below (end_of w) node == n) && (not (is_entered m w node) && ((count_below m.objects (has_work m w node) == 1) && may w (object_at m w n))))
    named_so = (and_parts (w.graph n) _ due).1

    least_is : least_below (end_of w) node ≡ n
    least_is = eqb-true _ _ (and_parts (least_below (end_of w) node == n) _ named_so).0

    shape : IsTrue (not (is_entered m w node) && ((count_below m.objects (has_work m w node) == 1) && may w (object_at m w n)))
    shape = (and_parts (least_below (end_of w) node == n) _ named_so).1

    one : count_below m.objects (has_work m w node) ≡ 1
    one = eqb-true _ _ (and_parts (count_below m.objects (has_work m w node) == 1) _ (and_parts (not (is_entered m w node)) _ shape).1).0

    named : IsNode acc node × IsTrue (node n)
    named = node-is acc m.objects (end_of w) n (is_within m lawful w sound)

    minimal : IsMinimal acc node
    minimal = (named.0, none_enters m lawful w sound node (and_parts (not (is_entered m w node)) _ shape).0)

    installable : IsInstallable m w node
    installable = (λ k there. reached_member m lawful w sound n k held (joined m lawful w sound node minimal.0 n k named.1 there), minimal, stable)

    has_object : work_of m w node (object_at m w n)
    has_object =
        let some = some-gives m.objects (has_work m w node) (some_counted m.objects (has_work m w node) (omega (arith, one))) in
        let least = least-is (has_work m w node) m.objects in
        work_from node (object_at m w n) (least.1 (omega (arith, least.2 some.0 some.1 some.2, some.1)))

    pub due_allowed : IsAllowed m w (gate_step (gate_at m w n))
    due_allowed = (installable, has_object, λ y work. counted_one m.objects (has_work m w node) (omega (arith, one)) (object_at m w n) y (work_there node (object_at m w n) has_object) (work_there node y work) (work_gives node (object_at m w n) has_object) (work_gives node y work))

  -- two that are due flush different objects
  names_le : (n k : ℕ) → IsTrue (is_due m may w n) → IsTrue (is_due m may w k) → object_at m w n ≡ object_at m w k → k ≤ n
  names_le n k first second same =
      let f = node_named m w n in
      let g = node_named m w k in
      let x = object_at m w n in
      let one = has_object n first in
      let two = subst (λ (y : ℕ). work_of m w g y) (sym same) (has_object k second) in
      let q = one.0.0 in
      let there : IsTrue (g q) = subst (λ (j : ℕ). IsTrue (g j)) (one_last acc x two.0.0 q two.0.2 one.0.2) two.0.1 in
      let in_g : IsTrue (g n) = one_node acc f g q (minimal n first).0 (minimal k second).0 one.0.1 there n (named n first).1 in
      let lower = (least-is g (end_of w)).2 n (below m lawful w sound n (held n first)) in_g in
      omega (arith, lower, least_is k second)

  pub apart_due : (n k : ℕ) → n < k → IsTrue (is_due m may w n) → IsTrue (is_due m may w k) → object_at m w k ≢ object_at m w n
  apart_due n k less first second same = let le = names_le n k first second (sym same) in absurd (omega (arith, le, less))

  -- each gate of a round is that of an LSN which is due
  from_due : (most fuel k : ℕ) (h : Gate) → IsGateAmong h (due_from m may most fuel k w) → (j : ℕ) × (k ≤ j) × IsTrue (is_due m may w j) × (h ≡ gate_at m w j)
  from_due most zero k h there = absurd there
  from_due zero (suc fuel) k h there = absurd there
  from_due (suc most) (suc fuel) k h there = elim (cases_Bool (is_due m may w k)) [
    | inl due ↦ elim (subst (λ (l : List Gate). IsGateAmong h l) (cond-true (is_due m may w k) _ _ due) there) [
      | inl here ↦ (k, omega arith, due, here)
      | inr more ↦ let r = from_due most fuel (suc k) h more in (r.0, omega (arith, r.1), r.2, r.3)
    ]
    | inr off ↦ let r = from_due (suc most) fuel (suc k) h (subst (λ (l : List Gate). IsGateAmong h l) (cond-false (is_due m may w k) _ _ off) there) in (r.0, omega (arith, r.1), r.2, r.3)
  ]

  apart_from : (most fuel k : ℕ) → AreApart (due_from m may most fuel k w)
  apart_from most zero k = tt
  apart_from zero (suc fuel) k = tt
  apart_from (suc most) (suc fuel) k = elim (cases_Bool (is_due m may w k)) [
    | inl due ↦ subst (λ (l : List Gate). AreApart l) (sym (cond-true (is_due m may w k) _ _ due)) (
      (λ h there.
          let r = from_due most fuel (suc k) h there in
          λ same. apart_due k r.0 (omega (arith, r.1)) due r.2 (sym (ap (λ (g : Gate). g.object) r.3) ∙ same)),
      apart_from most fuel (suc k),
    )
    | inr off ↦ subst (λ (l : List Gate). AreApart l) (sym (cond-false (is_due m may w k) _ _ off)) (apart_from (suc most) fuel (suc k))
  ]

  pub round_may : (most : ℕ) → AreAllowed m w (gates_of (round_gates m may most w))
  round_may most = round_allowed m w (round_gates m may most w) (apart_from most (end_of w) 0) (λ g there.
      let r = from_due most (end_of w) 0 g there in
      subst (λ (h : Gate). IsAllowed m w (gate_step h)) (sym r.3) (due_allowed r.0 r.2))
