-- A thin node is minimal, and may leave the graph where it has nothing to flush.
use Rattle.std.proofs.Common.{◌≡◌, ◌∙◌, sym, ap, ℕ, zero, suc, ◌+◌, ◌<◌, ◌≤◌, ◌==◌, Bool, true, not, ◌&&◌, [], ◌∷◌, arith, inl, inr, if◌then◌else◌, nat_le}
use Rattle.std.specs.Prelude.{IsTrue, IsFalse}
use Rattle.std.proofs.lemmas.Bool.{cases_Bool, cases_eq, both_ways, and_parts, and_from, leb-true, ltb-true, not-true, not_from_false, eq-eqb, ne_eqb}
use Rattle.oper_core.specs.Meaning.{Meaning, IsLawful}
use Rattle.install_order.specs.Order.{Access, within, Edge, Reaches, NoEdgeInto}
use Rattle.install_order.specs.Order.Edge.{Read_write, Write_write, Lost_version}
use Rattle.install_order.specs.Order.Reaches.{Here, Then}
use Rattle.install_order.specs.Computed.{IsWithin, some_below, least_below, edge_test, reach, is_flushed}
use Rattle.install_order.specs.NodeLaws.{some-from, some-gives, test-gives, test-from, edge-start, edge-end, reach-gives, node-is, least-is, flushed-iff}
use Rattle.explain_core.specs.History.{accesses_of}
use Rattle.explain_core.specs.World.{World, AreAllowed, IsInstallable, IsAllStable, work_of, end_of, graph_access, node_named}
use Rattle.explain_core.specs.World.Step.{Removal}
use Rattle.explain_core.specs.Sound.{IsSound}
use Rattle.explain_core.specs.GraphLaws.{graph-within}
use Rattle.explain_core.specs.Turns.{count_below, has_work, is_entered, is_thin, thin_name, has_thin}

chosen_end : (g : ℕ → Bool) (a : Access) (o p : ℕ) → Edge (within g a) o p → IsTrue (g p)
chosen_end g a o p (Read_write x lt r w) = (and_parts (g p) _ w).0
chosen_end g a o p (Write_write x lt r w) = (and_parts (g p) _ w).0
chosen_end g a o p (Lost_version x later lt w none r le wl) = (and_parts (g p) _ w).0

chosen_walk : (g : ℕ → Bool) (a : Access) (o p : ℕ) → IsTrue (g o) → Reaches (within g a) o p → IsTrue (g p)
chosen_walk g a o p there Here = there
chosen_walk g a o p there (Then m q walk edge) = chosen_end g a m q edge

-- a count above none
pub count_some : (n : ℕ) (p : ℕ → Bool) (x : ℕ) → x < n → IsTrue (p x) → 1 ≤ count_below n p
count_some zero p x lt is = absurd (omega arith)
count_some (suc n) p x lt is = elim (cases_eq x n) [
  | inl here ↦
      let top : p n ≡ true = ap p (sym here) ∙ is in
      let e : count_below (suc n) p ≡ 1 + count_below n p = ap (λ (b : Bool). (if b then 1 else 0) + count_below n p) top in
      omega (arith, e)
  | inr other ↦ omega (arith, count_some n p x (omega (arith, lt, other)) is)
]

-- where at most one passes, two that pass are one
count_one : (n : ℕ) (p : ℕ → Bool) → count_below n p ≤ 1 → (x y : ℕ) → x < n → y < n → IsTrue (p x) → IsTrue (p y) → y ≡ x
count_one zero p few x y xs ys px py = absurd (omega arith)
count_one (suc n) p few x y xs ys px py = elim (cases_Bool (p n)) [
  | inl top ↦
      let e : count_below (suc n) p ≡ 1 + count_below n p = ap (λ (b : Bool). (if b then 1 else 0) + count_below n p) top in
      elim (cases_eq x n) [
        | inl xn ↦ elim (cases_eq y n) [
          | inl yn ↦ yn ∙ sym xn
          | inr yo ↦ absurd (omega (arith, count_some n p y (omega (arith, ys, yo)) py, e, few))
        ]
        | inr xo ↦ absurd (omega (arith, count_some n p x (omega (arith, xs, xo)) px, e, few))
      ]
  | inr off ↦
      let e : count_below (suc n) p ≡ 0 + count_below n p = ap (λ (b : Bool). (if b then 1 else 0) + count_below n p) off in
      elim (cases_eq x n) [
        | inl xn ↦ absurd (both_ways _ off (ap p (sym xn) ∙ px))
        | inr xo ↦ elim (cases_eq y n) [
          | inl yn ↦ absurd (both_ways _ off (ap p (sym yn) ∙ py))
          | inr yo ↦ count_one n p (omega (arith, e, few)) x y (omega (arith, xs, xo)) (omega (arith, ys, yo)) px py
        ]
      ]
]

module _ {O : Type 0} (m : Meaning O) (lawful : IsLawful m) (w : World O) (sound : IsSound m w) (stable : IsAllStable w) where
  abbrev a : Access
  a = graph_access m w

  abbrev end : ℕ
  end = end_of w

  is_within : IsWithin a m.objects end
  is_within = graph-within m lawful w sound

  -- the work of a node, computed
  work_from : (node : ℕ → Bool) (x : ℕ) → IsTrue (has_work m w node x) → work_of m w node x
  work_from node x is =
      let p = and_parts (is_flushed a end node x) _ is in
      ((flushed-iff a m.objects end node x is_within).0 p.0, λ same. both_ways _ (not-true _ p.1) (eq-eqb _ _ same))

  work_gives : (node : ℕ → Bool) (x : ℕ) → work_of m w node x → IsTrue (has_work m w node x)
  work_gives node x work = and_from (is_flushed a end node x) _ ((flushed-iff a m.objects end node x is_within).1 work.0) (not_from_false _ (ne_eqb _ _ work.1))

  work_there : (node : ℕ → Bool) (x : ℕ) → work_of m w node x → x < m.objects
  work_there node x work = is_within.writes_object work.0.0 x work.0.2.0

  module _ (thin : IsTrue (has_thin m w)) where
    abbrev name : ℕ
    name = thin_name m w

    abbrev node : ℕ → Bool
    node = node_named m w name

    pub is_so : IsTrue (is_thin m w name)
    is_so = (least-is (is_thin m w) end).1 (ltb-true _ _ thin)

    held_there : IsTrue (w.graph name)
    held_there = (and_parts (w.graph name) _ is_so).0

    shape : IsTrue (not (is_entered m w node) && nat_le (count_below m.objects (has_work m w node)) 1)
    shape = (and_parts (least_below end node == name) _ (and_parts (w.graph name) _ is_so).1).1

    few : count_below m.objects (has_work m w node) ≤ 1
    few = leb-true _ _ (and_parts (not (is_entered m w node)) _ shape).1

    no_edge : NoEdgeInto a node
    no_edge o p off on edge =
        both_ways _ (not-true _ (and_parts (not (is_entered m w node)) _ shape).0)
        (some-from end (λ o. not (node o) && some_below end (λ p. node p && edge_test a m.objects end o p)) o (edge-start a m.objects end o p is_within edge)
        (and_from (not (node o)) _ (not_from_false _ off)
        (some-from end (λ p. node p && edge_test a m.objects end o p) p (edge-end a m.objects end o p is_within edge)
        (and_from (node p) _ on (test-from a m.objects end o p is_within edge)))))

    in_graph : (n : ℕ) → IsTrue (node n) → IsTrue (w.graph n)
    in_graph n on =
        chosen_walk w.graph (accesses_of m w.history) name n held_there
        (reach-gives a (edge_test a m.objects end) (λ o p. test-gives a m.objects end o p) end name n (and_parts (reach (edge_test a m.objects end) end name n) _ on).0)

    pub ready : IsInstallable m w node
    ready = (in_graph, ((node-is a m.objects end name is_within).0, no_edge), stable)

    pub one_work : (x y : ℕ) → work_of m w node x → work_of m w node y → y ≡ x
    one_work x y wx wy = count_one m.objects (has_work m w node) few x y (work_there node x wx) (work_there node y wy) (work_gives node x wx) (work_gives node y wy)

    -- where it has nothing to flush, it may leave the graph
    pub removal_allowed : IsFalse (some_below m.objects (has_work m w node)) → AreAllowed m w (Removal node ∷ [])
    removal_allowed none = ((ready, λ y work. both_ways _ none (some-from m.objects (has_work m w node) y (work_there node y work) (work_gives node y work))), tt)
