-- Nodes leave the graph: another one that is minimal beside them stays so, and those whose gates were opened together may leave.
use Rattle.std.proofs.Common.{◌≡◌, ◌∙◌, sym, ap, subst, ℕ, ◌<◌, ◌≤◌, Bool, List, [], ◌∷◌, refl, arith, inl, inr}
use Rattle.std.specs.Prelude.{⊤, ◌==◌, ◌&&◌, IsTrue, IsFalse, not}
use Rattle.std.proofs.lemmas.Bool.{and_from, and_parts, both_ways, cases_Bool, cases_eq, cond-false, cond-true, eq-eqb, false_from_ne_true, ne_eqb, not-true, not_from_false}
use Rattle.oper_core.specs.Cell.{Cell}
use Rattle.oper_core.specs.Meaning.{Meaning}
use Rattle.install_order.specs.NodeLaws.{walk-on}
use Rattle.install_order.specs.Order.{Access, Edge, IsMinimal, IsNode, NoEdgeInto, Reaches, within}
use Rattle.install_order.specs.Order.Edge.{Read_write, Write_write, Lost_version}
use Rattle.install_order.specs.Order.Reaches.{Here, Then}
use Rattle.explain_core.specs.History.{accesses_of}
use Rattle.explain_core.specs.RoundGates.{Gate, IsGateAmong, gate_step, gates_of, one_node, removals_of}
use Rattle.explain_core.specs.World.{AreAllowed, IsAllowed, World, graph_access, run, step}
use Rattle.explain_core.specs.World.Step.{Removal}

-- the members that are left when a node leaves
abbrev pub left_by : (ℕ → Bool) → (ℕ → Bool) → ℕ → Bool
left_by g node n = g n && not (node n)

module _ (a : Access) (g node : ℕ → Bool) (none : NoEdgeInto (within g a) node) where
  abbrev h : ℕ → Bool
  h = left_by g node

  outside : (n : ℕ) → IsTrue (h n) → IsFalse (node n)
  outside n there = not-true _ (and_parts (g n) _ there).1

  inside : (n : ℕ) → IsTrue (h n) → IsTrue (g n)
  inside n there = (and_parts (g n) _ there).0

  -- among these the edges are the same
  fewer : (o p : ℕ) → IsTrue (h o) → IsTrue (h p) → Edge (within g a) o p → Edge (within h a) o p
  fewer o p at_o at_p (Read_write x lt r w) = Read_write x lt (and_from (h o) _ at_o (and_parts (g o) _ r).1) (and_from (h p) _ at_p (and_parts (g p) _ w).1)
  fewer o p at_o at_p (Write_write x lt r w) = Write_write x lt (and_from (h o) _ at_o (and_parts (g o) _ r).1) (and_from (h p) _ at_p (and_parts (g p) _ w).1)
  fewer o p at_o at_p (Lost_version x later lt w between r le wl) =
      let over = and_parts (g later) _ wl in
      let off : IsFalse (node later) = false_from_ne_true _ (λ there. elim (cases_eq o later) [
        | inl same ↦ both_ways _ (outside o at_o) (subst (λ (n : ℕ). IsTrue (node n)) (sym same) there)
        | inr other ↦ none o later (outside o at_o) there (Read_write x (omega (arith, le, other)) r wl)
      ]) in
      Lost_version x later lt (and_from (h p) _ at_p (and_parts (g p) _ w).1)
      (λ q after before. false_from_ne_true _ (λ there. let one = and_parts (h q) _ there in both_ways _ (between q after before) (and_from (g q) _ (inside q one.0) one.1)))
      (and_from (h o) _ at_o (and_parts (g o) _ r).1) le (and_from (h later) _ (and_from (g later) _ over.0 (not_from_false _ off)) over.1)

  more : (o p : ℕ) → Edge (within h a) o p → Edge (within g a) o p
  more o p (Read_write x lt r w) = let one = and_parts (h o) _ r in let two = and_parts (h p) _ w in Read_write x lt (and_from (g o) _ (inside o one.0) one.1) (and_from (g p) _ (inside p two.0) two.1)
  more o p (Write_write x lt r w) = let one = and_parts (h o) _ r in let two = and_parts (h p) _ w in Write_write x lt (and_from (g o) _ (inside o one.0) one.1) (and_from (g p) _ (inside p two.0) two.1)
  more o p (Lost_version x later lt w between r le wl) =
      let one = and_parts (h o) _ r in
      let two = and_parts (h p) _ w in
      let three = and_parts (h later) _ wl in
      let wrote = and_from (g p) _ (inside p two.0) two.1 in
      Lost_version x later lt wrote
      (λ q after before. false_from_ne_true _ (λ there. elim (cases_Bool (node q)) [
        | inl on ↦ none p q (outside p two.0) on (Write_write x after wrote there)
        | inr off ↦ let four = and_parts (g q) _ there in both_ways _ (between q after before) (and_from (h q) _ (and_from (g q) _ four.0 (not_from_false _ off)) four.1)
      ]))
      (and_from (g o) _ (inside o one.0) one.1) le (and_from (g later) _ (inside later three.0) three.1)

  more_walk : (o p : ℕ) → Reaches (within h a) o p → Reaches (within g a) o p
  more_walk o p Here = Here
  more_walk o p (Then q r walk edge) = Then q r (more_walk o q walk) (more q r edge)

  module _ (other : ℕ → Bool) (is : IsMinimal (within g a) other) (apart : (n : ℕ) → IsTrue (other n) → IsTrue (h n)) where
    -- a walk within the node
    fewer_walk : (o n : ℕ) → IsTrue (other o) → Reaches (within g a) o n → IsTrue (other n) → Reaches (within h a) o n
    fewer_walk o n at_o Here at_n = Here
    fewer_walk o n at_o (Then q r walk edge) at_n =
        let one = is.0.0 in
        let there : IsTrue (other q) = is.0.3 q (walk-on (within g a) one o q (is.0.2 o at_o).0 walk) (walk-on (within g a) q n one (Then q n Here edge) (is.0.2 n at_n).1) in
        Then q n (fewer_walk o q at_o walk there) (fewer q n (apart q there) (apart n at_n) edge)

    -- it stays a minimal node
    pub stays_minimal : IsMinimal (within h a) other
    stays_minimal = (
      (
        is.0.0,
        is.0.1,
        λ n there. let both = is.0.2 n there in (fewer_walk is.0.0 n is.0.1 both.0 there, fewer_walk n is.0.0 there both.1 is.0.1),
        λ n to back. is.0.3 n (more_walk is.0.0 n to) (more_walk n is.0.0 back),
      ),
      λ o p off on edge. is.1 o p off on (more o p edge),
    )

module _ {O : Type 0} (m : Meaning O) where
  -- after its gate a node may be removed
  gate_removable : (w : World O) (g : Gate) → IsAllowed m w (gate_step g) → IsAllowed m (step m w (gate_step g)) (Removal g.node)
  unfolding step
  gate_removable w g may = (
    may.0,
    λ y later. elim (cases_eq y g.object) [
      | inl here ↦ later.1 (ap (λ (c : Cell). c.lsn) (cond-true (y == g.object) (w.cache g.object) (w.slots y) (eq-eqb y g.object here)) ∙ ap (λ (z : ℕ). (w.cache z).lsn) (sym here))
      | inr other ↦ other (may.2 y (later.0, λ same. later.1 (ap (λ (c : Cell). c.lsn) (cond-false (y == g.object) (w.cache g.object) (w.slots y) (ne_eqb y g.object other)) ∙ same)))
    ],
  )

  -- and after that of another it still may
  still_removable : (w : World O) (h : Gate) (node : ℕ → Bool) → IsAllowed m w (Removal node) → IsAllowed m (step m w (gate_step h)) (Removal node)
  unfolding step
  still_removable w h node may = (
    may.0,
    λ y later. elim (cases_eq y h.object) [
      | inl here ↦ later.1 (ap (λ (c : Cell). c.lsn) (cond-true (y == h.object) (w.cache h.object) (w.slots y) (eq-eqb y h.object here)) ∙ ap (λ (z : ℕ). (w.cache z).lsn) (sym here))
      | inr other ↦ may.1 y (later.0, λ same. later.1 (ap (λ (c : Cell). c.lsn) (cond-false (y == h.object) (w.cache h.object) (w.slots y) (ne_eqb y h.object other)) ∙ same))
    ],
  )

  removable_along : (w : World O) (gates : List Gate) (node : ℕ → Bool) → IsAllowed m w (Removal node) → IsAllowed m (run m w (gates_of gates)) (Removal node)
  unfolding run
  removable_along w [] node may = may
  removable_along w (g ∷ gates) node may = removable_along (step m w (gate_step g)) gates node (still_removable w g node may)

  -- the node of each gate may be removed
  abbrev AreRemovable : World O → List Gate → Type 0
  AreRemovable w [] = ⊤
  AreRemovable w (g ∷ gates) = IsAllowed m w (Removal g.node) × AreRemovable w gates

  all_removable : (w : World O) (gates : List Gate) → AreAllowed m w (gates_of gates) → AreRemovable (run m w (gates_of gates)) gates
  unfolding run
  all_removable w [] may = tt
  all_removable w (g ∷ gates) may =
      let v = step m w (gate_step g) in
      (removable_along v gates g.node (gate_removable w g may.0), all_removable v gates may.1)

  -- a node that has nothing to flush has no member in common with one of which a gate may be opened
  apart_from : (w : World O) (node : ℕ → Bool) (gates : List Gate) → IsAllowed m w (Removal node) → AreAllowed m w (gates_of gates) → (h : Gate) → IsGateAmong h gates → (n : ℕ) → IsTrue (node n) → IsTrue (h.node n) → ⊥
  apart_from w node [] removable may h there n first second = there
  apart_from w node (g ∷ gates) removable may h there n first second = elim there [
    | inl here ↦
        let a = graph_access m w in
        let same : IsTrue (g.node n) = subst (λ (e : Gate). IsTrue (e.node n)) here second in
        let due = may.0.1 in
        removable.1 g.object ((due.0.0, one_node a g.node node n may.0.0.1.0 removable.0.1.0 same first due.0.0 due.0.1, due.0.2), due.1)
    | inr later ↦ apart_from (step m w (gate_step g)) node gates (still_removable w g node removable) may.1 h later n first second
  ]

  abbrev AreDisjoint : List Gate → Type 0
  AreDisjoint [] = ⊤
  AreDisjoint (g ∷ gates) = ((h : Gate) → IsGateAmong h gates → (n : ℕ) → IsTrue (g.node n) → IsTrue (h.node n) → ⊥) × AreDisjoint gates

  are_disjoint : (w : World O) (gates : List Gate) → AreAllowed m w (gates_of gates) → AreDisjoint gates
  are_disjoint w [] may = tt
  are_disjoint w (g ∷ gates) may = let v = step m w (gate_step g) in (apart_from v g.node gates (gate_removable w g may.0) may.1, are_disjoint v gates may.1)

  -- where one node is removed, another one still may be
  other_removable : (w : World O) (node other : ℕ → Bool) → IsAllowed m w (Removal node) → IsAllowed m w (Removal other) → ((n : ℕ) → IsTrue (node n) → IsTrue (other n) → ⊥) → IsAllowed m (step m w (Removal node)) (Removal other)
  unfolding step
  other_removable w node other first second apart =
      let a : Access = accesses_of m w.history in
      let none = first.0.1.1 in
      let off : (n : ℕ) → IsTrue (other n) → IsFalse (node n) = λ n there. false_from_ne_true _ (λ on. apart n on there) in
      let inside : (n : ℕ) → IsTrue (other n) → IsTrue (w.graph n && not (node n)) = λ n there. and_from (w.graph n) _ (second.0.0 n there) (not_from_false _ (off n there)) in (
        (inside, stays_minimal a w.graph node none other second.0.1 inside, second.0.2),
        λ y later.
            let q = later.0.0 in
            let wrote = and_parts (w.graph q && not (node q)) _ later.0.2.0 in
            let writes : IsTrue (w.graph q && a.writes q y) = and_from (w.graph q) _ (and_parts (w.graph q) _ wrote.0).0 wrote.1 in
            second.1 y (
              (
                q,
                later.0.1,
                (
                  writes,
                  λ k after. false_from_ne_true _ (λ also.
                      let u = and_parts (w.graph k) _ also in
                      elim (cases_Bool (node k)) [
                        | inl on ↦ none q k (off q later.0.1) on (Write_write y after writes also)
                        | inr out ↦ both_ways _ (later.0.2.1 k after) (and_from (w.graph k && not (node k)) _ (and_from (w.graph k) _ u.0 (not_from_false _ out)) u.1)
                      ]),
                ),
              ),
              later.1,
            ),
      )

  others_removable : (w : World O) (node : ℕ → Bool) (gates : List Gate) → IsAllowed m w (Removal node) → AreRemovable w gates → ((h : Gate) → IsGateAmong h gates → (n : ℕ) → IsTrue (node n) → IsTrue (h.node n) → ⊥) → AreRemovable (step m w (Removal node)) gates
  others_removable w node [] first are apart = tt
  others_removable w node (g ∷ gates) first are apart = (other_removable w node g.node first are.0 (apart g (inl refl)), others_removable w node gates first are.1 (λ h there. apart h (inr there)))

  removals_allowed : (w : World O) (gates : List Gate) → AreRemovable w gates → AreDisjoint gates → AreAllowed m w (removals_of gates)
  removals_allowed w [] are apart = tt
  removals_allowed w (g ∷ gates) are apart = (are.0, removals_allowed (step m w (Removal g.node)) gates (others_removable w g.node gates are.0 are.1 apart.0) apart.1)

  -- behind the gates their nodes may be removed
  pub nodes_removed : (w : World O) (gates : List Gate) → AreAllowed m w (gates_of gates) → AreAllowed m (run m w (gates_of gates)) (removals_of gates)
  nodes_removed w gates may = removals_allowed (run m w (gates_of gates)) gates (all_removable w gates may) (are_disjoint w gates may)
