-- The next node, as it is computed, is a minimal node of the graph's members, and none has a lesser name.
use Rattle.std.proofs.Common.{subst, ℕ, ◌<◌, ◌≤◌, Bool, arith}
use Rattle.std.specs.Prelude.{IsTrue, ◌&&◌, not}
use Rattle.std.proofs.lemmas.Bool.{both_ways, and_parts, and_from, not-true, not_from_false, false_from_ne_true}
use Rattle.oper_core.specs.Meaning.{Meaning, IsLawful}
use Rattle.install_order.specs.Order.{Access, Edge, Reaches, IsNode, IsName, IsMinimal, NoEdgeInto}
use Rattle.install_order.specs.Order.Edge.{Read_write, Write_write, Lost_version}
use Rattle.install_order.specs.Order.Reaches.{Here, Then}
use Rattle.install_order.specs.Computed.{IsWithin, some_below, edge_test}
use Rattle.install_order.specs.NodeLaws.{some-from, some-gives, test-gives, test-from, edge-start, edge-end, node-is, node-unique, minimal-exists, least-is, walk-on}
use Rattle.explain_core.specs.GraphLaws.{graph-within}
use Rattle.explain_core.specs.Sound.{IsSound}
use Rattle.explain_core.specs.Turns.{is_entered}
use Rattle.explain_core.specs.World.{World, end_of, graph_access, node_named}
use Rattle.cache_manager.specs.InstallCourses.{next_name, next_node}

-- of the minimal nodes of the graph's members the one with the least name
pub record IsNext {O : Type 0} (m : Meaning O) (w : World O) (node : ℕ → Bool) : Type 0 where
  pub name : ℕ
  pub member : IsTrue (w.graph name)
  pub inside : (n : ℕ) → IsTrue (node n) → IsTrue (w.graph n)
  pub minimal : IsMinimal (graph_access m w) node
  pub is_name : IsName node name
  pub least : (k : ℕ) (other : ℕ → Bool) → IsTrue (w.graph k) → IsMinimal (graph_access m w) other → IsName other k → name ≤ k

module _ {O : Type 0} (m : Meaning O) (lawful : IsLawful m) (w : World O) (sound : IsSound m w) where
  abbrev a : Access
  a = graph_access m w

  abbrev end : ℕ
  end = end_of w

  pub is_within : IsWithin a m.objects end
  is_within = graph-within m lawful w sound

  -- the members of the graph have LSNs of the history
  pub below : (n : ℕ) → IsTrue (w.graph n) → n < end
  below n there = omega (arith, (sound.graph n there).1, sound.next.1)

  -- what the test says
  pub none_enters : (node : ℕ → Bool) → IsTrue (not (is_entered m w node)) → NoEdgeInto a node
  none_enters node t o p off held edge =
      both_ways _ (not-true _ t) (some-from end (λ o. not (node o) && some_below end (λ p. node p && edge_test a m.objects end o p)) o (edge-start a m.objects end o p is_within edge)
      (and_from _ _ (not_from_false _ off) (some-from end (λ p. node p && edge_test a m.objects end o p) p (edge-end a m.objects end o p is_within edge) (and_from _ _ held (test-from a m.objects end o p is_within edge)))))

  pub test_none : (node : ℕ → Bool) → NoEdgeInto a node → IsTrue (not (is_entered m w node))
  test_none node none = not_from_false _ (false_from_ne_true _ (λ s.
      let o = some-gives end (λ o. not (node o) && some_below end (λ p. node p && edge_test a m.objects end o p)) s in
      let u = and_parts (not (node o.0)) _ o.2 in
      let p = some-gives end (λ p. node p && edge_test a m.objects end o.0 p) u.1 in
      let v = and_parts (node p.0) _ p.2 in
      none o.0 p.0 (not-true _ u.0) v.0 (test-gives a m.objects end o.0 p.0 v.1)))

  -- what an edge joins are members of the graph
  from_member : (o p : ℕ) → Edge a o p → IsTrue (w.graph o)
  from_member o p (Read_write x lt r v) = (and_parts (w.graph o) _ r).0
  from_member o p (Write_write x lt r v) = (and_parts (w.graph o) _ r).0
  from_member o p (Lost_version x later lt v none r le l) = (and_parts (w.graph o) _ r).0

  to_member : (o p : ℕ) → Edge a o p → IsTrue (w.graph p)
  to_member o p (Read_write x lt r v) = (and_parts (w.graph p) _ v).0
  to_member o p (Write_write x lt r v) = (and_parts (w.graph p) _ v).0
  to_member o p (Lost_version x later lt v none r le l) = (and_parts (w.graph p) _ v).0

  reached_member : (o p : ℕ) → IsTrue (w.graph o) → Reaches a o p → IsTrue (w.graph p)
  reached_member o p there Here = there
  reached_member o p there (Then mid q walk edge) = to_member mid p edge

  abbrev passes : ℕ → Bool
  passes n = w.graph n && not (is_entered m w (node_named m w n))

  -- a member of a minimal node passes
  passes_from : (node : ℕ → Bool) (n : ℕ) → IsMinimal a node → IsTrue (node n) → IsTrue (w.graph n) → IsTrue (passes n)
  passes_from node n min held member =
      let named = node-is a m.objects end n is_within in
      and_from _ _ member (subst (λ (s : ℕ → Bool). IsTrue (not (is_entered m w s))) (node-unique a node (node_named m w n) n min.0 named.0 held named.1) (test_none node min.1))

  joined : (node : ℕ → Bool) → IsNode a node → (one n : ℕ) → IsTrue (node one) → IsTrue (node n) → Reaches a one n
  joined node is one n first held = walk-on a one is.0 n (is.2 one first).1 (is.2 n held).0

  pub next_is : (c : ℕ) → IsTrue (w.graph c) → IsNext m w (next_node m w)
  next_is c there =
      let some = minimal-exists a m.objects end w.graph is_within from_member below c there in
      let r = least-is passes end in
      let low : next_name m w < end = omega (
        arith,
        below some.0 some.1,
        r.2 some.0 (below some.0 some.1)
            (passes_from (node_named m w some.0) some.0 some.2 (node-is a m.objects end some.0 is_within).1 some.1),
      ) in
      let here = and_parts (w.graph (next_name m w)) _ (r.1 low) in
      let named = node-is a m.objects end (next_name m w) is_within in
      let minimal : IsMinimal a (next_node m w) = (named.0, none_enters (next_node m w) here.1) in
      let inside : (n : ℕ) → IsTrue (next_node m w n) → IsTrue (w.graph n) = λ n held. reached_member (next_name m w) n here.0 (joined (next_node m w) minimal.0 (next_name m w) n named.1 held) in
      record {
        name = next_name m w;
        member = here.0;
        inside = inside;
        minimal = minimal;
        is_name = (named.1, λ n held. r.2 n (below n (inside n held)) (passes_from (next_node m w) n minimal held (inside n held)));
        least = λ k other member min name. r.2 k (below k member) (passes_from other k min name.0 member);
      }

  -- it has the next name
  pub next_has_name : (c : ℕ) → IsTrue (w.graph c) → IsTrue (w.graph (next_name m w)) × IsName (next_node m w) (next_name m w)
  next_has_name c there =
      let next = next_is c there in
      let r = least-is passes end in
      let named = node-is a m.objects end (next_name m w) is_within in
      (next.inside (next_name m w) named.1, (named.1, λ n held. r.2 n (below n (next.inside n held)) (passes_from (next_node m w) n next.minimal held (next.inside n held))))
