-- The slots that name nodes stand for the LSNs that do.
use Rattle.std.proofs.Common.{◌≡◌, sym, subst, ℕ, ◌<◌, Bool, List, length, refl, arith, inl, inr}
use Rattle.std.specs.Prelude.{IsTrue, ◌==◌, ◌↔◌, slice_index}
use Rattle.std.proofs.lemmas.Bool.{cases_Bool, cases_lt, both_ways, and_parts, and_from, eqb-true, eq-eqb}
use Rattle.install_order.specs.declared.entry.Entry.{Entry}
use Rattle.install_order.specs.Order.{Access, IsNode, IsName, NoEdgeInto}
use Rattle.install_order.specs.Entries.{accesses}
use Rattle.install_order.specs.NodeLaws.{node-unique}
use Rattle.install_order.specs.Arcs.{Arc, NoArcInto}
use Rattle.install_order.specs.Digraph.{Walk, AreNodes}
use Rattle.install_order.specs.Digraph.Walk.{Here, Then}
use Rattle.install_order.specs.Renamed.{IsRenamed, lsns_of, places_of}
use Rattle.graph_nodes.specs.Arcs.{IsArc, node_at, held_at}
use Rattle.graph_nodes.specs.Named.{Graph, IsMinimal, IsName as NamesSlots}
use Rattle.write_graph.specs.Graph.{lsns, IsNodeNamed, NamesNode}
use Rattle.write_graph.specs.Cells.{slot_access, held_entries}
use Rattle.write_graph.specs.Naming.{AreSlots, IsSlotOf}
use Rattle.write_graph.proofs.Place.{read-past}
use Rattle.write_graph.proofs.Numbers.{chosen-slot, slot-chosen, renamed}

walk-same : (E F : ℕ → ℕ → Type 0) (o p : ℕ) → ((i j : ℕ) → E i j → F i j) → Walk E o p → Walk F o p
walk-same E F o p to Here = Here
walk-same E F o p to (Then m q walk arc) = Then m q (walk-same E F o m to walk) (to m q arc)

nodes-same : (E F : ℕ → ℕ → Type 0) (node : ℕ → ℕ) → ((i j : ℕ) → E i j → F i j) → ((i j : ℕ) → F i j → E i j) → AreNodes E node → AreNodes F node
nodes-same E F node to from are i j = (
  (λ e. let both = (are i j).0 e in (walk-same E F i j to both.0, walk-same E F j i to both.1)),
  (λ both. (are i j).1 (walk-same F E i j from both.0, walk-same F E j i from both.1)),
)

-- the laws that are used
pub record AreLaws : Type 0 where
  pub tells : (a : Access) (node : ℕ → ℕ) (n : ℕ) → AreNodes (Arc a) node → IsNode a (λ i. node i == node n)
  pub lsns : (a b : Access) (dom : ℕ → Bool) (end : ℕ) (lsn : ℕ → ℕ) (set : ℕ → Bool) (i : ℕ) → IsRenamed a b dom end lsn → IsNode a set → IsTrue (set i) → IsTrue (dom i) → IsNode b (lsns_of dom end lsn set) × IsTrue (lsns_of dom end lsn set (lsn i))
  pub places : (a b : Access) (dom : ℕ → Bool) (end : ℕ) (lsn : ℕ → ℕ) (node : ℕ → Bool) (i : ℕ) → IsRenamed a b dom end lsn → IsNode b node → IsTrue (dom i) → IsTrue (node (lsn i)) → IsNode a (places_of dom lsn node)
  pub name : (a b : Access) (dom : ℕ → Bool) (end : ℕ) (lsn : ℕ → ℕ) (set : ℕ → Bool) (i : ℕ) → IsRenamed a b dom end lsn → IsTrue (dom i) → IsName set i → IsName (lsns_of dom end lsn set) (lsn i)
  pub free : (a b : Access) (dom : ℕ → Bool) (end : ℕ) (lsn : ℕ → ℕ) (set : ℕ → Bool) → IsRenamed a b dom end lsn → NoEdgeInto a set ↔ NoEdgeInto b (lsns_of dom end lsn set)
  pub arcs : (a : Access) (set : ℕ → Bool) → NoEdgeInto a set ↔ NoArcInto a set

pub held-below : (entries : List Entry) (g : Graph) (i : ℕ) → length g.held ≡ length entries → IsTrue (held_at g.held i) → i < length entries
held-below entries g i size t = elim (cases_lt i (length entries)) [
  | inl lt ↦ lt
  | inr ge ↦ absurd (both_ways _ (read-past g.held i _ (omega (arith, ge, size))) t)
]

module _ (laws : AreLaws) (entries : List Entry) (g : Graph) (are : AreSlots entries g) where
  abbrev a : Access
  a = slot_access entries g.held

  abbrev view : List Entry
  view = held_entries g.held entries

  abbrev lsn : ℕ → ℕ
  lsn i = slice_index (lsns entries) i

  abbrev end : ℕ
  end = length entries

  named : IsRenamed a (accesses view) (held_at g.held) end lsn
  named = renamed entries g.held are.held are.rising.above_held

  abbrev slots : ℕ → ℕ → Bool
  slots i k = node_at g.node k == node_at g.node i

  is-node : (i : ℕ) → IsNode a (slots i)
  is-node i = laws.tells a (node_at g.node) i (nodes-same (IsArc g.arcs) (Arc a) (node_at g.node) (λ o p arc. (are.arcs o p).1 arc) (λ o p arc. (are.arcs o p).0 arc) are.nodes)

  self : (i : ℕ) → IsTrue (slots i i)
  self i = eq-eqb (node_at g.node i) (node_at g.node i) refl

  free : (i : ℕ) → NoEdgeInto a (slots i) ↔ IsMinimal g.arcs g.node (node_at g.node i)
  free i = (
    (λ none o p arc e. elim (cases_Bool (slots i o)) [
      | inl there ↦ eqb-true (node_at g.node o) (node_at g.node i) there
      | inr off ↦ absurd ((laws.arcs a (slots i)).0 none o p off (eq-eqb (node_at g.node p) (node_at g.node i) e) ((are.arcs o p).1 arc))
    ]),
    (λ is. (laws.arcs a (slots i)).1 (λ o p off there arc.
        both_ways _ off (eq-eqb (node_at g.node o) (node_at g.node i) (is o p ((are.arcs o p).0 arc) (eqb-true (node_at g.node p) (node_at g.node i) there))))),
  )

  pub name-is : (i : ℕ) → NamesSlots g i → NamesNode view (lsn i)
  name-is i name =
      let below = held-below entries g i are.held name.0 in
      let n = laws.lsns a (accesses view) (held_at g.held) end lsn (slots i) i named (is-node i) (self i) name.0 in (
        lsns_of (held_at g.held) end lsn (slots i),
        record {
          held = slot-chosen (held_at g.held) entries i below name.0;
          is_node = n.0;
          is_name = laws.name a (accesses view) (held_at g.held) end lsn (slots i) i named name.0 (self i, (λ k there. name.1 k (eqb-true (node_at g.node k) (node_at g.node i) there)));
        },
      )

  pub slot-is : (n : ℕ) (node : ℕ → Bool) → IsNodeNamed view n node → IsSlotOf entries g n node
  slot-is n node is =
      let s = chosen-slot (held_at g.held) entries n is.held in
      let i = s.0 in
      let at : lsn i ≡ n = s.3 in
      let there : IsTrue (node (lsn i)) = subst (λ (k : ℕ). IsTrue (node k)) (sym at) is.is_name.0 in
      let P = places_of (held_at g.held) lsn node in
      let is_P = laws.places a (accesses view) (held_at g.held) end lsn node i named is.is_node s.2 there in
      let P_i : IsTrue (P i) = and_from (held_at g.held i) (node (lsn i)) s.2 there in
      let same : P ≡ slots i = node-unique a P (slots i) i is_P (is-node i) P_i (self i) in
      let N = laws.lsns a (accesses view) (held_at g.held) end lsn (slots i) i named (is-node i) (self i) s.2 in
      let all : node ≡ lsns_of (held_at g.held) end lsn (slots i) = node-unique (accesses view) node (lsns_of (held_at g.held) end lsn (slots i)) (lsn i) is.is_node N.0 there N.1 in
      let edges = laws.free a (accesses view) (held_at g.held) end lsn (slots i) named in
      let arcs = free i in
      let into : (k : ℕ) → node_at g.node k ≡ node_at g.node i → IsTrue (P k) = λ k e. subst (λ (t : ℕ → Bool). IsTrue (t k)) (sym same) (eq-eqb (node_at g.node k) (node_at g.node i) e) in
      record {
        slot = i;
        below = s.1;
        name = (
          s.2,
          (λ k e.
              let u = and_parts (held_at g.held k) (node (lsn k)) (into k e) in
              let le = is.is_name.1 (lsn k) u.1 in
              elim (cases_lt k i) [
                | inl lt ↦ absurd (omega (arith, named.rising k i u.0 lt s.2, le, at))
                | inr ge ↦ omega (arith, ge)
              ]),
        );
        lsn = at;
        members = λ k lt. (
          (λ t. eqb-true (node_at g.node k) (node_at g.node i) (subst (λ (t : ℕ → Bool). IsTrue (t k)) same (and_from (held_at g.held k) (node (lsn k)) lt t))),
          (λ e. (and_parts (held_at g.held k) (node (lsn k)) (into k e)).1),
        );
        minimal = (
          (λ none. arcs.0 (edges.1 (subst (λ (t : ℕ → Bool). NoEdgeInto (accesses view) t) all none))),
          (λ min. subst (λ (t : ℕ → Bool). NoEdgeInto (accesses view) t) (sym all) (edges.0 (arcs.1 min))),
        );
      }
