-- What the arcs report nodes and minimal nodes.
use Rattle.std.proofs.Common.{ℕ, Bool, refl, inl, inr}
use Rattle.std.specs.Prelude.{IsTrue, ◌↔◌, ◌==◌}
use Rattle.std.proofs.lemmas.Bool.{cases_Bool, both_ways, eqb-true, eq-eqb}
use Rattle.install_order.specs.Order.{Access, Reaches, NoEdgeInto, IsNode}
use Rattle.install_order.specs.Arcs.{Arc, ReachesByArcs, NoArcInto}
use Rattle.install_order.specs.Digraph.{Walk, AreNodes}
use Rattle.install_order.proofs.Same.{arc-edge, edge-arcs, arcs-reach}

-- a walk of arcs that ends in the set begins in it
stays-in : (a : Access) (set : ℕ → Bool) (o p : ℕ) → NoArcInto a set → IsTrue (set p) → ReachesByArcs a o p → IsTrue (set o)
stays-in a set o p none there ReachesByArcs.Here = there
stays-in a set o p none there (ReachesByArcs.Then m q walk arc) = elim (cases_Bool (set m)) [
  | inl here ↦ stays-in a set o m none here walk
  | inr off ↦ absurd (none m q off there arc)
]

pub no-arc-into : (a : Access) (set : ℕ → Bool) → NoEdgeInto a set ↔ NoArcInto a set
no-arc-into a set = (
  (λ none o p off there arc. none o p off there (arc-edge a o p arc)),
  (λ none o p off there edge. both_ways _ off (stays-in a set o p none there (edge-arcs a o p edge))),
)

walk-arcs : (a : Access) (o p : ℕ) → Walk (Arc a) o p → Reaches a o p
walk-arcs a o p Walk.Here = Reaches.Here
walk-arcs a o p (Walk.Then m q walk arc) = Reaches.Then m q (walk-arcs a o m walk) (arc-edge a m q arc)

arcs-walk : (a : Access) (o p : ℕ) → ReachesByArcs a o p → Walk (Arc a) o p
arcs-walk a o p ReachesByArcs.Here = Walk.Here
arcs-walk a o p (ReachesByArcs.Then m q walk arc) = Walk.Then m q (arcs-walk a o m walk) arc

pub node-told : (a : Access) (node : ℕ → ℕ) (n : ℕ) → AreNodes (Arc a) node → IsNode a (λ i. node i == node n)
node-told a node n are = (
  n,
  eq-eqb (node n) (node n) refl,
  (λ i there.
      let j = (are i n).0 (eqb-true (node i) (node n) there) in
      (walk-arcs a n i j.1, walk-arcs a i n j.0)),
  (λ i f g. eq-eqb (node i) (node n) ((are i n).1 (arcs-walk a i n (arcs-reach a i n g), arcs-walk a n i (arcs-reach a n i f)))),
)
