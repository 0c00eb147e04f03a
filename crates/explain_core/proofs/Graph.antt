-- The graph of a sound world has nodes, and a minimal one.
use Rattle.std.proofs.Common.{ℕ, Bool, arith}
use Rattle.std.specs.Prelude.{IsTrue}
use Rattle.std.proofs.lemmas.Bool.{and_parts}
use Rattle.install_order.specs.Order.{Access, Edge, Reaches, IsMinimal, within}
use Rattle.install_order.specs.Order.Edge.{Read_write, Write_write, Lost_version}
use Rattle.install_order.specs.Order.Reaches.{Here, Then}
use Rattle.install_order.specs.Computed.{edge_test, reach}
use Rattle.install_order.specs.NodeLaws.{minimal-exists, reach-gives, test-gives}
use Rattle.oper_core.specs.Meaning.{Meaning, IsLawful}
use Rattle.explain_core.specs.History.{accesses_of}
use Rattle.explain_core.specs.World.{World, graph_access, end_of, node_named}
use Rattle.explain_core.specs.Sound.{IsSound}
use Rattle.explain_core.specs.GraphLaws.{graph-within}

-- the ends of an edge over chosen members are chosen
edge-chosen : (g : ℕ → Bool) (a : Access) (o p : ℕ) → Edge (within g a) o p → IsTrue (g o) × IsTrue (g p)
edge-chosen g a o p (Read_write x lt r w) = ((and_parts (g o) _ r).0, (and_parts (g p) _ w).0)
edge-chosen g a o p (Write_write x lt r w) = ((and_parts (g o) _ r).0, (and_parts (g p) _ w).0)
edge-chosen g a o p (Lost_version x later lt w none r le wl) = ((and_parts (g o) _ r).0, (and_parts (g p) _ w).0)

walk-chosen : (g : ℕ → Bool) (a : Access) (o p : ℕ) → IsTrue (g o) → Reaches (within g a) o p → IsTrue (g p)
walk-chosen g a o p there Here = there
walk-chosen g a o p there (Then m q walk edge) = (edge-chosen g a m q edge).1

-- where the graph has a member, it has a minimal node, of members alone
pub minimal-ready : {O : Type 0} (m : Meaning O) → IsLawful m → (w : World O) → IsSound m w → (c : ℕ) → IsTrue (w.graph c) →
    (name : ℕ) × IsTrue (w.graph name) × IsMinimal (graph_access m w) (node_named m w name) × ((n : ℕ) → IsTrue (node_named m w name n) → IsTrue (w.graph n))
minimal-ready m law w s c there =
    let u = graph_access m w in
    let e = edge_test u m.objects (end_of w) in
    let r = minimal-exists u m.objects (end_of w) w.graph (graph-within m law w s) (λ o p edge. (edge-chosen w.graph (accesses_of m w.history) o p edge).0) (λ n held. omega (arith, (s.graph n held).1, s.next.1)) c there in
    (r.0, r.1, r.2, λ n held. walk-chosen w.graph (accesses_of m w.history) r.0 n r.1 (reach-gives u e (λ o p. test-gives u m.objects (end_of w) o p) (end_of w) r.0 n (and_parts (reach e (end_of w) r.0 n) _ held).0))
