use Rattle.std.proofs.Common.{◌≡◌, ◌∙◌, ap, sym, subst, ℕ, false, true≢false, arith}
use Rattle.std.specs.Prelude.{IsTrue, ◌↔◌}
use Rattle.std.proofs.lemmas.Bool.{both_ways}
use Rattle.install_order.specs.declared.entry.Entry.{Entry}
use Rattle.graph_nodes.specs.Arcs.{node_at}
use Rattle.write_graph.specs.Places.{IsSlotOfLsn}
use Rattle.write_graph.specs.Graph.{Graph, NamesNode, IsNodeNamed, IsSingleIdentity, lsns}
use Rattle.write_graph.proofs.Asked.{slots-are, slot-at}
use Rattle.write_graph.proofs.Numbers.{test_of, identity-test}
use Rattle.write_graph.proofs.Listed.{single, alone-slot}
use Rattle.write_graph.proofs.graph.WriteGraph.single_identity.Goals as goal

pub is_single-requires : goal.is_single-requires
is_single-requires c =
    let g = c.self.inside in
    let found_at : IsSlotOfLsn (lsns g.entries.items) c.args.n c.slot_of-slot.result = c.slot_of-slot.ensures in
    let are = slots-are g.entries.items g.links.graph g.links.rows c.self.invariant.1 c.self.invariant.0 in
    let is = subst (λ (v : Graph). NamesNode v.entries c.args.n) (sym c.self.view_is) c.requires in
    let s = slot-at c.slots_name_nodes.ensures.slots c.slots_name_nodes.ensures.names g.entries.items g.links.graph are c.args.n c.slot_of-slot.result is.0 found_at is.1 in
    omega (arith, s.0.below, s.1, c.self.invariant.1.slots)

pub returns-then-not-is_single : goal.returns-then-not-is_single
returns-then-not-is_single c node named =
    let g = c.self.inside in
    let found_at : IsSlotOfLsn (lsns g.entries.items) c.args.n c.slot_of-slot.result = c.slot_of-slot.ensures in
    let are = slots-are g.entries.items g.links.graph g.links.rows c.self.invariant.1 c.self.invariant.0 in
    let here = subst (λ (v : Graph). IsNodeNamed v.entries c.args.n node) (sym c.self.view_is) named in
    let s = slot-at c.slots_name_nodes.ensures.slots c.slots_name_nodes.ensures.names g.entries.items g.links.graph are c.args.n c.slot_of-slot.result node found_at here in
    let off : c.is_single.result ≡ false = c.if-not-is_single.true in (
      (λ t. absurd (true≢false (sym t))),
      (λ one. absurd (both_ways _ off (c.is_single.ensures.1 (subst (λ (k : ℕ). (i : ℕ) → node_at g.links.graph.node i ≡ node_at g.links.graph.node k → i ≡ k) s.1 (alone-slot g.entries.items g.links.graph g.links.rows c.self.invariant.1 c.self.invariant.0 c.args.n node here s.0 one.1))))),
    )

pub is_identity-requires : goal.is_identity-requires
is_identity-requires c =
    let g = c.self.inside in
    let found_at : IsSlotOfLsn (lsns g.entries.items) c.args.n c.slot_of-slot.result = c.slot_of-slot.ensures in
    let are = slots-are g.entries.items g.links.graph g.links.rows c.self.invariant.1 c.self.invariant.0 in
    let is = subst (λ (v : Graph). NamesNode v.entries c.args.n) (sym c.self.view_is) c.requires in
    let s = slot-at c.slots_name_nodes.ensures.slots c.slots_name_nodes.ensures.names g.entries.items g.links.graph are c.args.n c.slot_of-slot.result is.0 found_at is.1 in
    omega (arith, s.0.below, s.1)

pub returns : goal.returns
returns c node named =
    let g = c.self.inside in
    let found_at : IsSlotOfLsn (lsns g.entries.items) c.args.n c.slot_of-slot.result = c.slot_of-slot.ensures in
    let are = slots-are g.entries.items g.links.graph g.links.rows c.self.invariant.1 c.self.invariant.0 in
    let here = subst (λ (v : Graph). IsNodeNamed v.entries c.args.n node) (sym c.self.view_is) named in
    let s = slot-at c.slots_name_nodes.ensures.slots c.slots_name_nodes.ensures.names g.entries.items g.links.graph are c.args.n c.slot_of-slot.result node found_at here in
    let alone = c.is_single.ensures.0 (c.if-not-is_single.false) in
    let at : c.is_identity.result ≡ test_of (λ (e : Entry). e.identity) g.entries.items s.0.slot = c.is_identity.ensures ∙ identity-test g.entries.items c.slot_of-slot.result ∙ ap (test_of (λ (e : Entry). e.identity) g.entries.items) (sym s.1) in
    subst (λ (v : Graph). IsTrue c.is_identity.result ↔ IsSingleIdentity v.entries c.args.n node) c.self.view_is (
    single g.entries.items g.links.graph g.links.rows c.self.invariant.1 c.self.invariant.0 c.args.n node here s.0 c.is_identity.result at (subst (λ (k : ℕ). (i : ℕ) → node_at g.links.graph.node i ≡ node_at g.links.graph.node k → i ≡ k) (sym s.1) alone))
