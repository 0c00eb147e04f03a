use Rattle.std.proofs.Common.{◌≡◌, ◌∙◌, ap, sym, subst, ℕ, List, [], ◌∷◌, ◌++◌, arith}
use Rattle.std.specs.Prelude.{IsTrue, ◌↔◌}
use Rattle.oper_core.specs.State.{is_among}
use Rattle.graph_nodes.specs.Arcs.{node_at}
use Rattle.write_graph.proofs.Asked.{slot-at}
use Rattle.write_graph.proofs.Listed.{single-slots}
use Rattle.write_graph.proofs.listing.slots_of.Goals as goal

pub is_single-requires : goal.is_single-requires
is_single-requires c =
    let s = slot-at c.slots_name_nodes.ensures.slots c.slots_name_nodes.ensures.names c.args.entries.now.items c.args.graph.now c.requires.slots c.args.n c.slot_of-slot.result c.requires.name.0 c.slot_of-slot.ensures c.requires.name.1 in
    omega (arith, s.0.below, s.1, c.requires.count)

pub returns-then-is_single : goal.returns-then-is_single
returns-then-is_single c = λ node named.
    let s = slot-at c.slots_name_nodes.ensures.slots c.slots_name_nodes.ensures.names c.args.entries.now.items c.args.graph.now c.requires.slots c.args.n c.slot_of-slot.result node c.slot_of-slot.ensures named in
    let items : c.push.new.self.items ≡ c.slot_of-slot.result ∷ [] = c.in_ok-push.ensures.items ∙ ap (λ (xs : List ℕ). xs ++ c.slot_of-slot.result ∷ []) c.new-slots.ensures.items in
    single-slots c.args.entries.now.items c.args.graph.now c.args.n c.push.new.self.items node s.0 c.slot_of-slot.result s.1 items (c.is_single.ensures.0 c.if-is_single.true)

pub members-requires-clause-slot : goal.members-requires-clause-slot
members-requires-clause-slot c =
    let s = slot-at c.slots_name_nodes.ensures.slots c.slots_name_nodes.ensures.names c.args.entries.now.items c.args.graph.now c.requires.slots c.args.n c.slot_of-slot.result c.requires.name.0 c.slot_of-slot.ensures c.requires.name.1 in
    omega (arith, s.0.below, s.1, c.requires.count)

pub returns : goal.returns
returns c = λ node named.
    let s = slot-at c.slots_name_nodes.ensures.slots c.slots_name_nodes.ensures.names c.args.entries.now.items c.args.graph.now c.requires.slots c.args.n c.slot_of-slot.result node c.slot_of-slot.ensures named in record {
      slot = s.0;
      among = λ i. subst (λ (k : ℕ). IsTrue (is_among i c.members.new.out.items) ↔ (node_at c.args.graph.now.node i ≡ node_at c.args.graph.now.node k)) (sym s.1) (c.members.ensures.members i);
    }
