use Rattle.std.proofs.Common.{◌≡◌, ◌∙◌, ap, sym, subst, ℕ, Bool, List, length, arith}
use Rattle.std.specs.Prelude.{IsTrue, slice_index}
use Rattle.std.specs.List.{filter}
use Rattle.oper_core.specs.State.{is_among}
use Rattle.install_order.specs.Order.{flush_set_of}
use Rattle.install_order.specs.Entries.{accesses}
use Rattle.graph_nodes.specs.Arcs.{held_at}
use Rattle.write_graph.specs.Places.{IsSlotOfLsn}
use Rattle.write_graph.specs.Graph.{Graph, lsns, NamesNode, IsNodeNamed, Lists}
use Rattle.write_graph.specs.Cells.{slot_access, held_entries}
use Rattle.write_graph.specs.Rows.{last_held}
use Rattle.write_graph.specs.Listing.{IsWrittenBy, is_with}
use Rattle.write_graph.proofs.Options.{ok-then}
use Rattle.write_graph.proofs.Numbers.{renamed, lsn-same}
use Rattle.write_graph.proofs.Listed.{lists-same, lists-filter, slots-below, flushed}
use Rattle.write_graph.proofs.Asked.{slots-are, slot-at}
use Rattle.write_graph.proofs.graph.WriteGraph.flush_set.Goals as goal

pub slots_of-requires-clause-slots : goal.slots_of-requires-clause-slots
slots_of-requires-clause-slots c =
    let g = c.self.inside in
    slots-are g.entries.items g.links.graph g.links.rows c.self.invariant.1 c.self.invariant.0

pub written_by-requires : goal.written_by-requires
written_by-requires c =
    let g = c.self.inside in
    let entries = g.entries.items in
    let linked = c.self.invariant.1 in
    let has = c.in_ok-slots.ensures in
    let is = subst (λ (v : Graph). NamesNode v.entries c.args.n) (sym c.self.view_is) c.requires in
    let m = has is.0 is.1 in
    record { below = λ i t. slots-below entries g.links.graph g.links.rows linked c.self.invariant.0 c.args.n is.0 is.1 m.slot c.in_ok-slots.slots.items m.among i (subst (λ (xs : List ℕ). IsTrue (is_among i xs)) c.as_slice.ensures.value t) }

pub last_written-requires-clause-slot : goal.last_written-requires-clause-slot
last_written-requires-clause-slot c =
    let g = c.self.inside in
    let entries = g.entries.items in
    let linked = c.self.invariant.1 in
    let found_at : IsSlotOfLsn (lsns entries) c.args.n c.slot_of-slot.result = c.slot_of-slot.ensures in
    let are = slots-are entries g.links.graph g.links.rows linked c.self.invariant.0 in
    let is = subst (λ (v : Graph). NamesNode v.entries c.args.n) (sym c.self.view_is) c.requires in
    let s = slot-at c.slots_name_nodes.ensures.slots c.slots_name_nodes.ensures.names entries g.links.graph are c.args.n c.slot_of-slot.result is.0 found_at is.1 in
    omega (arith, s.0.below, s.1, linked.slots)

pub last_written-requires-clause-below : goal.last_written-requires-clause-below
last_written-requires-clause-below c x w last = omega (arith, c.self.invariant.1.rows_are.below x w last, c.self.invariant.1.slots)

pub returns : goal.returns
returns c =
    let g = c.self.inside in
    let entries = g.entries.items in
    let linked = c.self.invariant.1 in
    let has = c.in_ok-slots.ensures in
    let found_at : IsSlotOfLsn (lsns entries) c.args.n c.slot_of-slot.result = c.slot_of-slot.ensures in
    let are = slots-are entries g.links.graph g.links.rows linked c.self.invariant.0 in
    let lsn : ℕ → ℕ = slice_index (lsns entries) in
    let named_is = renamed entries g.links.graph.held linked.held c.self.invariant.0.above_held in
    ok-then c.last_written.result _ _ (λ found kept node named.
    let here = subst (λ (v : Graph). IsNodeNamed v.entries c.args.n node) (sym c.self.view_is) named in
    let m = has node here in
    let s = slot-at c.slots_name_nodes.ensures.slots c.slots_name_nodes.ensures.names entries g.links.graph are c.args.n c.slot_of-slot.result node found_at here in
    let at : m.slot.slot ≡ c.slot_of-slot.result = lsn-same (held_at g.links.graph.held) entries c.self.invariant.0.above_held m.slot.slot s.0.slot m.slot.name.0 s.0.name.0 m.slot.below s.0.below (m.slot.lsn ∙ sym s.0.lsn) ∙ s.1 in
    let t : ℕ → ℕ → Bool = λ slot x. is_with g.links.graph slot (last_held g.links.graph.held g.links.rows x) in
    let list = subst (λ (xs : List ℕ). Lists (IsWrittenBy entries xs) c.in_ok-objects.objects.items) c.as_slice.ensures.value c.in_ok-objects.ensures in
    let items : found.items ≡ filter (t m.slot.slot) c.in_ok-objects.objects.items = kept ∙ ap (filter (t c.slot_of-slot.result)) c.as_slice-2.ensures.value ∙ ap (λ (k : ℕ). filter (t k) c.in_ok-objects.objects.items) (sym at) in
    subst (λ (v : Graph). Lists (flush_set_of (accesses v.entries) node) found.items) c.self.view_is (
    subst (λ (xs : List ℕ). Lists (flush_set_of (accesses (held_entries g.links.graph.held entries)) node) xs) (sym items) (
    lists-same (λ x. IsWrittenBy entries c.in_ok-slots.slots.items x × IsTrue (t m.slot.slot x)) (flush_set_of (accesses (held_entries g.links.graph.held entries)) node) (filter (t m.slot.slot) c.in_ok-objects.objects.items)
    (flushed entries g.links.graph g.links.rows linked c.self.invariant.0 c.args.n node here m.slot (λ x i lt. c.nodes_stand_for_nodes.ensures.last (slot_access entries g.links.graph.held) (accesses (held_entries g.links.graph.held entries)) (held_at g.links.graph.held) (length entries) lsn x i named_is lt) c.in_ok-slots.slots.items m.among)
    (lists-filter (IsWrittenBy entries c.in_ok-slots.slots.items) (t m.slot.slot) c.in_ok-objects.objects.items list)))) c.last_written.ensures
