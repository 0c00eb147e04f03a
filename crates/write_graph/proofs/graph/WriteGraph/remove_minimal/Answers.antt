use Rattle.std.proofs.Common.{◌≡◌, ◌∙◌, ap, sym, subst, ℕ, ◌<◌, List, Bool, length, nat_eq, refl, arith}
use Rattle.std.specs.Prelude.{IsTrue, IsFalse, ◌↔◌}
use Rattle.indexmap.specs.IndexMap.{get}
use Rattle.oper_core.specs.State.{is_among}
use Rattle.install_order.specs.declared.entry.Entry.{Entry}
use Rattle.install_order.specs.Order.{Edge, flush_set_of}
use Rattle.install_order.specs.Entries.{accesses}
use Rattle.install_order.specs.NodeLaws.{node-unique}
use Rattle.graph_nodes.specs.Arcs.{node_at, held_at}
use Rattle.graph_nodes.specs.Removed.{IsRemoved}
use Rattle.write_graph.specs.Places.{IsSlotOfLsn}
use Rattle.write_graph.specs.Graph.{Graph, IsNodeNamed, NamesMinimal, lsns}
use Rattle.write_graph.specs.Cells.{writes_of, held_entries}
use Rattle.write_graph.specs.Firsts.{ArePassed, IsOutside}
use Rattle.write_graph.proofs.Removal.{left, nodes-left, flush-sets-left, entries-edges-left, left-fewer}
use Rattle.write_graph.proofs.Asked.{found-minimal}
use Rattle.write_graph.proofs.FirstWriters.{passed-none, firsts-left}
use Rattle.write_graph.proofs.Counted.{chosen-without, left-count, left-entries, climbing-left}
use Rattle.write_graph.proofs.graph.WriteGraph.remove_minimal.Goals as goal

pub members-requires-clause-slot : goal.members-requires-clause-slot
members-requires-clause-slot c =
    let g = c.self.inside in
    let found_at : IsSlotOfLsn (lsns g.entries.items) c.args.n c.slot_of-slot.result = c.slot_of-slot.ensures in
    let is = subst (λ (v : Graph). NamesMinimal v.entries c.args.n) (sym c.self.view_is) c.requires in
    let found = found-minimal c.slots_name_nodes.ensures.slots c.slots_name_nodes.ensures.names g.entries.items g.links.graph g.links.rows c.args.n c.slot_of-slot.result c.self.invariant.1 c.self.invariant.0 found_at is in
    omega (arith, found.slot.below, found.at, c.self.invariant.1.slots)

pub overflow_sub-self : goal.overflow_sub-self
overflow_sub-self c =
    let g = c.self.inside in
    let found_at : IsSlotOfLsn (lsns g.entries.items) c.args.n c.slot_of-slot.result = c.slot_of-slot.ensures in
    let is = subst (λ (v : Graph). NamesMinimal v.entries c.args.n) (sym c.self.view_is) c.requires in
    let found = found-minimal c.slots_name_nodes.ensures.slots c.slots_name_nodes.ensures.names g.entries.items g.links.graph g.links.rows c.args.n c.slot_of-slot.result c.self.invariant.1 c.self.invariant.0 found_at is in
    let xs = c.members.new.out.items in
    let count = chosen-without (held_at g.links.graph.held) g.entries.items xs c.members.ensures.distinct (λ i there. found.held i ((c.members.ensures.members i).0 there)) in
    omega (arith, count, c.len.ensures, c.self.invariant.2)

pub node-node-requires : goal.node-node-requires
node-node-requires c =
    let g = c.self.inside in
    let found_at : IsSlotOfLsn (lsns g.entries.items) c.args.n c.slot_of-slot.result = c.slot_of-slot.ensures in
    let is = subst (λ (v : Graph). NamesMinimal v.entries c.args.n) (sym c.self.view_is) c.requires in
    let found = found-minimal c.slots_name_nodes.ensures.slots c.slots_name_nodes.ensures.names g.entries.items g.links.graph g.links.rows c.args.n c.slot_of-slot.result c.self.invariant.1 c.self.invariant.0 found_at is in
    omega (arith, found.slot.below, found.at, c.self.invariant.1.slots)

pub pass_over-requires-clause-below : goal.pass_over-requires-clause-below
pass_over-requires-clause-below c i there =
    let g = c.self.inside in
    let found_at : IsSlotOfLsn (lsns g.entries.items) c.args.n c.slot_of-slot.result = c.slot_of-slot.ensures in
    let is = subst (λ (v : Graph). NamesMinimal v.entries c.args.n) (sym c.self.view_is) c.requires in
    let found = found-minimal c.slots_name_nodes.ensures.slots c.slots_name_nodes.ensures.names g.entries.items g.links.graph g.links.rows c.args.n c.slot_of-slot.result c.self.invariant.1 c.self.invariant.0 found_at is in
    let among : IsTrue (is_among i c.members.new.out.items) = subst (λ (xs : List ℕ). IsTrue (is_among i xs)) c.as_slice.ensures.value there in
    (found.held i ((c.members.ensures.members i).0 among)).0

pub pass_over-requires-clause-passed : goal.pass_over-requires-clause-passed
pass_over-requires-clause-passed c = passed-none c.self.inside.entries.items c.self.inside.links.graph c.node-node.result (get nat_eq c.self.inside.firsts) c.self.invariant.4

pub remove-requires-clause-held : goal.remove-requires-clause-held
remove-requires-clause-held c =
    let g = c.self.inside in
    let found_at : IsSlotOfLsn (lsns g.entries.items) c.args.n c.slot_of-slot.result = c.slot_of-slot.ensures in
    let is = subst (λ (v : Graph). NamesMinimal v.entries c.args.n) (sym c.self.view_is) c.requires in
    let found = found-minimal c.slots_name_nodes.ensures.slots c.slots_name_nodes.ensures.names g.entries.items g.links.graph g.links.rows c.args.n c.slot_of-slot.result c.self.invariant.1 c.self.invariant.0 found_at is in
    (found.held c.slot_of-slot.result refl).1

pub remove-requires-clause-minimal : goal.remove-requires-clause-minimal
remove-requires-clause-minimal c =
    let g = c.self.inside in
    let found_at : IsSlotOfLsn (lsns g.entries.items) c.args.n c.slot_of-slot.result = c.slot_of-slot.ensures in
    let is = subst (λ (v : Graph). NamesMinimal v.entries c.args.n) (sym c.self.view_is) c.requires in
    let found = found-minimal c.slots_name_nodes.ensures.slots c.slots_name_nodes.ensures.names g.entries.items g.links.graph g.links.rows c.args.n c.slot_of-slot.result c.self.invariant.1 c.self.invariant.0 found_at is in
    found.minimal

pub invariant_of-self : goal.invariant_of-self
invariant_of-self c =
    let g = c.self.inside in
    let found_at : IsSlotOfLsn (lsns g.entries.items) c.args.n c.slot_of-slot.result = c.slot_of-slot.ensures in
    let is = subst (λ (v : Graph). NamesMinimal v.entries c.args.n) (sym c.self.view_is) c.requires in
    let found = found-minimal c.slots_name_nodes.ensures.slots c.slots_name_nodes.ensures.names g.entries.items g.links.graph g.links.rows c.args.n c.slot_of-slot.result c.self.invariant.1 c.self.invariant.0 found_at is in
    let xs = c.members.new.out.items in
    let node = c.node-node.ensures.value in
    let m = node_at g.links.graph.node c.slot_of-slot.result in
    let passed : ArePassed g.entries.items g.links.graph m (get nat_eq c.pass_over.new.firsts) = subst (λ (k : ℕ). ArePassed g.entries.items g.links.graph k (get nat_eq c.pass_over.new.firsts)) node c.pass_over.ensures.passed in
    let outside : (x i : ℕ) → node_at g.links.graph.node i ≡ m → IsTrue (is_among x (writes_of g.entries.items i)) → IsOutside g.links.graph m (get nat_eq c.pass_over.new.firsts x) = λ x i e there.
    let among : IsTrue (is_among i c.as_slice.result.now) = subst (λ (ys : List ℕ). IsTrue (is_among i ys)) (sym c.as_slice.ensures.value) ((c.members.ensures.members i).1 e) in
    subst (λ (k : ℕ). IsOutside g.links.graph k (get nat_eq c.pass_over.new.firsts x)) node (c.pass_over.ensures.outside x (i, among, there)) in
    let firsts = firsts-left g.entries.items g.links.graph c.remove.new.self.graph m c.remove.ensures.removed (get nat_eq c.pass_over.new.firsts) passed outside in
    let count = left-count g.entries.items g.links.graph c.remove.new.self.graph c.slot_of-slot.result xs c.remove.ensures.removed c.members.ensures.distinct c.members.ensures.members found.held in (
      climbing-left g.links.graph c.remove.new.self.graph (node_at g.links.graph.node c.slot_of-slot.result) (lsns g.entries.items) c.remove.ensures.removed c.self.invariant.0,
      c.remove.ensures.linked,
      omega (arith, count, c.len.ensures, c.self.invariant.2),
      record {
        links = omega (arith, c.self.invariant.3.links, c.remove.ensures.room);
        entries = c.self.invariant.3.entries;
        firsts = omega (arith, c.self.invariant.3.firsts, c.pass_over.ensures.room);
        members = omega (arith, c.self.invariant.3.members, c.members.ensures.capacity);
      },
      firsts,
    )

pub returns-clause-entries : goal.returns-clause-entries
returns-clause-entries c node named =
    let g = c.self.inside in
    let found_at : IsSlotOfLsn (lsns g.entries.items) c.args.n c.slot_of-slot.result = c.slot_of-slot.ensures in
    let is = subst (λ (v : Graph). NamesMinimal v.entries c.args.n) (sym c.self.view_is) c.requires in
    let found = found-minimal c.slots_name_nodes.ensures.slots c.slots_name_nodes.ensures.names g.entries.items g.links.graph g.links.rows c.args.n c.slot_of-slot.result c.self.invariant.1 c.self.invariant.0 found_at is in
    let view = held_entries g.links.graph.held g.entries.items in
    let after = held_entries c.remove.new.self.graph.held g.entries.items in
    let removed : IsRemoved g.links.graph (node_at g.links.graph.node found.slot.slot) c.remove.new.self.graph = subst (λ (k : ℕ). IsRemoved g.links.graph (node_at g.links.graph.node k) c.remove.new.self.graph) (sym found.at) c.remove.ensures.removed in
    let kept : after ≡ left found.node view = left-entries g.entries.items g.links.graph c.remove.new.self.graph c.args.n found.node found.slot removed in
    let named_here = subst (λ (v : Graph). IsNodeNamed v.entries c.args.n node) (sym c.self.view_is) named in
    let same : node ≡ found.node = node-unique (accesses view) node found.node c.args.n named_here.is_node found.named.is_node named_here.is_name.0 found.named.is_name.0 in
    kept ∙ ap (λ (s : ℕ → Bool). left s view) (sym same) ∙ ap (λ (v : Graph). left node v.entries) c.self.view_is

pub returns-clause-nodes : goal.returns-clause-nodes
returns-clause-nodes c k other =
    let g = c.self.inside in
    let found_at : IsSlotOfLsn (lsns g.entries.items) c.args.n c.slot_of-slot.result = c.slot_of-slot.ensures in
    let is = subst (λ (v : Graph). NamesMinimal v.entries c.args.n) (sym c.self.view_is) c.requires in
    let found = found-minimal c.slots_name_nodes.ensures.slots c.slots_name_nodes.ensures.names g.entries.items g.links.graph g.links.rows c.args.n c.slot_of-slot.result c.self.invariant.1 c.self.invariant.0 found_at is in
    let view = held_entries g.links.graph.held g.entries.items in
    let after = held_entries c.remove.new.self.graph.held g.entries.items in
    let removed : IsRemoved g.links.graph (node_at g.links.graph.node found.slot.slot) c.remove.new.self.graph = subst (λ (k : ℕ). IsRemoved g.links.graph (node_at g.links.graph.node k) c.remove.new.self.graph) (sym found.at) c.remove.ensures.removed in
    let kept : after ≡ left found.node view = left-entries g.entries.items g.links.graph c.remove.new.self.graph c.args.n found.node found.slot removed in
    subst (λ (es : List Entry). IsNodeNamed es k other ↔ (IsNodeNamed c.args.self.now.entries k other × (k ≡ c.args.n → ⊥))) (sym kept) (
    subst (λ (v : Graph). IsNodeNamed (left found.node view) k other ↔ (IsNodeNamed v.entries k other × (k ≡ c.args.n → ⊥))) c.self.view_is (nodes-left view c.args.n found.node found.named found.none k other))

pub returns-clause-flush_sets : goal.returns-clause-flush_sets
returns-clause-flush_sets c k other x =
    let g = c.self.inside in
    let found_at : IsSlotOfLsn (lsns g.entries.items) c.args.n c.slot_of-slot.result = c.slot_of-slot.ensures in
    let is = subst (λ (v : Graph). NamesMinimal v.entries c.args.n) (sym c.self.view_is) c.requires in
    let found = found-minimal c.slots_name_nodes.ensures.slots c.slots_name_nodes.ensures.names g.entries.items g.links.graph g.links.rows c.args.n c.slot_of-slot.result c.self.invariant.1 c.self.invariant.0 found_at is in
    let view = held_entries g.links.graph.held g.entries.items in
    let after = held_entries c.remove.new.self.graph.held g.entries.items in
    let removed : IsRemoved g.links.graph (node_at g.links.graph.node found.slot.slot) c.remove.new.self.graph = subst (λ (k : ℕ). IsRemoved g.links.graph (node_at g.links.graph.node k) c.remove.new.self.graph) (sym found.at) c.remove.ensures.removed in
    let kept : after ≡ left found.node view = left-entries g.entries.items g.links.graph c.remove.new.self.graph c.args.n found.node found.slot removed in
    subst (λ (es : List Entry). IsNodeNamed es k other → flush_set_of (accesses es) other x ↔ flush_set_of (accesses c.args.self.now.entries) other x) (sym kept) (
    subst (λ (v : Graph). IsNodeNamed (left found.node view) k other → flush_set_of (accesses (left found.node view)) other x ↔ flush_set_of (accesses v.entries) other x) c.self.view_is (flush-sets-left view c.args.n found.node found.named found.none k other x))

pub returns-clause-edges : goal.returns-clause-edges
returns-clause-edges c node o p named =
    let g = c.self.inside in
    let found_at : IsSlotOfLsn (lsns g.entries.items) c.args.n c.slot_of-slot.result = c.slot_of-slot.ensures in
    let is = subst (λ (v : Graph). NamesMinimal v.entries c.args.n) (sym c.self.view_is) c.requires in
    let found = found-minimal c.slots_name_nodes.ensures.slots c.slots_name_nodes.ensures.names g.entries.items g.links.graph g.links.rows c.args.n c.slot_of-slot.result c.self.invariant.1 c.self.invariant.0 found_at is in
    let view = held_entries g.links.graph.held g.entries.items in
    let after = held_entries c.remove.new.self.graph.held g.entries.items in
    let removed : IsRemoved g.links.graph (node_at g.links.graph.node found.slot.slot) c.remove.new.self.graph = subst (λ (k : ℕ). IsRemoved g.links.graph (node_at g.links.graph.node k) c.remove.new.self.graph) (sym found.at) c.remove.ensures.removed in
    let kept : after ≡ left found.node view = left-entries g.entries.items g.links.graph c.remove.new.self.graph c.args.n found.node found.slot removed in
    let named_here = subst (λ (v : Graph). IsNodeNamed v.entries c.args.n node) (sym c.self.view_is) named in
    let same : node ≡ found.node = node-unique (accesses view) node found.node c.args.n named_here.is_node found.named.is_node named_here.is_name.0 found.named.is_name.0 in
    subst (λ (s : ℕ → Bool). Edge (accesses after) o p ↔ (IsFalse (s o) × Edge (accesses c.args.self.now.entries) o p)) (sym same) (
    subst (λ (es : List Entry). Edge (accesses es) o p ↔ (IsFalse (found.node o) × Edge (accesses c.args.self.now.entries) o p)) (sym kept) (
    subst (λ (v : Graph). Edge (accesses (left found.node view)) o p ↔ (IsFalse (found.node o) × Edge (accesses v.entries) o p)) c.self.view_is (entries-edges-left view found.node found.none o p)))

pub returns-clause-fewer : goal.returns-clause-fewer
returns-clause-fewer c =
    let g = c.self.inside in
    let found_at : IsSlotOfLsn (lsns g.entries.items) c.args.n c.slot_of-slot.result = c.slot_of-slot.ensures in
    let is = subst (λ (v : Graph). NamesMinimal v.entries c.args.n) (sym c.self.view_is) c.requires in
    let found = found-minimal c.slots_name_nodes.ensures.slots c.slots_name_nodes.ensures.names g.entries.items g.links.graph g.links.rows c.args.n c.slot_of-slot.result c.self.invariant.1 c.self.invariant.0 found_at is in
    let view = held_entries g.links.graph.held g.entries.items in
    let after = held_entries c.remove.new.self.graph.held g.entries.items in
    let removed : IsRemoved g.links.graph (node_at g.links.graph.node found.slot.slot) c.remove.new.self.graph = subst (λ (k : ℕ). IsRemoved g.links.graph (node_at g.links.graph.node k) c.remove.new.self.graph) (sym found.at) c.remove.ensures.removed in
    let kept : after ≡ left found.node view = left-entries g.entries.items g.links.graph c.remove.new.self.graph c.args.n found.node found.slot removed in
    subst (λ (es : List Entry). length es < length c.args.self.now.entries) (sym kept) (
    subst (λ (v : Graph). length (left found.node view) < length v.entries) c.self.view_is (left-fewer found.node view c.args.n found.named.is_name.0 found.named.held))
