use Rattle.std.proofs.Common.{◌≡◌, ◌∙◌, ap, sym, subst, ◌<◌, List, [], ◌∷◌, ◌++◌, length, map, All, nat_eq, arith}
use Rattle.std.proofs.lemmas.List.{length_push, length-map}
use Rattle.indexmap.specs.IndexMap.{get}
use Rattle.install_order.specs.declared.entry.Entry.{Entry}
use Rattle.graph_nodes.specs.Arcs.{held_at}
use Rattle.write_graph.specs.Graph.{Graph, lsns}
use Rattle.write_graph.specs.Cells.{held_entries}
use Rattle.write_graph.specs.Linked.{AreLinked}
use Rattle.write_graph.specs.Lowered.{lowered}
use Rattle.write_graph.proofs.Lowered.{linked-lowered, firsts-lowered, held-lowered, climbing-more}
use Rattle.write_graph.proofs.Numbers.{held-push, chosen-few}
use Rattle.write_graph.proofs.FirstWriters.{firsts-added}
use Rattle.write_graph.proofs.graph.WriteGraph.add.Goals as goal

pub add-requires-clause-linked : goal.add-requires-clause-linked
add-requires-clause-linked c =
    let g = c.self.inside in
    subst (λ (es : List Entry). AreLinked es g.links.graph g.links.rows) (sym c.lower.ensures.lowered) (linked-lowered c.args.entry.lsn g.entries.items g.links.graph g.links.rows c.self.invariant.1)

pub add-requires-clause-room : goal.add-requires-clause-room
add-requires-clause-room c =
    let room = subst (λ (v : Graph). 0 < v.room) (sym c.self.view_is) c.requires.room in
    omega (arith, room, c.self.invariant.3.links)

pub overflow_sub-self : goal.overflow_sub-self
overflow_sub-self c = subst (λ (v : Graph). 0 < v.room) (sym c.self.view_is) c.requires.room

pub note_writes-requires : goal.note_writes-requires
note_writes-requires c =
    let room = subst (λ (v : Graph). 0 < v.room) (sym c.self.view_is) c.requires.room in
    omega (arith, room, c.self.invariant.3.firsts, ap length c.as_slice.ensures.value, c.as_slice.ensures.few)

pub overflow_add-self : goal.overflow_add-self
overflow_add-self c = omega (arith, c.self.invariant.2, c.self.invariant.1.small, chosen-few (held_at c.self.inside.links.graph.held) c.self.inside.entries.items)

pub push-requires-clause-room : goal.push-requires-clause-room
push-requires-clause-room c =
    let room = subst (λ (v : Graph). 0 < v.room) (sym c.self.view_is) c.requires.room in
    omega (arith, room, c.self.invariant.3.entries, c.lower.ensures.room)

pub push-requires-clause-small : goal.push-requires-clause-small
push-requires-clause-small c =
    let g = c.self.inside in
    let room = subst (λ (v : Graph). 0 < v.room) (sym c.self.view_is) c.requires.room in
    omega (arith, room, c.self.invariant.3.links, c.self.invariant.1.slots, ap length c.lower.ensures.lowered, length-map g.entries.items (lowered c.args.entry.lsn))

pub invariant_of-self : goal.invariant_of-self
invariant_of-self c =
    let g = c.self.inside in
    let entries = g.entries.items in
    let e = c.args.entry in
    let held = g.links.graph.held in
    let more = c.add.new.self.graph.held in
    let low = map (lowered e.lsn) entries in
    let above = subst (λ (v : Graph). All (λ n. n < e.lsn) (lsns v.entries)) (sym c.self.view_is) c.requires.above in
    let room = subst (λ (v : Graph). 0 < v.room) (sym c.self.view_is) c.requires.room in
    let len = length-map entries (lowered e.lsn) in
    let same = held-lowered held entries e.lsn above in
    let push = held-push held more low e (c.self.invariant.1.held ∙ sym len) c.add.ensures.held in
    let size = length_push low e in
    let slot : c.len-slot.result ≡ length low = c.len-slot.ensures ∙ ap length c.lower.ensures.lowered in
    let items : c.push.new.self.items ≡ low ++ e ∷ [] = c.push.ensures.items ∙ ap (λ (es : List Entry). es ++ e ∷ []) c.lower.ensures.lowered in
    rw items (
      climbing-more held more entries e c.self.invariant.1.held c.add.ensures.held c.self.invariant.0 above,
      subst (λ (es : List Entry). AreLinked (es ++ e ∷ []) c.add.new.self.graph c.add.new.self.rows) c.lower.ensures.lowered c.add.ensures.linked,
      omega (arith, ap length push, ap length same, length_push (held_entries held low) e, c.self.invariant.2),
      record {
        links = omega (arith, room, c.self.invariant.3.links, c.add.ensures.room);
        entries = omega (arith, room, c.self.invariant.3.entries, c.lower.ensures.room, c.push.ensures.room);
        firsts = omega (arith, room, c.self.invariant.3.firsts, c.note_writes.ensures.room, ap length c.as_slice.ensures.value, c.as_slice.ensures.few);
        members = omega (arith, room, c.self.invariant.3.members, size, len);
      },
      firsts-added held more low e c.len-slot.result c.as_slice.result.now (get nat_eq g.firsts) (get nat_eq c.note_writes.new.firsts) (c.self.invariant.1.held ∙ sym len) c.add.ensures.held c.as_slice.ensures.value slot c.note_writes.ensures.noted (firsts-lowered e.lsn entries held (get nat_eq g.firsts) c.self.invariant.4),
    )

pub returns : goal.returns
returns c =
    let g = c.self.inside in
    let entries = g.entries.items in
    let e = c.args.entry in
    let held = g.links.graph.held in
    let more = c.add.new.self.graph.held in
    let low = map (lowered e.lsn) entries in
    let above = subst (λ (v : Graph). All (λ n. n < e.lsn) (lsns v.entries)) (sym c.self.view_is) c.requires.above in
    let same = held-lowered held entries e.lsn above in
    let push = held-push held more low e (c.self.invariant.1.held ∙ sym (length-map entries (lowered e.lsn))) c.add.ensures.held in
    ap (held_entries more) (c.push.ensures.items ∙ ap (λ (es : List Entry). es ++ e ∷ []) c.lower.ensures.lowered) ∙ push ∙ ap (λ (es : List Entry). es ++ e ∷ []) same ∙ ap (λ (v : Graph). v.entries ++ e ∷ []) c.self.view_is
