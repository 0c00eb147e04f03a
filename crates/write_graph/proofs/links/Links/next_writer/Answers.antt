use Rattle.std.proofs.Common.{◌≡◌, ◌∙◌, ap, sym, subst, ℕ, ◌+◌, ◌*◌, List, length, arith}
use Rattle.std.specs.Prelude.{IsTrue}
use Rattle.std.proofs.lemmas.Bool.{and_parts}
use Rattle.oper_core.specs.State.{is_among}
use Rattle.graph_nodes.specs.Arcs.{arc_at, held_at}
use Rattle.write_graph.specs.Cells.{writes_of, write_cell}
use Rattle.write_graph.specs.Places.{place_in}
use Rattle.write_graph.proofs.Numbers.{held-below}
use Rattle.write_graph.proofs.FirstWriters.{next-at}
use Rattle.write_graph.proofs.links.Links.next_writer.Goals as goal

pub writes-requires : goal.writes-requires
writes-requires c =
    let w = and_parts (held_at c.args.self.now.graph.held c.args.slot) (is_among c.args.x (writes_of c.args.entries.now.items c.args.slot)) c.requires.writes in
    held-below c.args.entries.now.items c.args.self.now.graph.held c.args.slot c.requires.linked.held w.0

pub own_cell-requires-clause-small : goal.own_cell-requires-clause-small
own_cell-requires-clause-small c =
    let w = and_parts (held_at c.args.self.now.graph.held c.args.slot) (is_among c.args.x (writes_of c.args.entries.now.items c.args.slot)) c.requires.writes in
    omega (arith, held-below c.args.entries.now.items c.args.self.now.graph.held c.args.slot c.requires.linked.held w.0, c.requires.linked.small)

pub own_cell-requires-clause-there : goal.own_cell-requires-clause-there
own_cell-requires-clause-there c =
    let entries = c.args.entries.now.items in
    let w = and_parts (held_at c.args.self.now.graph.held c.args.slot) (is_among c.args.x (writes_of entries c.args.slot)) c.requires.writes in
    let at : c.writes.result.now ≡ writes_of entries c.args.slot = c.writes.ensures.value in
    subst (λ (xs : List ℕ). IsTrue (is_among c.args.x xs)) (sym at) w.1

pub own_cell-requires-clause-few : goal.own_cell-requires-clause-few
own_cell-requires-clause-few c = omega (arith, ap length c.writes.ensures.value, c.writes.ensures.few)

pub arc-requires : goal.arc-requires
arc-requires c =
    let w = and_parts (held_at c.args.self.now.graph.held c.args.slot) (is_among c.args.x (writes_of c.args.entries.now.items c.args.slot)) c.requires.writes in
    omega (arith, held-below c.args.entries.now.items c.args.self.now.graph.held c.args.slot c.requires.linked.held w.0, c.own_cell.ensures.1, c.len-slots.ensures.cells, c.len-slots.ensures.count, c.requires.linked.slots)

pub returns : goal.returns
returns c =
    let entries = c.args.entries.now.items in
    let g = c.args.self.now.graph in
    let w = and_parts (held_at g.held c.args.slot) (is_among c.args.x (writes_of entries c.args.slot)) c.requires.writes in
    let at : c.writes.result.now ≡ writes_of entries c.args.slot = c.writes.ensures.value in
    let cell : c.own_cell.result ≡ write_cell entries c.args.slot c.args.x = c.own_cell.ensures.0 ∙ ap (λ (xs : List ℕ). 8 * c.args.slot + 4 + place_in c.args.x xs) at in
    next-at entries g c.args.self.now.rows c.args.x c.args.slot c.arc.result c.requires.linked c.requires.writes (sym (c.arc.ensures ∙ ap (arc_at g.arcs) cell))
