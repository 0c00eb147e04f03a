use Rattle.std.proofs.Common.{◌≡◌, ◌∙◌, ap, sym, subst, ℕ, ◌+◌, ◌≤◌, List, [], ◌∷◌, length, length-append, arith, inl, inr}
use Rattle.std.specs.Prelude.{IsTrue}
use Rattle.oper_core.specs.State.{is_among}
use Rattle.write_graph.specs.Rows.{its_slot}
use Rattle.write_graph.specs.Steps.{AreWritersLed, AreAnswered, AreWaiting}
use Rattle.write_graph.proofs.Led.{cell-of-slot}
use Rattle.write_graph.proofs.Adding.{added}
use Rattle.write_graph.proofs.Added.{waits-below, linked-more}
use Rattle.write_graph.proofs.links.Links.add.Goals as goal

pub wait_all-requires-clause-free : goal.wait_all-requires-clause-free
wait_all-requires-clause-free c x k t =
    let below = waits-below c.args.earlier.now.items c.args.self.now.graph.held c.args.self.now.rows x k c.requires.linked.rows_are (subst (λ (xs : List ℕ). IsTrue (is_among k xs)) (c.add_cells.ensures.waiting x) t) in
    omega (arith, below, c.len-slot.ensures.count, c.requires.linked.slots)

pub lead_writers-requires-clause-below : goal.lead_writers-requires-clause-below
lead_writers-requires-clause-below c x w last =
    omega (arith, c.requires.linked.rows_are.below x w (ap its_slot (sym (c.wait_all.ensures.last x ∙ c.add_cells.ensures.last x)) ∙ last), ap length c.add_slot.ensures.added.node, length-append c.args.self.now.graph.node (length c.args.self.now.graph.node ∷ []), c.requires.linked.slots)

pub answer_all-requires-clause-below : goal.answer_all-requires-clause-below
answer_all-requires-clause-below c x w last =
    omega (arith, c.requires.linked.rows_are.below x w (ap its_slot (sym (c.wait_all.ensures.last x ∙ c.add_cells.ensures.last x)) ∙ last), c.lead_writers.ensures.grown.slots, ap length c.add_slot.ensures.added.node, length-append c.args.self.now.graph.node (length c.args.self.now.graph.node ∷ []), c.requires.linked.slots)

pub answer_all-requires-clause-cells : goal.answer_all-requires-clause-cells
answer_all-requires-clause-cells c x k t =
    elim (c.wait_all.ensures.only x k t) [
      | inl old ↦
          let below = waits-below c.args.earlier.now.items c.args.self.now.graph.held c.args.self.now.rows x k c.requires.linked.rows_are (subst (λ (xs : List ℕ). IsTrue (is_among k xs)) (c.add_cells.ensures.waiting x) old) in
          omega (arith, below, c.lead_writers.ensures.grown.slots, ap length c.add_slot.ensures.added.node, length-append c.args.self.now.graph.node (length c.args.self.now.graph.node ∷ []), c.requires.linked.slots)
      | inr new ↦ omega (arith, cell-of-slot c.as_slice.result.now c.len-slot.result x k (omega (arith, ap length c.as_slice.ensures.value, c.as_slice.ensures.few)) new, c.len-slot.ensures.count, c.lead_writers.ensures.grown.slots, ap length c.add_slot.ensures.added.node, length-append c.args.self.now.graph.node (length c.args.self.now.graph.node ∷ []))
    ]

pub returns-clause-linked : goal.returns-clause-linked
returns-clause-linked c =
    let g = c.args.self.now.graph in
    let earlier = c.args.earlier.now.items in
    let e = c.args.entry.now in
    let len : c.len-slot.result ≡ length earlier = c.len-slot.ensures.count ∙ c.requires.linked.slots in
    let is = added earlier e g.held c.requires.linked.held in
    linked-more earlier e g c.add_slot.new.self c.lead_writers.new.graph c.answer_all.new.graph c.args.self.now.rows c.add_cells.new.self c.wait_all.new.rows c.answer_all.new.rows record {
      linked = c.requires.linked;
      nodes = c.node-node.ensures.nodes;
      small = omega (arith, c.requires.room, c.requires.linked.slots);
      reads = c.as_slice.ensures.few;
      writes = c.as_slice-writes.ensures.few;
      slot = c.add_slot.ensures.added;
      cells = c.add_cells.ensures;
      waits = subst (λ (n : ℕ). AreWaiting e.reads n c.add_cells.new.self c.wait_all.new.rows) len (subst (λ (xs : List ℕ). AreWaiting xs c.len-slot.result c.add_cells.new.self c.wait_all.new.rows) c.as_slice.ensures.value c.wait_all.ensures);
      led = subst (λ (n : ℕ). AreWritersLed c.wait_all.new.rows e.writes n c.add_slot.new.self c.lead_writers.new.graph) len (subst (λ (xs : List ℕ). AreWritersLed c.wait_all.new.rows xs c.len-slot.result c.add_slot.new.self c.lead_writers.new.graph) c.as_slice-writes.ensures.value c.lead_writers.ensures);
      answered = subst (λ (n : ℕ). AreAnswered e.writes e.writes n c.lead_writers.new.graph c.wait_all.new.rows c.answer_all.new.graph c.answer_all.new.rows) len (subst (λ (xs : List ℕ). AreAnswered xs xs c.len-slot.result c.lead_writers.new.graph c.wait_all.new.rows c.answer_all.new.graph c.answer_all.new.rows) c.as_slice-writes.ensures.value c.answer_all.ensures);
      arcs = λ o p. (c.arcs_of_one_more.ensures _ _ (length earlier) o p is).0;
    }

pub returns-clause-room : goal.returns-clause-room
returns-clause-room c =
    let reads = ap length c.as_slice.ensures.value in
    let writes = ap length c.as_slice-writes.ensures.value in
    let slots = length-append c.args.self.now.graph.node (length c.args.self.now.graph.node ∷ []) in
    let rows : c.args.self.now.rows.row_room ≤ c.answer_all.new.rows.row_room + 8 = omega (arith, c.add_cells.ensures.row_room, c.wait_all.ensures.row_room, c.answer_all.ensures.row_room, reads, writes, c.as_slice.ensures.few, c.as_slice-writes.ensures.few) in
    let cells : c.args.self.now.rows.cell_room ≤ c.answer_all.new.rows.cell_room + 8 = omega (arith, c.add_cells.ensures.cell_room, c.wait_all.ensures.cell_room, c.answer_all.ensures.cell_room) in
    omega (arith, rows, cells, c.add_slot.ensures.added.room, c.lead_writers.ensures.grown.room, c.answer_all.ensures.led.grown.room, c.lead_writers.ensures.grown.slots, c.answer_all.ensures.led.grown.slots, ap length c.add_slot.ensures.added.node, slots)
