use Rattle.std.proofs.Common.{◌≡◌, ◌∙◌, ap, sym, subst, ℕ, suc, ◌+◌, ◌<◌, List, [], ◌∷◌, ◌++◌, length, take, All, arith}
use Rattle.std.specs.Prelude.{slice_index}
use Rattle.install_order.specs.declared.entry.Entry.{Entry}
use Rattle.graph_nodes.specs.Arcs.{held_at}
use Rattle.write_graph.specs.Graph.{Graph, lsns}
use Rattle.write_graph.specs.Cells.{held_entries}
use Rattle.write_graph.proofs.Held.{lsn-at, length-lsns}
use Rattle.write_graph.proofs.Renewed.{chosen-next, chosen-past, chosen-below}
use Rattle.write_graph.proofs.renewing.add_held.Goals.{then-is_held+in_ok-add_entry, else-is_held}
use Rattle.write_graph.proofs.renewing.add_held.Goals as goal

pub copy-requires : goal.copy-requires
copy-requires c = omega (arith, c.loop-slot-test.true, c.len-slot-end.ensures)

pub add_entry-requires : goal.add_entry-requires
add_entry-requires c =
    let entries = c.args.entries.now.items in
    let slot = c.loop-slot.slot in
    let e = c.copy.result in
    let lt : slot < length entries = omega (arith, c.loop-slot-test.true, c.len-slot-end.ensures) in
    let at : slice_index (lsns entries) slot ≡ e.lsn = lsn-at entries slot e lt ∙ ap (λ (f : Entry). f.lsn) (sym c.copy.ensures) in
    let below = chosen-below (held_at c.args.slots.now.held) entries slot e.lsn (λ j there low end. omega (arith, at, c.requires.climbing.above_held j slot there low (omega (arith, lt, length-lsns entries)))) in
    record { above = subst (λ (es : List Entry). All (λ n. n < e.lsn) (lsns es)) (sym c.loop-slot.invariant) below }

pub loop-slot-preserved : goal.loop-slot-preserved
loop-slot-preserved c =
    let entries = c.args.entries.now.items in
    let slot = c.loop-slot.slot in
    let held = c.args.slots.now.held in
    let lt : slot < length entries = omega (arith, c.loop-slot-test.true, c.len-slot-end.ensures) in
    let next : suc slot ≡ slot + 1 = omega arith in
    subst (λ (k : ℕ). c.if-is_held.graph.entries ≡ held_entries held (take k entries)) next (elim c.if-is_held.branch [
      | then-is_held+in_ok-add_entry w ↦
          let e = w.copy.result in
          ap (λ (g : Graph). g.entries) w.graph-is ∙ w.in_ok-add_entry.ensures ∙ ap (λ (es : List Entry). es ++ e ∷ []) c.loop-slot.invariant ∙ ap (λ (f : Entry). held_entries held (take slot entries) ++ f ∷ []) w.copy.ensures
          ∙ sym (chosen-next (held_at held) entries slot e lt (sym c.is_held.ensures ∙ w.if-is_held.true))
      | else-is_held w ↦ ap (λ (g : Graph). g.entries) w.graph-is ∙ c.loop-slot.invariant ∙ sym (chosen-past (held_at held) entries slot lt (sym c.is_held.ensures ∙ w.if-is_held.false))
    ])
