use Rattle.std.proofs.Common.{◌∙◌, ◌<◌, ◌≤◌, refl, arith}
use Rattle.graph_nodes.proofs.Cleared.{cell-none, cell-on, cell-all}
use Rattle.graph_nodes.proofs.Told.{same-start, same-on}
use Rattle.graph_nodes.proofs.clearing.clear_slot.Goals as goal

pub loop-i-init : goal.loop-i-init
loop-i-init c = (cell-none c.args.slot c.args.arcs.now.cells c.args.into.now, c.requires.order, same-start c.args.names.now, refl)

pub clear_arc-requires-clause-cell : goal.clear_arc-requires-clause-cell
clear_arc-requires-clause-cell c = omega (arith, c.loop-i-test.true, c.requires.slot, c.loop-i.invariant.1.cells)

pub loop-i-preserved : goal.loop-i-preserved
loop-i-preserved c =
    let lt : c.loop-i.i < 8 = omega (arith, c.loop-i-test.true) in (
      cell-on c.args.slot c.loop-i.i lt c.args.arcs.now.cells c.loop-i.arcs.cells c.clear_arc.new.arcs.cells c.args.into.now c.loop-i.into c.clear_arc.new.into c.loop-i.invariant.0 c.clear_arc.ensures.cleared,
      c.clear_arc.ensures.order,
      same-on c.args.names.now c.loop-i.names c.clear_arc.new.names c.loop-i.invariant.2 c.clear_arc.ensures.same,
      c.clear_arc.ensures.room ∙ c.loop-i.invariant.3,
    )

pub returns-clause-cleared : goal.returns-clause-cleared
returns-clause-cleared c =
    let le : 8 ≤ c.loop-i.i = omega (arith, c.loop-i-test.false) in
    cell-all c.args.slot c.loop-i.i c.args.arcs.now.cells c.loop-i.arcs.cells c.args.into.now c.loop-i.into le c.loop-i.invariant.0
