use Rattle.std.proofs.Common.{◌≡◌, ◌<◌, length, refl, arith}
use Rattle.std.specs.Prelude.{slice_index}
use Rattle.graph_nodes.proofs.Found.{at-more, at-all, place-among}
use Rattle.graph_nodes.proofs.search.look_back_all.Goals as goal

pub look_back-requires-clause-cell : goal.look_back-requires-clause-cell
look_back-requires-clause-cell c =
    let lt : c.loop-c.c-index < length c.args.cells.now = omega (arith, c.loop-c-test.true) in
    (c.requires.cells (slice_index c.args.cells.now c.loop-c.c-index) (place-among c.args.cells.now c.loop-c.c-index lt)).0

pub look_back-requires-clause-slot : goal.look_back-requires-clause-slot
look_back-requires-clause-slot c =
    let lt : c.loop-c.c-index < length c.args.cells.now = omega (arith, c.loop-c-test.true) in
    (c.requires.cells (slice_index c.args.cells.now c.loop-c.c-index) (place-among c.args.cells.now c.loop-c.c-index lt)).1

pub loop-c-preserved : goal.loop-c-preserved
loop-c-preserved c = at-more c.args.arcs.now.cells c.args.node.now c.args.cells.now c.loop-c.c-index (slice_index c.args.cells.now c.loop-c.c-index) c.args.found.now c.loop-c.found c.look_back.new.found c.loop-c.invariant refl c.look_back.ensures

pub returns : goal.returns
returns c =
    let end : c.loop-c.c-index ≡ length c.args.cells.now = omega (arith, c.loop-c-test.false, c.loop-c.auto.c-index-end) in
    at-all c.args.arcs.now.cells c.args.node.now c.args.cells.now c.loop-c.c-index c.args.found.now c.loop-c.found end c.loop-c.invariant
