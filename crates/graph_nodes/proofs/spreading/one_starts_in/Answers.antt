use Rattle.std.proofs.Common.{◌≡◌, ◌<◌, length, refl, false, arith}
use Rattle.std.specs.Prelude.{slice_index}
use Rattle.std.proofs.lemmas.Bool.{both_ways}
use Rattle.graph_nodes.proofs.Found.{place-among}
use Rattle.graph_nodes.proofs.Taken.{none-more, none-all}
use Rattle.graph_nodes.proofs.spreading.one_starts_in.Goals as goal

pub starts_in-requires-clause-cell : goal.starts_in-requires-clause-cell
starts_in-requires-clause-cell c =
    let lt : c.loop-c.c-index < length c.args.cells.now = omega (arith, c.loop-c-test.true) in
    (c.requires.cells (slice_index c.args.cells.now c.loop-c.c-index) (place-among c.args.cells.now c.loop-c.c-index lt)).0

pub starts_in-requires-clause-slot : goal.starts_in-requires-clause-slot
starts_in-requires-clause-slot c =
    let lt : c.loop-c.c-index < length c.args.cells.now = omega (arith, c.loop-c-test.true) in
    (c.requires.cells (slice_index c.args.cells.now c.loop-c.c-index) (place-among c.args.cells.now c.loop-c.c-index lt)).1

pub loop-c-preserved : goal.loop-c-preserved
loop-c-preserved c = none-more c.args.arcs.now.cells c.args.node.now c.args.cells.now c.args.taken.now.members c.loop-c.c-index (slice_index c.args.cells.now c.loop-c.c-index) c.loop-c.invariant refl (λ start. both_ways _ c.if-starts_in.false (c.starts_in.ensures.1 start))

pub returns : goal.returns
returns c =
    let end : c.loop-c.c-index ≡ length c.args.cells.now = omega (arith, c.loop-c-test.false, c.loop-c.auto.c-index-end) in (
      (λ e. absurd (both_ways false refl e)),
      (λ some. absurd (none-all c.args.arcs.now.cells c.args.node.now c.args.cells.now c.args.taken.now.members c.loop-c.c-index end c.loop-c.invariant some)),
    )
