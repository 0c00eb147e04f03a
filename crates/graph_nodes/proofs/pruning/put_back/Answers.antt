use Rattle.std.proofs.Common.{◌≡◌, ◌<◌, length, arith}
use Rattle.std.specs.Prelude.{slice_index}
use Rattle.graph_nodes.proofs.Found.{place-among}
use Rattle.graph_nodes.proofs.Pruned.{pruning-start, pruning-free, pruning-on, pruning-end}
use Rattle.graph_nodes.proofs.pruning.put_back.Goals as goal

pub loop-c-init : goal.loop-c-init
loop-c-init c = pruning-start c.args.arcs.now.cells c.args.node.now c.args.n c.args.cells.now c.args.into.now c.requires.empty

pub push_if_outside-requires : goal.push_if_outside-requires
push_if_outside-requires c =
    let i = c.loop-c.c-index in
    let cells = c.args.cells.now in
    let lt : i < length cells = omega (arith, c.loop-c-test.true) in
    let there = place-among cells i lt in
    let is = c.loop-c.invariant in
    record {
      list = omega (arith, c.requires.list, is.same.lists);
      cell = (c.requires.cells (slice_index cells i) there).0;
      slot = (c.requires.cells (slice_index cells i) there).1;
      item = omega (arith, c.requires.items (slice_index cells i) there, is.same.items);
      free = pruning-free c.args.arcs.now.cells c.args.node.now c.args.n cells i c.args.into.now c.loop-c.into c.requires.free c.requires.distinct is lt;
    }

pub loop-c-preserved : goal.loop-c-preserved
loop-c-preserved c = pruning-on c.args.arcs.now.cells c.args.node.now c.args.n c.args.cells.now c.loop-c.c-index c.args.into.now c.loop-c.into c.push_if_outside.new.into c.loop-c.invariant c.push_if_outside.ensures

pub returns : goal.returns
returns c =
    let end : c.loop-c.c-index ≡ length c.args.cells.now = omega (arith, c.loop-c-test.false, c.loop-c.auto.c-index-end) in
    pruning-end c.args.arcs.now.cells c.args.node.now c.args.n c.args.cells.now c.loop-c.c-index c.args.into.now c.loop-c.into end c.loop-c.invariant
