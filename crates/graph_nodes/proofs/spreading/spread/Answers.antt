use Rattle.std.proofs.Common.{◌∙◌, sym, subst, ℕ, arith}
use Rattle.graph_nodes.specs.Search.{IsBehind}
use Rattle.graph_nodes.proofs.Taken.{IsSpreading, spread-on}
use Rattle.graph_nodes.proofs.spreading.spread.Goals as goal

pub loop-before-preserved : goal.loop-before-preserved
loop-before-preserved c =
    let was = c.loop-before.invariant in
    let is = c.take_round.ensures.taken in
    let on = spread-on (IsBehind c.args.nodes.now.arcs.now.cells c.args.nodes.now.node.now c.args.into.now) c.args.w c.args.found.now.members c.loop-before.before c.loop-before.taken c.take_round.new.taken was.0 is in (
      subst (λ (n : ℕ). IsSpreading (IsBehind c.args.nodes.now.arcs.now.cells c.args.nodes.now.node.now c.args.into.now) c.args.w c.args.found.now.members n c.take_round.new.taken.members) (sym c.len-before.ensures.count) on,
      is.same.end ∙ was.1,
      omega (arith, is.same.room, was.2),
      omega (arith, c.take_round.ensures.capacity, was.3),
    )

pub take_round-requires-clause-lists : goal.take_round-requires-clause-lists
take_round-requires-clause-lists c = omega (arith, c.requires.ready.lists, c.loop-before.invariant.1)

pub take_round-requires-clause-cells : goal.take_round-requires-clause-cells
take_round-requires-clause-cells c = c.requires.ready.cells

pub take_round-requires-clause-below : goal.take_round-requires-clause-below
take_round-requires-clause-below c i lt = omega (arith, c.requires.ready.below i lt, c.loop-before.invariant.1)

pub take_round-requires-clause-room : goal.take_round-requires-clause-room
take_round-requires-clause-room c = omega (arith, c.requires.ready.fit, c.loop-before.invariant.3)

pub returns-clause-wide : goal.returns-clause-wide
returns-clause-wide c = record { end = c.loop-before.invariant.1; room = c.loop-before.invariant.2 }
