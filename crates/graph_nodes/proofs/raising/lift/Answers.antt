use Rattle.std.proofs.Common.{arith}
use Rattle.graph_nodes.proofs.Raised.{lift-none, lift-on, lift-end}
use Rattle.graph_nodes.proofs.raising.lift.Goals as goal

pub loop-i-init : goal.loop-i-init
loop-i-init c = (lift-none c.args.ahead.now.members c.args.l c.args.level.now.items c.args.near.now, omega arith)

pub set_level-requires : goal.set_level-requires
set_level-requires c = omega (arith, c.get-n.ensures.below, c.requires.levels, c.loop-i.invariant.1)

pub clear-requires : goal.clear-requires
clear-requires c = omega (arith, c.get-n.ensures.below, c.requires.lists, c.loop-i.invariant.0.same.lists)

pub loop-i-preserved : goal.loop-i-preserved
loop-i-preserved c = (
  lift-on c.args.ahead.now.members c.args.l c.loop-i.i c.get-n.result c.args.level.now.items c.loop-i.level.items c.set_level.new.level.items c.args.near.now c.loop-i.near c.clear.new.self c.loop-i.invariant.0 c.get-n.ensures.value (omega (arith, c.loop-i-test.true, c.len-i-end.ensures.count))
      c.set_level.ensures.here c.set_level.ensures.others c.clear.ensures,
  omega (arith, c.set_level.ensures.capacity, c.loop-i.invariant.1),
)

pub returns-clause-lifted : goal.returns-clause-lifted
returns-clause-lifted c = lift-end c.args.ahead.now.members c.args.l c.loop-i.i c.args.level.now.items c.loop-i.level.items c.args.near.now c.loop-i.near (omega (arith, c.loop-i-test.false, c.loop-i.auto.i-end, c.len-i-end.ensures.count)) c.loop-i.invariant.0
