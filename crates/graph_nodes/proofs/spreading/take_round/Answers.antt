use Rattle.std.proofs.Common.{◌≡◌, ◌<◌, ◌-◌, ◌+◌, ℕ, subst, length, arith}
use Rattle.graph_nodes.specs.Search.{IsBehind}
use Rattle.graph_nodes.proofs.Taken.{IsInRound, round-start, round-on, round-end}
use Rattle.graph_nodes.proofs.spreading.take_round.Goals as goal

pub loop-i-init : goal.loop-i-init
loop-i-init c = (round-start (IsBehind c.args.arcs.now.cells c.args.node.now c.args.into.now) c.args.found.now.members _ c.args.taken.now (omega (arith, c.len-i.ensures.count)), omega arith, omega (arith, c.len-i.ensures.count))

pub loop-i-preserved : goal.loop-i-preserved
loop-i-preserved c =
    let found = c.args.found.now.members in
    let was = c.loop-i.invariant in
    let next : c.loop-i.i ≡ c.loop-i.i - 1 + 1 = omega (arith, c.loop-i-test.true) in
    let lt : c.loop-i.i - 1 < length found = omega (arith, c.loop-i-test.true, was.2) in
    let here = subst (λ (k : ℕ). IsInRound (IsBehind c.args.arcs.now.cells c.args.node.now c.args.into.now) found k c.args.taken.now c.loop-i.taken) next was.0 in (
      round-on (IsBehind c.args.arcs.now.cells c.args.node.now c.args.into.now) found (c.loop-i.i - 1) c.get.result c.args.taken.now c.loop-i.taken c.take_up.new.taken here lt c.get.ensures.value c.take_up.ensures.taken,
      omega (arith, c.take_up.ensures.capacity, was.1),
      omega (arith, lt),
    )

pub returns-clause-taken : goal.returns-clause-taken
returns-clause-taken c =
    let end : c.loop-i.i ≡ 0 = omega (arith, c.loop-i-test.false) in
    round-end (IsBehind c.args.arcs.now.cells c.args.node.now c.args.into.now) c.args.found.now.members c.args.taken.now c.loop-i.taken
    (subst (λ (k : ℕ). IsInRound (IsBehind c.args.arcs.now.cells c.args.node.now c.args.into.now) c.args.found.now.members k c.args.taken.now c.loop-i.taken) end c.loop-i.invariant.0)
