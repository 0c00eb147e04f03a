use Rattle.std.proofs.Common.{◌≡◌, ◌<◌, length, arith}
use Rattle.graph_nodes.proofs.Least.{least-start, least-on, least-all}
use Rattle.graph_nodes.proofs.names.least_name.Goals as goal

pub loop-i-init : goal.loop-i-init
loop-i-init c = least-start c.args.taken.now.members c.args.name.now.items c.get-first.result c.get-least.result c.requires.some c.get-first.ensures.value c.get-least.ensures

pub loop-i-preserved : goal.loop-i-preserved
loop-i-preserved c =
    let lt : c.loop-i.i < length c.args.taken.now.members = omega (arith, c.loop-i-test.true, c.len-i-end.ensures.count) in
    least-on c.args.taken.now.members c.args.name.now.items c.loop-i.i c.get-m.result c.loop-i.least c.get.result c.smaller-least.result c.loop-i.invariant lt c.get-m.ensures.value c.get.ensures
    c.smaller-least.ensures.left c.smaller-least.ensures.right c.smaller-least.ensures.one

pub returns-clause-least : goal.returns-clause-least
returns-clause-least c =
    let end : c.loop-i.i ≡ length c.args.taken.now.members = omega (arith, c.loop-i-test.false, c.loop-i.auto.i-end, c.len-i-end.ensures.count) in
    least-all c.args.taken.now.members c.args.name.now.items c.loop-i.i c.loop-i.least end c.loop-i.invariant
