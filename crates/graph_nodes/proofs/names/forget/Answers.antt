use Rattle.std.proofs.Common.{◌≡◌, ◌∙◌, ◌<◌, length, arith}
use Rattle.graph_nodes.proofs.Told.{forget-keep, forget-drop, forget-end}
use Rattle.graph_nodes.proofs.names.forget.Goals.{then-here-least, else-here-least}
use Rattle.graph_nodes.proofs.names.forget.Goals as goal

pub remove-requires : goal.remove-requires
remove-requires c =
    let low : c.get-m.result < length c.args.name.now.items = omega (arith, c.get-m.ensures.below, c.requires.names) in
    omega (arith, c.get-here.ensures, c.requires.below c.get-m.result low, c.loop-i.invariant.0.size)

pub loop-i-preserved : goal.loop-i-preserved
loop-i-preserved c =
    let ns = c.args.taken.now.members in
    let name = c.args.name.now.items in
    let m = c.get-m.result in
    let lt : c.loop-i.i < length ns = omega (arith, c.loop-i-test.true, c.len-i-end.ensures.count) in
    let read = c.get-here.ensures in
    elim c.if-here-least.branch [
      | then-here-least w ↦ rw w.marks-is (rw w.remove.ensures.marks (forget-drop ns name c.args.least c.loop-i.i m c.get-here.result c.args.marks.now.marks c.loop-i.marks.marks c.loop-i.invariant.0 lt c.get-m.ensures.value read w.if-here-least.true), w.remove.ensures.room ∙ c.loop-i.invariant.1)
      | else-here-least w ↦ rw w.marks-is (forget-keep ns name c.args.least c.loop-i.i m c.args.marks.now.marks c.loop-i.marks.marks c.loop-i.invariant.0 c.get-m.ensures.value (omega (arith, read, w.if-here-least.false)), c.loop-i.invariant.1)
    ]

pub returns-clause-forgotten : goal.returns-clause-forgotten
returns-clause-forgotten c =
    let end : c.loop-i.i ≡ length c.args.taken.now.members = omega (arith, c.loop-i-test.false, c.loop-i.auto.i-end, c.len-i-end.ensures.count) in
    forget-end c.args.taken.now.members c.args.name.now.items c.args.least c.loop-i.i c.args.marks.now.marks c.loop-i.marks.marks end c.loop-i.invariant.0
