use Rattle.std.proofs.Common.{sym, subst, List}
use Rattle.std.specs.Prelude.{Bool}
use Rattle.number_lists.specs.Marks.{AreLevels}
use Rattle.number_lists.proofs.Marked.{levels-low, levels-mid, levels-high, levels-top}
use Rattle.number_lists.proofs.number_tree.unmark.Goals as goal

pub returns-then-has_others-clause-levels : goal.returns-then-has_others-clause-levels
returns-then-has_others-clause-levels c = levels-low c.args.low.now.marks c.has_others.new.level.marks c.args.mid.now.marks c.args.high.now.marks c.args.top.now.marks c.args.n c.requires.levels c.has_others.ensures.marks (c.has_others.ensures.others c.if-has_others.true)

pub returns-then-has_others-2-clause-levels : goal.returns-then-has_others-2-clause-levels
returns-then-has_others-2-clause-levels c =
    levels-mid c.args.low.now.marks c.has_others.new.level.marks c.args.mid.now.marks c.has_others-2.new.level.marks c.args.high.now.marks c.args.top.now.marks c.args.n c.requires.levels c.has_others.ensures.marks (c.has_others.ensures.none c.if-has_others.false)
    c.has_others-2.ensures.marks (c.has_others-2.ensures.others c.if-has_others-2.true)

pub returns-then-has_others-3-clause-levels : goal.returns-then-has_others-3-clause-levels
returns-then-has_others-3-clause-levels c =
    levels-high c.args.low.now.marks c.has_others.new.level.marks c.args.mid.now.marks c.has_others-2.new.level.marks c.args.high.now.marks c.has_others-3.new.level.marks c.args.top.now.marks c.args.n c.requires.levels c.has_others.ensures.marks (c.has_others.ensures.none c.if-has_others.false)
    c.has_others-2.ensures.marks (c.has_others-2.ensures.none c.if-has_others-2.false) c.has_others-3.ensures.marks (c.has_others-3.ensures.others c.if-has_others-3.true)

pub returns-clause-levels : goal.returns-clause-levels
returns-clause-levels c =
    let a = c.has_others.new.level.marks in
    let b = c.has_others-2.new.level.marks in
    let d = c.has_others-3.new.level.marks in
    subst (λ (xs : List Bool). AreLevels a b d xs) (sym c.take.ensures.marks)
    (levels-top c.args.low.now.marks a c.args.mid.now.marks b c.args.high.now.marks d c.args.top.now.marks c.args.n c.requires.levels c.has_others.ensures.marks (c.has_others.ensures.none c.if-has_others.false)
    c.has_others-2.ensures.marks (c.has_others-2.ensures.none c.if-has_others-2.false) c.has_others-3.ensures.marks (c.has_others-3.ensures.none c.if-has_others-3.false))
