use Rattle.std.proofs.Common.{◌≡◌, ◌∙◌, ap, sym, subst, ◌+◌, ◌<◌, ◌^◌, List, length, arith}
use Rattle.std.specs.Prelude.{Bool, true, IsFalse, slice_set}
use Rattle.std.proofs.lemmas.List.{length-set}
use Rattle.std.proofs.Math.Facts.{Fits-of_lt}
use Rattle.number_lists.specs.Marks.{Marks, mark_at, count_marks, IsBelowMarks}
use Rattle.number_lists.proofs.Marked.{count-more, count-few, below-more}
use Rattle.number_lists.proofs.number_tree.NumberTree.insert.Goals as goal

pub overflow_add-self : goal.overflow_add-self
overflow_add-self c = let lt : c.self.inside.count + 1 < 2 ^ 64 = omega (arith, count-few c.self.inside.low.marks, c.self.invariant.1, c.self.invariant.3) in Fits-of_lt lt

pub invariant_of-self : goal.invariant_of-self
invariant_of-self c =
    let low = c.self.inside.low.marks in
    let lt : c.args.n < length low = subst (λ (m : Marks). c.args.n < length m.marks) (sym c.self.view_is) c.requires in
    let lows : c.mark.new.low.marks ≡ slice_set low c.args.n true = c.mark.ensures.low.0 in
    let off : IsFalse (mark_at low c.args.n) = sym c.has.ensures ∙ c.if-has.false in
    let count : c.self.inside.count + 1 ≡ count_marks (slice_set low c.args.n true) = omega (arith, count-more low c.args.n lt off, c.self.invariant.1) in (
      c.mark.ensures.levels,
      count ∙ ap count_marks (sym lows),
      subst (λ (xs : List Bool). IsBelowMarks c.min-self-inside.result xs) (sym lows) (below-more low c.self.inside.least c.args.n c.min-self-inside.result (omega (arith, c.min-self-inside.ensures)) (omega (arith, c.min-self-inside.ensures)) c.self.invariant.2),
      omega (arith, ap length lows, length-set low c.args.n true, c.self.invariant.3),
      omega (arith, c.mark.ensures.low.1, c.self.invariant.4),
      omega (arith, c.mark.ensures.mid, c.self.invariant.5),
      omega (arith, c.mark.ensures.high, c.self.invariant.6),
      omega (arith, c.mark.ensures.top, c.self.invariant.7),
    )
