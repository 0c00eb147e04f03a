use Rattle.std.proofs.Common.{◌≡◌, ◌∙◌, ap, sym, subst, ◌-◌, ◌<◌, List, length, arith}
use Rattle.std.specs.Prelude.{Bool, false, IsTrue, slice_set}
use Rattle.std.proofs.lemmas.List.{length-set}
use Rattle.number_lists.specs.Marks.{Marks, mark_at, count_marks, IsBelowMarks}
use Rattle.number_lists.proofs.Marked.{count-less, below-less}
use Rattle.number_lists.proofs.number_tree.NumberTree.remove.Goals as goal

pub overflow_sub-self : goal.overflow_sub-self
overflow_sub-self c =
    let on : IsTrue (mark_at c.self.inside.low.marks c.args.n) = sym c.has.ensures ∙ c.if-not-has.false in
    omega (arith, count-less c.self.inside.low.marks c.args.n on, c.self.invariant.1)

pub invariant_of-self : goal.invariant_of-self
invariant_of-self c =
    let low = c.self.inside.low.marks in
    let lt : c.args.n < length low = subst (λ (m : Marks). c.args.n < length m.marks) (sym c.self.view_is) c.requires in
    let on : IsTrue (mark_at low c.args.n) = sym c.has.ensures ∙ c.if-not-has.false in
    let lows : c.unmark.new.low.marks ≡ slice_set low c.args.n false = c.unmark.ensures.low.0 in
    let count : c.self.inside.count - 1 ≡ count_marks (slice_set low c.args.n false) = omega (arith, count-less low c.args.n on, c.self.invariant.1) in (
      c.unmark.ensures.levels,
      count ∙ ap count_marks (sym lows),
      subst (λ (xs : List Bool). IsBelowMarks c.past-self-inside.result xs) (sym lows) (below-less low c.args.n c.past-self-inside.result lt c.past-self-inside.ensures.small (λ k under ne. c.self.invariant.2.none k (c.past-self-inside.ensures.below k under ne))),
      omega (arith, ap length lows, length-set low c.args.n false, c.self.invariant.3),
      omega (arith, c.unmark.ensures.low.1, c.self.invariant.4),
      omega (arith, c.unmark.ensures.mid, c.self.invariant.5),
      omega (arith, c.unmark.ensures.high, c.self.invariant.6),
      omega (arith, c.unmark.ensures.top, c.self.invariant.7),
    )
