use Rattle.std.proofs.Common.{◌≡◌, ◌∙◌, ap, sym, subst, ℕ, ◌+◌, ◌<◌, ◌^◌, List, [], ◌∷◌, length, length-append, arith}
use Rattle.std.specs.Prelude.{Bool, false}
use Rattle.number_lists.specs.Marks.{Marks, mark_at, count_marks, IsGrown}
use Rattle.number_lists.proofs.Marked.{levels-grown, count-push, mark-push}
use Rattle.number_lists.proofs.number_tree.NumberTree.add_number.Goals as goal

pub invariant_of-self : goal.invariant_of-self
invariant_of-self c =
    let low = c.self.inside.low.marks in
    let some : 0 < c.self.inside.room = subst (λ (m : Marks). 0 < m.room) (sym c.self.view_is) c.requires.room in
    let small : length low < 2 ^ 32 = subst (λ (m : Marks). length m.marks < 2 ^ 32) (sym c.self.view_is) c.requires.small in
    let size : length c.add.new.self.marks ≡ length low + 1 = ap length c.add.ensures.marks ∙ length-append low (false ∷ []) in
    let was = c.self.invariant in (
      levels-grown low c.self.inside.mid.marks c.self.inside.high.marks c.self.inside.top.marks c.add.new.self.marks c.grow.new.rows.marks c.grow-2.new.rows.marks c.grow-3.new.rows.marks was.0 c.add.ensures.marks
          (subst (λ (n : ℕ). IsGrown n c.self.inside.mid.marks c.grow.new.rows.marks) c.len.ensures.count c.grow.ensures.grown)
          (subst (λ (n : ℕ). IsGrown n c.self.inside.high.marks c.grow-2.new.rows.marks) c.len-2.ensures.count c.grow-2.ensures.grown)
          (subst (λ (n : ℕ). IsGrown n c.self.inside.top.marks c.grow-3.new.rows.marks) c.len-3.ensures.count c.grow-3.ensures.grown),
      was.1 ∙ sym (ap count_marks c.add.ensures.marks ∙ count-push low),
      record { none = λ k under. ap (λ (xs : List Bool). mark_at xs k) c.add.ensures.marks ∙ mark-push low k ∙ was.2.none k under; small = was.2.small },
      omega (arith, size, small),
      omega (arith, some, was.4, c.add.ensures.room),
      omega (arith, some, was.5, c.grow.ensures.room),
      omega (arith, some, was.6, c.grow-2.ensures.room),
      omega (arith, some, was.7, c.grow-3.ensures.room),
    )

pub returns-clause-marks : goal.returns-clause-marks
returns-clause-marks c = rw (← c.self.view_is) (λ n. ap (λ (xs : List Bool). mark_at xs n) c.add.ensures.marks ∙ mark-push c.self.inside.low.marks n)
