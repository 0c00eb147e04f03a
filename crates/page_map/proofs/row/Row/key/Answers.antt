use Rattle.std.proofs.Common.{ℕ, sym, ap, ◌∙◌}
use Rattle.page_ops.specs.Page.{Cell}
use Rattle.page_ops.specs.OnCells.{key_at}
use Rattle.page_map.proofs.RowLemmas.{row_here, row_other}
use Rattle.page_map.proofs.row.Row.key.Goals as goal

pub returns-then-i-pair : goal.returns-then-i-pair
returns-then-i-pair c =
    c.as_slice.ensures.value
    ∙ sym (ap (λ (i : ℕ). key_at c.args.self.now i) c.if-i-pair.true
    ∙ ap (λ (d : Cell). d.0) (row_here c.self.inside.cells.now c.self.inside.pair c.in-Some.pair c.args.self.now c.self.view_is c.self.invariant c.in-Some.is))

pub returns-else-i-pair : goal.returns-else-i-pair
returns-else-i-pair c =
    c.key.ensures ∙ ap (λ (i : ℕ). key_at c.self.inside.cells.now i) c.old_place.ensures
    ∙ sym (ap (λ (d : Cell). d.0) (row_other c.self.inside.cells.now c.self.inside.pair c.in-Some.pair c.args.self.now c.self.view_is c.self.invariant c.in-Some.is c.args.i c.if-i-pair.false))
