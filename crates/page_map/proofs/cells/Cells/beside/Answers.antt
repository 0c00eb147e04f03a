use Rattle.std.proofs.Common.{ℕ, List, true≢false, sym, ap, ◌∙◌, arith}
use Rattle.page_ops.specs.OnCells.{beside_at}
use Rattle.page_ops.specs.Page.{Cell}
use Rattle.page_map.proofs.CellLemmas.{cell_read, is_there}
use Rattle.page_map.proofs.cells.Cells.beside.Goals as goal

pub returns-in-Some : goal.returns-in-Some
returns-in-Some c =
    let bytes : List ℕ = c.self.inside.page.now in
    c.in-Some.ensures.beside
    ∙ sym (ap (λ (l : List Cell). beside_at l c.args.i) (sym c.self.view_is) ∙ ap (λ (d : Cell). d.1) (cell_read bytes c.self.inside.count c.args.i c.if-i-self.false c.self.invariant.1))

pub returns-in-None : goal.returns-in-None
returns-in-None c =
    absurd (true≢false (sym (is_there c.self.inside.page.now c.args.i c.self.invariant.0 (omega (arith, c.if-i-self.false, c.self.invariant.1))) ∙ sym c.in-None.ensures.there))
