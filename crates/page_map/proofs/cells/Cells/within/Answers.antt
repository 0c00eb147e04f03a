use Rattle.std.proofs.Common.{List, length, take, take-take, sym, ap, ◌∙◌, arith}
use Rattle.page_ops.specs.Page.{Cell}
use Rattle.page_map.specs.Splits.{cells_read}
use Rattle.page_map.proofs.CellLemmas.{taken}
use Rattle.page_map.proofs.cells.Cells.within.Goals as goal

pub invariant_of-result : goal.invariant_of-result
invariant_of-result c =
    let n = ap (λ (l : List Cell). length l) (sym c.self.view_is) ∙ taken c.self.inside.page.now c.self.inside.count c.self.invariant.1 in
    (c.self.invariant.0, omega (arith, c.ending-count.ensures.within, n, c.self.invariant.1), c.self.invariant.2, c.self.invariant.3)

pub returns : goal.returns
returns c =
    let n = ap (λ (l : List Cell). length l) (sym c.self.view_is) ∙ taken c.self.inside.page.now c.self.inside.count c.self.invariant.1 in
    sym (take-take c.ending-count.result c.self.inside.count (cells_read c.self.inside.page.now) (omega (arith, c.ending-count.ensures.within, n)))
    ∙ ap (λ (l : List Cell). take c.ending-count.result l) c.self.view_is ∙ c.ending-count.ensures.front
