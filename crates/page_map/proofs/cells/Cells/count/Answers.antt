use Rattle.std.proofs.Common.{List, length, sym, ap, ◌∙◌, arith}
use Rattle.page_ops.specs.Page.{Cell}
use Rattle.page_map.proofs.CellLemmas.{taken}
use Rattle.page_map.proofs.cells.Cells.count.Goals as goal

pub returns-clause-value : goal.returns-clause-value
returns-clause-value c = sym (ap (λ (l : List Cell). length l) (sym c.self.view_is) ∙ taken c.self.inside.page.now c.self.inside.count c.self.invariant.1)

pub returns-clause-fits : goal.returns-clause-fits
returns-clause-fits c = omega (arith, c.self.invariant.1, c.self.invariant.2)
