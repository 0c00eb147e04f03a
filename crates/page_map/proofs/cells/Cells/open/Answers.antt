use Rattle.std.proofs.Common.{◌≡◌, true, is_some, take_all, sym, ap, ◌∙◌, arith}
use Rattle.page_ops.specs.Reading.{has_cell}
use Rattle.page_map.specs.Splits.{cells_read}
use Rattle.page_map.proofs.CellLemmas.{all_are_there, count_read, one_lacks, one_more}
use Rattle.page_map.proofs.cells.Cells.open.Goals as goal

pub loop-i-preserved : goal.loop-i-preserved
loop-i-preserved c = one_more (λ k. has_cell c.args.page.now k ≡ true) c.loop-i.i c.loop-i.invariant (sym c.in_ok-cell.ensures.there)

pub returns-in_err-cell-clause-there : goal.returns-in_err-cell-clause-there
returns-in_err-cell-clause-there c =
    ap is_some c.from_residual.ensures ∙ sym (one_lacks c.args.page.now c.loop-i.i (omega (arith, c.loop-i-test.true, c.count-count.ensures.value)) (sym c.in_err-cell.ensures.there))

pub invariant_of-result : goal.invariant_of-result
invariant_of-result c = (
  all_are_there c.args.page.now (λ i low. c.loop-i.invariant i (omega (arith, low, c.count-count.ensures.value, c.loop-i-test.false))),
  omega (arith, c.count-count.ensures.value),
  omega (arith, c.count-count.ensures.value, c.count-count.ensures.fits),
  c.requires,
)

pub returns-clause-there : goal.returns-clause-there
returns-clause-there c = sym (all_are_there c.args.page.now (λ i low. c.loop-i.invariant i (omega (arith, low, c.count-count.ensures.value, c.loop-i-test.false))))

pub returns-clause-cells : goal.returns-clause-cells
returns-clause-cells c = take_all c.count-count.result (cells_read c.args.page.now) (omega (arith, count_read c.args.page.now, c.count-count.ensures.value))
