use Rattle.std.proofs.Common.{ℕ, List, length, sym, ap, ◌∙◌, arith, slice_index_or}
use Rattle.page_map.specs.Splits.{cell_size}
use Rattle.page_map.proofs.CutLemmas.{pair_size}
use Rattle.page_map.proofs.CellLemmas.{no_cell}
use Rattle.page_map.proofs.RowLemmas.{row_here, row_other}
use Rattle.page_map.proofs.row.Row.size.Goals as goal

pub returns-then-i-pair-clause-value : goal.returns-then-i-pair-clause-value
returns-then-i-pair-clause-value c =
    omega (
      arith,
      ap (λ (i : ℕ). cell_size (slice_index_or c.args.self.now i no_cell)) c.if-i-pair.true,
      ap cell_size (row_here c.self.inside.cells.now c.self.inside.pair c.in-Some.pair c.args.self.now c.self.view_is c.self.invariant c.in-Some.is),
      pair_size (c.in-Some.pair.key.now, c.in-Some.pair.value.now),
      ap (λ (l : List ℕ). length l) c.as_slice.ensures.value,
      ap (λ (l : List ℕ). length l) c.as_slice-then-i-pair.ensures.value,
    )

pub returns-else-i-pair-clause-value : goal.returns-else-i-pair-clause-value
returns-else-i-pair-clause-value c =
    c.size.ensures.value ∙ ap (λ (i : ℕ). cell_size (slice_index_or c.self.inside.cells.now i no_cell)) c.old_place.ensures
    ∙ sym (ap cell_size (row_other c.self.inside.cells.now c.self.inside.pair c.in-Some.pair c.args.self.now c.self.view_is c.self.invariant c.in-Some.is c.args.i c.if-i-pair.false))
