use Rattle.std.proofs.Common.{◌≡◌, ℕ, List, length, true≢false, sym, ap, ◌∙◌, arith, slice_index_or}
use Rattle.page_ops.specs.Page.{Cell}
use Rattle.page_map.specs.Splits.{cell_size}
use Rattle.page_map.proofs.CutLemmas.{pair_size}
use Rattle.page_map.proofs.CellLemmas.{beside_less, cell_read, is_there, key_less, no_cell, read_at}
use Rattle.page_map.proofs.cells.Cells.size.Goals as goal

pub overflow_add-result-in-Some : goal.overflow_add-result-in-Some
overflow_add-result-in-Some c =
    let bytes : List ℕ = c.self.inside.page.now in
    omega (arith, ap (λ (l : List ℕ). length l) c.in-Some.ensures.key, ap (λ (l : List ℕ). length l) c.in-Some.ensures.beside, key_less bytes c.args.i, beside_less bytes c.args.i, c.self.invariant.3)

pub returns-in-Some-clause-value : goal.returns-in-Some-clause-value
returns-in-Some-clause-value c =
    let bytes : List ℕ = c.self.inside.page.now in
    let cell : slice_index_or c.args.self.now c.args.i no_cell ≡ read_at bytes c.args.i =
    ap (λ (l : List Cell). slice_index_or l c.args.i no_cell) (sym c.self.view_is) ∙ cell_read bytes c.self.inside.count c.args.i c.if-i-self.false c.self.invariant.1 in
    omega (
      arith,
      ap cell_size cell,
      pair_size (read_at bytes c.args.i),
      ap (λ (l : List ℕ). length l) c.in-Some.ensures.key,
      ap (λ (l : List ℕ). length l) c.in-Some.ensures.beside,
    )

pub returns-in-Some-clause-few : goal.returns-in-Some-clause-few
returns-in-Some-clause-few c =
    let bytes : List ℕ = c.self.inside.page.now in
    omega (arith, ap (λ (l : List ℕ). length l) c.in-Some.ensures.key, ap (λ (l : List ℕ). length l) c.in-Some.ensures.beside, key_less bytes c.args.i, beside_less bytes c.args.i, c.self.invariant.3)

pub returns-in-None-clause-value : goal.returns-in-None-clause-value
returns-in-None-clause-value c =
    absurd (true≢false (sym (is_there c.self.inside.page.now c.args.i c.self.invariant.0 (omega (arith, c.if-i-self.false, c.self.invariant.1))) ∙ sym c.in-None.ensures.there))
