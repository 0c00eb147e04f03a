-- The cells of a leaf with a pair among them, and what two keys have in common.
use Rattle.std.proofs.Common.{◌≡◌, ◌≢◌, ℕ, suc, ◌<◌, ◌≤◌, ◌==◌, Bool, true, false, ◌&&◌, if◌then◌else◌, Option, None, Some, List, [], ◌∷◌, ◌++◌, length, take, drop, drop-cons, take-suc, take_all, length-drop, append_assoc, refl, sym, ap, ◌∙◌, subst, arith, slice_index, slice_index_or}
use Rattle.std.specs.Prelude.{nat_lt}
use Rattle.std.specs.FinMap.Entries.{put}
use Rattle.std.proofs.lemmas.List.{append-nil}
use Rattle.std.proofs.lemmas.Bool.{ltb-true, ltb-false}
use Rattle.key_entries.specs.Entries.{byte_order}
use Rattle.key_entries.specs.EntryLaws.{both_true}
use Rattle.page_ops.specs.Page.{Cell}
use Rattle.page_map.specs.Rows.{KnowsPlace, old_at, row_of}
use Rattle.page_map.specs.Splits.{separator}
use Rattle.page_map.specs.declared.pair.Pair.{Pair}
use Rattle.page_map.proofs.CellLemmas.{no_cell, put_count, put_here, put_other, separator_apart, separator_ends, separator_goes}

module _ (cells : List Cell) (pair : Option Pair) (p : Pair) (row : List Cell) (view : row_of cells pair ≡ row) (knows : KnowsPlace cells pair) (is : pair ≡ Some p) where
  row_put : put byte_order p.key.now p.value.now cells ≡ row
  row_put = ap (row_of cells) (sym is) ∙ view

  known : KnowsPlace cells (Some p)
  known = subst (KnowsPlace cells) is knows

  pub row_count : length row ≡ (if p.there then length cells else suc (length cells))
  row_count =
      ap (λ (l : List Cell). length l) (sym row_put) ∙ put_count p.key.now p.value.now cells ∙ ap (λ (t : Bool). if t then length cells else suc (length cells)) (sym known.1)

  pub row_here : slice_index_or row p.place no_cell ≡ (p.key.now, p.value.now)
  row_here = (λ k. slice_index_or (sym row_put k) (known.0 k) no_cell) ∙ put_here p.key.now p.value.now cells

  pub row_other : (i : ℕ) → i ≢ p.place → slice_index_or row i no_cell ≡ slice_index_or cells (old_at p.there p.place i) no_cell
  row_other i apart =
      ap (λ (l : List Cell). slice_index_or l i no_cell) (sym row_put) ∙ put_other p.key.now p.value.now cells i (λ e. apart (e ∙ sym known.0))
      ∙ sym (λ k. slice_index_or cells (old_at (known.1 k) (known.0 k) i) no_cell)

pub row_alone : (cells : List Cell) (pair : Option Pair) (row : List Cell) → row_of cells pair ≡ row → pair ≡ None → cells ≡ row
row_alone cells pair row view is = ap (row_of cells) (sym is) ∙ view

-- ---- what two keys have in common

abbrev pub go_on : List ℕ → List ℕ → ℕ → Bool
go_on low high i = nat_lt i (length low) && (nat_lt i (length high) && (slice_index low i == slice_index high i))

abbrev pub so_far : List ℕ → List ℕ → ℕ → List ℕ
so_far low high i = take i high ++ separator (drop i low) (drop i high)

pub inside_both : (low high : List ℕ) (i : ℕ) → go_on low high i ≡ true → (i < length low) × (i < length high) × ((slice_index low i == slice_index high i) ≡ true)
inside_both low high i e =
    let first = both_true (nat_lt i (length low)) (nat_lt i (length high) && (slice_index low i == slice_index high i)) e in
    let second = both_true (nat_lt i (length high)) (slice_index low i == slice_index high i) first.1 in
    (ltb-true i (length low) first.0, ltb-true i (length high) second.0, second.1)

pub common_goes : (low high : List ℕ) (i : ℕ) → go_on low high i ≡ true → so_far low high (suc i) ≡ so_far low high i
common_goes low high i e =
    let both = inside_both low high i e in
    let a : ℕ = slice_index low i in
    let b : ℕ = slice_index high i in
    let rest : List ℕ = separator (drop (suc i) low) (drop (suc i) high) in
    ap (λ (l : List ℕ). l ++ rest) (take-suc high i 0 both.1) ∙ append_assoc (take i high) (b ∷ []) rest
    ∙ ap (λ (l : List ℕ). take i high ++ l)
    (sym (separator_goes a b (drop (suc i) low) (drop (suc i) high) both.2) ∙ sym (λ k. separator (drop-cons low i 0 both.0 k) (drop-cons high i 0 both.1 k)))

one_taken : (high : List ℕ) (i : ℕ) → i < length high → take i high ++ take 1 (drop i high) ≡ take (suc i) high
one_taken high i inside = ap (λ (l : List ℕ). take i high ++ take 1 l) (drop-cons high i 0 inside) ∙ sym (take-suc high i 0 inside)

nothing : (l : List ℕ) → length l ≤ 0 → l ≡ []
nothing [] e = refl
nothing (c ∷ l) e = absurd (omega (arith, e))

none_taken : (low high : List ℕ) (i : ℕ) → length high ≤ i → so_far low high i ≡ take (suc i) high
none_taken low high i ended =
    ap (λ (l : List ℕ). take i high ++ separator (drop i low) l) (nothing (drop i high) (omega (arith, ended, length-drop i high)))
    ∙ append-nil (take i high) ∙ take_all i high ended ∙ sym (take_all (suc i) high (omega (arith, ended)))

pub common_ends : (low high : List ℕ) (i : ℕ) → go_on low high i ≡ false → take (suc i) high ≡ so_far low high i
common_ends low high i e =
    let end : List ℕ = take (suc i) high in
    elim (nat_lt i (length high)) as (λ t. nat_lt i (length high) ≡ t → end ≡ so_far low high i) [
      | false ↦ λ more. sym (none_taken low high i (ltb-false i (length high) more))
      | true ↦ λ more.
          sym (one_taken high i (ltb-true i (length high) more)) ∙ ap (λ (l : List ℕ). take i high ++ l)
          (elim (nat_lt i (length low)) as (λ t. nat_lt i (length low) ≡ t → take 1 (drop i high) ≡ separator (drop i low) (drop i high)) [
            | false ↦ λ less. separator_ends (drop i low) (drop i high) (omega (arith, ltb-false i (length low) less, length-drop i low))
            | true ↦ λ less.
                let a : ℕ = slice_index low i in
                let b : ℕ = slice_index high i in
                let apart : (a == b) ≡ false = (λ k. sym less k && (sym more k && (a == b))) ∙ e in
                ap (λ (l : List ℕ). take 1 l) (drop-cons high i 0 (ltb-true i (length high) more)) ∙ separator_apart a b (drop (suc i) low) (drop (suc i) high) apart
                ∙ sym (λ k. separator (drop-cons low i 0 (ltb-true i (length low) less) k) (drop-cons high i 0 (ltb-true i (length high) more) k))
          ] refl)
    ] refl
