-- How a page is written, step by step.
use Rattle.std.proofs.Common.{◌≡◌, ◌≤◌, ◌<◌, ℕ, ◌+◌, ◌-◌, ◌/◌, List, [], ◌∷◌, ◌++◌, length, drop, refl, sym, ap, ◌∙◌, arith, append_assoc, length-append}
use Rattle.std.proofs.lemmas.List.{append-nil}
use Rattle.byteorder.specs.Endian.{little_bytes, little_number}
use Rattle.page_ops.specs.Page.{Cell, cell_code, cells_code}
use Rattle.page_ops.specs.Layout.{Layout, numbers_in, moved, count_of, cells_of, places_of, built}

-- there is a number for each two bytes
pub numbers_count : (bytes : List ℕ) → length bytes / 2 ≡ length (numbers_in bytes)
numbers_count [] = refl
numbers_count (a ∷ []) = refl
numbers_count (a ∷ b ∷ bytes) = let rest = numbers_count bytes in omega (arith, rest)

numbers_front : (rest : List ℕ) → 2 ≤ length rest → numbers_in rest ≡ little_number 2 rest ∷ numbers_in (drop 2 rest)
numbers_front (a ∷ b ∷ rest) long = refl
numbers_front (a ∷ []) long = absurd (omega (arith, long))
numbers_front [] long = absurd (omega (arith, long))

numbers_end : (rest : List ℕ) → length rest < 2 → numbers_in rest ≡ []
numbers_end (a ∷ b ∷ rest) short = absurd (omega (arith, short))
numbers_end (a ∷ []) short = refl
numbers_end [] short = refl

-- the next place
pub moved_next : (from at place less : ℕ) (front after rest all : List ℕ) → front ++ moved from at (numbers_in rest) ≡ all → 2 ≤ length rest
    → place ≡ little_number 2 rest → less ≡ place - from → after ≡ front ++ little_bytes 2 (at + less) → after ++ moved from at (numbers_in (drop 2 rest)) ≡ all
moved_next from at place less front after rest all so_far long is lessened more =
    let behind : List ℕ = moved from at (numbers_in (drop 2 rest)) in
    let number : less ≡ little_number 2 rest - from = lessened ∙ ap (λ (p : ℕ). p - from) is in
    ap (λ (l : List ℕ). l ++ behind) (more ∙ ap (λ (n : ℕ). front ++ little_bytes 2 (at + n)) number)
    ∙ append_assoc front (little_bytes 2 (at + (little_number 2 rest - from))) behind
    ∙ ap (λ (l : List ℕ). front ++ moved from at l) (sym (numbers_front rest long)) ∙ so_far

pub moved_end : (from at : ℕ) (front rest all : List ℕ) → front ++ moved from at (numbers_in rest) ≡ all → length rest < 2 → front ≡ all
moved_end from at front rest all so_far short =
    sym (append-nil front) ∙ ap (λ (l : List ℕ). front ++ moved from at l) (sym (numbers_end rest short)) ∙ so_far

-- how many bytes a cell has
pub cell_length : (c : Cell) → length (cell_code c) ≡ 2 + (length c.0 + length c.1)
cell_length c = omega (arith, length-append c.0 c.1)

pub one_cell_length : (c : Cell) → length (cells_code (c ∷ [])) ≡ 2 + (length c.0 + length c.1)
one_cell_length c = ap (λ (l : List ℕ). length l) (append-nil (cell_code c)) ∙ cell_length c

pub two_cells_length : (a b : Cell) → length (cells_code (a ∷ b ∷ [])) ≡ (2 + (length a.0 + length a.1)) + (2 + (length b.0 + length b.1))
two_cells_length a b = omega (arith, length-append (cell_code a) (cells_code (b ∷ [])), cell_length a, one_cell_length b)

-- new cells are written
pub one_written : (old new : List ℕ) (c : Cell) → new ≡ old ++ cell_code c → new ≡ old ++ cells_code (c ∷ [])
one_written old new c is = is ∙ ap (λ (l : List ℕ). old ++ l) (sym (append-nil (cell_code c)))

pub two_written : (old mid new : List ℕ) (a b : Cell) → mid ≡ old ++ cell_code a → new ≡ mid ++ cell_code b → new ≡ old ++ cells_code (a ∷ b ∷ [])
two_written old mid new a b one two =
    one_written mid new b two ∙ ap (λ (l : List ℕ). l ++ cells_code (b ∷ [])) one ∙ append_assoc old (cell_code a) (cells_code (b ∷ []))

-- three lists are written
pub three_written : (old one two all a b c : List ℕ) → one ≡ old ++ a → two ≡ one ++ b → all ≡ two ++ c → all ≡ old ++ (a ++ (b ++ c))
three_written old one two all a b c is_one is_two is_all =
    is_all ∙ ap (λ (l : List ℕ). l ++ c) (is_two ∙ ap (λ (l : List ℕ). l ++ b) is_one ∙ append_assoc old a b)
    ∙ append_assoc old (a ++ b) c ∙ ap (λ (l : List ℕ). old ++ l) (append_assoc a b c)

-- the head, the cells and the places are a page
pub page_written : (page : Layout) (head cells all : List ℕ) → head ≡ 5 ∷ page.level ∷ little_bytes 2 (count_of page)
    → cells ≡ head ++ cells_of page → all ≡ cells ++ places_of page → all ≡ built page
page_written page head cells all is_head is_cells is_all =
    let start : List ℕ = 5 ∷ page.level ∷ little_bytes 2 (count_of page) in
    is_all ∙ ap (λ (l : List ℕ). l ++ places_of page) (is_cells ∙ ap (λ (l : List ℕ). l ++ cells_of page) is_head) ∙ append_assoc start (cells_of page) (places_of page)
