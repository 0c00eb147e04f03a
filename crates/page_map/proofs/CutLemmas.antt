-- Cells that are cut in two: a key between two others, the middle, sizes, and the order of both parts.
use Rattle.std.proofs.Common.{◌≡◌, ℕ, zero, suc, ◌+◌, ◌-◌, ◌*◌, ◌<◌, ◌≤◌, ◌==◌, Bool, true, false, not, ◌&&◌, if◌then◌else◌, Option, List, [], ◌∷◌, ◌++◌, T, map, length, take, drop, Ordering, Less, Equal, Greater, is_lt, nat_cmp, refl, sym, ap, ◌∙◌, subst, arith, true≢false, length-append, append_assoc, take-append-drop, slice_index_or}
use Rattle.std.specs.Prelude.{IsTrue, is_none, nat_le, flat_map}
use Rattle.std.specs.List.{list_all, range_with_len}
use Rattle.std.specs.Ordering.{ordering_then}
use Rattle.std.specs.Cmp.{nat_cmp_total, tied_itself}
use Rattle.std.specs.FinMap.{nat_cmp-IsAntisymmetric}
use Rattle.std.specs.FinMap.Entries.{below_all, by_order, is_sorted, put}
use Rattle.std.proofs.lemmas.Bool.{leb-true, leb-false, eq-eqb, eqb-true}
use Rattle.byteorder.specs.Endian.{little_bytes}
use Rattle.oper_core.specs.LittleEndian.{length-little_bytes, little_number-little_bytes}
use Rattle.key_entries.specs.Entries.{byte_order}
use Rattle.key_entries.specs.EntryLaws.{both_true, true_both}
use Rattle.key_entries.specs.KeyLaws.{first, second, both, less_if, same_key}
use Rattle.page_ops.specs.Page.{Cell, Page, cell_code, cells_code, page_code, page_of, places_from, AreShort}
use Rattle.page_ops.specs.Reading.{count_in, key_of, beside_of}
use Rattle.page_ops.specs.OnCells.{key_at, beside_at}
use Rattle.page_ops.specs.Layout.{Layout, cells_of, count_of, no_cells, places_of}
use Rattle.page_ops.specs.OperationLaws.{built_length}
use Rattle.page_ops.specs.Search.{place_for}
use Rattle.page_map.specs.Map.{is_below}
use Rattle.page_map.specs.Splits.{cells_read, cut_at, front_of, separator, cell_size, size_of, middle_from, middle}
use Rattle.page_map.proofs.MapLemmas.{below_both, not_true, true_not}

-- ---- a key between two others

byte_itself : (a : ℕ) → nat_cmp a a ≡ Equal
byte_itself = tied_itself nat_cmp_total

pub not_below_none : (key : List ℕ) → is_lt (byte_order key []) ≡ false
not_below_none [] = refl
not_below_none (b ∷ key) = refl

first_only : (b : ℕ) (key : List ℕ) → is_lt (byte_order (b ∷ key) (b ∷ [])) ≡ false
first_only b key = ap (λ (o : Ordering). is_lt (ordering_then o (byte_order key []))) (byte_itself b) ∙ not_below_none key

-- two keys that begin with the same byte
same_first : (a b : ℕ) (x y : List ℕ) → a ≡ b → byte_order (a ∷ x) (b ∷ y) ≡ byte_order x y
same_first a b x y same = ap (λ (c : ℕ). ordering_then (nat_cmp a c) (byte_order x y)) (sym same) ∙ ap (λ (o : Ordering). ordering_then o (byte_order x y)) (byte_itself a)

pub separator_above : (low high : List ℕ) → byte_order low high ≡ Less → is_lt (byte_order low (separator low high)) ≡ true
separator_above [] [] less = cc
separator_above (a ∷ low) [] less = cc
separator_above [] (b ∷ high) less = refl
separator_above (a ∷ low) (b ∷ high) less =
    elim (a == b) as (λ t. (a == b) ≡ t → is_lt (byte_order (a ∷ low) (if t then a ∷ separator low high else b ∷ [])) ≡ true) [
      | true ↦ λ e.
          ap is_lt (same_first a a low (separator low high) refl)
          ∙ separator_above low high (sym (same_first a b low high (eqb-true a b e)) ∙ less)
      | false ↦ λ e.
          elim (nat_cmp a b) as (λ o. nat_cmp a b ≡ o → ordering_then o (byte_order low high) ≡ Less → is_lt (ordering_then o (byte_order low [])) ≡ true) [
            | Less ↦ λ c f. refl
            | Equal ↦ λ c f. absurd (true≢false (sym (eq-eqb a b (nat_cmp-IsAntisymmetric a b c)) ∙ e))
            | Greater ↦ λ c f. cc
          ] refl less
    ] refl

pub separator_reached : (low high : List ℕ) → is_lt (byte_order high (separator low high)) ≡ false
separator_reached low [] = refl
separator_reached [] (b ∷ high) = first_only b high
separator_reached (a ∷ low) (b ∷ high) =
    elim (a == b) as (λ t. (a == b) ≡ t → is_lt (byte_order (b ∷ high) (if t then a ∷ separator low high else b ∷ [])) ≡ false) [
      | true ↦ λ e. ap is_lt (same_first b a high (separator low high) (sym (eqb-true a b e))) ∙ separator_reached low high
      | false ↦ λ e. first_only b high
    ] refl

pub separator_short : (low high : List ℕ) → length (separator low high) ≤ length high
separator_short low [] = omega arith
separator_short [] (b ∷ high) = omega arith
separator_short (a ∷ low) (b ∷ high) =
    elim (a == b) as (λ t. length (if t then a ∷ separator low high else b ∷ []) ≤ suc (length high)) [
      | true ↦ omega (arith, separator_short low high)
      | false ↦ omega arith
    ]

-- ---- the middle

abbrev pub all_sizes : ℕ → List Cell → Bool
all_sizes most cells = list_all (λ c. nat_le (cell_size c) most) cells

-- what stands before the middle is half of all and half a cell at most
middle_low : (all most : ℕ) (cells : List Cell) (front : ℕ) → IsTrue (all_sizes most cells) → 2 * front ≤ all + most
    → 2 * (front + size_of (take (middle_from all front cells) cells)) ≤ all + most
middle_low all most [] front small low = omega (arith, low)
middle_low all most (c ∷ cells) front small low =
    let parts = both_true (nat_le (cell_size c) most) (all_sizes most cells) small in
    let one : cell_size c ≤ most = leb-true (cell_size c) most parts.0 in
    elim (nat_le all (2 * front + cell_size c)) as (λ t. nat_le all (2 * front + cell_size c) ≡ t
    → 2 * (front + size_of (take (if t then 0 else suc (middle_from all (front + cell_size c) cells)) (c ∷ cells))) ≤ all + most) [
      | true ↦ λ e. omega (arith, low)
      | false ↦ λ e.
          let more : 2 * front + cell_size c < all = leb-false all (2 * front + cell_size c) e in
          omega (arith, middle_low all most cells (front + cell_size c) parts.1 (omega (arith, more, one)))
    ] refl

-- and so is what stands behind it
middle_high : (all most : ℕ) (cells : List Cell) (front : ℕ) → IsTrue (all_sizes most cells) → all ≤ 2 * (front + size_of cells) + most
    → all ≤ 2 * (front + size_of (take (middle_from all front cells) cells)) + most
middle_high all most [] front small high = omega (arith, high)
middle_high all most (c ∷ cells) front small high =
    let parts = both_true (nat_le (cell_size c) most) (all_sizes most cells) small in
    let one : cell_size c ≤ most = leb-true (cell_size c) most parts.0 in
    elim (nat_le all (2 * front + cell_size c)) as (λ t. nat_le all (2 * front + cell_size c) ≡ t
    → all ≤ 2 * (front + size_of (take (if t then 0 else suc (middle_from all (front + cell_size c) cells)) (c ∷ cells))) + most) [
      | true ↦ λ e. omega (arith, leb-true all (2 * front + cell_size c) e, one)
      | false ↦ λ e. omega (arith, middle_high all most cells (front + cell_size c) parts.1 (omega (arith, high)))
    ] refl

-- some cell stands behind it
middle_ends : (all : ℕ) (c : Cell) (cells : List Cell) (front : ℕ) → all ≡ front + size_of (c ∷ cells) → middle_from all front (c ∷ cells) < suc (length cells)
middle_ends all c [] front is =
    elim (nat_le all (2 * front + cell_size c)) as (λ t. nat_le all (2 * front + cell_size c) ≡ t → (if t then 0 else suc (middle_from all (front + cell_size c) [])) < 1) [
      | true ↦ λ e. omega arith
      | false ↦ λ e. absurd (omega (arith, leb-false all (2 * front + cell_size c) e, is))
    ] refl
middle_ends all c (d ∷ cells) front is =
    elim (nat_le all (2 * front + cell_size c)) as (λ t. (if t then 0 else suc (middle_from all (front + cell_size c) (d ∷ cells))) < suc (suc (length cells))) [
      | true ↦ omega arith
      | false ↦ omega (arith, middle_ends all d cells (front + cell_size c) (omega (arith, is)))
    ]

pub middle_inside : (cells : List Cell) → 0 < length cells → middle cells < length cells
middle_inside [] some = absurd (omega (arith, some))
middle_inside (c ∷ cells) some = middle_ends (size_of (c ∷ cells)) c cells 0 (omega arith)

pub cut_inside : (to : Option (List ℕ)) (i : ℕ) (cells : List Cell) → 0 < length cells → cut_at to i cells < length cells
cut_inside to i cells some =
    elim (is_none to && (suc i == length cells)) as (λ t. (is_none to && (suc i == length cells)) ≡ t → (if t then i - 1 else middle cells) < length cells) [
      | true ↦ λ e. omega (arith, eqb-true (suc i) (length cells) (both_true (is_none to) (suc i == length cells) e).1)
      | false ↦ λ e. middle_inside cells some
    ] refl

-- of at least two cells one stands before it
middle_begins : (all : ℕ) (c : Cell) (cells : List Cell) → cell_size c < all → 0 < middle_from all 0 (c ∷ cells)
middle_begins all c cells more =
    elim (nat_le all (2 * 0 + cell_size c)) as (λ t. nat_le all (2 * 0 + cell_size c) ≡ t → 0 < (if t then 0 else suc (middle_from all (0 + cell_size c) cells))) [
      | true ↦ λ e. absurd (omega (arith, leb-true all (2 * 0 + cell_size c) e, more))
      | false ↦ λ e. omega arith
    ] refl

-- ---- sizes

pub size_both : (a b : List Cell) → size_of (a ++ b) ≡ size_of a + size_of b
size_both [] b = omega arith
size_both (c ∷ a) b = omega (arith, size_both a b)

pub pair_size : (c : Cell) → cell_size c ≡ 4 + length c.0 + length c.1
pair_size c = omega (arith, length-append (little_bytes 2 (length c.0)) (c.0 ++ c.1), length-append c.0 c.1, length-little_bytes 2 (length c.0))

pub code_size : (cells : List Cell) → length (cells_code cells) + 2 * length cells ≡ size_of cells
code_size [] = omega arith
code_size (c ∷ cells) = omega (arith, code_size cells, length-append (cell_code c) (cells_code cells))

-- one more cell makes a page longer by its size at most
pub size_put : (key value : List ℕ) (cells : List Cell) → size_of (put byte_order key value cells) ≤ size_of cells + cell_size (key, value)
size_put key value [] = omega arith
size_put key value (c ∷ cells) =
    elim (byte_order key c.0) as (λ o. byte_order key c.0 ≡ o
    → size_of (by_order o ((key, value) ∷ c ∷ cells) ((c.0, value) ∷ cells) (c ∷ put byte_order key value cells)) ≤ size_of (c ∷ cells) + cell_size (key, value)) [
      | Less ↦ λ e. omega arith
      | Equal ↦ λ e. let same : cell_size (c.0, value) ≡ cell_size (key, value) = ap (λ (k : List ℕ). cell_size (k, value)) (sym (same_key key c.0 e)) in omega (arith, same)
      | Greater ↦ λ e. omega (arith, size_put key value cells)
    ] refl

pub page_size : (level : ℕ) (cells : List Cell) → length (page_of level cells) ≡ 4 + size_of cells
page_size level cells =
    let page : Layout = record { level = level; front = no_cells; new = cells; back = no_cells } in
    let places : List ℕ = flat_map (little_bytes 2) (places_from 4 cells) in
    omega (
      arith,
      code_size cells,
      built_length page,
      length-append (little_bytes 2 (count_of page)) (cells_of page ++ places_of page),
      length-append (cells_of page) (places_of page),
      length-append (cells_code cells) [],
      length-append places [],
      length-append (little_bytes 2 (length cells)) (cells_code cells ++ places),
      length-append (cells_code cells) places,
      length-little_bytes 2 (count_of page),
      length-little_bytes 2 (length cells),
    )

pub record IsMiddle (most : ℕ) (cells : List Cell) : Type 0 where
  pub some : 0 < middle cells
  pub inside : middle cells < length cells
  pub before : 2 * size_of (take (middle cells) cells) ≤ size_of cells + most
  pub behind : 2 * size_of (drop (middle cells) cells) ≤ size_of cells + most

-- cells of which none is longer than all others together are cut in two parts that are not empty
pub middle_is : (most : ℕ) (cells : List Cell) → IsTrue (all_sizes most cells) → most < size_of cells → IsMiddle most cells
middle_is most [] small more = absurd (omega (arith, more))
middle_is most (c ∷ cells) small more =
    let all : ℕ = size_of (c ∷ cells) in
    let m : ℕ = middle (c ∷ cells) in
    let one : cell_size c ≤ most = leb-true (cell_size c) most (both_true (nat_le (cell_size c) most) (all_sizes most cells) small).0 in
    let high : all ≤ 2 * (0 + size_of (take m (c ∷ cells))) + most = middle_high all most (c ∷ cells) 0 small (omega arith) in
    let both : all ≡ size_of (take m (c ∷ cells)) + size_of (drop m (c ∷ cells)) =
    ap size_of (sym (take-append-drop m (c ∷ cells))) ∙ size_both (take m (c ∷ cells)) (drop m (c ∷ cells)) in
    record {
      some = middle_begins all c cells (omega (arith, one, more));
      inside = middle_inside (c ∷ cells) (omega arith);
      before = omega (arith, middle_low all most (c ∷ cells) 0 small (omega arith));
      behind = omega (arith, high, both);
    }

-- ---- the last cells

pub size_at : (most : ℕ) (cells : List Cell) (i : ℕ) → IsTrue (all_sizes most cells) → i < length cells → cell_size (slice_index_or cells i ([], [])) ≤ most
size_at most [] i small inside = absurd (omega (arith, inside))
size_at most (c ∷ cells) zero small inside = leb-true (cell_size c) most (both_true (nat_le (cell_size c) most) (all_sizes most cells) small).0
size_at most (c ∷ cells) (suc i) small inside = size_at most cells i (both_true (nat_le (cell_size c) most) (all_sizes most cells) small).1 (omega (arith, inside))

-- cells of which no two have all bytes are three at least
pub three_there : (most : ℕ) (cells : List Cell) → IsTrue (all_sizes most cells) → 2 * most < size_of cells → 2 < length cells
three_there most [] small more = absurd (omega (arith, more))
three_there most (c ∷ []) small more = absurd (omega (arith, more, size_at most (c ∷ []) 0 small (omega arith)))
three_there most (c ∷ d ∷ []) small more = absurd (omega (arith, more, size_at most (c ∷ d ∷ []) 0 small (omega arith), size_at most (c ∷ d ∷ []) 1 small (omega arith)))
three_there most (c ∷ d ∷ e ∷ cells) small more = omega arith

pub last_two : (cells : List Cell) (j : ℕ) → suc (suc j) ≡ length cells
    → size_of (drop j cells) ≡ cell_size (slice_index_or cells j ([], [])) + cell_size (slice_index_or cells (suc j) ([], []))
last_two [] j e = absurd (omega (arith, e))
last_two (c ∷ []) j e = absurd (omega (arith, e))
last_two (c ∷ d ∷ []) zero e = omega arith
last_two (c ∷ d ∷ x ∷ cells) zero e = absurd (omega (arith, e))
last_two (c ∷ d ∷ cells) (suc j) e = last_two (d ∷ cells) j (omega (arith, e))

-- ---- parts of lists

list_all_parts : {A : Type 0} (test : A → Bool) (a b : List A) → IsTrue (list_all test (a ++ b)) → IsTrue (list_all test a) × IsTrue (list_all test b)
list_all_parts test [] b all = (refl, all)
list_all_parts test (c ∷ a) b all =
    let here = both_true (test c) (list_all test (a ++ b)) all in
    let rest = list_all_parts test a b here.1 in
    (true_both (test c) (list_all test a) here.0 rest.0, rest.1)

pub all_taken : {A : Type 0} (test : A → Bool) (m : ℕ) (cells : List A) → IsTrue (list_all test cells) → IsTrue (list_all test (take m cells)) × IsTrue (list_all test (drop m cells))
all_taken {A = A} test m cells all = list_all_parts test (take m cells) (drop m cells) (subst (λ (l : List A). IsTrue (list_all test l)) (sym (take-append-drop m cells)) all)

below_parts : (x : List ℕ) (a b : List Cell) → T (below_all byte_order x (a ++ b)) → T (below_all byte_order x a) × T (below_all byte_order x b)
below_parts x [] b all = (tt, all)
below_parts x (c ∷ a) b all =
    let rest = below_parts x a b (second (is_lt (byte_order x c.0)) (below_all byte_order x (a ++ b)) all) in
    (both (is_lt (byte_order x c.0)) (below_all byte_order x a) (first (is_lt (byte_order x c.0)) (below_all byte_order x (a ++ b)) all) rest.0, rest.1)

pub sorted_parts : (a b : List Cell) → T (is_sorted byte_order (a ++ b)) → T (is_sorted byte_order a) × T (is_sorted byte_order b)
sorted_parts [] b rise = (tt, rise)
sorted_parts (c ∷ a) b rise =
    let rest = sorted_parts a b (second (below_all byte_order c.0 (a ++ b)) (is_sorted byte_order (a ++ b)) rise) in
    let below = below_parts c.0 a b (first (below_all byte_order c.0 (a ++ b)) (is_sorted byte_order (a ++ b)) rise) in
    (both (below_all byte_order c.0 a) (is_sorted byte_order a) below.0 rest.0, rest.1)

pub sorted_taken : (m : ℕ) (cells : List Cell) → T (is_sorted byte_order cells) → T (is_sorted byte_order (take m cells)) × T (is_sorted byte_order (drop m cells))
sorted_taken m cells rise = sorted_parts (take m cells) (drop m cells) (subst (λ (l : List Cell). T (is_sorted byte_order l)) (sym (take-append-drop m cells)) rise)

pub size_taken : (m : ℕ) (cells : List Cell) → size_of (take m cells) + size_of (drop m cells) ≡ size_of cells
size_taken m cells = sym (size_both (take m cells) (drop m cells)) ∙ ap size_of (take-append-drop m cells)

-- a test that all cells meet is met at each place
pub all_weaker : {A : Type 0} (p q : A → Bool) → ((x : A) → IsTrue (p x) → IsTrue (q x)) → (xs : List A) → IsTrue (list_all p xs) → IsTrue (list_all q xs)
all_weaker p q goes [] all = refl
all_weaker p q goes (x ∷ xs) all =
    let parts = both_true (p x) (list_all p xs) all in
    true_both (q x) (list_all q xs) (goes x parts.0) (all_weaker p q goes xs parts.1)

pub all_together : {A : Type 0} (p q r : A → Bool) → ((x : A) → IsTrue (p x) → IsTrue (q x) → IsTrue (r x)) → (xs : List A) → IsTrue (list_all p xs) → IsTrue (list_all q xs) → IsTrue (list_all r xs)
all_together p q r goes [] one two = refl
all_together p q r goes (x ∷ xs) one two =
    let here = both_true (p x) (list_all p xs) one in
    let also = both_true (q x) (list_all q xs) two in
    true_both (r x) (list_all r xs) (goes x here.0 also.0) (all_together p q r goes xs here.1 also.1)

pub all_at : (test : List ℕ → Bool) (cells : List Cell) (i : ℕ) → IsTrue (list_all (λ c. test c.0) cells) → i < length cells → IsTrue (test (key_at cells i))
all_at test [] i all inside = absurd (omega (arith, inside))
all_at test (c ∷ cells) zero all inside = (both_true (test c.0) (list_all (λ c. test c.0) cells) all).0
all_at test (c ∷ cells) (suc i) all inside = all_at test cells i (both_true (test c.0) (list_all (λ c. test c.0) cells) all).1 (omega (arith, inside))

-- keys rise from one cell to the next
pub next_above : (cells : List Cell) (i : ℕ) → T (is_sorted byte_order cells) → suc i < length cells → byte_order (key_at cells i) (key_at cells (suc i)) ≡ Less
next_above [] i rise inside = absurd (omega (arith, inside))
next_above (c ∷ []) i rise inside = absurd (omega (arith, inside))
next_above (c ∷ d ∷ cells) zero rise inside =
    less_if (byte_order c.0 d.0) (first (is_lt (byte_order c.0 d.0)) (below_all byte_order c.0 cells) (first (below_all byte_order c.0 (d ∷ cells)) (is_sorted byte_order (d ∷ cells)) rise))
next_above (c ∷ d ∷ cells) (suc i) rise inside = next_above (d ∷ cells) i (second (below_all byte_order c.0 (d ∷ cells)) (is_sorted byte_order (d ∷ cells)) rise) (omega (arith, inside))

-- where a key stands among cells: those before it are below, and the others are not
pub below_place : (key : List ℕ) (cells : List Cell) → IsTrue (list_all (λ c. is_lt (byte_order c.0 key)) (take (place_for key cells) cells))
below_place key [] = refl
below_place key (c ∷ cells) =
    elim (is_lt (byte_order c.0 key)) as (λ t. is_lt (byte_order c.0 key) ≡ t → IsTrue (list_all (λ c. is_lt (byte_order c.0 key)) (take (if t then suc (place_for key cells) else 0) (c ∷ cells)))) [
      | true ↦ λ e. true_both (is_lt (byte_order c.0 key)) (list_all (λ c. is_lt (byte_order c.0 key)) (take (place_for key cells) cells)) e (below_place key cells)
      | false ↦ λ e. refl
    ] refl

-- cells behind one that is not below a key are not below it
pub not_below_behind : (key x : List ℕ) (cells : List Cell) → T (below_all byte_order x cells) → is_lt (byte_order x key) ≡ false → IsTrue (list_all (λ c. not (is_lt (byte_order c.0 key))) cells)
not_below_behind key x [] all reached = refl
not_below_behind key x (c ∷ cells) all reached =
    let less : is_lt (byte_order x c.0) ≡ true = ap is_lt (less_if (byte_order x c.0) (first (is_lt (byte_order x c.0)) (below_all byte_order x cells) all)) in
    let here : is_lt (byte_order c.0 key) ≡ false =
    elim (is_lt (byte_order c.0 key)) as (λ t. is_lt (byte_order c.0 key) ≡ t → t ≡ false) [
      | true ↦ λ e. sym (below_both x c.0 key less e) ∙ reached
      | false ↦ λ e. refl
    ] refl in
    true_both (not (is_lt (byte_order c.0 key))) (list_all (λ c. not (is_lt (byte_order c.0 key))) cells) (true_not (is_lt (byte_order c.0 key)) here)
    (not_below_behind key x cells (second (is_lt (byte_order x c.0)) (below_all byte_order x cells) all) reached)

pub reached_place : (key : List ℕ) (cells : List Cell) → T (is_sorted byte_order cells) → IsTrue (list_all (λ c. not (is_lt (byte_order c.0 key))) (drop (place_for key cells) cells))
reached_place key [] rise = refl
reached_place key (c ∷ cells) rise =
    let below = first (below_all byte_order c.0 cells) (is_sorted byte_order cells) rise in
    elim (is_lt (byte_order c.0 key)) as (λ t. is_lt (byte_order c.0 key) ≡ t → IsTrue (list_all (λ c. not (is_lt (byte_order c.0 key))) (drop (if t then suc (place_for key cells) else 0) (c ∷ cells)))) [
      | true ↦ λ e. reached_place key cells (second (below_all byte_order c.0 cells) (is_sorted byte_order cells) rise)
      | false ↦ λ e.
          true_both (not (is_lt (byte_order c.0 key))) (list_all (λ c. not (is_lt (byte_order c.0 key))) cells) (true_not (is_lt (byte_order c.0 key)) e) (not_below_behind key c.0 cells below e)
    ] refl

-- the cells within a span are those in front of the cells past it
pub front_is : (to : Option (List ℕ)) (cells past : List Cell) → IsTrue (list_all (λ c. is_below c.0 to) cells) → IsTrue (list_all (λ c. not (is_below c.0 to)) past) → front_of to (cells ++ past) ≡ cells
front_is to [] [] within all = refl
front_is to [] (d ∷ past) within all =
    ap (λ (t : Bool). if t then d ∷ front_of to past else []) (not_true (is_below d.0 to) (both_true (not (is_below d.0 to)) (list_all (λ c. not (is_below c.0 to)) past) all).0)
front_is to (c ∷ cells) past within all =
    let parts = both_true (is_below c.0 to) (list_all (λ c. is_below c.0 to) cells) within in
    ap (λ (t : Bool). if t then c ∷ front_of to (cells ++ past) else []) parts.0 ∙ ap (λ (l : List Cell). c ∷ l) (front_is to cells past parts.1 all)

-- ---- the cells of a page as they read

abbrev pub ReadsCells : Type 0
ReadsCells = (page : Page) (i : ℕ) → AreShort page.cells → i < length page.cells → (key_of (page_code page) i ≡ key_at page.cells i) × (beside_of (page_code page) i ≡ beside_at page.cells i)

pub at_seam : (before : List Cell) (c : Cell) (rest : List Cell) → slice_index_or (before ++ c ∷ rest) (length before) ([], []) ≡ c
at_seam [] c rest = refl
at_seam (d ∷ before) c rest = at_seam before c rest

module _ (reads : ReadsCells) (level : ℕ) (cells : List Cell) (short : AreShort cells) where
  abbrev bytes : List ℕ
  bytes = page_of level cells

  read_from : (before rest : List Cell) → cells ≡ before ++ rest → map (λ i. (key_of bytes i, beside_of bytes i)) (range_with_len (length before) (length rest)) ≡ rest
  read_from before [] is = refl
  read_from before (c ∷ rest) is =
      let i : ℕ = length before in
      let cell = reads (record { level = level; cells = cells }) i short (omega (arith, ap (λ (l : List Cell). length l) is, length-append before (c ∷ rest))) in
      let here : slice_index_or cells i ([], []) ≡ c = ap (λ (l : List Cell). slice_index_or l i ([], [])) is ∙ at_seam before c rest in
      let key : key_of bytes i ≡ c.0 = cell.0 ∙ ap (λ (d : Cell). d.0) here in
      let beside : beside_of bytes i ≡ c.1 = cell.1 ∙ ap (λ (d : Cell). d.1) here in
      let next : i + 1 ≡ length (before ++ c ∷ []) = sym (length-append before (c ∷ [])) in
      (λ k. (key k, beside k) ∷ map (λ i. (key_of bytes i, beside_of bytes i)) (range_with_len (next k) (length rest)))
      ∙ ap (λ (l : List Cell). c ∷ l) (read_from (before ++ c ∷ []) rest (is ∙ sym (append_assoc before (c ∷ []) rest)))

  pub cells_are : cells_read bytes ≡ cells
  cells_are =
      let rest : List ℕ = cells_code cells ++ flat_map (little_bytes 2) (places_from 4 cells) in
      let count : count_in bytes ≡ length cells = little_number-little_bytes 2 (length cells) rest (omega (arith, short)) in
      ap (λ (n : ℕ). map (λ i. (key_of bytes i, beside_of bytes i)) (range_with_len 0 n)) count ∙ read_from [] cells refl
