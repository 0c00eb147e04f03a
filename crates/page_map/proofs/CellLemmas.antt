-- The cells of a page as code reads them, one after the other.
use Rattle.std.proofs.Common.{◌≡◌, ◌≢◌, ℕ, zero, suc, ◌+◌, ◌-◌, ◌*◌, ◌<◌, ◌≤◌, ◌==◌, Bool, true, false, ◌&&◌, if◌then◌else◌, None, Some, List, [], ◌∷◌, map, length, take, drop, drop-cons, length-take-le, Less, Equal, Greater, is_lt, is_eq, refl, sym, ap, ◌∙◌, subst, arith, true≢false, slice_index, slice_index_or}
use Rattle.std.specs.Prelude.{nat_lt, nat_le}
use Rattle.std.specs.Ordering.{ordering_reverse}
use Rattle.std.specs.List.{list_all, range_with_len}
use Rattle.std.specs.FinMap.Entries.{put}
use Rattle.std.proofs.lemmas.Bool.{eqb-true, leb-true, le-leb, le-ltb, lt-ltb, ltb-true, ltb-false}
use Rattle.std.proofs.lemmas.List.{length-map}
use Rattle.std.proofs.lemmas.List.FromFn.{length-range_with_len}
use Rattle.byteorder.specs.Endian.{little_number}
use Rattle.key_entries.specs.Entries.{byte_order}
use Rattle.key_entries.specs.EntryLaws.{both_true}
use Rattle.key_entries.specs.KeyLaws.{same_key}
use Rattle.page_ops.specs.Page.{Cell}
use Rattle.page_ops.specs.Reading.{beside_of, cell_bytes, count_in, has_cell, key_of, level_in, opens, place_of}
use Rattle.page_ops.specs.OnCells.{key_at}
use Rattle.page_ops.specs.Search.{last_under, next_under, place_for}
use Rattle.page_map.specs.Steps.{one_before}
use Rattle.page_map.specs.Rows.{old_at, stands_in}
use Rattle.page_map.specs.Splits.{all_there, cell_size, cells_read, front_of, middle, middle_from, separator, size_of}
use Rattle.page_map.specs.Walk.{is_on}
use Rattle.page_map.proofs.MapLemmas.{not_below_itself, turned}
use Rattle.page_map.proofs.HalfLemmas.{place_first, place_none, put_by, under_above, under_with}
use Rattle.page_map.proofs.WayLemmas.{lt_suc}

-- what holds of all numbers below one, and of it, holds of those below the next
pub one_more : (P : ℕ → Type 0) (i : ℕ) → ((k : ℕ) → k < i → P k) → P i → (k : ℕ) → k < i + 1 → P k
one_more P i each here k low =
    elim (nat_lt k i) as (λ t. nat_lt k i ≡ t → P k) [
      | true ↦ λ e. each k (ltb-true k i e)
      | false ↦ λ e. let same : i ≡ k = omega (arith, ltb-false k i e, low) in subst P same here
    ] refl

abbrev pub no_cell : Cell
no_cell = ([], [])

-- ---- cells that are all there

abbrev pub read_at : List ℕ → ℕ → Cell
read_at bytes i = (key_of bytes i, beside_of bytes i)

there_from : (bytes : List ℕ) (a m i : ℕ) → list_all (has_cell bytes) (range_with_len a m) ≡ true → i < m → has_cell bytes (a + i) ≡ true
there_from bytes a zero i all low = absurd (omega (arith, low))
there_from bytes a (suc m) zero all low =
    let same : a ≡ a + 0 = omega arith in
    ap (has_cell bytes) (sym same) ∙ (both_true (has_cell bytes a) (list_all (has_cell bytes) (range_with_len (a + 1) m)) all).0
there_from bytes a (suc m) (suc i) all low =
    let next : (a + 1) + i ≡ a + suc i = omega arith in
    ap (has_cell bytes) (sym next) ∙ there_from bytes (a + 1) m i (both_true (has_cell bytes a) (list_all (has_cell bytes) (range_with_len (a + 1) m)) all).1 (omega (arith, low))

pub all_from : (bytes : List ℕ) (a m : ℕ) → ((i : ℕ) → i < m → has_cell bytes (a + i) ≡ true) → list_all (has_cell bytes) (range_with_len a m) ≡ true
all_from bytes a zero each = refl
all_from bytes a (suc m) each =
    let same : a + 0 ≡ a = omega arith in
    ap (λ (t : Bool). t && list_all (has_cell bytes) (range_with_len (a + 1) m)) (ap (has_cell bytes) (sym same) ∙ each 0 (omega arith))
    ∙ all_from bytes (a + 1) m (λ i low. let next : (a + 1) + i ≡ a + suc i = omega arith in ap (has_cell bytes) next ∙ each (suc i) (omega (arith, low)))

-- a cell that is asked is there
pub is_there : (bytes : List ℕ) (i : ℕ) → all_there bytes ≡ true → i < count_in bytes → has_cell bytes i ≡ true
is_there bytes i all low = let same : 0 + i ≡ i = omega arith in ap (has_cell bytes) (sym same) ∙ there_from bytes 0 (count_in bytes) i all low

pub all_are_there : (bytes : List ℕ) → ((i : ℕ) → i < count_in bytes → has_cell bytes i ≡ true) → all_there bytes ≡ true
all_are_there bytes each = all_from bytes 0 (count_in bytes) (λ i low. let same : 0 + i ≡ i = omega arith in ap (has_cell bytes) same ∙ each i low)

pub one_lacks : (bytes : List ℕ) (i : ℕ) → i < count_in bytes → has_cell bytes i ≡ false → all_there bytes ≡ false
one_lacks bytes i low lacks =
    elim (all_there bytes) as (λ t. all_there bytes ≡ t → t ≡ false) [
      | true ↦ λ e. absurd (true≢false (sym (is_there bytes i e low) ∙ lacks))
      | false ↦ λ e. refl
    ] refl

pub count_read : (bytes : List ℕ) → length (cells_read bytes) ≡ count_in bytes
count_read bytes = length-map (range_with_len 0 (count_in bytes)) (read_at bytes) ∙ length-range_with_len 0 (count_in bytes)

read_from : (f : ℕ → Cell) (a m n i : ℕ) → i < n → n ≤ m → slice_index_or (take n (map f (range_with_len a m))) i no_cell ≡ f (a + i)
read_from f a zero n i low few = absurd (omega (arith, low, few))
read_from f a (suc m) zero i low few = absurd (omega (arith, low))
read_from f a (suc m) (suc n) zero low few = let same : a ≡ a + 0 = omega arith in ap f same
read_from f a (suc m) (suc n) (suc i) low few =
    let next : (a + 1) + i ≡ a + suc i = omega arith in read_from f (a + 1) m n i (omega (arith, low)) (omega (arith, few)) ∙ ap f next

-- a cell among the first n
pub cell_read : (bytes : List ℕ) (n i : ℕ) → i < n → n ≤ count_in bytes → slice_index_or (take n (cells_read bytes)) i no_cell ≡ read_at bytes i
cell_read bytes n i low few = let same : 0 + i ≡ i = omega arith in read_from (read_at bytes) 0 (count_in bytes) n i low few ∙ ap (read_at bytes) same

pub none_behind : (cells : List Cell) (i : ℕ) → length cells ≤ i → slice_index_or cells i no_cell ≡ no_cell
none_behind [] i low = refl
none_behind (c ∷ cells) zero low = absurd (omega (arith, low))
none_behind (c ∷ cells) (suc i) low = none_behind cells i (omega (arith, low))

pub taken : (bytes : List ℕ) (n : ℕ) → n ≤ count_in bytes → length (take n (cells_read bytes)) ≡ n
taken bytes n few = length-take-le n (cells_read bytes) (omega (arith, few, count_read bytes))

-- how long a cell is
take_less : (n : ℕ) (l : List ℕ) → length (take n l) ≤ length l
take_less zero l = omega arith
take_less (suc n) [] = omega arith
take_less (suc n) (x ∷ l) = omega (arith, take_less n l)

drop_less : (n : ℕ) (l : List ℕ) → length (drop n l) ≤ length l
drop_less zero l = omega arith
drop_less (suc n) [] = omega arith
drop_less (suc n) (x ∷ l) = omega (arith, drop_less n l)

cell_less : (bytes : List ℕ) (i : ℕ) → length (cell_bytes bytes i) ≤ length bytes
cell_less bytes i = omega (arith, take_less (place_of bytes (suc i) - place_of bytes i) (drop (place_of bytes i) bytes), drop_less (place_of bytes i) bytes)

pub key_less : (bytes : List ℕ) (i : ℕ) → length (key_of bytes i) ≤ length bytes
key_less bytes i = omega (arith, take_less (little_number 2 (cell_bytes bytes i)) (drop 2 (cell_bytes bytes i)), drop_less 2 (cell_bytes bytes i), cell_less bytes i)

pub beside_less : (bytes : List ℕ) (i : ℕ) → length (beside_of bytes i) ≤ length bytes
beside_less bytes i = omega (arith, drop_less (2 + little_number 2 (cell_bytes bytes i)) (cell_bytes bytes i), cell_less bytes i)

-- a page has fewer bytes than two can count
pub opened_short : (bytes : List ℕ) → opens bytes ≡ true → length bytes < 65536
opened_short bytes is =
    let parts = both_true (nat_le 4 (length bytes)) (nat_lt (length bytes) 65536 && ((slice_index bytes 0 == 5) && (nat_le (4 + 2 * count_in bytes) (length bytes) && (place_of bytes 0 == 4)))) is in
    ltb-true (length bytes) 65536 (both_true (nat_lt (length bytes) 65536) ((slice_index bytes 0 == 5) && (nat_le (4 + 2 * count_in bytes) (length bytes) && (place_of bytes 0 == 4))) parts.1).0

pub page_short : (level : ℕ) (bytes : List ℕ) → is_on level bytes ≡ true → length bytes < 65536
page_short level bytes is = opened_short bytes (both_true (opens bytes) (level_in bytes == level) is).0

-- ---- how many keys are below another, and not above it

pub place_stops : (key : List ℕ) (cells : List Cell) (i : ℕ) → i ≤ length cells → ((k : ℕ) → k < i → is_lt (byte_order (key_at cells k) key) ≡ true) → (i < length cells → is_lt (byte_order (key_at cells i) key) ≡ false)
    → place_for key cells ≡ i
place_stops key [] zero within low stops = refl
place_stops key [] (suc i) within low stops = absurd (omega (arith, within))
place_stops key (c ∷ cells) zero within low stops = place_none key c cells (stops (omega arith))
place_stops key (c ∷ cells) (suc i) within low stops =
    place_first key c cells (low 0 (omega arith)) ∙ ap suc (place_stops key cells i (omega (arith, within)) (λ k less. low (suc k) (omega (arith, less))) (λ less. stops (omega (arith, less))))

next_before : (i : ℕ) → next_under (one_before i) ≡ one_before (suc i)
next_before zero = refl
next_before (suc i) = refl

pub under_stops : (key : List ℕ) (cells : List Cell) (i : ℕ) → i ≤ length cells → ((k : ℕ) → k < i → is_lt (byte_order key (key_at cells k)) ≡ false) → (i < length cells → is_lt (byte_order key (key_at cells i)) ≡ true)
    → last_under key cells ≡ one_before i
under_stops key [] zero within low stops = refl
under_stops key [] (suc i) within low stops = absurd (omega (arith, within))
under_stops key (c ∷ cells) zero within low stops = under_above key c cells (stops (omega arith))
under_stops key (c ∷ cells) (suc i) within low stops =
    under_with key c cells (low 0 (omega arith))
    ∙ ap next_under (under_stops key cells i (omega (arith, within)) (λ k less. low (suc k) (omega (arith, less))) (λ less. stops (omega (arith, less)))) ∙ next_before i

pub place_inside : (key : List ℕ) (cells : List Cell) → place_for key cells ≤ length cells
place_inside key [] = omega arith
place_inside key (c ∷ cells) =
    elim (is_lt (byte_order c.0 key)) as (λ t. (if t then suc (place_for key cells) else 0) ≤ suc (length cells)) [ true ↦ omega (arith, place_inside key cells) | false ↦ omega arith ]

pub front_all : (cells : List Cell) → front_of None cells ≡ cells
front_all [] = refl
front_all (c ∷ cells) = ap (λ (l : List Cell). c ∷ l) (front_all cells)

pub front_taken : (end : List ℕ) (cells : List Cell) → front_of (Some end) cells ≡ take (place_for end cells) cells
front_taken end [] = refl
front_taken end (c ∷ cells) =
    elim (is_lt (byte_order c.0 end)) as (λ t. (if t then c ∷ front_of (Some end) cells else []) ≡ take (if t then suc (place_for end cells) else 0) (c ∷ cells)) [
      | true ↦ ap (λ (l : List Cell). c ∷ l) (front_taken end cells)
      | false ↦ refl
    ]

-- ---- a pair that is put among cells

not_after : (key other : List ℕ) → byte_order key other ≡ Equal → is_lt (byte_order other key) ≡ false
not_after key other e = ap (λ (k : List ℕ). is_lt (byte_order other k)) (same_key key other e) ∙ not_below_itself other

is_after : (key other : List ℕ) → byte_order key other ≡ Greater → is_lt (byte_order other key) ≡ true
is_after key other e = ap is_lt (turned other key ∙ ap ordering_reverse e)

stands_by : (key : List ℕ) (cells : List Cell) (place : ℕ) → place_for key cells ≡ place → stands_in key cells ≡ (nat_lt place (length cells) && is_eq (byte_order key (key_at cells place)))
stands_by key cells place e = ap (λ (n : ℕ). nat_lt n (length cells) && is_eq (byte_order key (key_at cells n))) e

stands_first : (key : List ℕ) (c : Cell) (cells : List Cell) → is_lt (byte_order c.0 key) ≡ false → stands_in key (c ∷ cells) ≡ is_eq (byte_order key c.0)
stands_first key c cells reached =
    stands_by key (c ∷ cells) 0 (place_none key c cells reached) ∙ ap (λ (t : Bool). t && is_eq (byte_order key c.0)) (lt-ltb 0 (suc (length cells)) (omega arith))

stands_later : (key : List ℕ) (c : Cell) (cells : List Cell) → is_lt (byte_order c.0 key) ≡ true → stands_in key (c ∷ cells) ≡ stands_in key cells
stands_later key c cells below =
    stands_by key (c ∷ cells) (suc (place_for key cells)) (place_first key c cells below)
    ∙ ap (λ (t : Bool). t && is_eq (byte_order key (key_at cells (place_for key cells)))) (lt_suc (place_for key cells) (length cells))

pub put_count : (key value : List ℕ) (cells : List Cell) → length (put byte_order key value cells) ≡ (if stands_in key cells then length cells else suc (length cells))
put_count key value [] = refl
put_count key value (c ∷ cells) =
    let n : ℕ = length cells in
    let all : Bool → ℕ = λ t. if t then suc n else suc (suc n) in
    elim (byte_order key c.0) as (λ o. byte_order key c.0 ≡ o → length (put byte_order key value (c ∷ cells)) ≡ all (stands_in key (c ∷ cells))) [
      | Less ↦ λ e.
          ap (λ (l : List Cell). length l) (put_by key value c cells Less e)
          ∙ sym (ap all (stands_first key c cells (ap is_lt (turned c.0 key ∙ ap ordering_reverse e)) ∙ ap is_eq e))
      | Equal ↦ λ e. ap (λ (l : List Cell). length l) (put_by key value c cells Equal e) ∙ sym (ap all (stands_first key c cells (not_after key c.0 e) ∙ ap is_eq e))
      | Greater ↦ λ e.
          let rest : suc (length (put byte_order key value cells)) ≡ all (stands_in key cells) =
          ap suc (put_count key value cells)
          ∙ elim (stands_in key cells) as (λ t. suc (if t then n else suc n) ≡ all t) [ true ↦ refl | false ↦ refl ] in
          ap (λ (l : List Cell). length l) (put_by key value c cells Greater e) ∙ rest ∙ sym (ap all (stands_later key c cells (is_after key c.0 e)))
    ] refl

pub put_here : (key value : List ℕ) (cells : List Cell) → slice_index_or (put byte_order key value cells) (place_for key cells) no_cell ≡ (key, value)
put_here key value [] = refl
put_here key value (c ∷ cells) =
    let at : List Cell → ℕ → Cell = λ l i. slice_index_or l i no_cell in
    elim (byte_order key c.0) as (λ o. byte_order key c.0 ≡ o → at (put byte_order key value (c ∷ cells)) (place_for key (c ∷ cells)) ≡ (key, value)) [
      | Less ↦ λ e. (λ k. at (put_by key value c cells Less e k) (place_none key c cells (ap is_lt (turned c.0 key ∙ ap ordering_reverse e)) k))
      | Equal ↦ λ e. (λ k. at (put_by key value c cells Equal e k) (place_none key c cells (not_after key c.0 e) k)) ∙ ap (λ (x : List ℕ). (x, value)) (sym (same_key key c.0 e))
      | Greater ↦ λ e. (λ k. at (put_by key value c cells Greater e k) (place_first key c cells (is_after key c.0 e) k)) ∙ put_here key value cells
    ] refl

old_first : (there : Bool) (p : ℕ) → old_at there (suc p) 0 ≡ 0
old_first true p = refl
old_first false p = ap (λ (t : Bool). if t then 0 else 0 - 1) (lt-ltb 0 (suc p) (omega arith))

old_next : (there : Bool) (p j : ℕ) → j ≢ p → old_at there (suc p) (suc j) ≡ suc (old_at there p j)
old_next true p j apart = refl
old_next false p j apart =
    ap (λ (t : Bool). if t then suc j else suc j - 1) (lt_suc j p)
    ∙ elim (nat_lt j p) as (λ t. nat_lt j p ≡ t → (if t then suc j else suc j - 1) ≡ suc (if t then j else j - 1)) [
      | true ↦ λ e. refl
      | false ↦ λ e. let low : p ≤ j = ltb-false j p e in elim j as (λ j. j ≢ p → p ≤ j → suc j - 1 ≡ suc (j - 1)) [
        | zero ↦ λ apart low. absurd (apart (omega (arith, low)))
        | suc i ↦ λ apart low. omega arith
      ] apart low
    ] refl

pub put_other : (key value : List ℕ) (cells : List Cell) (i : ℕ) → i ≢ place_for key cells
    → slice_index_or (put byte_order key value cells) i no_cell ≡ slice_index_or cells (old_at (stands_in key cells) (place_for key cells) i) no_cell
put_other key value [] zero apart = absurd (apart refl)
put_other key value [] (suc i) apart = refl
put_other key value (c ∷ cells) i apart =
    let at : List Cell → ℕ → Cell = λ l i. slice_index_or l i no_cell in
    elim (byte_order key c.0) as (λ o. byte_order key c.0 ≡ o → at (put byte_order key value (c ∷ cells)) i ≡ at (c ∷ cells) (old_at (stands_in key (c ∷ cells)) (place_for key (c ∷ cells)) i)) [
      | Less ↦ λ e.
          let reached : is_lt (byte_order c.0 key) ≡ false = ap is_lt (turned c.0 key ∙ ap ordering_reverse e) in
          let stands : stands_in key (c ∷ cells) ≡ false = stands_first key c cells reached ∙ ap is_eq e in
          let place = place_none key c cells reached in
          ap (λ (l : List Cell). at l i) (put_by key value c cells Less e)
          ∙ elim i as (λ i. i ≢ 0 → at ((key, value) ∷ c ∷ cells) i ≡ at (c ∷ cells) (old_at false 0 i)) [
            | zero ↦ λ apart. absurd (apart refl)
            | suc j ↦ λ apart. let back : suc j - 1 ≡ j = omega arith in ap (at (c ∷ cells)) (sym (ap (λ (t : Bool). if t then suc j else suc j - 1) (le-ltb (suc j) 0 (omega arith)) ∙ back))
          ] (λ f. apart (f ∙ sym place))
          ∙ sym (λ k. at (c ∷ cells) (old_at (stands k) (place k) i))
      | Equal ↦ λ e.
          let reached : is_lt (byte_order c.0 key) ≡ false = not_after key c.0 e in
          let stands : stands_in key (c ∷ cells) ≡ true = stands_first key c cells reached ∙ ap is_eq e in
          let place = place_none key c cells reached in
          ap (λ (l : List Cell). at l i) (put_by key value c cells Equal e)
          ∙ elim i as (λ i. i ≢ 0 → at ((c.0, value) ∷ cells) i ≡ at (c ∷ cells) i) [
            | zero ↦ λ apart. absurd (apart refl)
            | suc j ↦ λ apart. refl
          ] (λ f. apart (f ∙ sym place))
          ∙ sym (ap (λ (t : Bool). at (c ∷ cells) (old_at t (place_for key (c ∷ cells)) i)) stands)
      | Greater ↦ λ e.
          let below = is_after key c.0 e in
          let stands = stands_later key c cells below in
          let place = place_first key c cells below in
          let p : ℕ = place_for key cells in
          ap (λ (l : List Cell). at l i) (put_by key value c cells Greater e)
          ∙ elim i as (λ i. i ≢ suc p → at (c ∷ put byte_order key value cells) i ≡ at (c ∷ cells) (old_at (stands_in key cells) (suc p) i)) [
            | zero ↦ λ apart. ap (at (c ∷ cells)) (sym (old_first (stands_in key cells) p))
            | suc j ↦ λ apart.
                let other : j ≢ p = λ f. apart (ap suc f) in
                put_other key value cells j other ∙ ap (at (c ∷ cells)) (sym (old_next (stands_in key cells) p j other))
          ] (λ f. apart (f ∙ sym place))
          ∙ sym (λ k. at (c ∷ cells) (old_at (stands k) (place k) i))
    ] refl

-- ---- sizes and the middle

pub size_from : (cells : List Cell) (i : ℕ) → i < length cells → size_of (drop i cells) ≡ cell_size (slice_index_or cells i no_cell) + size_of (drop (i + 1) cells)
size_from cells i inside =
    let next : suc i ≡ i + 1 = omega arith in
    ap size_of (drop-cons cells i no_cell inside) ∙ ap (λ (n : ℕ). cell_size (slice_index_or cells i no_cell) + size_of (drop n cells)) next

pub nothing_behind : (cells : List Cell) (i : ℕ) → length cells ≤ i → drop i cells ≡ []
nothing_behind [] zero low = refl
nothing_behind [] (suc i) low = refl
nothing_behind (c ∷ cells) zero low = absurd (omega (arith, low))
nothing_behind (c ∷ cells) (suc i) low = nothing_behind cells i (omega (arith, low))

not_reached : (a b : ℕ) → b < a → nat_le a b ≡ false
not_reached a b less =
    elim (nat_le a b) as (λ t. nat_le a b ≡ t → t ≡ false) [
      | true ↦ λ e. absurd (omega (arith, leb-true a b e, less))
      | false ↦ λ e. refl
    ] refl

middle_at : (all front : ℕ) (cells : List Cell) (i : ℕ) → i < length cells
    → middle_from all front (drop i cells)
    ≡ (if nat_le all (2 * front + cell_size (slice_index_or cells i no_cell)) then 0 else suc (middle_from all (front + cell_size (slice_index_or cells i no_cell)) (drop (suc i) cells)))
middle_at all front cells i inside = ap (middle_from all front) (drop-cons cells i no_cell inside)

module _ (cells : List Cell) (i front : ℕ) (so_far : i + middle_from (size_of cells) front (drop i cells) ≡ middle cells) where
  pub middle_done : length cells ≤ i → i ≡ middle cells
  middle_done ended = omega (arith, so_far, ap (middle_from (size_of cells) front) (nothing_behind cells i ended))

  module _ (size : ℕ) (size_is : size ≡ cell_size (slice_index_or cells i no_cell)) (inside : i < length cells) where
    abbrev behind : ℕ
    behind = middle_from (size_of cells) (front + size) (drop (suc i) cells)

    goes_by : middle_from (size_of cells) front (drop i cells) ≡ (if nat_le (size_of cells) (2 * front + size) then 0 else suc behind)
    goes_by =
        middle_at (size_of cells) front cells i inside
        ∙ ap (λ (n : ℕ). if nat_le (size_of cells) (2 * front + n) then 0 else suc (middle_from (size_of cells) (front + n) (drop (suc i) cells))) (sym size_is)

    pub middle_found : size_of cells ≤ 2 * front + size → i ≡ middle cells
    middle_found reached =
        omega (arith, so_far, goes_by ∙ ap (λ (t : Bool). if t then 0 else suc behind) (le-leb (size_of cells) (2 * front + size) reached))

    pub middle_goes : 2 * front + size < size_of cells → (i + 1) + middle_from (size_of cells) (front + size) (drop (i + 1) cells) ≡ middle cells
    middle_goes before =
        let next : suc i ≡ i + 1 = omega arith in
        omega (
          arith,
          so_far,
          goes_by ∙ ap (λ (t : Bool). if t then 0 else suc behind) (not_reached (size_of cells) (2 * front + size) before),
          ap (λ (n : ℕ). middle_from (size_of cells) (front + size) (drop n cells)) next,
        )

-- ---- what two keys have in common

pub separator_ends : (low high : List ℕ) → length low ≤ 0 → take 1 high ≡ separator low high
separator_ends [] [] short = refl
separator_ends [] (b ∷ high) short = refl
separator_ends (a ∷ low) high short = absurd (omega (arith, short))

pub separator_apart : (a b : ℕ) (low high : List ℕ) → (a == b) ≡ false → take 1 (b ∷ high) ≡ separator (a ∷ low) (b ∷ high)
separator_apart a b low high apart = sym (ap (λ (t : Bool). if t then a ∷ separator low high else b ∷ []) apart)

pub separator_goes : (a b : ℕ) (low high : List ℕ) → (a == b) ≡ true → separator (a ∷ low) (b ∷ high) ≡ b ∷ separator low high
separator_goes a b low high same = ap (λ (t : Bool). if t then a ∷ separator low high else b ∷ []) same ∙ ap (λ (x : ℕ). x ∷ separator low high) (eqb-true a b same)
