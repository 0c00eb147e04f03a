-- Bytes that read as a page are the bytes of the page with the cells that are read.
use Rattle.std.proofs.Common.{◌≡◌, ℕ, zero, suc, ◌+◌, ◌-◌, ◌*◌, ◌<◌, ◌≤◌, ◌==◌, Bool, true, false, ◌&&◌, if◌then◌else◌, List, [], ◌∷◌, ◌++◌, T, map, flat_map, length, take, drop, Ordering, Less, Equal, Greater, is_eq, is_lt, refl, sym, ap, ◌∙◌, subst, arith, true≢false, slice_index, length-drop, length-take-le, take-append-drop, drop-drop, drop_of_length-le}
use Rattle.std.specs.Prelude.{nat_lt, nat_le}
use Rattle.std.specs.List.{range_with_len}
use Rattle.std.specs.Cmp.{tied_itself}
use Rattle.std.specs.Cmp.Lexicographic.{nat_list_cmp_total}
use Rattle.std.specs.FinMap.Entries.{below_all, is_sorted}
use Rattle.std.proofs.lemmas.Bool.{eqb-true, leb-false, leb-true, lt-ltb, ltb-true, le-ltb}
use Rattle.byteorder.specs.Endian.{little_bytes, little_number}
use Rattle.oper_core.specs.LittleEndian.{little_bytes-front, little_bytes-little_number}
use Rattle.key_entries.specs.Entries.{byte_order}
use Rattle.key_entries.specs.EntryLaws.{AreBytes, both_true, bytes_behind, true_both}
use Rattle.key_entries.specs.KeyLaws.{both, first, second, same_key}
use Rattle.page_ops.specs.Page.{Cell, cell_code, cells_code, page_of, places_from}
use Rattle.page_ops.specs.OnCells.{key_at}
use Rattle.page_ops.specs.Reading.{beside_in, between, cell_bytes, count_in, has_cell, has_key, key_in, level_in, opens, place_of, places_at, places_in}
use Rattle.page_map.specs.Checks.{is_page}
use Rattle.page_map.specs.Map.{IsHeld}
use Rattle.page_map.specs.Splits.{all_there, cells_read}
use Rattle.page_map.specs.Walk.{is_on}
use Rattle.page_map.proofs.CellLemmas.{count_read, is_there, read_at}
use Rattle.page_map.proofs.CutLemmas.{ReadsCells, cells_are, code_size, next_above, page_size}
use Rattle.page_map.proofs.MapLemmas.{below_both}

-- ---- lists

none_taken : (n : ℕ) → ◌≡◌ {A = List ℕ} (take n []) []
none_taken zero = refl
none_taken (suc n) = refl

take_more : (x y : ℕ) (l : List ℕ) → take x l ++ take y (drop x l) ≡ take (x + y) l
take_more zero y l = let same : y ≡ 0 + y = omega arith in ap (λ (n : ℕ). take n l) same
take_more (suc x) y [] = none_taken y ∙ sym (none_taken (suc x + y))
take_more (suc x) y (a ∷ l) =
    let next : suc (x + y) ≡ suc x + y = omega arith in ap (λ (k : List ℕ). a ∷ k) (take_more x y l) ∙ ap (λ (n : ℕ). take n (a ∷ l)) next

bytes_taken : (n : ℕ) (l : List ℕ) → AreBytes l → AreBytes (take n l)
bytes_taken zero l are i = omega arith
bytes_taken (suc n) [] are i = are i
bytes_taken (suc n) (a ∷ l) are zero = are 0
bytes_taken (suc n) (a ∷ l) are (suc i) = bytes_taken n l (λ j. are (suc j)) i

front_two : (l : List ℕ) → 2 ≤ length l → l ≡ slice_index l 0 ∷ slice_index l 1 ∷ drop 2 l
front_two [] long = absurd (omega (arith, long))
front_two (a ∷ []) long = absurd (omega (arith, long))
front_two (a ∷ b ∷ l) long = refl

between_both : (a b c : ℕ) (l : List ℕ) → a ≤ b → b ≤ c → between a b l ++ between b c l ≡ between a c l
between_both a b c l low high =
    let far : a + (b - a) ≡ b = omega (arith, low) in
    let all : (b - a) + (c - b) ≡ c - a = omega (arith, low, high) in
    ap (λ (r : List ℕ). between a b l ++ take (c - b) r) (sym (drop-drop (b - a) a l ∙ ap (λ (n : ℕ). drop n l) far))
    ∙ take_more (b - a) (c - b) (drop a l) ∙ ap (λ (n : ℕ). take n (drop a l)) all

between_size : (a b : ℕ) (l : List ℕ) → a ≤ b → b ≤ length l → length (between a b l) ≡ b - a
between_size a b l low high = length-take-le (b - a) (drop a l) (omega (arith, length-drop a l, high))

-- ---- what a head tells

record IsOpen (bytes : List ℕ) : Type 0 where
  short : length bytes < 65536
  kind : slice_index bytes 0 ≡ 5
  room : 4 + 2 * count_in bytes ≤ length bytes
  first : place_of bytes 0 ≡ 4

is_open : (bytes : List ℕ) → opens bytes ≡ true → IsOpen bytes
is_open bytes is =
    let a = both_true (nat_le 4 (length bytes)) (nat_lt (length bytes) 65536 && ((slice_index bytes 0 == 5) && (nat_le (4 + 2 * count_in bytes) (length bytes) && (place_of bytes 0 == 4)))) is in
    let b = both_true (nat_lt (length bytes) 65536) ((slice_index bytes 0 == 5) && (nat_le (4 + 2 * count_in bytes) (length bytes) && (place_of bytes 0 == 4))) a.1 in
    let c = both_true (slice_index bytes 0 == 5) (nat_le (4 + 2 * count_in bytes) (length bytes) && (place_of bytes 0 == 4)) b.1 in
    let d = both_true (nat_le (4 + 2 * count_in bytes) (length bytes)) (place_of bytes 0 == 4) c.1 in
    record {
      short = ltb-true (length bytes) 65536 b.0;
      kind = eqb-true (slice_index bytes 0) 5 c.0;
      room = leb-true (4 + 2 * count_in bytes) (length bytes) d.0;
      first = eqb-true (place_of bytes 0) 4 d.1;
    }

-- ---- the cells, and their places

module _ (bytes : List ℕ) (small : AreBytes bytes) (seen : IsOpen bytes) where
  abbrev end : ℕ
  end = places_at bytes

  place_there : (i : ℕ) → i < count_in bytes → place_of bytes i ≡ little_number 2 (drop (2 * i) (places_in bytes))
  place_there i low = ap (λ (t : Bool). if t then little_number 2 (drop (2 * i) (places_in bytes)) else places_at bytes) (lt-ltb i (count_in bytes) low)

  place_end : (i : ℕ) → count_in bytes ≤ i → place_of bytes i ≡ end
  place_end i high = ap (λ (t : Bool). if t then little_number 2 (drop (2 * i) (places_in bytes)) else places_at bytes) (le-ltb i (count_in bytes) high)

  record IsCell (i : ℕ) : Type 0 where
    order : place_of bytes i ≤ place_of bytes (suc i)
    inside : place_of bytes (suc i) ≤ end
    size : length (cell_bytes bytes i) ≡ place_of bytes (suc i) - place_of bytes i
    code : cell_code (read_at bytes i) ≡ cell_bytes bytes i

  is_cell : (i : ℕ) → has_cell bytes i ≡ true → IsCell i
  is_cell i is =
      let cell : List ℕ = cell_bytes bytes i in
      let from : ℕ = place_of bytes i in
      let to : ℕ = place_of bytes (suc i) in
      let n : ℕ = little_number 2 cell in
      let a = both_true (nat_lt i (count_in bytes)) (nat_le 4 from && (nat_le to end && has_key cell)) is in
      let b = both_true (nat_le 4 from) (nat_le to end && has_key cell) a.1 in
      let c = both_true (nat_le to end) (has_key cell) b.1 in
      let inside : to ≤ end = leb-true to end c.0 in
      let key : 2 + n ≤ length cell = leb-true (2 + n) (length cell) c.1 in
      let order : from ≤ to =
      elim (nat_le from to) as (λ t. nat_le from to ≡ t → from ≤ to) [
        | true ↦ λ e. leb-true from to e
        | false ↦ λ e. let none : to - from ≡ 0 = omega (arith, leb-false from to e) in absurd (omega (arith, key, ap (λ (k : ℕ). length (take k (drop from bytes))) none))
      ] refl in
      let are : AreBytes cell = bytes_taken (to - from) (drop from bytes) (bytes_behind from bytes small) in
      let size : length (key_in cell) ≡ n = length-take-le n (drop 2 cell) (omega (arith, length-drop 2 cell, key)) in
      let rest : key_in cell ++ beside_in cell ≡ drop 2 cell =
      ap (λ (l : List ℕ). key_in cell ++ l) (sym (drop-drop n 2 cell)) ∙ take-append-drop n (drop 2 cell) in
      record {
        order = order;
        inside = inside;
        size = between_size from to bytes order (omega (arith, inside));
        code = (λ k. little_bytes 2 (size k) ++ rest k) ∙ sym (little_bytes-front 2 cell (omega (arith, key)) are);
      }

  record AreRead (i k : ℕ) : Type 0 where
    cells : cells_code (map (read_at bytes) (range_with_len i k)) ≡ between (place_of bytes i) end bytes
    places : places_from (place_of bytes i) (map (read_at bytes) (range_with_len i k)) ≡ map (place_of bytes) (range_with_len i k)
    low : place_of bytes i ≤ end

  are_read : ((i : ℕ) → i < count_in bytes → has_cell bytes i ≡ true) → (k i : ℕ) → i + k ≡ count_in bytes → AreRead i k
  are_read there zero i all =
      let last : place_of bytes i ≡ end = place_end i (omega (arith, all)) in
      let none : 0 ≡ end - place_of bytes i = omega (arith, last) in
      record { cells = ap (λ (n : ℕ). take n (drop (place_of bytes i) bytes)) none; places = refl; low = omega (arith, last) }
  are_read there (suc k) i all =
      let cell = is_cell i (there i (omega (arith, all))) in
      let next : i + 1 ≡ suc i = omega arith in
      let rest : AreRead (suc i) k = are_read there k (suc i) (omega (arith, all)) in
      let behind : place_of bytes i + length (cell_code (read_at bytes i)) ≡ place_of bytes (suc i) = omega (arith, ap (λ (l : List ℕ). length l) cell.code, cell.size, cell.order) in
      record {
        cells =
            (λ j. cell.code j ++ cells_code (map (read_at bytes) (range_with_len (next j) k)))
            ∙ ap (λ (l : List ℕ). cell_bytes bytes i ++ l) rest.cells ∙ between_both (place_of bytes i) (place_of bytes (suc i)) end bytes cell.order rest.low;
        places =
            (λ j. place_of bytes i ∷ places_from (behind j) (map (read_at bytes) (range_with_len (next j) k)))
            ∙ ap (λ (l : List ℕ). place_of bytes i ∷ l) rest.places ∙ (λ j. place_of bytes i ∷ map (place_of bytes) (range_with_len (sym next j) k));
        low = omega (arith, cell.order, cell.inside);
      }

  places_are : (k i : ℕ) → i + k ≡ count_in bytes → flat_map (little_bytes 2) (map (place_of bytes) (range_with_len i k)) ≡ drop (2 * i) (places_in bytes)
  places_are zero i all =
      sym (drop_of_length-le (places_in bytes) (omega (arith, length-drop end bytes, seen.room, all)))
  places_are (suc k) i all =
      let here : List ℕ = drop (2 * i) (places_in bytes) in
      let next : i + 1 ≡ suc i = omega arith in
      let two : 2 * i + 2 ≡ 2 * suc i = omega arith in
      let long : 2 ≤ length here = omega (arith, length-drop (2 * i) (places_in bytes), length-drop end bytes, seen.room, all) in
      let are : AreBytes here = bytes_behind (2 * i) (places_in bytes) (bytes_behind end bytes small) in
      (λ j. little_bytes 2 (place_there i (omega (arith, all)) j) ++ flat_map (little_bytes 2) (map (place_of bytes) (range_with_len (next j) k)))
      ∙ (λ j. little_bytes-little_number 2 here long are j ++ places_are k (suc i) (omega (arith, all)) j)
      ∙ ap (λ (l : List ℕ). take 2 here ++ l) (sym (drop-drop 2 (2 * i) (places_in bytes) ∙ ap (λ (n : ℕ). drop n (places_in bytes)) two)) ∙ take-append-drop 2 here

  page_back : all_there bytes ≡ true → page_of (level_in bytes) (cells_read bytes) ≡ bytes
  page_back all =
      let n : ℕ = count_in bytes in
      let four : 4 ≤ end = omega (arith, seen.room) in
      let far : 4 + (end - 4) ≡ end = omega (arith, four) in
      let head : List ℕ = drop 2 bytes in
      let read = are_read (λ i low. is_there bytes i all low) n 0 (omega arith) in
      let places : flat_map (little_bytes 2) (places_from 4 (cells_read bytes)) ≡ drop end bytes =
      (λ j. flat_map (little_bytes 2) (places_from (sym seen.first j) (cells_read bytes))) ∙ ap (λ (l : List ℕ). flat_map (little_bytes 2) l) read.places ∙ places_are n 0 (omega arith) in
      let cells : cells_code (cells_read bytes) ≡ between 4 end bytes = read.cells ∙ ap (λ (p : ℕ). between p end bytes) seen.first in
      let body : cells_code (cells_read bytes) ++ flat_map (little_bytes 2) (places_from 4 (cells_read bytes)) ≡ drop 2 head =
      (λ j. cells j ++ places j)
      ∙ ap (λ (l : List ℕ). between 4 end bytes ++ l) (sym (drop-drop (end - 4) 4 bytes ∙ ap (λ (k : ℕ). drop k bytes) far)) ∙ take-append-drop (end - 4) (drop 4 bytes)
      ∙ sym (drop-drop 2 2 bytes) in
      let size : 2 ≤ length head = omega (arith, length-drop 2 bytes, seen.room) in
      let tail : little_bytes 2 (length (cells_read bytes)) ++ (cells_code (cells_read bytes) ++ flat_map (little_bytes 2) (places_from 4 (cells_read bytes))) ≡ head =
      (λ j. little_bytes 2 (count_read bytes j) ++ body j) ∙ sym (little_bytes-front 2 head size (bytes_behind 2 bytes small)) in
      (λ j. sym seen.kind j ∷ level_in bytes ∷ tail j) ∙ sym (front_two bytes (omega (arith, seen.room)))

-- ---- a page, both ways

equal_itself : (key : List ℕ) → byte_order key key ≡ Equal
equal_itself = tied_itself nat_list_cmp_total

pub eq_itself : (key : List ℕ) → is_eq (byte_order key key) ≡ true
eq_itself key = ap is_eq (equal_itself key)

equal_is : (o : Ordering) → is_eq o ≡ true → o ≡ Equal
equal_is Less e = cc
equal_is Equal e = refl
equal_is Greater e = cc

pub eq_same : (x y : List ℕ) → is_eq (byte_order x y) ≡ true → x ≡ y
eq_same x y e = same_key x y (equal_is (byte_order x y) e)

pub truly : (b : Bool) → T b → b ≡ true
truly true t = refl
truly false t = absurd t

pub lies : (b : Bool) → b ≡ true → T b
lies b e = subst (λ (b : Bool). T b) (sym e) tt

pub page_held : (level : ℕ) (bytes : List ℕ) → is_page level bytes ≡ true → IsHeld level bytes (cells_read bytes)
page_held level bytes e =
    let cells : List Cell = cells_read bytes in
    let a = both_true (nat_lt (length bytes) 65536) (is_eq (byte_order bytes (page_of level cells)) && is_sorted byte_order cells) e in
    let b = both_true (is_eq (byte_order bytes (page_of level cells))) (is_sorted byte_order cells) a.1 in
    let code : bytes ≡ page_of level cells = eq_same bytes (page_of level cells) b.0 in
    record {
      code = code;
      short = omega (arith, ltb-true (length bytes) 65536 a.0, ap (λ (l : List ℕ). length l) code, page_size level cells, code_size cells);
      rise = lies (is_sorted byte_order cells) b.1;
    }

module _ (reads : ReadsCells) (level : ℕ) (bytes : List ℕ) (cells : List Cell) (held : IsHeld level bytes cells) where
  pub cells_held_are : cells_read bytes ≡ cells
  cells_held_are = ap cells_read held.code ∙ cells_are reads level cells held.short

  pub held_page : is_page level bytes ≡ true
  held_page =
      let same : byte_order bytes (page_of level (cells_read bytes)) ≡ byte_order bytes bytes = (λ k. byte_order bytes ((ap (λ (l : List Cell). page_of level l) cells_held_are ∙ sym held.code) k)) in
      let few : length bytes < 65536 = omega (arith, ap (λ (l : List ℕ). length l) held.code, page_size level cells, code_size cells, held.short) in
      true_both (nat_lt (length bytes) 65536) (is_eq (byte_order bytes (page_of level (cells_read bytes))) && is_sorted byte_order (cells_read bytes)) (lt-ltb (length bytes) 65536 few)
      (true_both (is_eq (byte_order bytes (page_of level (cells_read bytes)))) (is_sorted byte_order (cells_read bytes)) (ap is_eq same ∙ eq_itself bytes)
      (ap (λ (l : List Cell). is_sorted byte_order l) cells_held_are ∙ truly (is_sorted byte_order cells) held.rise))

-- bytes whose head and cells are there are a page where the keys rise
pub read_page : (level : ℕ) (bytes : List ℕ) → AreBytes bytes → is_on level bytes ≡ true → all_there bytes ≡ true → is_page level bytes ≡ is_sorted byte_order (cells_read bytes)
read_page level bytes small on all =
    let parts = both_true (opens bytes) (level_in bytes == level) on in
    let seen = is_open bytes parts.0 in
    let same : byte_order bytes (page_of level (cells_read bytes)) ≡ byte_order bytes bytes =
    (λ k. byte_order bytes ((ap (λ (n : ℕ). page_of n (cells_read bytes)) (sym (eqb-true (level_in bytes) level parts.1)) ∙ page_back bytes small seen all) k)) in
    (λ k. lt-ltb (length bytes) 65536 seen.short k && ((ap is_eq same ∙ eq_itself bytes) k && is_sorted byte_order (cells_read bytes)))

-- ---- keys that rise one after the other

-- each key is below the next one, from a place on
abbrev pub Climb : List Cell → ℕ → Type 0
Climb cells n = (i : ℕ) → suc i < n → is_lt (byte_order (key_at cells i) (key_at cells (suc i))) ≡ true

climb_below : (x : List ℕ) (c : Cell) (cells : List Cell) → is_lt (byte_order x c.0) ≡ true → T (below_all byte_order c.0 cells) → T (below_all byte_order x (c ∷ cells))
climb_below x c cells one all = both (is_lt (byte_order x c.0)) (below_all byte_order x cells) (lies (is_lt (byte_order x c.0)) one) (through cells all)
  where
    through : (cells : List Cell) → T (below_all byte_order c.0 cells) → T (below_all byte_order x cells)
    through [] all = tt
    through (d ∷ cells) all =
        both (is_lt (byte_order x d.0)) (below_all byte_order x cells)
        (lies (is_lt (byte_order x d.0)) (below_both x c.0 d.0 one (truly (is_lt (byte_order c.0 d.0)) (first (is_lt (byte_order c.0 d.0)) (below_all byte_order c.0 cells) all))))
        (through cells (second (is_lt (byte_order c.0 d.0)) (below_all byte_order c.0 cells) all))

pub climb_sorted : (cells : List Cell) → Climb cells (length cells) → T (is_sorted byte_order cells)
climb_sorted [] climb = tt
climb_sorted (c ∷ []) climb = tt
climb_sorted (c ∷ d ∷ cells) climb =
    let rest = climb_sorted (d ∷ cells) (λ i low. climb (suc i) (omega (arith, low))) in
    both (below_all byte_order c.0 (d ∷ cells)) (is_sorted byte_order (d ∷ cells))
    (climb_below c.0 d cells (climb 0 (omega arith)) (first (below_all byte_order d.0 cells) (is_sorted byte_order cells) rest)) rest

-- where one is not, they do not rise
pub not_climbing : (cells : List Cell) (i : ℕ) → suc i < length cells → is_lt (byte_order (key_at cells i) (key_at cells (suc i))) ≡ false → is_sorted byte_order cells ≡ false
not_climbing cells i low falls =
    elim (is_sorted byte_order cells) as (λ t. is_sorted byte_order cells ≡ t → t ≡ false) [
      | true ↦ λ e. absurd (true≢false (sym (ap is_lt (next_above cells i (lies (is_sorted byte_order cells) e) low)) ∙ falls))
      | false ↦ λ e. refl
    ] refl
