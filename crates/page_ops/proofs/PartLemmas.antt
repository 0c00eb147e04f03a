-- The parts of a page are its cells, and what is built of them is a page.
use Rattle.std.proofs.Common.{◌≡◌, ℕ, suc, ◌+◌, ◌*◌, ◌-◌, ◌<◌, ◌==◌, true, false, ◌&&◌, List, [], ◌∷◌, ◌++◌, length, take, drop, drop_at, drop-drop, refl, sym, ap, ◌∙◌, subst, arith, append_assoc, length-append}
use Rattle.std.specs.Prelude.{IsTrue, nat_le, nat_lt, flat_map}
use Rattle.std.proofs.Math.Seq.{drop-append_seam}
use Rattle.std.proofs.lemmas.List.{take_at, append-nil}
use Rattle.std.proofs.lemmas.Grind.{flat_map-append}
use Rattle.std.proofs.lemmas.Bool.{le-leb, lt-ltb, cond-true, cond-false, le-ltb}
use Rattle.byteorder.specs.Endian.{little_bytes, little_number}
use Rattle.oper_core.specs.LittleEndian.{little_number-little_bytes}
use Rattle.page_ops.specs.Page.{Cell, Page, cell_code, cells_code, places_from, page_code, page_of, AreShort}
use Rattle.page_ops.specs.Reading.{beside_of, count_in, places_at, places_in, place_of, between, opens, cell_bytes, has_key, has_cell, key_of}
use Rattle.key_entries.specs.EntryLaws.{true_both}
use Rattle.page_ops.specs.Layout.{Cells, numbers_in, part_of, moved, built}

-- ---- lists

-- what stands between two places
slice_is : (front mid back bytes : List ℕ) (a b : ℕ) → bytes ≡ front ++ (mid ++ back) → a ≡ length front → b ≡ a + length mid → between a b bytes ≡ mid
slice_is front mid back bytes a b is from to =
    let size : b - a ≡ length mid = omega (arith, to) in
    ap (λ (n : ℕ). take n (drop a bytes)) size
    ∙ (λ i. take (length mid) (drop (from i) (is i)))
    ∙ ap (λ (l : List ℕ). take (length mid) l) (drop-append_seam front (mid ++ back))
    ∙ take_at mid back (length mid) refl

rest_is : (front back bytes : List ℕ) (a : ℕ) → bytes ≡ front ++ back → a ≡ length front → drop a bytes ≡ back
rest_is front back bytes a is from = (λ i. drop (from i) (is i)) ∙ drop-append_seam front back

abbrev pub twos : List ℕ → List ℕ
twos = flat_map (little_bytes 2)

length-twos : (xs : List ℕ) → length (twos xs) ≡ 2 * length xs
length-twos [] = refl
length-twos (x ∷ xs) = let rest = length-twos xs in omega (arith, rest)

length-places : (at : ℕ) (cells : List Cell) → length (places_from at cells) ≡ length cells
length-places at [] = refl
length-places at (c ∷ cells) = ap (λ (n : ℕ). suc n) (length-places (at + length (cell_code c)) cells)

places_size : (at : ℕ) (cells : List Cell) → length (twos (places_from at cells)) ≡ 2 * length cells
places_size at cells = length-twos (places_from at cells) ∙ ap (λ (x : ℕ). 2 * x) (length-places at cells)

places-append : (at : ℕ) (a b : List Cell) → places_from at (a ++ b) ≡ places_from at a ++ places_from (at + length (cells_code a)) b
places-append at [] b = ap (λ (x : ℕ). places_from x b) (omega arith)
places-append at (c ∷ a) b =
    ap (λ (l : List ℕ). at ∷ l) (places-append (at + length (cell_code c)) a b
    ∙ ap (λ (x : ℕ). places_from (at + length (cell_code c)) a ++ places_from x b) (omega (arith, length-append (cell_code c) (cells_code a))))

twos-append : (at : ℕ) (a b : List Cell) → twos (places_from at (a ++ b)) ≡ twos (places_from at a) ++ twos (places_from (at + length (cells_code a)) b)
twos-append at a b = ap twos (places-append at a b) ∙ flat_map-append (little_bytes 2) (places_from at a) (places_from (at + length (cells_code a)) b)

cells-append : (a b : List Cell) → cells_code (a ++ b) ≡ cells_code a ++ cells_code b
cells-append a b = flat_map-append cell_code a b

cells_size : (a b : List Cell) → length (cells_code (a ++ b)) ≡ length (cells_code a) + length (cells_code b)
cells_size a b = ap (λ (l : List ℕ). length l) (cells-append a b) ∙ length-append (cells_code a) (cells_code b)

-- places that fit two bytes are read back
numbers_back : (at : ℕ) (cells : List Cell) → at + length (cells_code cells) < 65536 → numbers_in (twos (places_from at cells)) ≡ places_from at cells
numbers_back at [] small = refl
numbers_back at (c ∷ cells) small =
    let rest : List ℕ = twos (places_from (at + length (cell_code c)) cells) in
    let number : little_number 2 (little_bytes 2 at ++ rest) ≡ at = little_number-little_bytes 2 at rest (omega (arith, small)) in
    let behind = numbers_back (at + length (cell_code c)) cells (omega (arith, small, length-append (cell_code c) (cells_code cells))) in
    (λ i. number i ∷ behind i)

-- cells that move
moved_on : (from at k : ℕ) (cells : List Cell) → moved from at (places_from (from + k) cells) ≡ twos (places_from (at + k) cells)
moved_on from at k [] = refl
moved_on from at k (c ∷ cells) =
    let here : at + ((from + k) - from) ≡ at + k = omega arith in
    let old : from + k + length (cell_code c) ≡ from + (k + length (cell_code c)) = omega arith in
    let new : at + (k + length (cell_code c)) ≡ at + k + length (cell_code c) = omega arith in
    let rest : moved from at (places_from (from + k + length (cell_code c)) cells) ≡ twos (places_from (at + k + length (cell_code c)) cells) =
    ap (λ (x : ℕ). moved from at (places_from x cells)) old ∙ moved_on from at (k + length (cell_code c)) cells ∙ ap (λ (x : ℕ). twos (places_from x cells)) new in
    (λ i. little_bytes 2 (here i) ++ rest i)

moved_to : (from at : ℕ) (cells : List Cell) → moved from at (places_from from cells) ≡ twos (places_from at cells)
moved_to from at cells =
    let none : from ≡ from + 0 = omega arith in
    let also : at + 0 ≡ at = omega arith in
    ap (λ (x : ℕ). moved from at (places_from x cells)) none ∙ moved_on from at 0 cells ∙ ap (λ (x : ℕ). twos (places_from x cells)) also

-- ---- a page

page_size : (level : ℕ) (cells : List Cell) → length (page_of level cells) ≡ 4 + length (cells_code cells) + 2 * length cells
page_size level cells = omega (arith, length-append (cells_code cells) (twos (places_from 4 cells)), places_size 4 cells)

-- a page that is short enough has places that fit
pub short_page : (page : Page) → length (page_code page) < 65536 → AreShort page.cells
short_page page short = omega (arith, page_size page.level page.cells, short)

module _ (level : ℕ) (cells : List Cell) (short : AreShort cells) where
  abbrev places : List ℕ
  places = twos (places_from 4 cells)

  abbrev head : List ℕ
  head = 5 ∷ level ∷ little_bytes 2 (length cells)

  pub count_is : count_in (page_of level cells) ≡ length cells
  count_is = little_number-little_bytes 2 (length cells) (cells_code cells ++ places) (omega (arith, short))

  pub places_at_is : places_at (page_of level cells) ≡ 4 + length (cells_code cells)
  places_at_is = omega (arith, page_size level cells, count_is)

  pub places_in_is : places_in (page_of level cells) ≡ places
  places_in_is = rest_is (head ++ cells_code cells) places (page_of level cells) (places_at (page_of level cells)) refl (omega (arith, places_at_is))

-- where a cell begins
place_at_end : (level : ℕ) (left : List Cell) → AreShort (left ++ []) → place_of (page_of level (left ++ [])) (length left) ≡ 4 + length (cells_code left)
place_at_end level left short =
    let bytes : List ℕ = page_of level (left ++ []) in
    let same : length (left ++ []) ≡ length left = omega (arith, length-append left []) in
    let past : nat_lt (length left) (count_in bytes) ≡ false = le-ltb (length left) (count_in bytes) (omega (arith, count_is level (left ++ []) short, same)) in
    cond-false (nat_lt (length left) (count_in bytes)) (little_number 2 (drop (2 * length left) (places_in bytes))) (places_at bytes) past
    ∙ places_at_is level (left ++ []) short ∙ ap (λ (x : ℕ). 4 + x) (omega (arith, cells_size left []))

place_inside : (level : ℕ) (left : List Cell) (r : Cell) (right : List Cell) → AreShort (left ++ r ∷ right)
    → place_of (page_of level (left ++ r ∷ right)) (length left) ≡ 4 + length (cells_code left)
place_inside level left r right short =
    let bytes : List ℕ = page_of level (left ++ r ∷ right) in
    let at : ℕ = 4 + length (cells_code left) in
    let front : List ℕ = twos (places_from 4 left) in
    let more : length left < count_in bytes = omega (arith, count_is level (left ++ r ∷ right) short, length-append left (r ∷ right)) in
    let split : places_in bytes ≡ front ++ twos (places_from at (r ∷ right)) = places_in_is level (left ++ r ∷ right) short ∙ twos-append 4 left (r ∷ right) in
    let size : 2 * length left ≡ length front = sym (places_size 4 left) in
    cond-true (nat_lt (length left) (count_in bytes)) (little_number 2 (drop (2 * length left) (places_in bytes))) (places_at bytes) (lt-ltb (length left) (count_in bytes) more)
    ∙ ap (λ (l : List ℕ). little_number 2 l) (rest_is front (twos (places_from at (r ∷ right))) (places_in bytes) (2 * length left) split size)
    ∙ little_number-little_bytes 2 at (twos (places_from (at + length (cell_code r)) right)) (omega (arith, short, cells_size left (r ∷ right)))

pub place_is : (level : ℕ) (left right : List Cell) → AreShort (left ++ right) → place_of (page_of level (left ++ right)) (length left) ≡ 4 + length (cells_code left)
place_is level left [] short = place_at_end level left short
place_is level left (r ∷ right) short = place_inside level left r right short

-- cells as they stand in a page
abbrev pub cells_at : ℕ → List Cell → Cells
cells_at at cells = record { bytes = cells_code cells; from = at; places = places_from at cells }

module _ (level : ℕ) (left mid right : List Cell) (short : AreShort (left ++ (mid ++ right))) where
  abbrev whole : List ℕ
  whole = page_of level (left ++ (mid ++ right))

  abbrev start : ℕ
  start = 4 + length (cells_code left)

  abbrev low : List ℕ
  low = cells_code left

  abbrev inner : List ℕ
  inner = cells_code mid

  abbrev high : List ℕ
  high = cells_code right

  abbrev all_places : List ℕ
  all_places = twos (places_from 4 (left ++ (mid ++ right)))

  starts : place_of whole (length left) ≡ start
  starts = place_is level left (mid ++ right) short

  ends : place_of whole (length left + length mid) ≡ start + length inner
  ends =
      let same : (left ++ mid) ++ right ≡ left ++ (mid ++ right) = append_assoc left mid right in
      let fits : AreShort ((left ++ mid) ++ right) = subst (λ (l : List Cell). AreShort l) (sym same) short in
      ap (λ (l : List Cell). place_of (page_of level l) (length left + length mid)) (sym same)
      ∙ ap (λ (n : ℕ). place_of (page_of level ((left ++ mid) ++ right)) n) (sym (length-append left mid))
      ∙ place_is level (left ++ mid) right fits ∙ omega (arith, cells_size left mid)

  parted : whole ≡ (5 ∷ level ∷ (little_bytes 2 (length (left ++ (mid ++ right))) ++ low)) ++ (inner ++ (high ++ all_places))
  parted =
      ap (λ (l : List ℕ). 5 ∷ level ∷ (little_bytes 2 (length (left ++ (mid ++ right))) ++ (l ++ all_places)))
      (cells-append left (mid ++ right) ∙ ap (λ (l : List ℕ). low ++ l) (cells-append mid right))
      ∙ ap (λ (l : List ℕ). 5 ∷ level ∷ (little_bytes 2 (length (left ++ (mid ++ right))) ++ l))
      (append_assoc low (inner ++ high) all_places ∙ ap (λ (l : List ℕ). low ++ l) (append_assoc inner high all_places))

  bytes_are : between (place_of whole (length left)) (place_of whole (length left + length mid)) whole ≡ inner
  bytes_are =
      slice_is (5 ∷ level ∷ (little_bytes 2 (length (left ++ (mid ++ right))) ++ low)) inner (high ++ all_places) whole
      (place_of whole (length left)) (place_of whole (length left + length mid)) parted (omega (arith, starts)) (omega (arith, starts, ends))

  places_split : places_in whole ≡ twos (places_from 4 left) ++ (twos (places_from start mid) ++ twos (places_from (start + length inner) right))
  places_split =
      places_in_is level (left ++ (mid ++ right)) short ∙ twos-append 4 left (mid ++ right)
      ∙ ap (λ (l : List ℕ). twos (places_from 4 left) ++ l) (twos-append start mid right)

  places_are : numbers_in (between (2 * length left) (2 * (length left + length mid)) (places_in whole)) ≡ places_from start mid
  places_are =
      ap numbers_in (slice_is (twos (places_from 4 left)) (twos (places_from start mid)) (twos (places_from (start + length inner) right)) (places_in whole)
      (2 * length left) (2 * (length left + length mid)) places_split (sym (places_size 4 left)) (omega (arith, places_size start mid)))
      ∙ numbers_back start mid (omega (arith, short, cells_size left (mid ++ right), cells_size mid right))

  pub part_is : part_of whole (length left) (length left + length mid) ≡ cells_at start mid
  part_is = λ i. record { bytes = bytes_are i; from = starts i; places = places_are i }

-- cells between two places
pub part_at : (level : ℕ) (cells left mid right : List Cell) (i j : ℕ) → cells ≡ left ++ (mid ++ right) → AreShort cells → i ≡ length left → j ≡ length left + length mid
    → part_of (page_of level cells) i j ≡ cells_at (4 + length (cells_code left)) mid
part_at level cells left mid right i j is short from to =
    (λ k. part_of (page_of level cells) (from k) (to k))
    ∙ ap (λ (l : List Cell). part_of (page_of level l) (length left) (length left + length mid)) is
    ∙ part_is level left mid right (subst (λ (l : List Cell). AreShort l) is short)

-- ---- what is built

pub built_is : (level a b : ℕ) (left new right : List Cell)
    → built (record { level = level; front = cells_at a left; new = new; back = cells_at b right }) ≡ page_of level (left ++ (new ++ right))
built_is level a b left new right =
    let count : length (places_from a left) + (length new + length (places_from b right)) ≡ length (left ++ (new ++ right)) =
    omega (arith, length-places a left, length-places b right, length-append left (new ++ right), length-append new right) in
    let cells : cells_code left ++ (cells_code new ++ cells_code right) ≡ cells_code (left ++ (new ++ right)) =
    ap (λ (l : List ℕ). cells_code left ++ l) (sym (cells-append new right)) ∙ sym (cells-append left (new ++ right)) in
    let at : ℕ = 4 + length (cells_code left) in
    let places : moved a 4 (places_from a left) ++ (twos (places_from at new) ++ moved b (at + length (cells_code new)) (places_from b right)) ≡ twos (places_from 4 (left ++ (new ++ right))) =
    (λ i. moved_to a 4 left i ++ (twos (places_from at new) ++ moved_to b (at + length (cells_code new)) right i))
    ∙ ap (λ (l : List ℕ). twos (places_from 4 left) ++ l) (sym (twos-append at new right)) ∙ sym (twos-append 4 left (new ++ right)) in
    (λ i. 5 ∷ level ∷ (little_bytes 2 (count i) ++ (cells i ++ places i)))

-- new cells in the place of others
pub spliced : (level made : ℕ) (cells left mid new right : List Cell) (i j n : ℕ) → cells ≡ left ++ (mid ++ right) → AreShort cells → i ≡ length left → j ≡ length left + length mid → n ≡ length cells
    → built (record { level = made; front = part_of (page_of level cells) 0 i; new = new; back = part_of (page_of level cells) j n }) ≡ page_of made (left ++ (new ++ right))
spliced level made cells left mid new right i j n is short from to whole =
    let front = part_at level cells [] left (mid ++ right) 0 i is short refl (omega (arith, from)) in
    let same : left ++ (mid ++ right) ≡ (left ++ mid) ++ (right ++ []) =
    sym (append_assoc left mid right) ∙ ap (λ (l : List Cell). (left ++ mid) ++ l) (sym (append-nil right)) in
    let size = ap (λ (l : List Cell). length l) is in
    let back = part_at level cells (left ++ mid) right [] j n (is ∙ same) short (omega (arith, to, length-append left mid))
    (omega (arith, whole, size, length-append left (mid ++ right), length-append mid right, length-append left mid)) in
    (λ k. built (record { level = made; front = front k; new = new; back = back k })) ∙ built_is made 4 (4 + length (cells_code (left ++ mid))) left new right

-- ---- one cell

module _ (level : ℕ) (left : List Cell) (c : Cell) (right : List Cell) (short : AreShort (left ++ c ∷ right)) where
  abbrev bytes : List ℕ
  bytes = page_of level (left ++ c ∷ right)

  pub cell_is : cell_bytes bytes (length left) ≡ cell_code c
  cell_is =
      ap (λ (p : Cells). p.bytes) (part_at level (left ++ c ∷ right) left (c ∷ []) right (length left) (suc (length left)) refl short refl (omega arith))
      ∙ append-nil (cell_code c)

  cell_size : length (cell_code c) ≡ 2 + (length c.0 + length c.1)
  cell_size = omega (arith, length-append c.0 c.1)

  fits : length (cell_code c) < 65536
  fits = omega (arith, short, cells_size left (c ∷ right), length-append (cell_code c) (cells_code right))

  key_length : little_number 2 (cell_bytes bytes (length left)) ≡ length c.0
  key_length = ap (little_number 2) cell_is ∙ little_number-little_bytes 2 (length c.0) (c.0 ++ c.1) (omega (arith, fits, cell_size))

  pub key_is : key_of bytes (length left) ≡ c.0
  key_is = (λ i. take (key_length i) (drop 2 (cell_is i))) ∙ take_at c.0 c.1 (length c.0) refl

  pub beside_is : beside_of bytes (length left) ≡ c.1
  beside_is = (λ i. drop (2 + key_length i) (cell_is i)) ∙ sym (drop-drop (length c.0) 2 (cell_code c)) ∙ drop_at c.0 c.1 (length c.0) refl

  pub cell_there : IsTrue (has_cell bytes (length left))
  cell_there =
      let inside : length left < count_in bytes = omega (arith, count_is level (left ++ c ∷ right) short, length-append left (c ∷ right)) in
      let from = place_is level left (c ∷ right) short in
      let to : place_of bytes (suc (length left)) ≡ 4 + length (cells_code left) + length (cell_code c) =
      ap (λ (n : ℕ). place_of bytes n) (omega arith) ∙ ends level left (c ∷ []) right short ∙ omega (arith, length-append (cell_code c) []) in
      let low : nat_le 4 (place_of bytes (length left)) ≡ true = le-leb 4 (place_of bytes (length left)) (omega (arith, from)) in
      let high : nat_le (place_of bytes (suc (length left))) (places_at bytes) ≡ true =
      le-leb (place_of bytes (suc (length left))) (places_at bytes) (omega (arith, to, places_at_is level (left ++ c ∷ right) short, cells_size left (c ∷ right), length-append (cell_code c) (cells_code right))) in
      let key : has_key (cell_bytes bytes (length left)) ≡ true =
      le-leb (2 + little_number 2 (cell_bytes bytes (length left))) (length (cell_bytes bytes (length left))) (omega (arith, key_length, ap (λ (l : List ℕ). length l) cell_is, cell_size)) in
      true_both (nat_lt (length left) (count_in bytes)) (nat_le 4 (place_of bytes (length left)) && (nat_le (place_of bytes (suc (length left))) (places_at bytes) && has_key (cell_bytes bytes (length left))))
      (lt-ltb (length left) (count_in bytes) inside)
      (true_both (nat_le 4 (place_of bytes (length left))) (nat_le (place_of bytes (suc (length left))) (places_at bytes) && has_key (cell_bytes bytes (length left))) low
      (true_both (nat_le (place_of bytes (suc (length left))) (places_at bytes)) (has_key (cell_bytes bytes (length left))) high key))

-- a page opens
pub page_opens : (level : ℕ) (cells : List Cell) → AreShort cells → IsTrue (opens (page_of level cells))
page_opens level cells short =
    let bytes : List ℕ = page_of level cells in
    let size = page_size level cells in
    let count = count_is level cells short in
    let first : (place_of bytes 0 == 4) ≡ true = ap (λ (x : ℕ). x == 4) (place_is level [] cells short) in
    let room : nat_le (4 + 2 * count_in bytes) (length bytes) ≡ true = le-leb (4 + 2 * count_in bytes) (length bytes) (omega (arith, size, count)) in
    let head : nat_le 4 (length bytes) ≡ true = le-leb 4 (length bytes) (omega (arith, size)) in
    let few : nat_lt (length bytes) 65536 ≡ true = lt-ltb (length bytes) 65536 (omega (arith, size, short)) in
    true_both (nat_le 4 (length bytes)) (nat_lt (length bytes) 65536 && (true && (nat_le (4 + 2 * count_in bytes) (length bytes) && (place_of bytes 0 == 4)))) head
    (true_both (nat_lt (length bytes) 65536) (true && (nat_le (4 + 2 * count_in bytes) (length bytes) && (place_of bytes 0 == 4))) few
    (true_both (nat_le (4 + 2 * count_in bytes) (length bytes)) (place_of bytes 0 == 4) room first))
