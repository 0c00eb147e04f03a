-- The search for the page that is cut, one page further.
use Rattle.std.proofs.Common.{◌≡◌, ℕ, zero, suc, ◌<◌, ◌≤◌, Bool, true, false, ◌&&◌, if◌then◌else◌, Option, None, Some, Result, Ok, Err, List, length, take, take_all, refl, sym, ap, ◌∙◌, arith, option_map}
use Rattle.std.specs.Prelude.{nat_lt, nat_le}
use Rattle.std.proofs.lemmas.Bool.{leb-true, ltb-true}
use Rattle.byteorder.specs.Endian.{little_number}
use Rattle.oper_core.specs.State.{State}
use Rattle.key_entries.specs.EntryLaws.{both_true, if_some, same_some, true_both}
use Rattle.page_ops.specs.Page.{Cell}
use Rattle.page_ops.specs.Reading.{beside_of, child_of, count_in, has_cell, has_key, cell_bytes, place_of, places_at}
use Rattle.page_ops.specs.OnCells.{beside_at}
use Rattle.page_ops.specs.Search.{last_under}
use Rattle.page_map.specs.Map.{bytes_at, is_child}
use Rattle.page_map.specs.Walk.{child_for, child_in, is_on, names_child}
use Rattle.page_map.specs.Splits.{Split, Due, fits, asks, granted, all_there, ask_above, bad_behind, bad_from, cells_read, child_at, due_from, due_in_leaf, due_under, end_of, front_of, has_room, inner_split, reads_on}
use Rattle.page_map.specs.Sets.{unless_bad}
use Rattle.page_map.specs.Cutting.{answered, due_on, due_seen}
use Rattle.page_map.specs.declared.above.Above.{Above}
use Rattle.page_map.specs.declared.descent.Descent.{Descent}
use Rattle.page_map.specs.declared.due.Due.{Due as DueOfCode}
use Rattle.page_map.proofs.CellLemmas.{cell_read, count_read}

-- ---- what a page names

pub read_too : (level : ℕ) (bytes : List ℕ) → is_on level bytes ≡ true → all_there bytes ≡ true → reads_on level bytes ≡ true
read_too level bytes on there = true_both (is_on level bytes) (all_there bytes) on there

pub other_level : (level : ℕ) (bytes : List ℕ) → is_on level bytes ≡ false → reads_on level bytes ≡ false
other_level level bytes off = ap (λ (t : Bool). t && all_there bytes) off

pub lacks_cells : (level : ℕ) (bytes : List ℕ) → is_on level bytes ≡ true → all_there bytes ≡ false → reads_on level bytes ≡ false
lacks_cells level bytes on lacks = (λ k. on k && lacks k)

-- the child that a page names in the range, as its cells have it
pub record IsNamed (lo hi : ℕ) (bytes : List ℕ) (i child : ℕ) : Type 0 where
  pub inside : i < count_in bytes
  pub is : child_at (cells_read bytes) i ≡ child
  pub within : child ≤ hi

pub is_named : (lo hi : ℕ) (bytes : List ℕ) (i child : ℕ) → child_in lo hi bytes i ≡ Some child → IsNamed lo hi bytes i child
is_named lo hi bytes i child e =
    let found : ℕ = child_of bytes i in
    let two = if_some (names_child bytes i && is_child lo hi found) (Some found) child e in
    let parts = both_true (names_child bytes i) (is_child lo hi found) two.0 in
    let same : found ≡ child = same_some found child two.1 in
    let cell = both_true (has_cell bytes i) (nat_le 4 (length (beside_of bytes i))) parts.0 in
    let inside : i < count_in bytes =
    ltb-true i (count_in bytes)
    (both_true (nat_lt i (count_in bytes)) (nat_le 4 (place_of bytes i) && (nat_le (place_of bytes (suc i)) (places_at bytes) && has_key (cell_bytes bytes i))) cell.0).0 in
    let all : take (count_in bytes) (cells_read bytes) ≡ cells_read bytes = take_all (count_in bytes) (cells_read bytes) (omega (arith, count_read bytes)) in
    let beside : beside_at (cells_read bytes) i ≡ beside_of bytes i =
    ap (λ (l : List Cell). beside_at l i) (sym all) ∙ ap (λ (d : Cell). d.1) (cell_read bytes (count_in bytes) i inside (omega arith)) in
    record {
      inside = inside;
      is = ap (little_number 4) beside ∙ same;
      within = omega (arith, same, leb-true found hi (both_true (nat_lt lo found) (nat_le found hi) parts.1).1);
    }

-- ---- bad objects

module _ (room lo hi : ℕ) (s : State) (key value : List ℕ) (d : Descent) where
  abbrev bytes : List ℕ
  bytes = bytes_at lo s d.object

  -- what is due, were its page on a level
  abbrev due_on_level : ℕ → Result Due ℕ
  due_on_level level = unless_bad lo (bad_from lo hi s key level d.object) (option_map (answered room d.above) (due_from room lo s key value level d.object d.end))

  is_bad : (due : Option Due) → bad_from lo hi s key d.level d.object ≡ Some d.object → unless_bad lo (bad_from lo hi s key d.level d.object) due ≡ Err d.object
  is_bad due e = ap (λ (o : Option ℕ). unless_bad lo o due) e

  bad_unread : (level : ℕ) → reads_on level bytes ≡ false → bad_from lo hi s key level d.object ≡ Some d.object
  bad_unread zero e = ap (λ (t : Bool). if t then None else Some d.object) e
  bad_unread (suc level) e =
      ap (λ (t : Bool). if t then bad_behind (bad_from lo hi s key level) d.object (child_for lo hi bytes (last_under key (cells_read bytes))) else Some d.object) e

  pub unread : reads_on d.level bytes ≡ false → due_on room lo hi s key value d ≡ Err d.object
  unread e = is_bad _ (bad_unread d.level e)

  child_from : (level : ℕ) → reads_on (suc level) bytes ≡ true → (child : Option ℕ) → child_for lo hi bytes (last_under key (cells_read bytes)) ≡ child
      → bad_from lo hi s key (suc level) d.object ≡ bad_behind (bad_from lo hi s key level) d.object child
  child_from level e child named =
      ap (λ (t : Bool). if t then bad_behind (bad_from lo hi s key level) d.object (child_for lo hi bytes (last_under key (cells_read bytes))) else Some d.object) e
      ∙ ap (bad_behind (bad_from lo hi s key level) d.object) named

  pub nameless : (level : ℕ) → d.level ≡ suc level → reads_on (suc level) bytes ≡ true → child_for lo hi bytes (last_under key (cells_read bytes)) ≡ None → due_on room lo hi s key value d ≡ Err d.object
  nameless level same e named = is_bad _ (ap (λ (n : ℕ). bad_from lo hi s key n d.object) same ∙ child_from level e None named)

  -- ---- at the leaf

  pub found_there : d.level ≡ 0 → reads_on 0 bytes ≡ true → (due : DueOfCode) → due_seen due ≡ answered room d.above (due_in_leaf room d.object key value d.end (cells_read bytes))
      → due_on room lo hi s key value d ≡ Ok (due_seen due)
  found_there same e due seen =
      ap due_on_level same ∙ ap (λ (t : Bool). unless_bad lo (if t then None else Some d.object) (option_map (answered room d.above) (due_from room lo s key value 0 d.object d.end))) e ∙ ap (λ (w : Due). Ok w) (sym seen)

  -- ---- one page down

  fits_stay : (above : Option Above) → answered room above fits ≡ fits
  fits_stay None = refl
  fits_stay (Some above) = refl

  grants_stay : (above : Option Above) (w : Split) (q i : ℕ) → answered room above (granted w q i) ≡ granted w q i
  grants_stay None w q i = refl
  grants_stay (Some above) w q i = refl

  module _ (level i child : ℕ) (above : Above) where
    abbrev own : Split
    own = inner_split d.object (suc level) (cells_read bytes) (front_of d.end (cells_read bytes))

    -- the page above the child is this one
    pub record IsAbove : Type 0 where
      pub page : above.page ≡ d.object
      pub place : above.place ≡ i
      pub size : above.size ≡ length bytes
      pub due : due_seen above.due ≡ answered room d.above (asks own)

    passes : IsAbove → (w : Due) → answered room d.above (ask_above room (length bytes) d.object i own w) ≡ answered room (Some above) w
    passes is fits = fits_stay d.above
    passes is (granted w q j) = grants_stay d.above w q j
    passes is (asks w) =
        elim (has_room room (length bytes) w.key) as (λ t. answered room d.above (if t then granted w d.object i else asks own) ≡ (if t then granted w d.object i else answered room d.above (asks own))) [
          | true ↦ grants_stay d.above w d.object i
          | false ↦ refl
        ]
        ∙ sym (λ k. if has_room room (is.size k) w.key then granted w (is.page k) (is.place k) else is.due k)

    passes_on : IsAbove → (o : Option Due) → option_map (answered room d.above) (option_map (ask_above room (length bytes) d.object i own) o) ≡ option_map (answered room (Some above)) o
    passes_on is None = refl
    passes_on is (Some w) = ap (λ (w : Due). Some w) (passes is w)

    pub goes_down : d.level ≡ suc level → reads_on (suc level) bytes ≡ true → last_under key (cells_read bytes) ≡ Some i → child_in lo hi bytes i ≡ Some child → IsAbove
        → (end : Option (List ℕ)) → end ≡ end_of (front_of d.end (cells_read bytes)) i d.end
        → due_on room lo hi s key value d ≡ due_on room lo hi s key value (record { object = child; level = level; end = end; above = Some above })
    goes_down same e under named is end end_is =
        let cells : List Cell = cells_read bytes in
        let front : List Cell = front_of d.end cells in
        let cell = is_named lo hi bytes i child named in
        let below : ℕ → Option (List ℕ) → Option Due = due_from room lo s key value level in
        let bad : bad_from lo hi s key (suc level) d.object ≡ bad_from lo hi s key level child = child_from level e (Some child) (ap (child_for lo hi bytes) under ∙ named) in
        let came : due_from room lo s key value (suc level) d.object d.end ≡ option_map (ask_above room (length bytes) d.object i own) (below child end) =
        ap (due_under room lo s key value below (suc level) d.object d.end cells) under
        ∙ (λ k. option_map (ask_above room (length bytes) d.object i own) (below (cell.is k) (sym end_is k))) in
        ap due_on_level same ∙ (λ k. unless_bad lo (bad k) (option_map (answered room d.above) (came k)))
        ∙ ap (unless_bad lo (bad_from lo hi s key level child)) (passes_on is (below child end))
