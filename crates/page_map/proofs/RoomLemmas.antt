-- On a map: how long the leaf of a key becomes by a pair, and that no object on the way of the search is bad.
use Rattle.std.proofs.Common.{◌≡◌, ℕ, zero, suc, ◌+◌, ◌-◌, ◌^◌, ◌<◌, Bool, true, false, if◌then◌else◌, None, Some, List, [], ◌∷◌, length, take, drop, drop-cons, refl, sym, ap, ◌∙◌, arith}
use Rattle.std.specs.Prelude.{IsTrue}
use Rattle.std.specs.FinMap.Entries.{put}
use Rattle.oper_core.specs.State.{State}
use Rattle.key_entries.specs.Entries.{byte_order}
use Rattle.key_entries.specs.EntryLaws.{true_both}
use Rattle.key_entries.specs.Pairs.{has}
use Rattle.page_ops.specs.Page.{Cell, Page, page_of}
use Rattle.page_ops.specs.Reading.{beside_of, count_in, stands_at, under}
use Rattle.page_ops.specs.OnCells.{beside_at, key_at, replaced}
use Rattle.page_ops.specs.Search.{last_under, place_for}
use Rattle.page_map.specs.Map.{Span, is_within, IsHeld, Tree, root_of, pairs_in, cells_in, bytes_at, Holds, StandIn}
use Rattle.page_map.specs.Walk.{child_for, is_on}
use Rattle.page_map.specs.Splits.{all_there, bad_behind, bad_from, cell_size, cells_read, reads_on, size_of}
use Rattle.page_map.specs.Sets.{length_with}
use Rattle.page_map.proofs.MapLemmas.{Searches, child_found, child_named, on_level, pairs_within}
use Rattle.page_map.proofs.CutLemmas.{ReadsCells, cells_are, page_size, pair_size, size_both, size_taken}
use Rattle.page_map.proofs.ChangeLemmas.{Changes, place_in}
use Rattle.page_map.proofs.TreeLemmas.{HoldsChild}
use Rattle.page_map.proofs.CellLemmas.{all_are_there, count_read, no_cell}

-- ---- the length of a leaf with a pair

size_around : (p : ℕ) (new : Cell) (cells : List Cell) (n : ℕ) → size_of (replaced p n (new ∷ []) cells) ≡ size_of (take p cells) + (cell_size new + size_of (drop (p + n) cells))
size_around p new cells n = size_both (take p cells) (new ∷ drop (p + n) cells)

size_split : (p : ℕ) (cells : List Cell) → p < length cells → size_of cells ≡ size_of (take p cells) + (4 + length (key_at cells p) + length (beside_at cells p) + size_of (drop (p + 1) cells))
size_split p cells inside =
    let next : suc p ≡ p + 1 = omega arith in
    omega (
      arith,
      size_taken p cells,
      ap size_of (drop-cons cells p no_cell inside),
      ap (λ (n : ℕ). size_of (drop n cells)) next,
      pair_size (key_at cells p, beside_at cells p),
    )

module _ (changes : Changes) (reads : ReadsCells) (key value : List ℕ) (bytes : List ℕ) (cells : List Cell) (held : IsHeld 0 bytes cells) where
  abbrev place : ℕ
  place = place_for key cells

  abbrev new_size : ℕ
  new_size = 4 + size_of (put byte_order key value cells)

  size_is : length bytes ≡ 4 + size_of cells
  size_is = ap (λ (l : List ℕ). length l) held.code ∙ page_size 0 cells

  there_is : has key cells ≡ true → length bytes - length (beside_of bytes place) + length value ≡ new_size
  there_is there =
      let page : Page = record { level = 0; cells = cells } in
      let inside : place < length cells = place_in key cells there in
      let old : beside_of bytes place ≡ beside_at cells place = ap (λ (b : List ℕ). beside_of b place) held.code ∙ (reads page place held.short inside).1 in
      omega (
        arith,
        size_is,
        ap (λ (l : List ℕ). length l) old,
        size_split place cells inside,
        ap size_of (changes.set key value cells held.rise there),
        size_around place (key_at cells place, value) cells 1,
        pair_size (key_at cells place, value),
      )

  new_is : has key cells ≡ false → length bytes + cell_size (key, value) ≡ new_size
  new_is none =
      let same : place + 0 ≡ place = omega arith in
      omega (
        arith,
        size_is,
        size_taken place cells,
        ap size_of (changes.put_new key value cells held.rise none),
        size_around place (key, value) cells 0,
        ap (λ (n : ℕ). size_of (drop n cells)) same,
      )

  pub length_is : length_with bytes key value place ≡ new_size
  length_is =
      let page : Page = record { level = 0; cells = cells } in
      let with_it : Bool → ℕ = λ t. if t then length bytes - length (beside_of bytes place) + length value else length bytes + cell_size (key, value) in
      ap with_it (ap (λ (b : List ℕ). stands_at b place key) held.code ∙ changes.there page key held.short held.rise)
      ∙ elim (has key cells) as (λ t. has key cells ≡ t → with_it t ≡ new_size) [ true ↦ λ e. there_is e | false ↦ λ e. new_is e ] refl

-- ---- the way of the search

module _ (searches : Searches) (reads : ReadsCells) (lo hi : ℕ) (small : hi < 2 ^ 32) (s : State) (key : List ℕ) where
  read_is : (level : ℕ) (bytes : List ℕ) (cells : List Cell) → IsHeld level bytes cells → cells_read bytes ≡ cells
  read_is level bytes cells held = ap cells_read held.code ∙ cells_are reads level cells held.short

  all_held : (level : ℕ) (bytes : List ℕ) (cells : List Cell) → IsHeld level bytes cells → all_there bytes ≡ true
  all_held level bytes cells held =
      let page : Page = record { level = level; cells = cells } in
      let count : count_in (page_of level cells) ≡ length cells = sym (count_read (page_of level cells)) ∙ ap (λ (l : List Cell). length l) (cells_are reads level cells held.short) in
      ap all_there held.code ∙ all_are_there (page_of level cells) (λ i low. searches.cell page i held.short (omega (arith, low, count)))

  read_held : (level : ℕ) (bytes : List ℕ) (cells : List Cell) → IsHeld level bytes cells → reads_on level bytes ≡ true
  read_held level bytes cells held = true_both (is_on level bytes) (all_there bytes) (on_level searches lo hi small s key level bytes cells held) (all_held level bytes cells held)

  -- no object on it is bad
  pub none_bad : (level : ℕ) (span : Span) (t : Tree level) → Holds lo hi s level t → StandIn level span t → IsTrue (is_within span key) → bad_from lo hi s key level (root_of level t) ≡ None
  none_bad zero span t holds stand within = ap (λ (b : Bool). if b then None else Some t.object) (read_held 0 (bytes_at lo s t.object) (cells_in 0 t) holds)
  none_bad (suc level) span t holds stand within =
      let bytes : List ℕ = bytes_at lo s t.object in
      let all : List Cell = cells_in (suc level) t in
      let page : Page = record { level = suc level; cells = all } in
      let found =
      child_found (StandIn level) (HoldsChild lo hi s level) (root_of level) (pairs_in level) (pairs_within level) key span t.children t.past stand.0 holds.1 stand.1 within in
      let child : ℕ = root_of level found.child in
      let searched : under bytes key ≡ last_under key all = ap (λ (b : List ℕ). under b key) holds.0.code ∙ searches.under page key holds.0.short holds.0.rise in
      let named : child_for lo hi bytes (last_under key (cells_read bytes)) ≡ Some child =
      ap (λ (l : List Cell). child_for lo hi bytes (last_under key l)) (read_is (suc level) bytes all holds.0) ∙ ap (child_for lo hi bytes) (sym searched)
      ∙ child_named searches lo hi small s key (suc level) bytes all found.place child holds.0 found.under found.inside found.beside found.held.0 in
      ap (λ (b : Bool). if b then bad_behind (bad_from lo hi s key level) t.object (child_for lo hi bytes (last_under key (cells_read bytes))) else Some t.object)
      (read_held (suc level) bytes all holds.0)
      ∙ ap (bad_behind (bad_from lo hi s key level) t.object) named
      ∙ none_bad level _ found.child found.held.1 found.stands found.within
