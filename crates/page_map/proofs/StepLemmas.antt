-- What is read in one page where the span of its keys is carried along: of any bytes, and of pages that are held.
use Rattle.std.proofs.Common.{◌≡◌, ℕ, zero, suc, ◌+◌, ◌-◌, ◌^◌, ◌<◌, ◌≤◌, ◌==◌, Bool, true, false, not, ◌&&◌, if◌then◌else◌, Option, None, Some, List, [], ◌∷◌, ◌++◌, T, cond, filter, length, take, drop, min, reverse, is_lt, is_some, refl, sym, ap, ◌∙◌, arith, append_assoc, length-append, true≢false, take-append-drop, take_all, option_and_then, option_map, flat_map}
use Rattle.std.specs.Prelude.{IsTrue, nat_lt, nat_le}
use Rattle.std.specs.List.{list_all}
use Rattle.std.specs.FinMap.Entries.{below_all, is_sorted}
use Rattle.std.proofs.lemmas.Bool.{eq-eqb, eqb-true, le-ltb, lt-ltb, leb-true, leb-false, ltb-true, ltb-false}
use Rattle.std.proofs.lemmas.List.{length-drop, length-map, length-reverse, length-take, reverse-append}
use Rattle.byteorder.specs.Endian.{little_bytes}
use Rattle.oper_core.specs.LittleEndian.{little_number-little_bytes}
use Rattle.key_entries.specs.Entries.{byte_order}
use Rattle.key_entries.specs.EntryLaws.{both_true, true_both}
use Rattle.key_entries.specs.KeyLaws.{first, second}
use Rattle.page_ops.specs.Page.{Cell, Page, AreShort, cells_code, page_code, places_from}
use Rattle.page_ops.specs.Reading.{beside_of, child_of, count_in, has_cell, has_key, cell_bytes, key_of, place_of, places_at, seek}
use Rattle.page_ops.specs.Seen.{child_cell}
use Rattle.page_ops.specs.OnCells.{beside_at, key_at}
use Rattle.page_ops.specs.Search.{place_for}
use Rattle.page_map.specs.Map.{Span, Tree, root_of, cells_in, IsHeld, all_past, is_below, is_child, is_within, Share, StandIn}
use Rattle.page_map.specs.Splits.{end_of, front_of}
use Rattle.page_map.specs.Steps.{Places, Step, beside_in, cells_at, cells_from, ended, first_places, front_in, last_places, next_end, places_in, places_to, sooner, span_of_step, step_in, step_to}
use Rattle.page_map.specs.Walk.{child_in}
use Rattle.page_map.specs.declared.beside.Beside.TheVariants.{Next, Before}
use Rattle.page_map.proofs.MapLemmas.{IsAt, Searches, below_through, child_in_held, ends_too, not_true, span_of, true_not}
use Rattle.page_map.proofs.CutLemmas.{ReadsCells, at_seam, not_below_behind}
use Rattle.page_map.proofs.TreeLemmas.{live_in}
use Rattle.page_map.proofs.TwoLemmas.{at_inside, cell_is, from_is}
use Rattle.page_map.proofs.WayLemmas.{child_ends, front_live, lt_suc}

-- ---- on all bytes

-- the next key ends a span, where it is below the end of the page's
pub next_key : (bytes : List ℕ) (to : Option (List ℕ)) (i : ℕ) → (suc i == count_in bytes) ≡ false → has_cell bytes (suc i) ≡ true → is_below (key_of bytes (suc i)) to ≡ true
    → next_end bytes to i ≡ Some (Some (key_of bytes (suc i)))
next_key bytes to i last there below = λ k. if last k then Some None else (if there k then Some (if below k then Some (key_of bytes (suc i)) else None) else None)

none_some : {A : Type 0} (a : A) → None ≡ Some a → ⊥
none_some a e = cc

-- the cell of a child is there
pub child_low : (lo hi : ℕ) (bytes : List ℕ) (i child : ℕ) → child_in lo hi bytes i ≡ Some child → i < count_in bytes
child_low lo hi bytes i child e =
    let fits : Bool = nat_le 4 (place_of bytes i) && (nat_le (place_of bytes (suc i)) (places_at bytes) && has_key (cell_bytes bytes i)) in
    let four : Bool = nat_le 4 (length (beside_of bytes i)) in
    let inside : Bool = is_child lo hi (child_of bytes i) in
    elim (nat_lt i (count_in bytes)) as (λ t. nat_lt i (count_in bytes) ≡ t → i < count_in bytes) [
      | true ↦ λ f. ltb-true i (count_in bytes) f
      | false ↦ λ f. absurd (none_some child (sym (λ k. if (((f k && fits) && four) && inside) then Some (child_of bytes i) else None) ∙ e))
    ] refl

-- before a cell that is not the first stands another
pub before_at : (lo hi : ℕ) (bytes : List ℕ) (i : ℕ) (has_next : Bool) → has_next ≡ false → (i == 0) ≡ false → beside_in lo hi bytes i has_next ≡ option_map Before (child_in lo hi bytes (i - 1))
before_at lo hi bytes zero has_next none some = absurd (true≢false some)
before_at lo hi bytes (suc i) has_next none some =
    let same : i ≡ suc i - 1 = omega arith in
    (λ k. if none k then option_map Next (child_in lo hi bytes (suc (suc i))) else option_map Before (child_in lo hi bytes i))
    ∙ ap (λ (j : ℕ). option_map Before (child_in lo hi bytes j)) same

-- ---- the cells in front of an end

-- a search in a page finds the place of a key
abbrev pub Finds : Type 0
Finds = (page : Page) (key : List ℕ) → AreShort page.cells → T (is_sorted byte_order page.cells) → seek (page_code page) key ≡ Some (place_for key page.cells)

front_all : (cells : List Cell) → front_of None cells ≡ cells
front_all [] = refl
front_all (c ∷ cells) = ap (λ (l : List Cell). c ∷ l) (front_all cells)

front_place : (end : List ℕ) (cells : List Cell) → place_for end cells ≡ length (front_of (Some end) cells)
front_place end [] = refl
front_place end (c ∷ cells) =
    elim (is_lt (byte_order c.0 end)) as (λ t. (if t then suc (place_for end cells) else 0) ≡ length (if t then c ∷ front_of (Some end) cells else [])) [
      | true ↦ ap suc (front_place end cells)
      | false ↦ refl
    ]

pub front_few : (to : Option (List ℕ)) (cells : List Cell) → length (front_of to cells) ≤ length cells
front_few to [] = omega arith
front_few to (c ∷ cells) =
    elim (is_below c.0 to) as (λ t. length (if t then c ∷ front_of to cells else []) ≤ suc (length cells)) [ true ↦ omega (arith, front_few to cells) | false ↦ omega arith ]

front_key : (to : Option (List ℕ)) (cells : List Cell) (i : ℕ) → i < length (front_of to cells) → key_at (front_of to cells) i ≡ key_at cells i
front_key to [] i inside = absurd (omega (arith, inside))
front_key to (c ∷ cells) zero inside =
    elim (is_below c.0 to) as (λ t. 0 < length (if t then c ∷ front_of to cells else []) → key_at (if t then c ∷ front_of to cells else []) 0 ≡ c.0) [
      | true ↦ λ less. refl
      | false ↦ λ less. absurd (omega (arith, less))
    ] inside
front_key to (c ∷ cells) (suc i) inside =
    elim (is_below c.0 to) as (λ t. suc i < length (if t then c ∷ front_of to cells else []) → key_at (if t then c ∷ front_of to cells else []) (suc i) ≡ key_at cells i) [
      | true ↦ λ less. front_key to cells i (omega (arith, less))
      | false ↦ λ less. absurd (omega (arith, less))
    ] inside

-- behind a cell past the end all are
pub past_behind : (to : Option (List ℕ)) (x : List ℕ) (cells : List Cell) → T (below_all byte_order x cells) → is_below x to ≡ false → IsTrue (list_all (λ c. not (is_below c.0 to)) cells)
past_behind None x cells all past = absurd (true≢false past)
past_behind (Some end) x cells all past = not_below_behind end x cells all past

past_at : (to : Option (List ℕ)) (cells : List Cell) (i : ℕ) → IsTrue (list_all (λ c. not (is_below c.0 to)) cells) → i < length cells → is_below (key_at cells i) to ≡ false
past_at to [] i all inside = absurd (omega (arith, inside))
past_at to (c ∷ cells) zero all inside = not_true (is_below c.0 to) (both_true (not (is_below c.0 to)) (list_all (λ c. not (is_below c.0 to)) cells) all).0
past_at to (c ∷ cells) (suc i) all inside = past_at to cells i (both_true (not (is_below c.0 to)) (list_all (λ c. not (is_below c.0 to)) cells) all).1 (omega (arith, inside))

none_front : (to : Option (List ℕ)) (cells : List Cell) → IsTrue (list_all (λ c. not (is_below c.0 to)) cells) → front_of to cells ≡ []
none_front to [] all = refl
none_front to (c ∷ cells) all =
    ap (λ (t : Bool). if t then c ∷ front_of to cells else []) (not_true (is_below c.0 to) (both_true (not (is_below c.0 to)) (list_all (λ c. not (is_below c.0 to)) cells) all).0)

-- a cell is in front of an end where its key is below it
in_front : (to : Option (List ℕ)) (cells : List Cell) (i : ℕ) → T (is_sorted byte_order cells) → i < length cells → nat_lt i (length (front_of to cells)) ≡ is_below (key_at cells i) to
in_front to [] i rise inside = absurd (omega (arith, inside))
in_front to (c ∷ cells) zero rise inside =
    elim (is_below c.0 to) as (λ t. nat_lt 0 (length (if t then c ∷ front_of to cells else [])) ≡ t) [ true ↦ lt-ltb 0 (suc (length (front_of to cells))) (omega arith) | false ↦ le-ltb 0 0 (omega arith) ]
in_front to (c ∷ cells) (suc i) rise inside =
    elim (is_below c.0 to) as (λ t. is_below c.0 to ≡ t → nat_lt (suc i) (length (if t then c ∷ front_of to cells else [])) ≡ is_below (key_at cells i) to) [
      | true ↦ λ e. lt_suc i (length (front_of to cells)) ∙ in_front to cells i (second (below_all byte_order c.0 cells) (is_sorted byte_order cells) rise) (omega (arith, inside))
      | false ↦ λ e.
          le-ltb (suc i) 0 (omega arith)
          ∙ sym (past_at to cells i (past_behind to c.0 cells (first (below_all byte_order c.0 cells) (is_sorted byte_order cells) rise) e) (omega (arith, inside)))
    ] refl

-- ---- a page that is held

pub count_held : (level : ℕ) (bytes : List ℕ) (cells : List Cell) → IsHeld level bytes cells → count_in bytes ≡ length cells
count_held level bytes cells held =
    let rest : List ℕ = cells_code cells ++ flat_map (little_bytes 2) (places_from 4 cells) in
    ap count_in held.code ∙ little_number-little_bytes 2 (length cells) rest (omega (arith, held.short))

pub front_held : Finds → (level : ℕ) (bytes : List ℕ) (cells : List Cell) → IsHeld level bytes cells → (end : Option (List ℕ)) → front_in bytes end ≡ Some (length (front_of end cells))
front_held finds level bytes cells held None = ap (λ (n : ℕ). Some n) (count_held level bytes cells held ∙ ap (λ (l : List Cell). length l) (sym (front_all cells)))
front_held finds level bytes cells held (Some end) =
    ap (λ (b : List ℕ). seek b end) held.code ∙ finds (record { level = level; cells = cells }) end held.short held.rise ∙ ap (λ (n : ℕ). Some n) (front_place end cells)

-- the next key among those in front of an end
abbrev pub next_of : Option (List ℕ) → List Cell → ℕ → Option (List ℕ)
next_of to cells i = if nat_lt (suc i) (length (front_of to cells)) then Some (key_at (front_of to cells) (suc i)) else None

ended_is : (to : Option (List ℕ)) (cells : List Cell) (i : ℕ) → ended to (next_of to cells i) ≡ end_of (front_of to cells) i to
ended_is to cells i =
    let key : List ℕ = key_at (front_of to cells) (suc i) in
    elim (nat_lt (suc i) (length (front_of to cells))) as (λ t. ended to (if t then Some key else None) ≡ (if t then Some key else to)) [ true ↦ refl | false ↦ refl ]

module _ (searches : Searches) (reads : ReadsCells) (level : ℕ) (bytes : List ℕ) (cells : List Cell) (held : IsHeld level bytes cells) where
  abbrev whole_page : Page
  whole_page = record { level = level; cells = cells }

  cell_there : (i : ℕ) → i < length cells → has_cell bytes i ≡ true
  cell_there i inside = ap (λ (b : List ℕ). has_cell b i) held.code ∙ searches.cell whole_page i held.short inside

  pub key_held : (i : ℕ) → i < length cells → key_of bytes i ≡ key_at cells i
  key_held i inside = ap (λ (b : List ℕ). key_of b i) held.code ∙ (reads whole_page i held.short inside).0

  beside_held : (i : ℕ) → i < length cells → beside_of bytes i ≡ beside_at cells i
  beside_held i inside = ap (λ (b : List ℕ). beside_of b i) held.code ∙ (reads whole_page i held.short inside).1

  next_held : (to : Option (List ℕ)) (i : ℕ) → i < length cells → next_end bytes to i ≡ Some (next_of to cells i)
  next_held to i inside =
      let count : count_in bytes ≡ length cells = count_held level bytes cells held in
      let key : List ℕ = key_of bytes (suc i) in
      elim (suc i == count_in bytes) as (λ t. (suc i == count_in bytes) ≡ t
      → (if t then Some None else (if has_cell bytes (suc i) then Some (if is_below key to then Some key else None) else None)) ≡ Some (next_of to cells i)) [
        | true ↦ λ e.
            ap (λ (t : Bool). Some (if t then Some (key_at (front_of to cells) (suc i)) else None))
            (sym (le-ltb (suc i) (length (front_of to cells)) (omega (arith, eqb-true (suc i) (count_in bytes) e, count, front_few to cells))))
        | false ↦ λ e. more e
      ] refl
    where
      inner : (suc i == count_in bytes) ≡ false → suc i < length cells
      inner e =
          elim (nat_lt (suc i) (length cells)) as (λ t. nat_lt (suc i) (length cells) ≡ t → suc i < length cells) [
            | true ↦ λ f. ltb-true (suc i) (length cells) f
            | false ↦ λ f.
                absurd (true≢false (sym (eq-eqb (suc i) (count_in bytes) (omega (arith, inside, count_held level bytes cells held, ltb-false (suc i) (length cells) f))) ∙ e))
          ] refl

      same_keys : nat_lt (suc i) (length (front_of to cells)) ≡ nat_lt (suc i) (length (front_of to cells))
          → ◌≡◌ {A = Option (List ℕ)} (if nat_lt (suc i) (length (front_of to cells)) then Some (key_at cells (suc i)) else None) (next_of to cells i)
      same_keys u =
          elim (nat_lt (suc i) (length (front_of to cells))) as (λ t. nat_lt (suc i) (length (front_of to cells)) ≡ t
          → ◌≡◌ {A = Option (List ℕ)} (if t then Some (key_at cells (suc i)) else None) (if t then Some (key_at (front_of to cells) (suc i)) else None)) [
            | true ↦ λ f. ap (λ (k : List ℕ). Some k) (sym (front_key to cells (suc i) (ltb-true (suc i) (length (front_of to cells)) f)))
            | false ↦ λ f. refl
          ] refl

      more : (suc i == count_in bytes) ≡ false
          → (if has_cell bytes (suc i) then Some (if is_below (key_of bytes (suc i)) to then Some (key_of bytes (suc i)) else None) else None) ≡ Some (next_of to cells i)
      more e =
          let less : suc i < length cells = inner e in
          let key : key_of bytes (suc i) ≡ key_at cells (suc i) = key_held (suc i) less in
          let test : is_below (key_at cells (suc i)) to ≡ nat_lt (suc i) (length (front_of to cells)) = sym (in_front to cells (suc i) held.rise less) in
          (λ k. if cell_there (suc i) less k then Some (if is_below (key k) to then Some (key k) else None) else None)
          ∙ ap (λ (t : Bool). Some (if t then Some (key_at cells (suc i)) else None)) test ∙ ap (λ (o : Option (List ℕ)). Some o) (same_keys refl)

  -- the step to the child of a cell
  pub step_cells : (lo hi : ℕ) → hi < 2 ^ 32 → (to : Option (List ℕ)) (i child : ℕ) → i < length cells → beside_at cells i ≡ little_bytes 4 child → IsTrue (is_child lo hi child)
      → step_in lo hi bytes to i ≡ Some (step_to bytes i child (next_of to cells i))
  step_cells lo hi small to i child inside beside there =
      ap (option_and_then (λ child. option_map (step_to bytes i child) (next_end bytes to i))) (child_in_held searches lo hi small level bytes cells i child held inside beside there)
      ∙ ap (option_map (step_to bytes i child)) (next_held to i inside)

  -- cells read one after the other
  pub cells_held : (before mid rest : List Cell) → cells ≡ before ++ (mid ++ rest) → cells_from bytes (length before) (length mid) ≡ Some mid
  cells_held before [] rest is = refl
  cells_held before (c ∷ mid) rest is =
      let i : ℕ = length before in
      let inside : i < length cells = omega (arith, ap (λ (l : List Cell). length l) is, length-append before (c ∷ (mid ++ rest))) in
      let here : key_at cells i ≡ c.0 = ap (λ (l : List Cell). key_at l i) is ∙ ap (λ (d : Cell). d.0) (at_seam before c (mid ++ rest)) in
      let there : beside_at cells i ≡ c.1 = ap (λ (l : List Cell). beside_at l i) is ∙ ap (λ (d : Cell). d.1) (at_seam before c (mid ++ rest)) in
      let key : key_of bytes i ≡ c.0 = key_held i inside ∙ here in
      let beside : beside_of bytes i ≡ c.1 = beside_held i inside ∙ there in
      let next : suc i ≡ length (before ++ c ∷ []) = omega (arith, length-append before (c ∷ [])) in
      (λ k. if cell_there i inside k then option_map (λ l. (key k, beside k) ∷ l) (cells_from bytes (next k) (length mid)) else None)
      ∙ ap (option_map (λ l. c ∷ l)) (cells_held (before ++ c ∷ []) mid rest (is ∙ sym (append_assoc before (c ∷ []) (mid ++ rest))))

-- ---- the step to a child of a tree

module _ (searches : Searches) (reads : ReadsCells) (lo hi : ℕ) (small : hi < 2 ^ 32) (bytes : List ℕ) (level : ℕ) (span : Span) (t : Tree (suc level)) (held : IsHeld (suc level) bytes (cells_in (suc level) t))
    (share : Share (StandIn level) span t.children) (past : IsTrue (all_past span t.past)) (begins : IsTrue (is_below span.from span.to)) (i : ℕ) (child : Tree level) (at : IsAt i child t.children)
    (there : IsTrue (is_child lo hi (root_of level child))) where
  abbrev names : List Cell
  names = cells_in (suc level) t

  abbrev pub step_of : Step
  step_of = step_to bytes i (root_of level child) (next_of span.to names i)

  place_inside : i < length names
  place_inside =
      omega (arith, at_inside t.children i child at, length-append (live_in (suc level) t) t.past, length-map t.children (λ (c : List ℕ × Tree level). child_cell c.0 (root_of level c.1)))

  pub child_is_at : child_in lo hi bytes i ≡ Some (root_of level child)
  child_is_at =
      child_in_held searches lo hi small (suc level) bytes names i (root_of level child) held place_inside (ap (λ (c : Cell). c.1) (cell_is (StandIn level) (root_of level) t.children t.past i child at)) there

  pub step_held : step_in lo hi bytes span.to i ≡ Some step_of
  step_held =
      step_cells searches reads (suc level) bytes names held lo hi small span.to i (root_of level child) place_inside
      (ap (λ (c : Cell). c.1) (cell_is (StandIn level) (root_of level) t.children t.past i child at)) there

  pub step_from : key_of bytes i ≡ (span_of span t.children i).from
  step_from = key_held searches reads (suc level) bytes names held i place_inside ∙ from_is (StandIn level) (root_of level) span t.children t.past i child at share

  pub step_ends : ended span.to step_of.end ≡ (span_of span t.children i).to
  step_ends = ended_is span.to names i ∙ child_ends level span t share past begins i child at

  pub step_span : span_of_step span.to step_of ≡ span_of span t.children i
  step_span = λ k. record { from = step_from k; to = step_ends k }

  -- it ends with the page, or before it, where there is a next child
  pub has_next : is_some step_of.end ≡ nat_lt (suc i) (length t.children)
  has_next =
      let count : length (front_of span.to names) ≡ length t.children =
      ap (λ (l : List Cell). length l) (front_live level span t share past begins) ∙ length-map t.children (λ (c : List ℕ × Tree level). child_cell c.0 (root_of level c.1)) in
      is_next (nat_lt (suc i) (length (front_of span.to names))) ∙ ap (nat_lt (suc i)) count
    where
      is_next : (t : Bool) → is_some (if t then Some (key_at (front_of span.to names) (suc i)) else None) ≡ t
      is_next true = refl
      is_next false = refl

-- ---- the cells of a leaf in a span

both_false : (b : Bool) → (b && false) ≡ false
both_false true = refl
both_false false = refl

-- a key below an end that does not come before another end is below that
through : (key other : List ℕ) (end : Option (List ℕ)) → is_below other end ≡ false → is_below key end ≡ true → is_lt (byte_order key other) ≡ true
through key other None e f = absurd (true≢false e)
through key other (Some end) e f = below_through key end other f e

sooner_before : (key other : List ℕ) (end : Option (List ℕ)) → IsTrue (is_below other end) → (t : Bool) → is_lt (byte_order key other) ≡ t
    → is_lt (byte_order key other) ≡ (is_lt (byte_order key other) && is_below key end)
sooner_before key other end e true f = f ∙ sym (λ k. f k && ends_too key other end f e k)
sooner_before key other end e false f = f ∙ sym (ap (λ (b : Bool). b && is_below key end) f)

sooner_behind : (key other : List ℕ) (end : Option (List ℕ)) → is_below other end ≡ false → (t : Bool) → is_below key end ≡ t → is_below key end ≡ (is_lt (byte_order key other) && is_below key end)
sooner_behind key other end e true f = f ∙ sym (λ k. through key other end e f k && f k)
sooner_behind key other end e false f = f ∙ sym (ap (λ (b : Bool). is_lt (byte_order key other) && b) f ∙ both_false (is_lt (byte_order key other)))

sooner_is : (key : List ℕ) (one end : Option (List ℕ)) → is_below key (sooner one end) ≡ (is_below key one && is_below key end)
sooner_is key None end = refl
sooner_is key (Some other) end =
    elim (is_below other end) as (λ t. is_below other end ≡ t → is_below key (if t then Some other else end) ≡ (is_lt (byte_order key other) && is_below key end)) [
      | true ↦ λ e. sooner_before key other end e (is_lt (byte_order key other)) refl
      | false ↦ λ e. sooner_behind key other end e (is_below key end) refl
    ] refl

-- what is kept of a list
abbrev pub kept : Span → List Cell → List Cell
kept w cells = filter (λ c. is_within w c.0) cells

module _ (w : Span) (to : Option (List ℕ)) where
  abbrev both_ends : Option (List ℕ)
  both_ends = sooner w.to to

  not_before : (key : List ℕ) → is_below key w.to ≡ false → is_below key both_ends ≡ false
  not_before key e = sooner_is key w.to to ∙ ap (λ (b : Bool). b && is_below key to) e

  not_in_leaf : (key : List ℕ) → is_below key to ≡ false → is_below key both_ends ≡ false
  not_in_leaf key e = sooner_is key w.to to ∙ ap (λ (b : Bool). is_below key w.to && b) e ∙ both_false (is_below key w.to)

  -- of cells from the beginning of a span on those before both ends are kept
  module _ (c : Cell) (others : List Cell) (rise : T (is_sorted byte_order (c ∷ others))) (here : IsTrue (not (is_lt (byte_order c.0 w.from)))) (rest : front_of both_ends others ≡ kept w (front_of to others))
      (inside : is_below c.0 to ≡ true) where
    in_leaf : (t : Bool) → is_below c.0 w.to ≡ t → front_of both_ends (c ∷ others) ≡ kept w (c ∷ front_of to others)
    in_leaf true f =
        let before : is_below c.0 both_ends ≡ true = sooner_is c.0 w.to to ∙ (λ k. f k && inside k) in
        let within : is_within w c.0 ≡ true = λ k. here k && f k in
        ap (λ (t : Bool). if t then c ∷ front_of both_ends others else []) before ∙ ap (λ (l : List Cell). c ∷ l) rest
        ∙ sym (ap (λ (t : Bool). cond t (c ∷ kept w (front_of to others)) (kept w (front_of to others))) within)
    in_leaf false f =
        let out : is_below c.0 both_ends ≡ false = not_before c.0 f in
        let none : front_of both_ends others ≡ [] = none_front both_ends others (past_behind both_ends c.0 others (first (below_all byte_order c.0 others) (is_sorted byte_order others) rise) out) in
        let past : is_within w c.0 ≡ false = ap (λ (t : Bool). not (is_lt (byte_order c.0 w.from)) && t) f ∙ both_false (not (is_lt (byte_order c.0 w.from))) in
        ap (λ (t : Bool). if t then c ∷ front_of both_ends others else []) out ∙ sym none ∙ rest
        ∙ sym (ap (λ (t : Bool). cond t (c ∷ kept w (front_of to others)) (kept w (front_of to others))) past)

  front_kept : (cells : List Cell) → T (is_sorted byte_order cells) → IsTrue (list_all (λ c. not (is_lt (byte_order c.0 w.from))) cells) → front_of both_ends cells ≡ kept w (front_of to cells)
  front_kept [] rise reached = refl
  front_kept (c ∷ cells) rise reached =
      let parts = both_true (not (is_lt (byte_order c.0 w.from))) (list_all (λ c. not (is_lt (byte_order c.0 w.from))) cells) reached in
      let rest = front_kept cells (second (below_all byte_order c.0 cells) (is_sorted byte_order cells) rise) parts.1 in
      elim (is_below c.0 to) as (λ t. is_below c.0 to ≡ t → front_of both_ends (c ∷ cells) ≡ kept w (if t then c ∷ front_of to cells else [])) [
        | true ↦ λ e. in_leaf c cells rise parts.0 rest e (is_below c.0 w.to) refl
        | false ↦ λ e. ap (λ (t : Bool). if t then c ∷ front_of both_ends cells else []) (not_in_leaf c.0 e)
      ] refl

  front_drop : (cells : List Cell) → cells ≡ front_of both_ends cells ++ drop (length (front_of both_ends cells)) cells
  front_drop [] = refl
  front_drop (c ∷ cells) =
      elim (is_below c.0 both_ends) as (λ t. c ∷ cells ≡ (if t then c ∷ front_of both_ends cells else []) ++ drop (length (if t then c ∷ front_of both_ends cells else [])) (c ∷ cells)) [
        | true ↦ ap (λ (l : List Cell). c ∷ l) (front_drop cells)
        | false ↦ refl
      ]

  -- the cells that are kept stand one behind the other
  pub record IsSplit (cells : List Cell) : Type 0 where
    pub front : List Cell
    pub back : List Cell
    pub split : cells ≡ front ++ (kept w (front_of to cells) ++ back)
    pub before : length front ≡ place_for w.from cells
    pub count : length (kept w (front_of to cells)) ≡ length (front_of both_ends cells) - place_for w.from cells

  module _ (c : Cell) (cells : List Cell) (rise : T (is_sorted byte_order (c ∷ cells))) where
    below_rest : T (below_all byte_order c.0 cells)
    below_rest = first (below_all byte_order c.0 cells) (is_sorted byte_order cells) rise

    from_here : is_lt (byte_order c.0 w.from) ≡ false → IsSplit (c ∷ cells)
    from_here e =
        let all : IsTrue (list_all (λ c. not (is_lt (byte_order c.0 w.from))) (c ∷ cells)) =
        true_both (not (is_lt (byte_order c.0 w.from))) (list_all (λ c. not (is_lt (byte_order c.0 w.from))) cells) (true_not (is_lt (byte_order c.0 w.from)) e) (not_below_behind w.from c.0 cells below_rest e) in
        let same : front_of both_ends (c ∷ cells) ≡ kept w (front_of to (c ∷ cells)) = front_kept (c ∷ cells) rise all in
        let none : place_for w.from (c ∷ cells) ≡ 0 = ap (λ (t : Bool). if t then suc (place_for w.from cells) else 0) e in
        record {
          front = [];
          back = drop (length (front_of both_ends (c ∷ cells))) (c ∷ cells);
          split = front_drop (c ∷ cells) ∙ ap (λ (l : List Cell). l ++ drop (length (front_of both_ends (c ∷ cells))) (c ∷ cells)) same;
          before = sym none;
          count = omega (arith, ap (λ (l : List Cell). length l) same, none);
        }

    module _ (e : is_lt (byte_order c.0 w.from) ≡ true) (rest : IsSplit cells) where
      abbrev mine : List Cell
      mine = kept w (front_of to cells)

      one_more : place_for w.from (c ∷ cells) ≡ suc (place_for w.from cells)
      one_more = ap (λ (t : Bool). if t then suc (place_for w.from cells) else 0) e

      skipped : is_within w c.0 ≡ false
      skipped = ap (λ (b : Bool). not b && is_below c.0 w.to) e

      fewer : (t : Bool) → is_below c.0 both_ends ≡ t → length mine ≡ length (front_of both_ends (c ∷ cells)) - place_for w.from (c ∷ cells)
      fewer true f = omega (arith, rest.count, one_more, ap (λ (t : Bool). length (if t then c ∷ front_of both_ends cells else [])) f)
      fewer false f =
          omega (
            arith,
            rest.count,
            one_more,
            ap (λ (t : Bool). length (if t then c ∷ front_of both_ends cells else [])) f,
            ap (λ (l : List Cell). length l) (none_front both_ends cells (past_behind both_ends c.0 cells below_rest f)),
          )

      behind_here : (t : Bool) → is_below c.0 to ≡ t → IsSplit (c ∷ cells)
      behind_here true f =
          let same : kept w (front_of to (c ∷ cells)) ≡ mine =
          ap (λ (t : Bool). kept w (if t then c ∷ front_of to cells else [])) f ∙ ap (λ (t : Bool). cond t (c ∷ mine) mine) skipped in
          record {
            front = c ∷ rest.front;
            back = rest.back;
            split = ap (λ (l : List Cell). c ∷ l) rest.split ∙ ap (λ (l : List Cell). c ∷ (rest.front ++ (l ++ rest.back))) (sym same);
            before = ap suc rest.before ∙ sym one_more;
            count = ap (λ (l : List Cell). length l) same ∙ fewer (is_below c.0 both_ends) refl;
          }
      behind_here false f =
          let none : kept w (front_of to (c ∷ cells)) ≡ [] = ap (λ (t : Bool). kept w (if t then c ∷ front_of to cells else [])) f in
          record {
            front = c ∷ rest.front;
            back = mine ++ rest.back;
            split = ap (λ (l : List Cell). c ∷ l) rest.split ∙ ap (λ (l : List Cell). c ∷ (rest.front ++ (l ++ (mine ++ rest.back)))) (sym none);
            before = ap suc rest.before ∙ sym one_more;
            count =
                omega (
                  arith,
                  ap (λ (l : List Cell). length l) none,
                  one_more,
                  ap (λ (t : Bool). length (if t then c ∷ front_of both_ends cells else [])) (not_in_leaf c.0 f),
                );
          }

  pub split_is : (cells : List Cell) → T (is_sorted byte_order cells) → IsSplit cells
  split_is [] rise = record { front = []; back = []; split = refl; before = refl; count = omega arith }
  split_is (c ∷ cells) rise =
      elim (is_lt (byte_order c.0 w.from)) as (λ t. is_lt (byte_order c.0 w.from) ≡ t → IsSplit (c ∷ cells)) [
        | true ↦ λ e. behind_here c cells rise e (split_is cells (second (below_all byte_order c.0 cells) (is_sorted byte_order cells) rise)) (is_below c.0 to) refl
        | false ↦ λ e. from_here c cells rise e
      ] refl

take_front : {A : Type 0} (xs ys : List A) → take (length xs) (xs ++ ys) ≡ xs
take_front [] ys = refl
take_front {A = A} (x ∷ xs) ys = ap (λ (l : List A). x ∷ l) (take_front xs ys)

-- the last ones, falling, are the first of the list turned round
pub falling_is : {A : Type 0} (most : ℕ) (xs : List A) → reverse (drop (length xs - most) xs) ≡ take most (reverse xs)
falling_is {A = A} most xs =
    let front : List A = take (length xs - most) xs in
    let back : List A = drop (length xs - most) xs in
    elim (nat_le most (length xs)) as (λ t. nat_le most (length xs) ≡ t → reverse back ≡ take most (reverse xs)) [
      | true ↦ λ e.
          let few : length (reverse back) ≡ most = omega (arith, length-reverse back, length-drop (length xs - most) xs, leb-true most (length xs) e) in
          sym (ap (λ (l : List A). take most (reverse l)) (sym (take-append-drop (length xs - most) xs)) ∙ ap (take most) (reverse-append front back)
          ∙ ap (λ (n : ℕ). take n (reverse back ++ reverse front)) (sym few) ∙ take_front (reverse back) (reverse front))
      | false ↦ λ e.
          let none : length xs - most ≡ 0 = omega (arith, leb-false most (length xs) e) in
          ap (λ (n : ℕ). reverse (drop n xs)) none ∙ sym (take_all most (reverse xs) (omega (arith, length-reverse xs, leb-false most (length xs) e)))
    ] refl

module _ (searches : Searches) (finds : Finds) (reads : ReadsCells) (bytes : List ℕ) (cells : List Cell) (held : IsHeld 0 bytes cells) (w : Span) (to : Option (List ℕ)) where
  abbrev found : IsSplit w to cells
  found = split_is w to cells held.rise

  abbrev kept_here : List Cell
  kept_here = kept w (front_of to cells)

  abbrev pub places_of : Places
  places_of = record { first = length found.front; count = length kept_here }

  pub places_held : places_in bytes w to ≡ Some places_of
  places_held =
      let place : ℕ = place_for w.from cells in
      let count : ℕ = length (front_of (sooner w.to to) cells) in
      let from : seek bytes w.from ≡ Some place = ap (λ (b : List ℕ). seek b w.from) held.code ∙ finds (record { level = 0; cells = cells }) w.from held.short held.rise in
      ap (option_and_then (λ first. option_map (places_to first) (front_in bytes (sooner w.to to)))) from ∙ ap (option_map (places_to place)) (front_held finds 0 bytes cells held (sooner w.to to))
      ∙ (λ k. Some (record { first = sym found.before k; count = sym found.count k }))

  pub first_held : (most : ℕ) → cells_at bytes (first_places most places_of) ≡ Some (take most kept_here)
  first_held most =
      ap (cells_from bytes (length found.front)) (sym (length-take most kept_here))
      ∙ cells_held searches reads 0 bytes cells held found.front (take most kept_here) (drop most kept_here ++ found.back)
      (found.split ∙ ap (λ (l : List Cell). found.front ++ (l ++ found.back)) (sym (take-append-drop most kept_here)) ∙ ap (λ (l : List Cell). found.front ++ l) (append_assoc (take most kept_here) (drop most kept_here) found.back))

  pub last_held : (most : ℕ) → cells_at bytes (last_places most places_of) ≡ Some (drop (length kept_here - most) kept_here)
  last_held most =
      let n : ℕ = length kept_here in
      let a : List Cell = take (n - most) kept_here in
      let m : List Cell = drop (n - most) kept_here in
      let first : length found.front + (n - most) ≡ length (found.front ++ a) = omega (arith, length-append found.front a, length-take (n - most) kept_here) in
      let count : min most n ≡ length m = omega (arith, length-drop (n - most) kept_here) in
      (λ k. cells_from bytes (first k) (count k))
      ∙ cells_held searches reads 0 bytes cells held (found.front ++ a) m found.back
      (found.split ∙ ap (λ (l : List Cell). found.front ++ (l ++ found.back)) (sym (take-append-drop (n - most) kept_here))
      ∙ ap (λ (l : List Cell). found.front ++ l) (append_assoc a m found.back) ∙ sym (append_assoc found.front a (m ++ found.back)))
