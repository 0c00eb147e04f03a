-- On the bytes of pages the operations are those on cells.
use Rattle.std.proofs.Common.{◌≡◌, ℕ, zero, suc, ◌+◌, ◌-◌, ◌<◌, ◌≤◌, ◌==◌, Bool, true, false, ◌&&◌, ◌||◌, not, if◌then◌else◌, None, Some, Ok, Err, List, [], ◌∷◌, ◌++◌, length, take, drop, slice_index_or, All, map, refl, sym, ap, ◌∙◌, subst, arith, length-drop, length-take-le, take_all, drop-cons, drop-drop, take-append-drop, drop_of_length-le, is_lt, inl, inr}
use Rattle.std.specs.Prelude.{IsTrue, nat_le, nat_lt}
use Rattle.std.specs.Result.{result_err}
use Rattle.std.proofs.lemmas.List.{append-nil}
use Rattle.std.proofs.lemmas.List.Elements.{All-head, All-tail}
use Rattle.std.proofs.lemmas.Bool.{cases_lt, cond-true, cond-false, leb-true, lt-ltb, ltb-true, eqb-true, le-leb, lt-leb}
use Rattle.key_entries.specs.Entries.{byte_order}
use Rattle.key_entries.specs.EntryLaws.{both_true}
use Rattle.oper_core.specs.declared.bounds.Bounds.{Bounds}
use Rattle.oper_core.specs.declared.refusal.Refusal.TheVariants.{TooLarge}
use Rattle.page_ops.specs.Page.{Cell, Page, cells_code, page_code, page_of, AreShort}
use Rattle.page_ops.specs.Reading.{between, beside_of, count_in, place_of, places_at, cell_bytes, has_key, opens, is_leaf, is_inner, has_cell, key_of, stands_below, ends_before, goes_in}
use Rattle.page_ops.specs.Layout.{Cells, Layout, part_of, no_cells, built}
use Rattle.page_ops.specs.Seen.{child_cell}
use Rattle.page_ops.specs.Effects.{Made, where_kind, where_places, put_made, set_made, delete_made, part_made, absorb_made, are_alike, join_made, lesser, first, other as second, to_fill, has_cells, turn_made, turn_two_made, made_by, where_short, is_short, bytes_of, bytes_made}
use Rattle.page_ops.specs.OnCells.{Outcome, replaced, key_at, beside_at, has_below, has_above, may_precede, may_stand, has_run, put_on, set_on, delete_on, part_on, absorb_on, join_on, turn_on, turn_two_on, on_cells, first_page, other_page, code_of, where_fits, made_on, written_on, IsShortPage}
use Rattle.page_ops.specs.Operation.{value_made, page_meaning, read_by}
use Rattle.page_ops.specs.OperationLaws.{built_length}
use Rattle.page_ops.specs.declared.page_op.PageOp.{PageOp}
use Rattle.page_ops.specs.declared.page_op.PageOp.TheVariants.{Put, Set, Delete, Part, Absorb, Join, Keep, Turn, TurnTwo, Root, Free}
use Rattle.page_ops.proofs.PartLemmas.{cells_at, part_at, spliced, built_is, count_is, page_opens, cell_there, key_is, beside_is}

-- ---- lists

-- the cells before a place, from it up to another, and behind that
three_parts : (cells : List Cell) (i j : ℕ) → i ≤ j → cells ≡ take i cells ++ (between i j cells ++ drop j cells)
three_parts cells i j order =
    let far : i + (j - i) ≡ j = omega (arith, order) in
    sym (take-append-drop i cells)
    ∙ ap (λ (l : List Cell). take i cells ++ l) (sym (take-append-drop (j - i) (drop i cells)) ∙ ap (λ (l : List Cell). between i j cells ++ l) (drop-drop (j - i) i cells ∙ ap (λ (n : ℕ). drop n cells) far))

between_size : (cells : List Cell) (i j : ℕ) → i ≤ j → j ≤ length cells → length (between i j cells) ≡ j - i
between_size cells i j order inside = length-take-le (j - i) (drop i cells) (omega (arith, length-drop i cells, inside))

from_front : (n : ℕ) (cells : List Cell) → between 0 n cells ≡ take n cells
from_front n cells = let all : n - 0 ≡ n = omega arith in ap (λ (k : ℕ). take k cells) all

-- one cell among the others
one_cell : (cells : List Cell) (i : ℕ) → i < length cells → cells ≡ take i cells ++ slice_index_or cells i ([], []) ∷ drop (suc i) cells
one_cell cells i inside = sym (take-append-drop i cells) ∙ ap (λ (l : List Cell). take i cells ++ l) (drop-cons cells i ([], []) inside)

drop_both : (i : ℕ) (a b : List Cell) → drop i (a ++ b) ≡ drop i a ++ drop (i - length a) b
drop_both zero a b = let none : 0 ≡ 0 - length a = omega arith in ap (λ (n : ℕ). a ++ drop n b) none
drop_both (suc i) [] b = let all : suc i ≡ suc i - 0 = omega arith in ap (λ (n : ℕ). drop n b) all
drop_both (suc i) (c ∷ a) b = let less : i - length a ≡ suc i - suc (length a) = omega arith in drop_both i a b ∙ ap (λ (n : ℕ). drop i a ++ drop n b) less

take_both : (n : ℕ) (a b : List Cell) → take n (a ++ b) ≡ take n a ++ take (n - length a) b
take_both zero a b = let none : 0 ≡ 0 - length a = omega arith in ap (λ (k : ℕ). take k b) none
take_both (suc n) [] b = let all : suc n ≡ suc n - 0 = omega arith in ap (λ (k : ℕ). take k b) all
take_both (suc n) (c ∷ a) b = let less : n - length a ≡ suc n - suc (length a) = omega arith in ap (λ (l : List Cell). c ∷ l) (take_both n a b ∙ ap (λ (k : ℕ). take n a ++ take k b) less)

none_taken : (n : ℕ) → ◌≡◌ {A = List Cell} (take n []) []
none_taken zero = refl
none_taken (suc n) = refl

at_most : (i n : ℕ) → i ≤ n → lesser i n ≡ i
at_most i n low = cond-true (nat_le i n) i n (le-leb i n low)

at_least : (i n : ℕ) → n < i → lesser i n ≡ n
at_least i n high = cond-false (nat_le i n) i n (lt-leb i n high)

lesser_rises : (i j n : ℕ) → i ≤ j → lesser i n ≤ lesser j n
lesser_rises i j n order = elim (cases_lt n i) [
  | inl past ↦ omega (arith, at_least i n past, at_least j n (omega (arith, past, order)))
  | inr low ↦ elim (cases_lt n j) [ inl high ↦ omega (arith, at_most i n low, at_least j n high, low) | inr also ↦ omega (arith, at_most i n low, at_most j n also, order) ]
]

lesser_small : (i n : ℕ) → lesser i n ≤ n
lesser_small i n = elim (cases_lt n i) [ inl past ↦ omega (arith, at_least i n past) | inr low ↦ omega (arith, at_most i n low, low) ]

-- cells of two lists together
front_of : (a : List Cell) (i j : ℕ) → i ≤ j → take (j - i) (drop i a) ≡ between (lesser i (length a)) (lesser j (length a)) a
front_of a i j order = elim (cases_lt (length a) i) [
  | inl past ↦
      let none : drop i a ≡ [] = drop_of_length-le a (omega (arith, past)) in
      let also : drop (length a) a ≡ [] = drop_of_length-le a (omega arith) in
      ap (λ (l : List Cell). take (j - i) l) none ∙ none_taken (j - i)
      ∙ sym ((λ k. take (at_least j (length a) (omega (arith, past, order)) k - at_least i (length a) past k) (drop (at_least i (length a) past k) a))
      ∙ ap (λ (l : List Cell). take (length a - length a) l) also ∙ none_taken (length a - length a))
  | inr low ↦ elim (cases_lt (length a) j) [
    | inl high ↦
        let size : length (drop i a) ≡ length a - i = length-drop i a in
        take_all (j - i) (drop i a) (omega (arith, size, high))
        ∙ sym ((λ k. take (at_least j (length a) high k - at_most i (length a) low k) (drop (at_most i (length a) low k) a))
        ∙ take_all (length a - i) (drop i a) (omega (arith, size)))
    | inr also ↦ sym (λ k. take (at_most j (length a) also k - at_most i (length a) low k) (drop (at_most i (length a) low k) a))
  ]
]

between_both : (a b : List Cell) (i j : ℕ) → i ≤ j → between i j (a ++ b) ≡ between (lesser i (length a)) (lesser j (length a)) a ++ between (i - length a) (j - length a) b
between_both a b i j order =
    let rest : (j - i) - length (drop i a) ≡ (j - length a) - (i - length a) = omega (arith, length-drop i a, order) in
    ap (λ (l : List Cell). take (j - i) l) (drop_both i a b) ∙ take_both (j - i) (drop i a) (drop (i - length a) b)
    ∙ (λ k. front_of a i j order k ++ take (rest k) (drop (i - length a) b))

-- ---- what is read of a page

module _ (level : ℕ) (cells : List Cell) (short : AreShort cells) where
  abbrev code : List ℕ
  code = page_of level cells

  pub counts : count_in code ≡ length cells
  counts = count_is level cells short

  module _ (i : ℕ) (inside : i < length cells) where
    abbrev cells_before : List Cell
    cells_before = take i cells

    abbrev cell_there_is : Cell
    cell_there_is = slice_index_or cells i ([], [])

    abbrev cells_behind : List Cell
    cells_behind = drop (suc i) cells

    split : cells ≡ cells_before ++ cell_there_is ∷ cells_behind
    split = one_cell cells i inside

    place : i ≡ length cells_before
    place = sym (length-take-le i cells (omega (arith, inside)))

    all_short : AreShort (cells_before ++ cell_there_is ∷ cells_behind)
    all_short = subst (λ (l : List Cell). AreShort l) split short

    pub there : has_cell code i ≡ true
    there = (λ k. has_cell (page_of level (split k)) (place k)) ∙ cell_there level cells_before cell_there_is cells_behind all_short

    pub key_at_is : key_of code i ≡ key_at cells i
    key_at_is = (λ k. key_of (page_of level (split k)) (place k)) ∙ key_is level cells_before cell_there_is cells_behind all_short

    beside_at_is : beside_of code i ≡ beside_at cells i
    beside_at_is = (λ k. beside_of (page_of level (split k)) (place k)) ∙ beside_is level cells_before cell_there_is cells_behind all_short

    pub cell_at_is : (has_cell code i ≡ true) × (key_of code i ≡ key_at cells i) × (beside_of code i ≡ beside_at cells i)
    cell_at_is = (there, key_at_is, beside_at_is)

  abbrev rest_fits : ℕ → Bool
  rest_fits i = nat_le 4 (place_of code i) && (nat_le (place_of code (suc i)) (places_at code) && has_key (cell_bytes code i))

  not_there : (i : ℕ) → nat_lt i (length cells) ≡ false → has_cell code i ≡ false
  not_there i past = ap (λ (t : Bool). t && rest_fits i) (ap (λ (n : ℕ). nat_lt i n) counts ∙ past)

  has_cell_is : (i : ℕ) → has_cell code i ≡ nat_lt i (length cells)
  has_cell_is i = elim (nat_lt i (length cells)) as (λ t. nat_lt i (length cells) ≡ t → has_cell code i ≡ t) [
    | true ↦ λ inside. there i (ltb-true i (length cells) inside)
    | false ↦ λ past. not_there i past
  ] refl

  -- a test of the key of a cell
  pub key_test : (test : List ℕ → Bool) (i : ℕ) → (has_cell code i && test (key_of code i)) ≡ (nat_lt i (length cells) && test (key_at cells i))
  key_test test i = elim (nat_lt i (length cells)) as (λ t. nat_lt i (length cells) ≡ t → (has_cell code i && test (key_of code i)) ≡ (t && test (key_at cells i))) [
    | true ↦ λ inside. let low : i < length cells = ltb-true i (length cells) inside in (λ k. there i low k && test (key_at_is i low k))
    | false ↦ λ past. ap (λ (t : Bool). t && test (key_of code i)) (not_there i past)
  ] refl

  below_is : (i : ℕ) (key : List ℕ) → stands_below code i key ≡ has_below cells i key
  below_is i key = key_test (λ k. is_lt (byte_order k key)) i

  before_is : (i : ℕ) (key : List ℕ) → ends_before code i key ≡ may_precede cells i key
  before_is i key = λ k. (counts k == i) || key_test (λ other. is_lt (byte_order key other)) i k

  goes_is : (i : ℕ) (key : List ℕ) → goes_in code i key ≡ may_stand cells i key
  goes_is i key = λ k. ((i == 0) || below_is (i - 1) key k) && before_is i key k

  run_is : (i r : ℕ) → has_cells code i r ≡ has_run cells i r
  run_is i r =
      (λ k. nat_lt 0 r && (nat_le (i + r) (counts k) && has_cell_is i k))
      ∙ elim (nat_lt 0 r) as (λ t. nat_lt 0 r ≡ t → (t && (nat_le (i + r) (length cells) && nat_lt i (length cells))) ≡ (t && nat_le (i + r) (length cells))) [
        | true ↦ λ some. elim (nat_le (i + r) (length cells)) as (λ t. nat_le (i + r) (length cells) ≡ t → (t && nat_lt i (length cells)) ≡ t) [
          | true ↦ λ room. lt-ltb i (length cells) (omega (arith, ltb-true 0 r some, leb-true (i + r) (length cells) room))
          | false ↦ λ room. refl
        ] refl
        | false ↦ λ none. refl
      ] refl

  leaf_is : is_leaf code ≡ (level == 0)
  leaf_is = ap (λ (t : Bool). t && (level == 0)) (page_opens level cells short)

  inner_is : is_inner code ≡ not (level == 0)
  inner_is = ap (λ (t : Bool). t && not (level == 0)) (page_opens level cells short)

  -- ---- what is built

  -- new cells stand where r cells from i on stood
  replaced_is : (made i r j n : ℕ) (new : List Cell) → i + r ≤ length cells → j ≡ i + r → n ≡ length cells
      → built (record { level = made; front = part_of code 0 i; new = new; back = part_of code j n }) ≡ page_of made (replaced i r new cells)
  replaced_is made i r j n new room to all =
      let far : (i + r) - i ≡ r = omega arith in
      let split = three_parts cells i (i + r) (omega arith) in
      let at : i ≡ length (take i cells) = sym (length-take-le i cells (omega (arith, room))) in
      spliced level made cells (take i cells) (between i (i + r) cells) new (drop (i + r) cells) i j n split short at
      (omega (arith, to, at, between_size cells i (i + r) (omega arith) room)) all

  -- cells from one place up to another
  run_of : (i j : ℕ) → i ≤ j → j ≤ length cells → part_of code i j ≡ cells_at (4 + length (cells_code (take i cells))) (between i j cells)
  run_of i j order inside =
      let at : i ≡ length (take i cells) = sym (length-take-le i cells (omega (arith, order, inside))) in
      part_at level cells (take i cells) (between i j cells) (drop j cells) i j (three_parts cells i j order) short at (omega (arith, at, order, between_size cells i j order inside))

-- ---- the operations

decided : (kind places : Bool) (layout : Layout) (page : Page) → (IsTrue kind → IsTrue places → built layout ≡ page_code page)
    → bytes_of (where_kind kind (where_places places (Ok (Some layout)))) ≡ code_of (where_kind kind (where_places places (Ok (Some page))))
decided true true layout page same = ap (λ (bytes : List ℕ). Ok bytes) (same refl refl)
decided true false layout page same = refl
decided false places layout page same = refl

-- the same tests, and the same page where they hold
tested : (kind kind_on places places_on : Bool) (layout : Layout) (page : Page) → kind ≡ kind_on → places ≡ places_on
    → (IsTrue kind_on → IsTrue places_on → built layout ≡ page_code page)
    → bytes_of (where_kind kind (where_places places (Ok (Some layout)))) ≡ code_of (where_kind kind_on (where_places places_on (Ok (Some page))))
tested kind kind_on places places_on layout page one two is =
    (λ k. bytes_of (where_kind (one k) (where_places (two k) (Ok (Some layout))))) ∙ decided kind_on places_on layout page is

-- a key stands no further than behind the last cell
before_tells : (cells : List Cell) (i : ℕ) (key : List ℕ) → IsTrue (may_precede cells i key) → i ≤ length cells
before_tells cells i key goes =
    elim (length cells == i) as (λ t. (length cells == i) ≡ t → IsTrue (t || has_above cells i key) → i ≤ length cells) [
      | true ↦ λ end goes. omega (arith, eqb-true (length cells) i end)
      | false ↦ λ inside goes. omega (arith, ltb-true i (length cells) (both_true (nat_lt i (length cells)) (is_lt (byte_order key (key_at cells i))) goes).0)
    ] refl goes

module _ (page : Page) (short : AreShort page.cells) where
  abbrev own : List ℕ
  own = page_code page

  own_count : count_in own ≡ length page.cells
  own_count = count_is page.level page.cells short

  put_is : (i : ℕ) (key value : List ℕ) → bytes_of (put_made i key value own) ≡ code_of (put_on i (key, value) page)
  put_is i key value =
      tested (is_leaf own) (page.level == 0) (goes_in own i key) (may_stand page.cells i key) _ (record { level = 0; cells = replaced i 0 ((key, value) ∷ []) page.cells })
      (leaf_is page.level page.cells short) (goes_is page.level page.cells short i key)
      (λ leaf goes.
      let room = before_tells page.cells i key (both_true ((i == 0) || has_below page.cells (i - 1) key) (may_precede page.cells i key) goes).1 in
      replaced_is page.level page.cells short 0 i 0 i (count_in own) ((key, value) ∷ []) (omega (arith, room)) (omega arith) own_count)

  set_is : (i : ℕ) (value : List ℕ) → bytes_of (set_made i value own) ≡ code_of (set_on i value page)
  set_is i value =
      tested (is_leaf own) (page.level == 0) (has_cell own i) (nat_lt i (length page.cells)) _ (record { level = 0; cells = replaced i 1 ((key_at page.cells i, value) ∷ []) page.cells })
      (leaf_is page.level page.cells short) (has_cell_is page.level page.cells short i)
      (λ leaf inside.
      let low = ltb-true i (length page.cells) inside in
      replaced_is page.level page.cells short 0 i 1 (i + 1) (count_in own) ((key_of own i, value) ∷ []) (omega (arith, low)) (omega arith) own_count
      ∙ ap (λ (key : List ℕ). page_of 0 (replaced i 1 ((key, value) ∷ []) page.cells)) (key_at_is page.level page.cells short i low))

  delete_is : (i : ℕ) → bytes_of (delete_made i own) ≡ code_of (delete_on i page)
  delete_is i =
      tested (is_leaf own) (page.level == 0) (has_cell own i) (nat_lt i (length page.cells)) _ (record { level = 0; cells = replaced i 1 [] page.cells })
      (leaf_is page.level page.cells short) (has_cell_is page.level page.cells short i)
      (λ leaf inside. replaced_is page.level page.cells short 0 i 1 (i + 1) (count_in own) [] (omega (arith, ltb-true i (length page.cells) inside)) (omega arith) own_count)

  part_is_on : (i j : ℕ) → bytes_of (part_made i j own) ≡ code_of (part_on i j page)
  part_is_on i j =
      tested (opens own) true (nat_le i j && nat_le j (count_in own)) (nat_le i j && nat_le j (length page.cells)) _ (record { level = page.level; cells = between i j page.cells })
      (page_opens page.level page.cells short) (ap (λ (n : ℕ). nat_le i j && nat_le j n) own_count)
      (λ kind places.
      let both = both_true (nat_le i j) (nat_le j (length page.cells)) places in
      ap (λ (p : Cells). built (record { level = page.level; front = p; new = []; back = no_cells })) (run_of page.level page.cells short i j (leb-true i j both.0) (leb-true j (length page.cells) both.1))
      ∙ built_is page.level (4 + length (cells_code (take i page.cells))) 0 (between i j page.cells) [] [] ∙ ap (λ (l : List Cell). page_of page.level l) (append-nil (between i j page.cells)))

  turn_is : (i r child : ℕ) → bytes_of (turn_made i r child own) ≡ code_of (turn_on i r child page)
  turn_is i r child =
      tested (is_inner own) (not (page.level == 0)) (has_cells own i r) (has_run page.cells i r) _ (record { level = page.level; cells = replaced i r (child_cell (key_at page.cells i) child ∷ []) page.cells })
      (inner_is page.level page.cells short) (run_is page.level page.cells short i r)
      (λ kind run.
      let both = both_true (nat_lt 0 r) (nat_le (i + r) (length page.cells)) run in
      let some = ltb-true 0 r both.0 in
      let room = leb-true (i + r) (length page.cells) both.1 in
      replaced_is page.level page.cells short page.level i r (i + r) (count_in own) (child_cell (key_of own i) child ∷ []) room refl own_count
      ∙ ap (λ (key : List ℕ). page_of page.level (replaced i r (child_cell key child ∷ []) page.cells)) (key_at_is page.level page.cells short i (omega (arith, some, room))))

  turn_two_is : (i r child : ℕ) (key : List ℕ) (second : ℕ) → bytes_of (turn_two_made i r child key second own) ≡ code_of (turn_two_on i r child (child_cell key second) page)
  turn_two_is i r child key second =
      tested (is_inner own) (not (page.level == 0)) (has_cells own i r && (stands_below own i key && ends_before own (i + r) key))
      (has_run page.cells i r && (has_below page.cells i key && may_precede page.cells (i + r) key)) _
      (record { level = page.level; cells = replaced i r (child_cell (key_at page.cells i) child ∷ child_cell key second ∷ []) page.cells })
      (inner_is page.level page.cells short)
      (λ k. run_is page.level page.cells short i r k && (below_is page.level page.cells short i key k && before_is page.level page.cells short (i + r) key k))
      (λ kind places.
      let run = both_true (has_run page.cells i r) (has_below page.cells i key && may_precede page.cells (i + r) key) places in
      let both = both_true (nat_lt 0 r) (nat_le (i + r) (length page.cells)) run.0 in
      let some = ltb-true 0 r both.0 in
      let room = leb-true (i + r) (length page.cells) both.1 in
      replaced_is page.level page.cells short page.level i r (i + r) (count_in own) (child_cell (key_of own i) child ∷ child_cell key second ∷ []) room refl own_count
      ∙ ap (λ (first : List ℕ). page_of page.level (replaced i r (child_cell first child ∷ child_cell key second ∷ []) page.cells)) (key_at_is page.level page.cells short i (omega (arith, some, room))))

module _ (page other : Page) (short : AreShort page.cells) (also : AreShort other.cells) where
  abbrev first_bytes : List ℕ
  first_bytes = page_code page

  abbrev other_bytes : List ℕ
  other_bytes = page_code other

  first_count : count_in first_bytes ≡ length page.cells
  first_count = count_is page.level page.cells short

  other_count : count_in other_bytes ≡ length other.cells
  other_count = count_is other.level other.cells also

  alike_is : are_alike first_bytes other_bytes ≡ (page.level == other.level)
  alike_is = λ k. page_opens page.level page.cells short k && (page_opens other.level other.cells also k && (page.level == other.level))

  -- cells of both
  joined : (i j t u : ℕ) → i ≤ j → j ≤ length page.cells → t ≤ u → u ≤ length other.cells
      → built (record { level = page.level; front = part_of first_bytes i j; new = []; back = part_of other_bytes t u }) ≡ page_of page.level (between i j page.cells ++ between t u other.cells)
  joined i j t u order inside order_too inside_too =
      (λ k. built (record { level = page.level; front = run_of page.level page.cells short i j order inside k; new = []; back = run_of other.level other.cells also t u order_too inside_too k }))
      ∙ built_is page.level (4 + length (cells_code (take i page.cells))) (4 + length (cells_code (take t other.cells))) (between i j page.cells) [] (between t u other.cells)

  absorb_is : (t : ℕ) → bytes_of (absorb_made t first_bytes other_bytes) ≡ code_of (absorb_on t page other)
  absorb_is t =
      tested (are_alike first_bytes other_bytes) (page.level == other.level) (nat_le t (count_in other_bytes)) (nat_le t (length other.cells)) _ (record { level = page.level; cells = page.cells ++ take t other.cells })
      alike_is (ap (λ (n : ℕ). nat_le t n) other_count)
      (λ kind places.
      (λ k. built (record { level = page.level; front = part_of first_bytes 0 (first_count k); new = []; back = part_of other_bytes 0 t }))
      ∙ joined 0 (length page.cells) 0 t (omega arith) (omega arith) (omega arith) (leb-true t (length other.cells) places)
      ∙ (λ k. page_of page.level ((from_front (length page.cells) page.cells ∙ take_all (length page.cells) page.cells (omega arith)) k ++ from_front t other.cells k)))

  join_is : (i j : ℕ) → bytes_of (join_made i j first_bytes other_bytes) ≡ code_of (join_on i j page other)
  join_is i j =
      tested (are_alike first_bytes other_bytes) (page.level == other.level) (nat_le i j && nat_le j (count_in first_bytes + count_in other_bytes)) (nat_le i j && nat_le j (length page.cells + length other.cells)) _
      (record { level = page.level; cells = between i j (page.cells ++ other.cells) }) alike_is (λ k. nat_le i j && nat_le j (first_count k + other_count k))
      (λ kind places.
      let both = both_true (nat_le i j) (nat_le j (length page.cells + length other.cells)) places in
      let order = leb-true i j both.0 in
      let room = leb-true j (length page.cells + length other.cells) both.1 in
      (λ k. built (record {
        level = page.level;
        front = part_of first_bytes (lesser i (first_count k)) (lesser j (first_count k));
        new = [];
        back = part_of other_bytes (i - first_count k) (j - first_count k);
      }))
      ∙ joined (lesser i (length page.cells)) (lesser j (length page.cells)) (i - length page.cells) (j - length page.cells) (lesser_rises i j (length page.cells) order) (lesser_small j (length page.cells)) (omega (arith, order)) (omega (arith, room))
      ∙ ap (λ (l : List Cell). page_of page.level l) (sym (between_both page.cells other.cells i j order)))

-- an operation that reads one page, and one that reads two
one_page : (f : List ℕ → Made) (g : Page → Outcome) → ((page : Page) → AreShort page.cells → bytes_of (f (page_code page)) ≡ code_of (g page))
    → (pages : List Page) → All IsShortPage pages → length pages ≡ 1 → bytes_of (f (first (map page_code pages))) ≡ code_of (g (first_page pages))
one_page f g is (page ∷ []) short count = is page (All-head IsShortPage page [] short)
one_page f g is [] short count = absurd (omega (arith, count))
one_page f g is (page ∷ other ∷ pages) short count = absurd (omega (arith, count))

two_pages : (f : List ℕ → List ℕ → Made) (g : Page → Page → Outcome)
    → ((page other : Page) → AreShort page.cells → AreShort other.cells → bytes_of (f (page_code page) (page_code other)) ≡ code_of (g page other))
    → (pages : List Page) → All IsShortPage pages → length pages ≡ 2 → bytes_of (f (first (map page_code pages)) (second (map page_code pages))) ≡ code_of (g (first_page pages) (other_page pages))
two_pages f g is (page ∷ other ∷ []) short count =
    is page other (All-head IsShortPage page (other ∷ []) short) (All-head IsShortPage other [] (All-tail IsShortPage page (other ∷ []) short))
two_pages f g is [] short count = absurd (omega (arith, count))
two_pages f g is (page ∷ []) short count = absurd (omega (arith, count))
two_pages f g is (page ∷ other ∷ more ∷ pages) short count = absurd (omega (arith, count))

pages_made : (op : PageOp) (pages : List Page) → All IsShortPage pages → length pages ≡ length (read_by op) → bytes_of (made_by op (map page_code pages)) ≡ code_of (on_cells op pages)
pages_made (Put x i key value) pages all long = one_page (λ bytes. put_made i key value (to_fill bytes)) (put_on i (key, value)) (λ page short. put_is page short i key value) pages all long
pages_made (Set x i value) pages all long = one_page (set_made i value) (set_on i value) (λ page short. set_is page short i value) pages all long
pages_made (Delete x i) pages all long = one_page (delete_made i) (delete_on i) (λ page short. delete_is page short i) pages all long
pages_made (Part new x i j) pages all long = one_page (part_made i j) (part_on i j) (λ page short. part_is_on page short i j) pages all long
pages_made (Absorb x other t) pages all long = two_pages (absorb_made t) (absorb_on t) (λ page other short also. absorb_is page other short also t) pages all long
pages_made (Join new x other i j) pages all long = two_pages (join_made i j) (join_on i j) (λ page other short also. join_is page other short also i j) pages all long
pages_made (Keep x n) pages all long = one_page (part_made 0 n) (part_on 0 n) (λ page short. part_is_on page short 0 n) pages all long
pages_made (Turn x i r child) pages all long = one_page (turn_made i r child) (turn_on i r child) (λ page short. turn_is page short i r child) pages all long
pages_made (TurnTwo x i r child key other) pages all long =
    one_page (turn_two_made i r child key other) (turn_two_on i r child (child_cell key other)) (λ page short. turn_two_is page short i r child key other) pages all long
pages_made (Root x level lower key upper) pages all long = ap (λ (bytes : List ℕ). Ok bytes) (built_is level 0 0 [] (child_cell [] lower ∷ child_cell key upper ∷ []) [])
pages_made (Free x) pages all long = refl

-- ---- in a store

short_is : (cap : ℕ) (made : Made) → bytes_made cap made ≡ where_fits cap (bytes_of made)
short_is cap (Err r) = refl
short_is cap (Ok None) = ap (λ (t : Bool). if t && true then Ok [] else Err TooLarge) (sym (le-leb 0 cap (omega arith)))
short_is cap (Ok (Some page)) =
    let same : is_short cap page ≡ (nat_le (length (built page)) cap && nat_lt (length (built page)) 65536) =
    λ k. nat_le (sym (built_length page) k) cap && nat_lt (sym (built_length page) k) 65536 in
    elim (is_short cap page) as (λ t. bytes_of (if t then Ok (Some page) else Err TooLarge) ≡ (if t then Ok (built page) else Err TooLarge)) [ true ↦ refl | false ↦ refl ]
    ∙ ap (λ (t : Bool). if t then Ok (built page) else Err TooLarge) same

pub made_is : (cap : ℕ) (op : PageOp) (pages : List Page) → All IsShortPage pages → length pages ≡ length (read_by op) → bytes_made cap (made_by op (map page_code pages)) ≡ made_on cap op pages
made_is cap op pages short count = short_is cap (made_by op (map page_code pages)) ∙ ap (where_fits cap) (pages_made op pages short count)

refused_too : (made : Made) → result_err made ≡ result_err (bytes_of made)
refused_too (Ok made) = refl
refused_too (Err r) = refl

value_too : (made : Made) → value_made made ≡ written_on (bytes_of made)
value_too (Ok made) = refl
value_too (Err r) = refl

pub check_is : (b : Bounds) (op : PageOp) (pages : List Page) → All IsShortPage pages → length pages ≡ length (read_by op)
    → (page_meaning b).check op (map page_code pages) ≡ result_err (made_on b.cap op pages)
check_is b op pages short count = refused_too (where_short b.cap (made_by op (map page_code pages))) ∙ ap result_err (made_is b.cap op pages short count)

pub effect_is : (b : Bounds) (op : PageOp) (pages : List Page) → All IsShortPage pages → length pages ≡ length (read_by op)
    → (page_meaning b).effect op (map page_code pages) ≡ written_on (made_on b.cap op pages) ∷ []
effect_is b op pages short count =
    ap (λ (bytes : List ℕ). bytes ∷ []) (value_too (where_short b.cap (made_by op (map page_code pages))) ∙ ap written_on (made_is b.cap op pages short count))
