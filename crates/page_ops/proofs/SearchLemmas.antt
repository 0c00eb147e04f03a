-- The search for a key in a page, and the changes at the place that it finds.
use Rattle.std.proofs.Common.{◌≡◌, ℕ, zero, suc, ◌+◌, ◌-◌, ◌/◌, ◌<◌, ◌≤◌, ◌==◌, Bool, true, false, cond, not, ◌&&◌, ◌||◌, if◌then◌else◌, Option, None, Some, List, [], ◌∷◌, ◌++◌, T, length, take, drop, Ordering, Less, Equal, Greater, is_lt, is_eq, refl, sym, ap, ◌∙◌, subst, arith, option_map, option_and_then, is_some, true≢false}
use Rattle.std.specs.Prelude.{IsTrue, nat_lt}
use Rattle.std.specs.Ordering.{ordering_reverse}
use Rattle.std.specs.Cmp.{both_ways}
use Rattle.std.specs.Cmp.Lexicographic.{nat_list_cmp_total}
use Rattle.std.specs.FinMap.Entries.{by_order, below_all, find, put, is_sorted}
use Rattle.std.proofs.lemmas.Bool.{lt-ltb, le-ltb, ltb-true, ltb-false, eqb-false, eq-eqb, ne_eqb}
use Rattle.key_entries.specs.Entries.{byte_order}
use Rattle.key_entries.specs.KeyLaws.{same_key, first, second, less_if, both}
use Rattle.key_entries.specs.EntryLaws.{both_true, true_both}
use Rattle.key_entries.specs.Pairs.{has, without}
use Rattle.page_ops.specs.Page.{Cell, Page, page_code, page_of, AreShort}
use Rattle.page_ops.specs.Reading.{at_place, beside_of, found_in, key_of, stands_at, seek, seek_from, under, under_place}
use Rattle.page_ops.specs.OnCells.{key_at, beside_at, may_stand, may_precede, has_below, replaced}
use Rattle.page_ops.specs.Search.{last_under, next_under, place_for}
use Rattle.page_ops.proofs.CellLemmas.{cell_at_is, counts, there, key_at_is, key_test}
use Rattle.page_ops.proofs.SeekLemmas.{step}

-- ---- orders

turned : (x y : List ℕ) (o : Ordering) → byte_order x y ≡ o → byte_order y x ≡ ordering_reverse o
turned x y o is = nat_list_cmp_total.antisymm y x ∙ ap ordering_reverse is

later : (x y : List ℕ) (cells : List Cell) → byte_order x y ≡ Less → T (below_all byte_order y cells) → T (below_all byte_order x cells)
later x y [] less all = tt
later x y (c ∷ cells) less all =
    let here = less_if (byte_order y c.0) (first (is_lt (byte_order y c.0)) (below_all byte_order y cells) all) in
    both (is_lt (byte_order x c.0)) (below_all byte_order x cells) (subst (λ (o : Ordering). T (is_lt o)) (sym (nat_list_cmp_total.trans x y c.0 less here)) tt)
    (later x y cells less (second (is_lt (byte_order y c.0)) (below_all byte_order y cells) all))

-- what is below each key is not among them
absent : (key : List ℕ) (cells : List Cell) → T (below_all byte_order key cells) → find byte_order key cells ≡ None
absent key [] all = refl
absent key (c ∷ cells) all =
    let here = less_if (byte_order key c.0) (first (is_lt (byte_order key c.0)) (below_all byte_order key cells) all) in
    ap (λ (o : Ordering). cond (is_eq o) (Some c.1) (find byte_order key cells)) here ∙ absent key cells (second (is_lt (byte_order key c.0)) (below_all byte_order key cells) all)

-- and all of them stay without it
all_stay : (key : List ℕ) (cells : List Cell) → T (below_all byte_order key cells) → without key cells ≡ cells
all_stay key [] all = refl
all_stay key (c ∷ cells) all =
    let here = less_if (byte_order key c.0) (first (is_lt (byte_order key c.0)) (below_all byte_order key cells) all) in
    ap (λ (o : Ordering). cond (not (is_eq o)) (c ∷ without key cells) (without key cells)) here
    ∙ ap (λ (l : List Cell). c ∷ l) (all_stay key cells (second (is_lt (byte_order key c.0)) (below_all byte_order key cells) all))

-- a key that rises above the first
rises_to : (key : List ℕ) (cells : List Cell) (i : ℕ) → T (below_all byte_order key cells) → i < length cells → byte_order key (key_at cells i) ≡ Less
rises_to key [] i all inside = absurd (omega (arith, inside))
rises_to key (c ∷ cells) zero all inside = less_if (byte_order key c.0) (first (is_lt (byte_order key c.0)) (below_all byte_order key cells) all)
rises_to key (c ∷ cells) (suc i) all inside = rises_to key cells i (second (is_lt (byte_order key c.0)) (below_all byte_order key cells) all) (omega (arith, inside))

lt_suc : (a b : ℕ) → nat_lt (suc a) (suc b) ≡ nat_lt a b
lt_suc a b = both_ways (nat_lt (suc a) (suc b)) (nat_lt a b) (λ e. lt-ltb a b (omega (arith, ltb-true (suc a) (suc b) e))) (λ e. lt-ltb (suc a) (suc b) (omega (arith, ltb-true a b e)))

-- ---- the place of a key

module _ (key : List ℕ) where
  place_inside : (cells : List Cell) → place_for key cells ≤ length cells
  place_inside [] = omega arith
  place_inside (c ∷ cells) = elim (is_lt (byte_order c.0 key)) as (λ t. (if t then suc (place_for key cells) else 0) ≤ suc (length cells)) [ true ↦ omega (arith, place_inside cells) | false ↦ omega arith ]

  not_behind : (c : Cell) (cells : List Cell) (i : ℕ) → T (below_all byte_order c.0 cells) → i < length cells → is_lt (byte_order c.0 key) ≡ false → is_lt (byte_order (key_at cells i) key) ≡ false
  not_behind c cells i all inside above =
      elim (byte_order (key_at cells i) key) as (λ o. byte_order (key_at cells i) key ≡ o → is_lt o ≡ false) [
        | Less ↦ λ less. sym (ap is_lt (nat_list_cmp_total.trans c.0 (key_at cells i) key (rises_to c.0 cells i all inside) less)) ∙ above
        | Equal ↦ λ e. refl
        | Greater ↦ λ e. refl
      ] refl

  -- a cell has a key below exactly where it stands before the place
  pub below_place : (cells : List Cell) (i : ℕ) → T (is_sorted byte_order cells) → i < length cells → is_lt (byte_order (key_at cells i) key) ≡ nat_lt i (place_for key cells)
  below_place [] i rise inside = absurd (omega (arith, inside))
  below_place (c ∷ cells) zero rise inside =
      elim (is_lt (byte_order c.0 key)) as (λ t. t ≡ nat_lt 0 (if t then suc (place_for key cells) else 0)) [ true ↦ sym (lt-ltb 0 (suc (place_for key cells)) (omega arith)) | false ↦ refl ]
  below_place (c ∷ cells) (suc i) rise inside =
      let below = first (below_all byte_order c.0 cells) (is_sorted byte_order cells) rise in
      let rest = second (below_all byte_order c.0 cells) (is_sorted byte_order cells) rise in
      let low : i < length cells = omega (arith, inside) in
      elim (is_lt (byte_order c.0 key)) as (λ t. is_lt (byte_order c.0 key) ≡ t → is_lt (byte_order (key_at cells i) key) ≡ nat_lt (suc i) (if t then suc (place_for key cells) else 0)) [
        | true ↦ λ e. below_place cells i rest low ∙ sym (lt_suc i (place_for key cells))
        | false ↦ λ e. not_behind c cells i below low e ∙ sym (le-ltb (suc i) 0 (omega arith))
      ] refl

-- the search over places ends at the place
search_is : (level : ℕ) (cells : List Cell) (key : List ℕ) → AreShort cells → T (is_sorted byte_order cells) → (n lo hi : ℕ)
    → hi - lo ≤ n → lo ≤ place_for key cells → place_for key cells ≤ hi → hi ≤ length cells → seek_from n (page_of level cells) key lo hi ≡ Some (place_for key cells)
search_is level cells key short rise zero lo hi few low high inside = ap (λ (i : ℕ). Some i) (omega (arith, few, low, high))
search_is level cells key short rise (suc n) lo hi few low high inside =
    let bytes : List ℕ = page_of level cells in
    let p : ℕ = place_for key cells in
    let mid : ℕ = (lo + hi) / 2 in
    elim (nat_lt lo hi) as (λ t. nat_lt lo hi ≡ t → (if t then step bytes key n lo hi else Some lo) ≡ Some p) [
      | true ↦ λ more.
          let order : lo < hi = ltb-true lo hi more in
          let among : mid < length cells = omega (arith, order, inside) in
          let test : is_lt (byte_order (key_of bytes mid) key) ≡ nat_lt mid p =
          ap (λ (k : List ℕ). is_lt (byte_order k key)) (key_at_is level cells short mid among) ∙ below_place key cells mid rise among in
          (λ k. if there level cells short mid among k then (if test k then seek_from n bytes key (suc mid) hi else seek_from n bytes key lo mid) else None)
          ∙ elim (nat_lt mid p) as (λ t. nat_lt mid p ≡ t → (if t then seek_from n bytes key (suc mid) hi else seek_from n bytes key lo mid) ≡ Some p) [
            | true ↦ λ below. search_is level cells key short rise n (suc mid) hi (omega (arith, few, order)) (omega (arith, ltb-true mid p below)) high inside
            | false ↦ λ above. search_is level cells key short rise n lo mid (omega (arith, few, order)) low (omega (arith, ltb-false mid p above)) (omega (arith, among))
          ] refl
      | false ↦ λ none. ap (λ (i : ℕ). Some i) (omega (arith, ltb-false lo hi none, low, high))
    ] refl

pub seek_is : (page : Page) (key : List ℕ) → AreShort page.cells → T (is_sorted byte_order page.cells) → seek (page_code page) key ≡ Some (place_for key page.cells)
seek_is page key short rise =
    let bytes : List ℕ = page_code page in
    let n : ℕ = length page.cells in
    (λ k. seek_from (counts page.level page.cells short k) bytes key 0 (counts page.level page.cells short k))
    ∙ search_is page.level page.cells key short rise n 0 n (omega arith) (omega arith) (place_inside key page.cells) (omega arith)

-- ---- what is at the place, and the changes there

either : (a b : Bool) → IsTrue b → IsTrue (a || b)
either true b is = refl
either false b is = is

-- a change behind the first cell
replaced_later : (c : Cell) (i r : ℕ) (new cells : List Cell) → replaced (suc i) r new (c ∷ cells) ≡ c ∷ replaced i r new cells
replaced_later c i r new cells = let far : suc i + r ≡ suc (i + r) = omega arith in ap (λ (n : ℕ). c ∷ (take i cells ++ (new ++ drop n (c ∷ cells)))) far

-- the entry in front, and those behind it
parts : (c : Cell) (cells : List Cell) → T (is_sorted byte_order (c ∷ cells)) → T (below_all byte_order c.0 cells) × T (is_sorted byte_order cells)
parts c cells rise = (first (below_all byte_order c.0 cells) (is_sorted byte_order cells) rise, second (below_all byte_order c.0 cells) (is_sorted byte_order cells) rise)

module _ (key : List ℕ) where
  abbrev place_behind : Ordering → List Cell → ℕ
  place_behind o cells = if is_lt o then suc (place_for key cells) else 0

  -- whether the key is there, where it is compared with the first
  has_first : (c : Cell) (cells : List Cell) (o : Ordering) → byte_order c.0 key ≡ o → has key (c ∷ cells) ≡ is_some (cond (is_eq (ordering_reverse o)) (Some c.1) (find byte_order key cells))
  has_first c cells o e = ap (λ (o : Ordering). is_some (cond (is_eq o) (Some c.1) (find byte_order key cells))) (turned c.0 key o e)

  find_first : (c : Cell) (cells : List Cell) (o : Ordering) → byte_order c.0 key ≡ o → find byte_order key (c ∷ cells) ≡ cond (is_eq (ordering_reverse o)) (Some c.1) (find byte_order key cells)
  find_first c cells o e = ap (λ (o : Ordering). cond (is_eq o) (Some c.1) (find byte_order key cells)) (turned c.0 key o e)

  -- where it is below the first it is not there
  has_none : (c : Cell) (cells : List Cell) → T (is_sorted byte_order (c ∷ cells)) → byte_order c.0 key ≡ Greater → has key (c ∷ cells) ≡ false
  has_none c cells rise e =
      has_first c cells Greater e ∙ ap (λ (o : Option (List ℕ)). is_some o) (absent key cells (later key c.0 cells (turned c.0 key Greater e) (parts c cells rise).0))

  place_tells : (cells : List Cell) → T (is_sorted byte_order cells) → (nat_lt (place_for key cells) (length cells) && is_eq (byte_order (key_at cells (place_for key cells)) key)) ≡ has key cells
  place_tells [] rise = refl
  place_tells (c ∷ cells) rise =
      elim (byte_order c.0 key) as (λ o. byte_order c.0 key ≡ o → (nat_lt (place_behind o cells) (suc (length cells)) && is_eq (byte_order (key_at (c ∷ cells) (place_behind o cells)) key)) ≡ has key (c ∷ cells)) [
        | Less ↦ λ e.
            ap (λ (t : Bool). t && is_eq (byte_order (key_at cells (place_for key cells)) key)) (lt_suc (place_for key cells) (length cells))
            ∙ place_tells cells (parts c cells rise).1 ∙ sym (has_first c cells Less e)
        | Equal ↦ λ e. (λ k. lt-ltb 0 (suc (length cells)) (omega arith) k && is_eq (e k)) ∙ sym (has_first c cells Equal e)
        | Greater ↦ λ e. (λ k. lt-ltb 0 (suc (length cells)) (omega arith) k && is_eq (e k)) ∙ sym (has_none c cells rise e)
      ] refl

  found_at : (cells : List Cell) → T (is_sorted byte_order cells) → has key cells ≡ true → find byte_order key cells ≡ Some (beside_at cells (place_for key cells))
  found_at [] rise is = cc
  found_at (c ∷ cells) rise is =
      elim (byte_order c.0 key) as (λ o. byte_order c.0 key ≡ o → find byte_order key (c ∷ cells) ≡ Some (beside_at (c ∷ cells) (place_behind o cells))) [
        | Less ↦ λ e. find_first c cells Less e ∙ found_at cells (parts c cells rise).1 (sym (has_first c cells Less e) ∙ is)
        | Equal ↦ λ e. find_first c cells Equal e
        | Greater ↦ λ e. absurd (true≢false (sym is ∙ has_none c cells rise e))
      ] refl

  put_first : (value : List ℕ) (c : Cell) (cells : List Cell) (o : Ordering) → byte_order c.0 key ≡ o
      → put byte_order key value (c ∷ cells) ≡ by_order (ordering_reverse o) ((key, value) ∷ c ∷ cells) ((c.0, value) ∷ cells) (c ∷ put byte_order key value cells)
  put_first value c cells o e = ap (λ (o : Ordering). by_order o ((key, value) ∷ c ∷ cells) ((c.0, value) ∷ cells) (c ∷ put byte_order key value cells)) (turned c.0 key o e)

  pub put_at : (value : List ℕ) (cells : List Cell) → T (is_sorted byte_order cells) → has key cells ≡ false → replaced (place_for key cells) 0 ((key, value) ∷ []) cells ≡ put byte_order key value cells
  put_at value [] rise is = refl
  put_at value (c ∷ cells) rise is =
      elim (byte_order c.0 key) as (λ o. byte_order c.0 key ≡ o → replaced (place_behind o cells) 0 ((key, value) ∷ []) (c ∷ cells) ≡ put byte_order key value (c ∷ cells)) [
        | Less ↦ λ e.
            replaced_later c (place_for key cells) 0 ((key, value) ∷ []) cells
            ∙ ap (λ (l : List Cell). c ∷ l) (put_at value cells (parts c cells rise).1 (sym (has_first c cells Less e) ∙ is)) ∙ sym (put_first value c cells Less e)
        | Equal ↦ λ e. absurd (true≢false (sym (has_first c cells Equal e) ∙ is))
        | Greater ↦ λ e. sym (put_first value c cells Greater e)
      ] refl

  pub set_at : (value : List ℕ) (cells : List Cell) → T (is_sorted byte_order cells) → has key cells ≡ true
      → replaced (place_for key cells) 1 ((key_at cells (place_for key cells), value) ∷ []) cells ≡ put byte_order key value cells
  set_at value [] rise is = cc
  set_at value (c ∷ cells) rise is =
      elim (byte_order c.0 key) as (λ o. byte_order c.0 key ≡ o → replaced (place_behind o cells) 1 ((key_at (c ∷ cells) (place_behind o cells), value) ∷ []) (c ∷ cells) ≡ put byte_order key value (c ∷ cells)) [
        | Less ↦ λ e.
            replaced_later c (place_for key cells) 1 ((key_at cells (place_for key cells), value) ∷ []) cells
            ∙ ap (λ (l : List Cell). c ∷ l) (set_at value cells (parts c cells rise).1 (sym (has_first c cells Less e) ∙ is)) ∙ sym (put_first value c cells Less e)
        | Equal ↦ λ e. sym (put_first value c cells Equal e)
        | Greater ↦ λ e. absurd (true≢false (sym is ∙ has_none c cells rise e))
      ] refl

  without_first : (c : Cell) (cells : List Cell) (o : Ordering) → byte_order c.0 key ≡ o → without key (c ∷ cells) ≡ cond (not (is_eq (ordering_reverse o))) (c ∷ without key cells) (without key cells)
  without_first c cells o e = ap (λ (o : Ordering). cond (not (is_eq o)) (c ∷ without key cells) (without key cells)) (turned c.0 key o e)

  pub delete_at : (cells : List Cell) → T (is_sorted byte_order cells) → has key cells ≡ true → replaced (place_for key cells) 1 [] cells ≡ without key cells
  delete_at [] rise is = cc
  delete_at (c ∷ cells) rise is =
      elim (byte_order c.0 key) as (λ o. byte_order c.0 key ≡ o → replaced (place_behind o cells) 1 [] (c ∷ cells) ≡ without key (c ∷ cells)) [
        | Less ↦ λ e.
            replaced_later c (place_for key cells) 1 [] cells
            ∙ ap (λ (l : List Cell). c ∷ l) (delete_at cells (parts c cells rise).1 (sym (has_first c cells Less e) ∙ is)) ∙ sym (without_first c cells Less e)
        | Equal ↦ λ e. sym (all_stay key cells (subst (λ (k : List ℕ). T (below_all byte_order k cells)) (same_key c.0 key e) (parts c cells rise).0)) ∙ sym (without_first c cells Equal e)
        | Greater ↦ λ e. absurd (true≢false (sym is ∙ has_none c cells rise e))
      ] refl

  -- a key that is not there may stand at its place
  front_open : (cells : List Cell) → T (is_sorted byte_order cells) → IsTrue ((place_for key cells == 0) || has_below cells (place_for key cells - 1) key)
  front_open cells rise =
      let p : ℕ = place_for key cells in
      elim (p == 0) as (λ t. (p == 0) ≡ t → IsTrue (t || has_below cells (p - 1) key)) [
        | true ↦ λ e. refl
        | false ↦ λ e.
            let some = eqb-false p 0 e in
            let last : p - 1 < p = omega (arith, some) in
            let inside : p - 1 < length cells = omega (arith, some, place_inside key cells) in
            true_both (nat_lt (p - 1) (length cells)) (is_lt (byte_order (key_at cells (p - 1)) key)) (lt-ltb (p - 1) (length cells) inside)
            (below_place key cells (p - 1) rise inside ∙ lt-ltb (p - 1) p last)
      ] refl

  above_if : (o : Ordering) → is_lt o ≡ false → is_eq o ≡ false → is_lt (ordering_reverse o) ≡ true
  above_if Less one two = absurd (true≢false one)
  above_if Equal one two = absurd (true≢false two)
  above_if Greater one two = refl

  back_open : (cells : List Cell) → T (is_sorted byte_order cells) → has key cells ≡ false → IsTrue (may_precede cells (place_for key cells) key)
  back_open cells rise none =
      let p : ℕ = place_for key cells in
      let n : ℕ = length cells in
      let there : List ℕ = key_at cells p in
      elim (nat_lt p n) as (λ t. nat_lt p n ≡ t → IsTrue ((n == p) || (t && is_lt (byte_order key there)))) [
        | true ↦ λ inside.
            let apart : is_eq (byte_order there key) ≡ false = ap (λ (t : Bool). t && is_eq (byte_order there key)) (sym inside) ∙ place_tells cells rise ∙ none in
            let least : is_lt (byte_order there key) ≡ false = below_place key cells p rise (ltb-true p n inside) ∙ le-ltb p p (omega arith) in
            let above : is_lt (byte_order key there) ≡ true = ap is_lt (turned there key (byte_order there key) refl) ∙ above_if (byte_order there key) least apart in
            either (n == p) (is_lt (byte_order key there)) above
        | false ↦ λ past. ap (λ (t : Bool). t || false) (eq-eqb n p (omega (arith, ltb-false p n past, place_inside key cells)))
      ] refl

  pub may_stand_at : (cells : List Cell) → T (is_sorted byte_order cells) → has key cells ≡ false → IsTrue (may_stand cells (place_for key cells) key)
  may_stand_at cells rise none =
      true_both ((place_for key cells == 0) || has_below cells (place_for key cells - 1) key) (may_precede cells (place_for key cells) key) (front_open cells rise) (back_open cells rise none)

pub stands_is : (page : Page) (key : List ℕ) → AreShort page.cells → T (is_sorted byte_order page.cells) → stands_at (page_code page) (place_for key page.cells) key ≡ has key page.cells
stands_is page key short rise = key_test page.level page.cells short (λ k. is_eq (byte_order k key)) (place_for key page.cells) ∙ place_tells key page.cells rise

none_of : (o : Option (List ℕ)) → is_some o ≡ false → o ≡ None
none_of None e = refl
none_of (Some x) e = cc

pub got_is : (page : Page) (key : List ℕ) → AreShort page.cells → T (is_sorted byte_order page.cells) → found_in (page_code page) key ≡ Some (find byte_order key page.cells)
got_is page key short rise =
    let bytes : List ℕ = page_code page in
    let cells : List Cell = page.cells in
    let p : ℕ = place_for key cells in
    ap (option_map (at_place bytes key)) (seek_is page key short rise)
    ∙ ap (λ (t : Bool). Some (if t then Some (beside_of bytes p) else None)) (stands_is page key short rise)
    ∙ ap (λ (o : Option (List ℕ)). Some o) (elim (has key cells) as (λ t. has key cells ≡ t → (if t then Some (beside_of bytes p) else None) ≡ find byte_order key cells) [
      | true ↦ λ there.
          let inside = both_true (nat_lt p (length cells)) (is_eq (byte_order (key_at cells p) key)) (place_tells key cells rise ∙ there) in
          ap (λ (value : List ℕ). Some value) (cell_at_is page.level cells short p (ltb-true p (length cells) inside.0)).2 ∙ sym (found_at key cells rise there)
      | false ↦ λ none. sym (none_of (find byte_order key cells) none)
    ] refl)

-- ---- the last cell whose key is not above a key

abbrev under_of : Bool → ℕ → Option ℕ
under_of t p = if t then Some p else (if p == 0 then None else Some (p - 1))

under_suc : (p : ℕ) → under_of false (suc p) ≡ Some p
under_suc p =
    let less : suc p - 1 ≡ p = omega arith in
    ap (λ (t : Bool). if t then None else Some (suc p - 1)) (ne_eqb (suc p) 0 (λ e. absurd (omega (arith, e)))) ∙ ap (λ (i : ℕ). Some i) less

next_ok : (t : Bool) (p : ℕ) → next_under (under_of t p) ≡ under_of t (suc p)
next_ok true p = refl
next_ok false zero = sym (under_suc 0)
next_ok false (suc p) = ap next_under (under_suc p) ∙ sym (under_suc (suc p))

none_under : (key : List ℕ) (cells : List Cell) → T (below_all byte_order key cells) → last_under key cells ≡ None
none_under key [] all = refl
none_under key (c ∷ cells) all =
    ap (λ (o : Ordering). if is_lt o then None else next_under (last_under key cells)) (less_if (byte_order key c.0) (first (is_lt (byte_order key c.0)) (below_all byte_order key cells) all))

under_at : (key : List ℕ) (cells : List Cell) → T (is_sorted byte_order cells) → last_under key cells ≡ under_of (has key cells) (place_for key cells)
under_at key [] rise = refl
under_at key (c ∷ cells) rise =
    let begins : (o : Ordering) → byte_order c.0 key ≡ o → last_under key (c ∷ cells) ≡ (if is_lt (ordering_reverse o) then None else next_under (last_under key cells)) =
    λ o e. ap (λ (o : Ordering). if is_lt o then None else next_under (last_under key cells)) (turned c.0 key o e) in
    elim (byte_order c.0 key) as (λ o. byte_order c.0 key ≡ o → last_under key (c ∷ cells) ≡ under_of (has key (c ∷ cells)) (place_behind key o cells)) [
      | Less ↦ λ e.
          begins Less e ∙ ap next_under (under_at key cells (parts c cells rise).1) ∙ next_ok (has key cells) (place_for key cells)
          ∙ ap (λ (t : Bool). under_of t (suc (place_for key cells))) (sym (has_first key c cells Less e))
      | Equal ↦ λ e.
          begins Equal e ∙ ap next_under (none_under key cells (subst (λ (k : List ℕ). T (below_all byte_order k cells)) (same_key c.0 key e) (parts c cells rise).0))
          ∙ ap (λ (t : Bool). under_of t 0) (sym (has_first key c cells Equal e))
      | Greater ↦ λ e. begins Greater e ∙ ap (λ (t : Bool). under_of t 0) (sym (has_none key c cells rise e))
    ] refl

pub under_is : (page : Page) (key : List ℕ) → AreShort page.cells → T (is_sorted byte_order page.cells) → under (page_code page) key ≡ last_under key page.cells
under_is page key short rise =
    let bytes : List ℕ = page_code page in
    ap (option_and_then (under_place bytes key)) (seek_is page key short rise)
    ∙ ap (λ (t : Bool). under_of t (place_for key page.cells)) (stands_is page key short rise) ∙ sym (under_at key page.cells rise)
