-- A change of the leaf of a key makes the map with the change.
use Rattle.std.proofs.Common.{◌≡◌, ◌≢◌, ◌⊎◌, inl, inr, ℕ, suc, ◌^◌, ◌<◌, ◌==◌, Bool, true, false, cond, not, ◌&&◌, ◌||◌, if◌then◌else◌, Option, None, Some, Result, Ok, Err, List, [], ◌∷◌, ◌++◌, T, All, map, length, Ordering, Less, Equal, Greater, is_eq, is_some, refl, sym, ap, ◌∙◌, subst, arith, true≢false, ◌≤◌, is_lt}
use Rattle.std.specs.Prelude.{IsTrue, nat_lt, nat_le}
use Rattle.std.specs.List.{list_all}
use Rattle.std.specs.Result.{result_err}
use Rattle.std.specs.Ordering.{eq_by_cmp, ordering_reverse}
use Rattle.std.specs.Cmp.Lexicographic.{nat_list_cmp_total}
use Rattle.std.specs.FinMap.{get, insert, remove, same_map, get-insert, get-remove, get-from_entries}
use Rattle.std.specs.FinMap.Entries.{by_order, find, put, is_sorted, is_sorted-put, is_sorted-where_key}
use Rattle.std.proofs.lemmas.Bool.{eq-eqb, ne_eqb, lt-ltb, ltb-true, le-ltb}
use Rattle.std.proofs.lemmas.List.Elements.{All-cons, All-nil}
use Rattle.oper_core.specs.State.{State, with_values}
use Rattle.oper_core.specs.Meaning.{Accepts, after, or_else, read_values, refusal_of}
use Rattle.oper_core.specs.declared.bounds.Bounds.{Bounds}
use Rattle.oper_core.specs.declared.refusal.Refusal.{Refusal}
use Rattle.oper_core.specs.declared.refusal.Refusal.TheVariants.{NoPages, TooLarge}
use Rattle.key_entries.specs.Entries.{byte_order}
use Rattle.key_entries.specs.EntryLaws.{both_true, same_some, true_both}
use Rattle.key_entries.specs.Objects.{named}
use Rattle.key_entries.specs.ObjectLaws.{named_by}
use Rattle.key_entries.specs.KeyLaws.{same_key}
use Rattle.key_entries.specs.Pairs.{has, without, IsUpdate}
use Rattle.key_entries.specs.PairLaws.{put_updates, delete_updates}
use Rattle.page_ops.specs.Page.{Cell, Page, page_code, page_of, AreShort}
use Rattle.page_ops.specs.Reading.{cell_bytes, has_key, key_of, place_of, places_at, seek, stands_at}
use Rattle.page_ops.specs.Effects.{made_by, to_fill, where_places, where_short}
use Rattle.page_ops.specs.OnCells.{IsShortPage, code_of, key_at, replaced, may_stand, made_on, where_fits, with_cells, written_on}
use Rattle.page_ops.specs.Search.{place_for}
use Rattle.page_ops.specs.Operation.{fits_code, objects_of, page_meaning, read_by, value_made, written_by}
use Rattle.page_ops.specs.declared.page_op.PageOp.{PageOp}
use Rattle.page_ops.specs.declared.page_op.PageOp.TheVariants.{Put, Set, Delete}
use Rattle.page_map.specs.Deletes.{NoneIsEmpty}
use Rattle.page_map.specs.Map.{Span, is_within, is_below, all_within, all_past, all_keys, pairs_in, bytes_at, IsMap, content_of, objects_in, times}
use Rattle.page_map.specs.Plan.{Admits, delete_command, set_command, OnlyTooLarge, set_at, set_in, delete_at, delete_in, at_leaf, at_place, SetMakes, DeleteMakes}
use Rattle.page_map.specs.Sets.{AreShortPairs, is_short_pair}
use Rattle.page_map.proofs.MapLemmas.{HasCells, Needs, Searches, less_is, turned, IsLeafFor, map_leaf, moved, walk_is, leaf_tells, past_is_above, within_parts}

-- ---- lists of cells

-- a key that is below what stands behind comes in before it
put_front : (key value : List ℕ) (span : Span) (cells past : List Cell) → IsTrue (is_below key span.to) → IsTrue (all_past span past) → put byte_order key value (cells ++ past) ≡ put byte_order key value cells ++ past
put_front key value span [] [] below all = refl
put_front key value span [] (d ∷ past) below all =
    let first = (both_true (not (is_below d.0 span.to)) (all_past span past) all).0 in
    ap (λ (o : Ordering). by_order o ((key, value) ∷ d ∷ past) ((d.0, value) ∷ past) (d ∷ put byte_order key value past)) (less_is (byte_order key d.0) (past_is_above key d.0 span.to below first))
put_front key value span (c ∷ cells) past below all =
    elim (byte_order key c.0) as (λ o. by_order o ((key, value) ∷ c ∷ (cells ++ past)) ((c.0, value) ∷ (cells ++ past)) (c ∷ put byte_order key value (cells ++ past))
    ≡ by_order o ((key, value) ∷ c ∷ cells) ((c.0, value) ∷ cells) (c ∷ put byte_order key value cells) ++ past) [
      | Less ↦ refl
      | Equal ↦ refl
      | Greater ↦ ap (λ (l : List Cell). c ∷ l) (put_front key value span cells past below all)
    ]

-- and taken out it leaves them
out_of_past : (key : List ℕ) (span : Span) (past : List Cell) → IsTrue (is_below key span.to) → IsTrue (all_past span past) → without key past ≡ past
out_of_past key span [] below all = refl
out_of_past key span (d ∷ past) below all =
    let parts = both_true (not (is_below d.0 span.to)) (all_past span past) all in
    ap (λ (o : Ordering). cond (not (is_eq o)) (d ∷ without key past) (without key past)) (less_is (byte_order key d.0) (past_is_above key d.0 span.to below parts.0))
    ∙ ap (λ (l : List Cell). d ∷ l) (out_of_past key span past below parts.1)

out_front : (key : List ℕ) (span : Span) (cells past : List Cell) → IsTrue (is_below key span.to) → IsTrue (all_past span past) → without key (cells ++ past) ≡ without key cells ++ past
out_front key span [] past below all = out_of_past key span past below all
out_front key span (c ∷ cells) past below all =
    elim (not (eq_by_cmp byte_order key c.0)) as (λ t. cond t (c ∷ without key (cells ++ past)) (without key (cells ++ past)) ≡ cond t (c ∷ without key cells) (without key cells) ++ past) [
      | true ↦ ap (λ (l : List Cell). c ∷ l) (out_front key span cells past below all)
      | false ↦ out_front key span cells past below all
    ]

-- a test that the cells meet, and the new one does, is met by all
pub put_some : (key value : List ℕ) (cells : List Cell) → 0 < length (put byte_order key value cells)
put_some key value [] = omega arith
put_some key value (c ∷ cells) =
    elim (byte_order key c.0) as (λ o. 0 < length (by_order o ((key, value) ∷ c ∷ cells) ((c.0, value) ∷ cells) (c ∷ put byte_order key value cells))) [ Less ↦ omega arith | Equal ↦ omega arith | Greater ↦ omega arith ]

pub all_put : (test : Cell → Bool) (key value : List ℕ) (cells : List Cell) → IsTrue (test (key, value)) → IsTrue (list_all test cells) → IsTrue (list_all test (put byte_order key value cells))
all_put test key value [] here all = true_both (test (key, value)) true here refl
all_put test key value (c ∷ cells) here all =
    let parts = both_true (test c) (list_all test cells) all in
    elim (byte_order key c.0) as (λ o. byte_order key c.0 ≡ o → IsTrue (list_all test (by_order o ((key, value) ∷ c ∷ cells) ((c.0, value) ∷ cells) (c ∷ put byte_order key value cells)))) [
      | Less ↦ λ e. true_both (test (key, value)) (list_all test (c ∷ cells)) here all
      | Equal ↦ λ e. true_both (test (c.0, value)) (list_all test cells) (subst (λ (k : List ℕ). IsTrue (test (k, value))) (same_key key c.0 e) here) parts.1
      | Greater ↦ λ e. true_both (test c) (list_all test (put byte_order key value cells)) parts.0 (all_put test key value cells here parts.1)
    ] refl

all_out : (test : Cell → Bool) (key : List ℕ) (cells : List Cell) → IsTrue (list_all test cells) → IsTrue (list_all test (without key cells))
all_out test key [] all = refl
all_out test key (c ∷ cells) all =
    let parts = both_true (test c) (list_all test cells) all in
    elim (not (eq_by_cmp byte_order key c.0)) as (λ t. IsTrue (list_all test (cond t (c ∷ without key cells) (without key cells)))) [
      | true ↦ true_both (test c) (list_all test (without key cells)) parts.0 (all_out test key cells parts.1)
      | false ↦ all_out test key cells parts.1
    ]

-- ---- what is found after a change of some of the cells

abbrev or_found : Option (List ℕ) → Option (List ℕ) → Option (List ℕ)
or_found None o = o
or_found (Some v) o = Some v

find_both : (q : List ℕ) (a b : List Cell) → find byte_order q (a ++ b) ≡ or_found (find byte_order q a) (find byte_order q b)
find_both q [] b = refl
find_both q (c ∷ a) b =
    elim (is_eq (byte_order q c.0)) as (λ t. cond t (Some c.1) (find byte_order q (a ++ b)) ≡ or_found (cond t (Some c.1) (find byte_order q a)) (find byte_order q b)) [
      | true ↦ refl
      | false ↦ find_both q a b
    ]

or_none : (o : Option (List ℕ)) → or_found o None ≡ o
or_none None = refl
or_none (Some v) = refl

changed_inside : (key : List ℕ) (v : Option (List ℕ)) (before after old new : List Cell) → find byte_order key before ≡ None → find byte_order key after ≡ None
    → IsUpdate key v old new → IsUpdate key v (before ++ (old ++ after)) (before ++ (new ++ after))
changed_inside key v before after old new none also update q =
    let split : (l : List Cell) → find byte_order q (before ++ (l ++ after)) ≡ or_found (find byte_order q before) (or_found (find byte_order q l) (find byte_order q after)) =
    λ l. find_both q before (l ++ after) ∙ ap (or_found (find byte_order q before)) (find_both q l after) in
    split new ∙ ap (λ (o : Option (List ℕ)). or_found (find byte_order q before) (or_found o (find byte_order q after))) (update q)
    ∙ elim (byte_order q key) as (λ o. byte_order q key ≡ o
    → or_found (find byte_order q before) (or_found (if is_eq o then v else find byte_order q old) (find byte_order q after)) ≡ (if is_eq o then v else find byte_order q (before ++ (old ++ after)))) [
      | Less ↦ λ e. sym (split old)
      | Equal ↦ λ e.
          let same = same_key q key e in
          (λ k. or_found ((ap (λ (x : List ℕ). find byte_order x before) same ∙ none) k) (or_found v ((ap (λ (x : List ℕ). find byte_order x after) same ∙ also) k))) ∙ or_none v
      | Greater ↦ λ e. sym (split old)
    ] refl

-- ---- the place of a key

pub place_most : (key : List ℕ) (cells : List Cell) → place_for key cells ≤ length cells
place_most key [] = omega arith
place_most key (c ∷ cells) =
    elim (is_lt (byte_order c.0 key)) as (λ t. (if t then suc (place_for key cells) else 0) ≤ suc (length cells)) [ true ↦ omega (arith, place_most key cells) | false ↦ omega arith ]

pub place_in : (key : List ℕ) (cells : List Cell) → has key cells ≡ true → place_for key cells < length cells
place_in key [] there = cc
place_in key (c ∷ cells) there =
    elim (is_lt (byte_order c.0 key)) as (λ t. is_lt (byte_order c.0 key) ≡ t → (if t then suc (place_for key cells) else 0) < suc (length cells)) [
      | true ↦ λ e.
          let turn : byte_order key c.0 ≡ Greater = turned key c.0 ∙ ap ordering_reverse (less_is (byte_order c.0 key) e) in
          let rest : has key cells ≡ true = ap (λ (o : Ordering). is_some (cond (is_eq o) (Some c.1) (find byte_order key cells))) (sym turn) ∙ there in
          omega (arith, place_in key cells rest)
      | false ↦ λ e. omega arith
    ] refl

-- ---- one object is written

pub written_there : (s : State) (x : ℕ) (v : List ℕ) → with_values s (x ∷ []) (v ∷ []) x ≡ v
written_there s x v = ap (λ (t : Bool). if t || false then (if t then v else []) else s x) (eq-eqb x x refl)

pub written_else : (s : State) (x y : ℕ) (v : List ℕ) → y ≢ x → with_values s (x ∷ []) (v ∷ []) y ≡ s y
written_else s x y v apart = ap (λ (t : Bool). if t || false then (if t then v else []) else s y) (ne_eqb y x apart)

pub fits_tell : (cap : ℕ) (bytes : List ℕ) → result_err (where_fits cap (Ok bytes)) ≡ None → IsTrue (nat_le (length bytes) cap && nat_lt (length bytes) 65536)
fits_tell cap bytes none =
    elim (nat_le (length bytes) cap && nat_lt (length bytes) 65536) as (λ t. result_err (if t then Ok bytes else Err TooLarge) ≡ None → IsTrue t) [
      | true ↦ λ e. refl
      | false ↦ λ e. cc
    ] none

no_check : (shape check : Option Refusal) → or_else shape check ≡ None → check ≡ None
no_check None check none = none
no_check (Some r) check none = cc

-- the value that an operation reads, as the range has it
pub read_as : (lo : ℕ) (s : State) (x : ℕ) → (s x ≡ bytes_at lo s x) ⊎ ((s x ≡ []) × (bytes_at lo s x ≡ page_of 0 []))
read_as lo s x =
    elim (x == lo) as (λ t. (s x ≡ (if t then to_fill (s x) else s x)) ⊎ ((s x ≡ []) × ((if t then to_fill (s x) else s x) ≡ page_of 0 []))) [
      | true ↦ elim (s x) as (λ v. (v ≡ to_fill v) ⊎ ((v ≡ []) × (to_fill v ≡ page_of 0 []))) [ [] ↦ inr (refl, refl) | b ∷ bytes ↦ inl refl ]
      | false ↦ inl refl
    ]

-- what holds of the operations on pages
pub record Changes : Type 0 where
  pub place : (page : Page) (key : List ℕ) → AreShort page.cells → T (is_sorted byte_order page.cells) → seek (page_code page) key ≡ Some (place_for key page.cells)
  pub there : (page : Page) (key : List ℕ) → AreShort page.cells → T (is_sorted byte_order page.cells) → stands_at (page_code page) (place_for key page.cells) key ≡ has key page.cells
  pub set : (key value : List ℕ) (cells : List Cell) → T (is_sorted byte_order cells) → has key cells ≡ true
      → replaced (place_for key cells) 1 ((key_at cells (place_for key cells), value) ∷ []) cells ≡ put byte_order key value cells
  pub delete : (key : List ℕ) (cells : List Cell) → T (is_sorted byte_order cells) → has key cells ≡ true → replaced (place_for key cells) 1 [] cells ≡ without key cells
  pub put_new : (key value : List ℕ) (cells : List Cell) → T (is_sorted byte_order cells) → has key cells ≡ false → replaced (place_for key cells) 0 ((key, value) ∷ []) cells ≡ put byte_order key value cells
  pub goes : (key : List ℕ) (cells : List Cell) → T (is_sorted byte_order cells) → has key cells ≡ false → IsTrue (may_stand cells (place_for key cells) key)
  pub short : (page : Page) → length (page_code page) < 65536 → AreShort page.cells
  pub check : (b : Bounds) (op : PageOp) (pages : List Page) → All IsShortPage pages → length pages ≡ length (read_by op)
      → (page_meaning b).check op (map page_code pages) ≡ result_err (made_on b.cap op pages)
  pub effect : (b : Bounds) (op : PageOp) (pages : List Page) → All IsShortPage pages → length pages ≡ length (read_by op)
      → (page_meaning b).effect op (map page_code pages) ≡ written_on (made_on b.cap op pages) ∷ []
  pub empty_check : (b : Bounds) (x i : ℕ) (key value : List ℕ) → (page_meaning b).check (Put x i key value) ([] ∷ []) ≡ (page_meaning b).check (Put x i key value) (page_of 0 [] ∷ [])
  pub empty_effect : (b : Bounds) (x i : ℕ) (key value : List ℕ) → (page_meaning b).effect (Put x i key value) ([] ∷ []) ≡ (page_meaning b).effect (Put x i key value) (page_of 0 [] ∷ [])

-- the bytes of a leaf that is made, or why it is not
abbrev leaf_made : ℕ → Bool → List Cell → Result (List ℕ) Refusal
leaf_made cap places cells = where_fits cap (code_of (where_places places (with_cells 0 cells)))

made_tells : (cap : ℕ) (places : Bool) (cells : List Cell) → result_err (leaf_made cap places cells) ≡ None → (leaf_made cap places cells ≡ Ok (page_of 0 cells)) × (length (page_of 0 cells) < 65536)
made_tells cap false cells none = cc
made_tells cap true cells none =
    let fits = fits_tell cap (page_of 0 cells) none in
    (ap (λ (t : Bool). if t then Ok (page_of 0 cells) else Err TooLarge) fits, ltb-true (length (page_of 0 cells)) 65536 (both_true (nat_le (length (page_of 0 cells)) cap) (nat_lt (length (page_of 0 cells)) 65536) fits).1)

abbrev empty_fits : ℕ → Bool
empty_fits i =
    nat_le 4 (place_of (page_of 0 []) i) && (nat_le (place_of (page_of 0 []) (suc i)) (places_at (page_of 0 [])) && has_key (cell_bytes (page_of 0 []) i))

-- a leaf whose places are right is refused as too large alone
only_long : (cap : ℕ) (places : Bool) (cells : List Cell) → IsTrue places → (r : Refusal) → result_err (leaf_made cap places cells) ≡ Some r → r ≡ TooLarge
only_long cap false cells right r e = cc
only_long cap true cells right r e =
    elim (nat_le (length (page_of 0 cells)) cap && nat_lt (length (page_of 0 cells)) 65536) as (λ t. result_err (if t then Ok (page_of 0 cells) else Err TooLarge) ≡ Some r → r ≡ TooLarge) [
      | true ↦ λ e. cc
      | false ↦ λ e. sym (same_some TooLarge r e)
    ] e

-- no key stands in an empty page
none_in_empty : (i : ℕ) (key : List ℕ) → stands_at (page_of 0 []) i key ≡ false
none_in_empty i key = ap (λ (t : Bool). (t && empty_fits i) && is_eq (byte_order (key_of (page_of 0 []) i) key)) (le-ltb i 0 (omega arith))

module _ (searches : Searches) (changes : Changes) (lo hi : ℕ) (small : hi < 2 ^ 32) (b : Bounds) (s : State) (key : List ℕ) (is : IsMap lo hi s) where
  abbrev pub here : IsLeafFor searches lo hi small s key is.level all_keys is.tree
  here = map_leaf searches lo hi small s key is

  abbrev pub object : ℕ
  object = here.leaf.object

  abbrev pub past : List Cell
  past = here.leaf.past

  abbrev pub whole : List Cell
  whole = here.leaf.cells ++ past

  abbrev page : Page
  page = record { level = 0; cells = whole }

  abbrev pub bytes : List ℕ
  bytes = bytes_at lo s object

  abbrev pub place : ℕ
  place = place_for key whole

  -- what comes in is as short as the other pairs
  abbrev pub new_short : ℕ → Option (List ℕ) → Bool
  new_short room None = true
  new_short room (Some value) = is_short_pair room (key, value)

  abbrev pub IsDone : Option (List ℕ) → PageOp → Type 0
  IsDone v op =
      (kept : IsMap lo hi (after (page_meaning b) s op)) × ((q : List ℕ) → get (content_of kept) q ≡ (if eq_by_cmp byte_order q key then v else get (content_of is) q))
      × ((room : ℕ) → IsTrue (new_short room v) → AreShortPairs room is.level is.tree → AreShortPairs room kept.level kept.tree)
      × (kept.level ≡ is.level) × (NoneIsEmpty is.level is.tree → Needs key 2 kept.level kept.tree)
      × (IsTrue (is_some v) → Needs key 2 is.level is.tree → HasCells kept.level kept.tree)

  abbrev pub set_op : Bool → List ℕ → PageOp
  set_op there value = if there then Set object place value else Put object place key value

  key_ends : IsTrue (is_below key here.leaf_span.to)
  key_ends = (within_parts here.leaf_span key here.within).1

  -- the map where the leaf has other cells
  changed : (op : PageOp) (cells : List Cell) (v : Option (List ℕ)) → after (page_meaning b) s op ≡ with_values s (object ∷ []) (page_of 0 (cells ++ past) ∷ [])
      → AreShort (cells ++ past) → T (is_sorted byte_order (cells ++ past)) → IsTrue (all_within here.leaf_span cells) → IsUpdate key v here.leaf.cells cells
      → ((room : ℕ) → IsTrue (new_short room v) → IsTrue (list_all (is_short_pair room) here.leaf.cells) → IsTrue (list_all (is_short_pair room) cells)) → (IsTrue (is_some v) → 0 < length cells) → IsDone v op
  changed op cells v written short rise within update shorts some =
      let new : State = after (page_meaning b) s op in
      let value : List ℕ = page_of 0 (cells ++ past) in
      let there : new object ≡ value = ap (λ (t : State). t object) written ∙ written_there s object value in
      let held : bytes_at lo new object ≡ value =
      ap (λ (v : List ℕ). if object == lo then to_fill v else v) there ∙ elim (object == lo) as (λ t. (if t then to_fill value else value) ≡ value) [ true ↦ refl | false ↦ refl ] in
      let same : (y : ℕ) → y ≢ object → bytes_at lo new y ≡ bytes_at lo s y =
      λ y apart. ap (λ (v : List ℕ). if y == lo then to_fill v else v) (ap (λ (t : State). t y) written ∙ written_else s object y value apart) in
      let again = here.again is.once cells within new same (record { code = held; short = short; rise = rise }) in
      let kept : IsMap lo hi new = record {
        order = is.order;
        level = is.level;
        tree = again.tree;
        root = again.root ∙ is.root;
        holds = again.holds;
        stand = again.stand;
        once = λ y. omega (arith, ap (λ (l : List ℕ). times y l) again.objects, is.once y);
      } in (
        kept,
        λ q.
            get-from_entries nat_list_cmp_total (pairs_in is.level again.tree) q ∙ ap (find byte_order q) again.pairs_are
            ∙ changed_inside key v here.before here.after here.leaf.cells cells here.none_before here.none_after update q
            ∙ ap (λ (o : Option (List ℕ)). if eq_by_cmp byte_order q key then v else o) (sym (get-from_entries nat_list_cmp_total (pairs_in is.level is.tree) q ∙ ap (find byte_order q) here.split)),
        λ room new all. again.short room (shorts room new (here.short_there room all)) all,
        refl,
        again.needs,
        λ there. again.full (some there),
      )

  -- an operation that makes a leaf of other cells, where it is accepted
  applied : (op : PageOp) (places : Bool) (target cells : List Cell) (v : Option (List ℕ)) → (page_meaning b).check op (read_values (page_meaning b) s op) ≡ result_err (leaf_made b.cap places target)
      → after (page_meaning b) s op ≡ with_values s (object ∷ []) (written_on (leaf_made b.cap places target) ∷ []) → target ≡ cells ++ past → T (is_sorted byte_order (cells ++ past))
      → IsTrue (all_within here.leaf_span cells) → IsUpdate key v here.leaf.cells cells
      → ((room : ℕ) → IsTrue (new_short room v) → IsTrue (list_all (is_short_pair room) here.leaf.cells) → IsTrue (list_all (is_short_pair room) cells)) → (IsTrue (is_some v) → 0 < length cells) → Accepts (page_meaning b) s op → IsDone v op
  applied op places target cells v check effect is_target rise within update shorts some accepted =
      let made = made_tells b.cap places target (sym check ∙ no_check ((page_meaning b).shape op) ((page_meaning b).check op (read_values (page_meaning b) s op)) accepted) in
      let short : AreShort target = changes.short (record { level = 0; cells = target }) made.1 in
      changed op cells v
      (effect ∙ ap (λ (r : Result (List ℕ) Refusal). with_values s (object ∷ []) (written_on r ∷ [])) made.0 ∙ ap (λ (l : List Cell). with_values s (object ∷ []) (page_of 0 l ∷ [])) is_target)
      (subst (λ (l : List Cell). AreShort l) is_target short) rise within update shorts some

  pages_short : All IsShortPage (page ∷ [])
  pages_short = All-cons IsShortPage page [] here.held.short (All-nil IsShortPage)

  pub stands : stands_at bytes place key ≡ has key whole
  stands = ap (λ (b : List ℕ). stands_at b place key) here.held.code ∙ changes.there page key here.held.short here.held.rise

  pub found_place : seek bytes key ≡ Some place
  found_place = ap (λ (b : List ℕ). seek b key) here.held.code ∙ changes.place page key here.held.short here.held.rise

  -- what is read: where the key is there, the object is not empty
  pub read_there : has key whole ≡ true → s object ≡ page_of 0 whole
  read_there there = elim (read_as lo s object) [
    | inl same ↦ same ∙ here.held.code
    | inr none ↦ absurd (true≢false (sym there ∙ sym stands ∙ ap (λ (b : List ℕ). stands_at b place key) none.1 ∙ none_in_empty place key))
  ]

  read_for_put : {A : Type 0} (F : List (List ℕ) → A) → F ([] ∷ []) ≡ F (page_of 0 [] ∷ []) → F (s object ∷ []) ≡ F (page_of 0 whole ∷ [])
  read_for_put F empty = elim (read_as lo s object) [
    | inl same ↦ ap (λ (v : List ℕ). F (v ∷ [])) (same ∙ here.held.code)
    | inr none ↦ ap (λ (v : List ℕ). F (v ∷ [])) none.0 ∙ empty ∙ ap (λ (v : List ℕ). F (v ∷ [])) (sym none.1 ∙ here.held.code)
  ]

  put_rises : (value : List ℕ) → put byte_order key value whole ≡ put byte_order key value here.leaf.cells ++ past
  put_rises value = put_front key value here.leaf_span here.leaf.cells past key_ends here.past_too

  sorted_put : (value : List ℕ) → T (is_sorted byte_order (put byte_order key value here.leaf.cells ++ past))
  sorted_put value = subst (λ (l : List Cell). T (is_sorted byte_order l)) (put_rises value) (is_sorted-put byte_order nat_list_cmp_total key value whole here.held.rise)

  -- ---- what is refused

  -- the operation names the leaf alone, and fits its code
  shaped : (op : PageOp) → Admits b hi → objects_of op ≡ object ∷ [] → IsTrue (fits_code op) → (page_meaning b).shape op ≡ None
  shaped op admits one fits =
      let low : object < b.objects = omega (arith, admits.objects, here.in_range (omega (arith, is.root, is.order))) in
      ap (λ (t : Bool). if t then named b.objects (objects_of op) (fits_code op) else Some NoPages) admits.more
      ∙ ap (λ (l : List ℕ). named b.objects l (fits_code op)) one
      ∙ named_by b.objects (object ∷ []) (fits_code op) (true_both (nat_lt object b.objects) true (lt-ltb object b.objects low) refl) refl fits

  only_too_large : (op : PageOp) (places : Bool) (target : List Cell) → (page_meaning b).shape op ≡ None
      → (page_meaning b).check op (read_values (page_meaning b) s op) ≡ result_err (leaf_made b.cap places target) → IsTrue places
      → (r : Refusal) → refusal_of (page_meaning b) s op ≡ Some r → r ≡ TooLarge
  only_too_large op places target shape check right r e =
      only_long b.cap places target right r
      (sym check ∙ ap (λ (o : Option Refusal). or_else o ((page_meaning b).check op (read_values (page_meaning b) s op))) (sym shape) ∙ e)

  object_fits : Admits b hi → IsTrue (nat_lt object (256 ^ 4))
  object_fits admits = lt-ltb object (256 ^ 4) (omega (arith, small, here.in_range (omega (arith, is.root, is.order))))

  place_fits : IsTrue (nat_lt place (256 ^ 2))
  place_fits = lt-ltb place (256 ^ 2) (omega (arith, place_most key whole, here.held.short))

  text_fits : (bytes : List ℕ) → length bytes < 65536 → IsTrue (nat_lt (length bytes) 65536)
  text_fits bytes short = lt-ltb (length bytes) 65536 short

  set_check : (value : List ℕ) → has key whole ≡ true → (page_meaning b).check (Set object place value) (s object ∷ [])
      ≡ result_err (leaf_made b.cap (nat_lt place (length whole)) (replaced place 1 ((key_at whole place, value) ∷ []) whole))
  set_check value there =
      ap (λ (v : List ℕ). (page_meaning b).check (Set object place value) (v ∷ [])) (read_there there) ∙ changes.check b (Set object place value) (page ∷ []) pages_short refl

  put_check : (value : List ℕ) → (page_meaning b).check (Put object place key value) (s object ∷ [])
      ≡ result_err (leaf_made b.cap (may_stand whole place key) (replaced place 0 ((key, value) ∷ []) whole))
  put_check value =
      read_for_put ((page_meaning b).check (Put object place key value)) (changes.empty_check b object place key value) ∙ changes.check b (Put object place key value) (page ∷ []) pages_short refl

  delete_check : has key whole ≡ true → (page_meaning b).check (Delete object place) (s object ∷ []) ≡ result_err (leaf_made b.cap (nat_lt place (length whole)) (replaced place 1 [] whole))
  delete_check there =
      ap (λ (v : List ℕ). (page_meaning b).check (Delete object place) (v ∷ [])) (read_there there) ∙ changes.check b (Delete object place) (page ∷ []) pages_short refl

  set_shape : (value : List ℕ) → length value < 65536 → Admits b hi → (page_meaning b).shape (Set object place value) ≡ None
  set_shape value short admits =
      shaped (Set object place value) admits refl
      (true_both (nat_lt object (256 ^ 4)) (nat_lt place (256 ^ 2) && nat_lt (length value) 65536) (object_fits admits)
      (true_both (nat_lt place (256 ^ 2)) (nat_lt (length value) 65536) place_fits (text_fits value short)))

  set_refused : (value : List ℕ) → has key whole ≡ true → length value < 65536 → OnlyTooLarge b lo hi s is (Set object place value)
  set_refused value there short admits =
      only_too_large (Set object place value) (nat_lt place (length whole)) (replaced place 1 ((key_at whole place, value) ∷ []) whole) (set_shape value short admits)
      (set_check value there) (lt-ltb place (length whole) (place_in key whole there))

  put_shape : (value : List ℕ) → length key < 65536 → length value < 65536 → Admits b hi → (page_meaning b).shape (Put object place key value) ≡ None
  put_shape value short also admits =
      shaped (Put object place key value) admits refl
      (true_both (nat_lt object (256 ^ 4)) (nat_lt place (256 ^ 2) && (nat_lt (length key) 65536 && nat_lt (length value) 65536)) (object_fits admits)
      (true_both (nat_lt place (256 ^ 2)) (nat_lt (length key) 65536 && nat_lt (length value) 65536) place_fits
      (true_both (nat_lt (length key) 65536) (nat_lt (length value) 65536) (text_fits key short) (text_fits value also))))

  put_refused : (value : List ℕ) → has key whole ≡ false → length key < 65536 → length value < 65536 → OnlyTooLarge b lo hi s is (Put object place key value)
  put_refused value none short also admits =
      only_too_large (Put object place key value) (may_stand whole place key) (replaced place 0 ((key, value) ∷ []) whole) (put_shape value short also admits)
      (put_check value) (changes.goes key whole here.held.rise none)

  delete_shape : Admits b hi → (page_meaning b).shape (Delete object place) ≡ None
  delete_shape admits = shaped (Delete object place) admits refl (true_both (nat_lt object (256 ^ 4)) (nat_lt place (256 ^ 2)) (object_fits admits) place_fits)

  delete_refused : has key whole ≡ true → OnlyTooLarge b lo hi s is (Delete object place)
  delete_refused there admits =
      only_too_large (Delete object place) (nat_lt place (length whole)) (replaced place 1 [] whole) (delete_shape admits) (delete_check there) (lt-ltb place (length whole) (place_in key whole there))

  -- where the changed leaf fits, the command is accepted
  made_fits : (op : PageOp) (places : Bool) (target made : List Cell) → (page_meaning b).shape op ≡ None
      → (page_meaning b).check op (read_values (page_meaning b) s op) ≡ result_err (leaf_made b.cap places target) → IsTrue places → target ≡ made
      → IsTrue (nat_le (length (page_of 0 made)) b.cap && nat_lt (length (page_of 0 made)) 65536) → Accepts (page_meaning b) s op
  made_fits op places target made shape check right same fits =
      ap (λ (o : Option Refusal). or_else o ((page_meaning b).check op (read_values (page_meaning b) s op))) shape ∙ check
      ∙ (λ k. result_err (where_fits b.cap (code_of (where_places (right k) (with_cells 0 (same k))))))
      ∙ ap (λ (t : Bool). result_err (if t then Ok (page_of 0 made) else Err TooLarge)) fits

  pub set_fits : (value : List ℕ) → Admits b hi → length key < 65536 → length value < 65536
      → IsTrue (nat_le (length (page_of 0 (put byte_order key value whole))) b.cap && nat_lt (length (page_of 0 (put byte_order key value whole))) 65536)
      → Accepts (page_meaning b) s (set_op (has key whole) value)
  set_fits value admits short also fits =
      elim (has key whole) as (λ t. has key whole ≡ t → Accepts (page_meaning b) s (set_op t value)) [
        | true ↦ λ there.
            made_fits (Set object place value) (nat_lt place (length whole)) (replaced place 1 ((key_at whole place, value) ∷ []) whole) (put byte_order key value whole) (set_shape value also admits) (set_check value there)
            (lt-ltb place (length whole) (place_in key whole there)) (changes.set key value whole here.held.rise there) fits
        | false ↦ λ none.
            made_fits (Put object place key value) (may_stand whole place key) (replaced place 0 ((key, value) ∷ []) whole) (put byte_order key value whole) (put_shape value short also admits) (put_check value)
            (changes.goes key whole here.held.rise none) (changes.put_new key value whole here.held.rise none) fits
      ] refl

  pub delete_fits : Admits b hi → has key whole ≡ true → IsTrue (nat_le (length (page_of 0 (without key whole))) b.cap && nat_lt (length (page_of 0 (without key whole))) 65536)
      → Accepts (page_meaning b) s (Delete object place)
  delete_fits admits there fits =
      made_fits (Delete object place) (nat_lt place (length whole)) (replaced place 1 [] whole) (without key whole) (delete_shape admits) (delete_check there) (lt-ltb place (length whole) (place_in key whole there))
      (changes.delete key whole here.held.rise there) fits

  -- ---- what is made

  set_done : (value : List ℕ) → has key whole ≡ true → Accepts (page_meaning b) s (Set object place value) → IsDone (Some value) (Set object place value)
  set_done value there accepted =
      let op : PageOp = Set object place value in
      let values : ◌≡◌ {A = List (List ℕ)} (s object ∷ []) (page_of 0 whole ∷ []) = ap (λ (v : List ℕ). v ∷ []) (read_there there) in
      applied op (nat_lt place (length whole)) (replaced place 1 ((key_at whole place, value) ∷ []) whole) (put byte_order key value here.leaf.cells) (Some value)
      (set_check value there)
      (ap (with_values s (object ∷ [])) (ap ((page_meaning b).effect op) values ∙ changes.effect b op (page ∷ []) pages_short refl))
      (changes.set key value whole here.held.rise there ∙ put_rises value) (sorted_put value)
      (all_put (λ c. is_within here.leaf_span c.0) key value here.leaf.cells here.within here.stands) (put_updates key value here.leaf.cells)
      (λ room new all. all_put (is_short_pair room) key value here.leaf.cells new all) (λ there. put_some key value here.leaf.cells) accepted

  put_done : (value : List ℕ) → has key whole ≡ false → Accepts (page_meaning b) s (Put object place key value) → IsDone (Some value) (Put object place key value)
  put_done value none accepted =
      let op : PageOp = Put object place key value in
      applied op (may_stand whole place key) (replaced place 0 ((key, value) ∷ []) whole) (put byte_order key value here.leaf.cells) (Some value)
      (put_check value)
      (ap (with_values s (object ∷ [])) (read_for_put ((page_meaning b).effect op) (changes.empty_effect b object place key value) ∙ changes.effect b op (page ∷ []) pages_short refl))
      (changes.put_new key value whole here.held.rise none ∙ put_rises value) (sorted_put value)
      (all_put (λ c. is_within here.leaf_span c.0) key value here.leaf.cells here.within here.stands) (put_updates key value here.leaf.cells)
      (λ room new all. all_put (is_short_pair room) key value here.leaf.cells new all) (λ there. put_some key value here.leaf.cells) accepted

  pub set_is_done : (value : List ℕ) → Accepts (page_meaning b) s (set_op (has key whole) value) → IsDone (Some value) (set_op (has key whole) value)
  set_is_done value =
      elim (has key whole) as (λ t. has key whole ≡ t → Accepts (page_meaning b) s (set_op t value) → IsDone (Some value) (set_op t value)) [
        | true ↦ λ there accepted. set_done value there accepted
        | false ↦ λ none accepted. put_done value none accepted
      ] refl

  pub set_content : (value : List ℕ) (op : PageOp) (done : IsDone (Some value) op) → content_of done.0 ≡ insert (content_of is) key value
  set_content value op done = same_map nat_list_cmp_total same_key _ _ (λ q. done.1 q ∙ sym (get-insert nat_list_cmp_total (content_of is) key value q))

  pub set_command_is : (value : List ℕ) → set_command lo hi s key value ≡ Ok (set_op (has key whole) value)
  set_command_is value =
      ap (at_leaf (λ x. set_in x (bytes_at lo s x) key value)) (walk_is searches lo hi small s key is)
      ∙ ap (at_place (set_at object bytes key value) object) found_place ∙ ap (λ (t : Bool). Ok (set_op t value)) stands

  pub set_makes : (value : List ℕ) → SetMakes b lo hi s is key value
  set_makes value = record {
    op = set_op (has key whole) value;
    command = set_command_is value;
    makes = λ accepted.
        let done = set_is_done value accepted in
        record { kept = done.0; content = set_content value (set_op (has key whole) value) done };
    causes = λ short also.
        elim (has key whole) as (λ t. has key whole ≡ t → OnlyTooLarge b lo hi s is (set_op t value)) [
          | true ↦ λ there. set_refused value there also
          | false ↦ λ none. put_refused value none short also
        ] refl;
  }

  out_of_whole : without key whole ≡ without key here.leaf.cells ++ past
  out_of_whole = out_front key here.leaf_span here.leaf.cells past key_ends here.past_too

  pub delete_done : has key whole ≡ true → Accepts (page_meaning b) s (Delete object place) → IsDone None (Delete object place)
  delete_done there accepted =
      let op : PageOp = Delete object place in
      let values : ◌≡◌ {A = List (List ℕ)} (s object ∷ []) (page_of 0 whole ∷ []) = ap (λ (v : List ℕ). v ∷ []) (read_there there) in
      applied op (nat_lt place (length whole)) (replaced place 1 [] whole) (without key here.leaf.cells) None
      (delete_check there)
      (ap (with_values s (object ∷ [])) (ap ((page_meaning b).effect op) values ∙ changes.effect b op (page ∷ []) pages_short refl))
      (changes.delete key whole here.held.rise there ∙ out_of_whole)
      (subst (λ (l : List Cell). T (is_sorted byte_order l)) out_of_whole (is_sorted-where_key byte_order (λ x. not (eq_by_cmp byte_order key x)) whole here.held.rise))
      (all_out (λ c. is_within here.leaf_span c.0) key here.leaf.cells here.stands) (delete_updates key here.leaf.cells) (λ room new all. all_out (is_short_pair room) key here.leaf.cells all) (λ none. cc) accepted

  -- the map has the key where the leaf has it
  pub has_too : is_some (get (content_of is) key) ≡ has key whole
  has_too = ap (λ (o : Option (List ℕ)). is_some o) (leaf_tells searches lo hi small s key is)

  pub delete_content : (done : IsDone None (Delete object place)) → content_of done.0 ≡ remove (content_of is) key
  delete_content done = same_map nat_list_cmp_total same_key _ _ (λ q. done.1 q ∙ sym (get-remove nat_list_cmp_total (content_of is) key q))

  pub delete_command_is : delete_command lo hi s key ≡ Ok (if is_some (get (content_of is) key) then Some (Delete object place) else None)
  delete_command_is =
      ap (at_leaf (λ x. delete_in x (bytes_at lo s x) key)) (walk_is searches lo hi small s key is)
      ∙ ap (at_place (delete_at object bytes key) object) found_place ∙ ap (λ (t : Bool). Ok (if t then Some (Delete object place) else None)) (stands ∙ sym has_too)

  pub delete_makes : DeleteMakes b lo hi s is key
  delete_makes = record {
    op = Delete object place;
    command = delete_command_is;
    makes = λ there accepted.
        let done = delete_done (sym has_too ∙ there) accepted in
        record { kept = done.0; content = delete_content done };
    causes = λ there. delete_refused (sym has_too ∙ there);
  }

-- an object that is not reached may be written
pub out_of_reach : (b : Bounds) (lo hi : ℕ) (s : State) (op : PageOp) (is : IsMap lo hi s) → times (written_by op) (objects_in is.level is.tree) ≡ 0
    → (kept : IsMap lo hi (after (page_meaning b) s op)) × (content_of kept ≡ content_of is)
out_of_reach b lo hi s op is none =
    let x : ℕ = written_by op in
    let new : State = after (page_meaning b) s op in
    let value : List ℕ = value_made (where_short b.cap (made_by op (read_values (page_meaning b) s op))) in
    let same : (y : ℕ) → y ≢ x → bytes_at lo new y ≡ bytes_at lo s y = λ y apart. ap (λ (v : List ℕ). if y == lo then to_fill v else v) (written_else s x y value apart) in
    let kept : IsMap lo hi new = record {
      order = is.order;
      level = is.level;
      tree = is.tree;
      root = is.root;
      holds = moved lo hi s new x same is.level is.tree none is.holds;
      stand = is.stand;
      once = is.once;
    } in
    (kept, refl)
