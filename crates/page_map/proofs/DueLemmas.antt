-- Which page is cut first: it can be cut, and the page above it has room for the name of the new one.
use Rattle.std.proofs.Common.{◌≡◌, ℕ, zero, suc, ◌+◌, ◌-◌, ◌*◌, ◌/◌, ◌^◌, ◌<◌, ◌≤◌, ◌==◌, Bool, true, false, ◌&&◌, if◌then◌else◌, Some, Ok, Err, Result, List, [], ◌∷◌, ◌++◌, T, map, length, take, drop, Less, is_lt, refl, sym, ap, ◌∙◌, subst, arith, option_map, length-append, length-drop, length-take-le, slice_index_or}
use Rattle.std.specs.Prelude.{IsTrue, is_none, nat_lt, nat_le}
use Rattle.std.specs.List.{list_all}
use Rattle.std.specs.Cmp.Lexicographic.{nat_list_cmp_total}
use Rattle.std.specs.FinMap.Entries.{put, is_sorted, is_sorted-put}
use Rattle.std.proofs.lemmas.List.{append-nil, length-map}
use Rattle.std.proofs.lemmas.Bool.{eqb-true, leb-true, leb-false, le-leb, ltb-false}
use Rattle.oper_core.specs.LittleEndian.{length-little_bytes}
use Rattle.oper_core.specs.State.{State}
use Rattle.key_entries.specs.Entries.{byte_order}
use Rattle.key_entries.specs.EntryLaws.{both_true, true_both}
use Rattle.page_ops.specs.Page.{Cell}
use Rattle.page_ops.specs.Reading.{under}
use Rattle.page_ops.specs.Seen.{child_cell}
use Rattle.page_ops.specs.OnCells.{key_at}
use Rattle.page_ops.specs.Search.{last_under, place_for}
use Rattle.page_map.specs.Map.{Span, is_below, is_within, Tree, Leaf, root_of, pairs_in, cells_in, IsHeld, bytes_at, Holds, all_within, Share, StandIn}
use Rattle.page_map.specs.Walk.{child_for, on_from, walk_from}
use Rattle.page_map.specs.Splits.{Split, Due, fits, asks, granted, ask_above, cell_size, cells_read, cut_at, due_from, due_in_leaf, front_of, has_room, inner_split, key_before, leaf_key, leaf_split, middle, size_of}
use Rattle.page_map.specs.Sets.{AreShortPairs, is_short_key, is_short_pair}
use Rattle.page_map.proofs.MapLemmas.{Searches, within_parts, IsAt, each_at, span_of, child_found, child_named, on_level, pairs_within}
use Rattle.page_map.proofs.CutLemmas.{ReadsCells, all_at, all_sizes, all_weaker, cut_inside, front_is, last_two, middle_inside, middle_is, next_above, page_size, pair_size, size_at, size_put, size_taken, separator_above, separator_reached, separator_short, three_there}
use Rattle.page_map.proofs.CellLemmas.{place_inside, put_here}
use Rattle.page_map.proofs.ChangeLemmas.{all_put, put_some}
use Rattle.page_map.proofs.TreeLemmas.{HoldsChild, IsCut, live_in, past_in, whole_is, leaf_cut, inner_cut}
use Rattle.page_map.proofs.TwoLemmas.{at_inside}
use Rattle.page_map.proofs.HalfLemmas.{place_is, place_kept, place_stays, put_high, put_low}
use Rattle.page_map.proofs.WayLemmas.{above_from, due_down, ends_with, from_below, page_cells}
use Rattle.page_map.proofs.PlaceLemmas.{IsPlace, place_here, place_below}

-- ---- keys and spans

module _ {Child : Type 0} (In : Span → Child → Type 0) (root : Child → ℕ) where
  abbrev cells_of : List (List ℕ × Child) → List Cell
  cells_of children = map (λ c. child_cell c.0 (root c.1)) children

  keys_live : (test : List ℕ → Bool) (children : List (List ℕ × Child)) → IsTrue (list_all (λ c. test c.0) children) → IsTrue (list_all (λ c. test c.0) (cells_of children))
  keys_live test [] all = refl
  keys_live test (c ∷ children) all =
      let parts = both_true (test c.0) (list_all (λ c. test c.0) children) all in
      true_both (test c.0) (list_all (λ c. test c.0) (cells_of children)) parts.0 (keys_live test children parts.1)

  sizes_live : (room : ℕ) (children : List (List ℕ × Child)) → IsTrue (list_all (λ c. is_short_key room c.0) children) → IsTrue (all_sizes (room / 8) (cells_of children))
  sizes_live room [] all = refl
  sizes_live room (c ∷ children) all =
      let parts = both_true (is_short_key room c.0) (list_all (λ c. is_short_key room c.0) children) all in
      let cell : Cell = child_cell c.0 (root c.1) in
      let low : 8 * (length c.0 + 8) ≤ room = leb-true (8 * (length c.0 + 8)) room parts.0 in
      true_both (nat_le (cell_size cell) (room / 8)) (all_sizes (room / 8) (cells_of children))
      (le-leb (cell_size cell) (room / 8) (omega (arith, low, pair_size cell, length-little_bytes 4 (root c.1)))) (sizes_live room children parts.1)

-- ---- what a page asks for

nothing : (l : List Cell) → length l ≤ 0 → l ≡ []
nothing [] e = refl
nothing (c ∷ l) e = absurd (omega (arith, e))

-- where no more cells stand than those that count, none is past the span
pub none_past : (level : ℕ) (t : Tree level) → nat_lt (length (live_in level t)) (length (cells_in level t)) ≡ false → past_in level t ≡ []
none_past level t e =
    nothing (past_in level t)
    (omega (arith, ltb-false (length (live_in level t)) (length (cells_in level t)) e, ap (λ (l : List Cell). length l) (whole_is level t), length-append (live_in level t) (past_in level t)))

-- where the pair is not alone others are there
others_there : (key value : List ℕ) (cells : List Cell) (m : ℕ) → 0 < m → m < length (put byte_order key value cells) → 0 < length cells
others_there key value [] m some inside = absurd (omega (arith, some, inside))
others_there key value (c ∷ cells) m some inside = omega arith

-- a place parts cells, and a page has room for each part
record IsParted (room : ℕ) (cells : List Cell) (m : ℕ) : Type 0 where
  some : 0 < m
  inside : m < length cells
  before : 4 + size_of (take m cells) ≤ room
  behind : 4 + size_of (drop m cells) ≤ room

shorter_key : (room : ℕ) (key other : List ℕ) → length key ≤ length other → IsTrue (is_short_key room other) → IsTrue (is_short_key room key)
shorter_key room key other less short = le-leb (8 * (length key + 8)) room (omega (arith, less, leb-true (8 * (length other + 8)) room short))

module _ (lo hi : ℕ) (s : State) (room : ℕ) (key value : List ℕ) where
  -- the child of the key asks, and there is no room for the name
  pub record IsPassed (level : ℕ) (span : Span) (t : Tree (suc level)) : Type 0 where
    pub place : ℕ
    pub child : Tree level
    pub at : IsAt place child t.children
    pub under : last_under key (cells_in (suc level) t) ≡ Some place
    pub within : IsTrue (is_within (span_of span t.children place) key)
    pub split : Split
    pub comes : due_from room lo s key value level (root_of level child) (span_of span t.children place).to ≡ Some (asks split)
    pub key_short : IsTrue (is_short_key room split.key)
    pub level_is : split.level ≡ level

  -- why a page asks: it is a leaf without room for the pair, or a child of it asks
  abbrev pub Why : (level : ℕ) → Span → Tree level → Type 0
  Why zero span t = room < 4 + size_of (put byte_order key value (cells_in 0 t))
  Why (suc level) span t = IsPassed level span t

  -- each half of an inner page has room for one more name
  pub record AreHalves (l : ℕ) (t : Tree (suc l)) (w : Split) : Type 0 where
    pub key_is : w.key ≡ key_at (live_in (suc l) t) w.place
    pub inside : w.place < length (live_in (suc l) t)
    pub first : 4 + size_of (take w.place (live_in (suc l) t)) + room / 8 ≤ room
    pub last : 4 + size_of (drop w.place (live_in (suc l) t)) + room / 8 ≤ room

  -- the half of a leaf that the key goes to has room for the pair, and the other one has cells
  abbrev pub Halves : (level : ℕ) → Tree level → Split → Type 0
  Halves zero t w =
      (is_lt (byte_order key w.key) ≡ true → 4 + size_of (put byte_order key value (take w.place t.cells)) ≤ room)
      × (is_lt (byte_order key w.key) ≡ false → 4 + size_of (put byte_order key value (drop w.place t.cells)) ≤ room)
      × (is_lt (byte_order key w.key) ≡ true → 0 < length (drop w.place t.cells)) × (is_lt (byte_order key w.key) ≡ false → 0 < length (take w.place t.cells))
  Halves (suc l) t w = AreHalves l t w

  -- the key of a cut, by the cells that count
  abbrev pub name_of : (level : ℕ) → Span → Tree level → List ℕ
  name_of zero span t = leaf_key span.to key value t.cells
  name_of (suc level) span t = key_at (live_in (suc level) t) (middle (live_in (suc level) t))

  pub record IsAsked (level : ℕ) (span : Span) (t : Tree level) (w : Split) : Type 0 where
    pub object : w.object ≡ root_of level t
    pub level_is : w.level ≡ level
    pub count : w.count ≡ length (live_in level t)
    pub past_is : w.has_past ≡ nat_lt (length (live_in level t)) (length (cells_in level t))
    pub key_short : IsTrue (is_short_key room w.key)
    pub cut : w.has_past ≡ false → IsCut level span t w.place w.key
    pub some : w.has_past ≡ false → 0 < length (live_in level t)
    pub why : Why level span t
    pub halves : w.has_past ≡ false → Halves level t w
    pub name_is : w.key ≡ name_of level span t

module _ (lo hi : ℕ) (s : State) (room : ℕ) (key value : List ℕ) (pair : IsTrue (is_short_pair room (key, value))) where
  key_part : IsTrue (is_short_key room key)
  key_part = (both_true (is_short_key room key) (nat_le (4 * length value) room) pair).0

  roomy : 64 ≤ room
  roomy = omega (arith, leb-true (8 * (length key + 8)) room key_part)

  -- a leaf
  module _ (span : Span) (t : Leaf) (within : IsTrue (all_within span t.cells)) (inside : IsTrue (is_within span key)) (rise : T (is_sorted byte_order (t.cells ++ t.past)))
      (short : IsTrue (list_all (is_short_pair room) t.cells)) (full : room < 4 + size_of (put byte_order key value (t.cells ++ t.past)))
      (fit : 4 + size_of (t.cells ++ t.past) ≤ room) where
    abbrev want : List Cell
    want = put byte_order key value t.cells

    abbrev pair_at : ℕ
    pair_at = place_for key t.cells

    abbrev m : ℕ
    m = cut_at span.to pair_at want

    abbrev cut_key : List ℕ
    cut_key = key_before want m

    m_inside : m < length want
    m_inside = cut_inside span.to pair_at want (put_some key value t.cells)

    pairs_short : IsTrue (list_all (is_short_pair room) want)
    pairs_short = all_put (is_short_pair room) key value t.cells pair short

    keys_short : IsTrue (list_all (λ c. is_short_key room c.0) want)
    keys_short = all_weaker (is_short_pair room) (λ c. is_short_key room c.0) (λ c e. (both_true (is_short_key room c.0) (nat_le (4 * length c.1) room) e).0) want pairs_short

    sizes : IsTrue (all_sizes (3 * room / 8) want)
    sizes =
        all_weaker (is_short_pair room) (λ c. nat_le (cell_size c) (3 * room / 8))
        (λ c e.
        let parts = both_true (is_short_key room c.0) (nat_le (4 * length c.1) room) e in
        le-leb (cell_size c) (3 * room / 8) (omega (arith, leb-true (8 * (length c.0 + 8)) room parts.0, leb-true (4 * length c.1) room parts.1, pair_size c))) want pairs_short

    -- the place of the cut parts the cells, and both parts fit
    parted : t.past ≡ [] → IsParted room want m
    parted none =
        let alone : t.cells ++ t.past ≡ t.cells = ap (λ (l : List Cell). t.cells ++ l) none ∙ append-nil t.cells in
        let more : room < 4 + size_of want = omega (arith, full, ap (λ (l : List Cell). size_of (put byte_order key value l)) alone) in
        let all : size_of want ≤ size_of t.cells + cell_size (key, value) = size_put key value t.cells in
        let pair_parts = both_true (is_short_key room key) (nat_le (4 * length value) room) pair in
        let one : 8 * (length key + 8) ≤ room = leb-true (8 * (length key + 8)) room pair_parts.0 in
        let two : 4 * length value ≤ room = leb-true (4 * length value) room pair_parts.1 in
        let fits : 4 + size_of t.cells ≤ room = omega (arith, fit, ap size_of alone) in
        elim (is_none span.to && (suc pair_at == length want)) as (λ b. (is_none span.to && (suc pair_at == length want)) ≡ b → IsParted room want (if b then pair_at - 1 else middle want)) [
          | true ↦ λ e.
              let last : suc pair_at ≡ length want = eqb-true (suc pair_at) (length want) (both_true (is_none span.to) (suc pair_at == length want) e).1 in
              let three : 2 < length want = three_there (3 * room / 8) want sizes (omega (arith, more, roomy)) in
              let j : ℕ = pair_at - 1 in
              let next : suc j ≡ pair_at = omega (arith, last, three) in
              let both : size_of (drop j want) ≡ cell_size (slice_index_or want j ([], [])) + cell_size (key, value) =
              last_two want j (omega (arith, last, next))
              ∙ ap (λ (n : ℕ). cell_size (slice_index_or want j ([], [])) + cell_size (slice_index_or want n ([], []))) next
              ∙ ap (λ (c : Cell). cell_size (slice_index_or want j ([], [])) + cell_size c) (put_here key value t.cells) in
              record {
                some = omega (arith, last, three);
                inside = omega (arith, last);
                before = omega (arith, size_taken j want, both, all, fits);
                behind = omega (arith, both, size_at (3 * room / 8) want j sizes (omega (arith, last, next)), one, two, pair_size (key, value), roomy);
              }
          | false ↦ λ e.
              let mid = middle_is (3 * room / 8) want sizes (omega (arith, more, roomy)) in
              record {
                some = mid.some;
                inside = mid.inside;
                before = omega (arith, mid.before, all, one, two, pair_size (key, value), fits, roomy);
                behind = omega (arith, mid.behind, all, one, two, pair_size (key, value), fits, roomy);
              }
        ] refl

    leaf_part : t.past ≡ [] → IsCut 0 span t (leaf_split t.object span.to key value (t.cells ++ t.past) t.cells).place cut_key
    leaf_part none =
        let alone : t.cells ++ t.past ≡ t.cells = ap (λ (l : List Cell). t.cells ++ l) none ∙ append-nil t.cells in
        let sorted : T (is_sorted byte_order t.cells) = subst (λ (l : List Cell). T (is_sorted byte_order l)) alone rise in
        let mid = parted none in
        let before : suc (m - 1) ≡ m = omega (arith, mid.some) in
        let low : List ℕ = key_at want (m - 1) in
        let high : List ℕ = key_at want m in
        let all : IsTrue (list_all (λ c. is_within span c.0) want) = all_put (λ c. is_within span c.0) key value t.cells inside within in
        let less : byte_order low high ≡ Less =
        ap (λ (i : ℕ). byte_order low (key_at want i)) (sym before) ∙ next_above want (m - 1) (is_sorted-put byte_order nat_list_cmp_total key value t.cells sorted) (omega (arith, before, mid.inside)) in
        leaf_cut span t cut_key within sorted
        (above_from span.from low cut_key (within_parts span low (all_at (is_within span) want (m - 1) all (omega (arith, mid.inside)))).0 (separator_above low high less))
        (ends_with cut_key high span.to (separator_reached low high) (within_parts span high (all_at (is_within span) want m all m_inside)).1)

    leaf_some : t.past ≡ [] → 0 < length t.cells
    leaf_some none = others_there key value t.cells m (parted none).some (parted none).inside

    leaf_halves : t.past ≡ [] → Halves lo hi s room key value 0 t (leaf_split t.object span.to key value (t.cells ++ t.past) t.cells)
    leaf_halves none =
        let alone : t.cells ++ t.past ≡ t.cells = ap (λ (l : List Cell). t.cells ++ l) none ∙ append-nil t.cells in
        let sorted : T (is_sorted byte_order t.cells) = subst (λ (l : List Cell). T (is_sorted byte_order l)) alone rise in
        let mid = parted none in
        let before : suc (m - 1) ≡ m = omega (arith, mid.some) in
        let cut : List ℕ = cut_key in
        let low : List ℕ = key_at want (m - 1) in
        let high : List ℕ = key_at want m in
        let rises : T (is_sorted byte_order want) = is_sorted-put byte_order nat_list_cmp_total key value t.cells sorted in
        let less : byte_order low high ≡ Less = ap (λ (i : ℕ). byte_order low (key_at want i)) (sym before) ∙ next_above want (m - 1) rises (omega (arith, before, mid.inside)) in
        let place : place_for cut want ≡ m =
        place_is cut want (m - 1) rises (omega (arith, before, mid.inside)) (separator_above low high less) (ap (λ (i : ℕ). is_lt (byte_order (key_at want i) cut)) before ∙ separator_reached low high) ∙ before in (
          λ e. omega (arith, ap size_of (put_low cut key value t.cells e ∙ ap (λ (n : ℕ). take n want) place), mid.before),
          λ e. omega (arith, ap size_of (put_high cut key value t.cells e ∙ ap (λ (n : ℕ). drop n want) place), mid.behind),
          λ e. omega (arith, length-drop (place_for cut t.cells) t.cells, place_stays cut key value t.cells e (omega (arith, place, mid.inside))),
          λ e. omega (arith, length-take-le (place_for cut t.cells) t.cells (place_inside cut t.cells), place_kept cut key value t.cells e, place, mid.some),
        )

    pub leaf_asked : IsAsked lo hi s room key value 0 span t (leaf_split t.object span.to key value (t.cells ++ t.past) t.cells)
    leaf_asked = record {
      object = refl;
      level_is = refl;
      count = refl;
      past_is = refl;
      key_short =
          shorter_key room cut_key (key_at want m) (separator_short (key_at want (m - 1)) (key_at want m)) (all_at (is_short_key room) want m keys_short m_inside);
      cut = λ e. leaf_part (none_past 0 t e);
      some = λ e. leaf_some (none_past 0 t e);
      why = full;
      halves = λ e. leaf_halves (none_past 0 t e);
      name_is = refl;
    }

  -- an inner page
  module _ (level : ℕ) (span : Span) (t : Tree (suc level)) (share : Share (StandIn level) span t.children) (rise : T (is_sorted byte_order (cells_in (suc level) t))) (short : AreShortPairs room (suc level) t)
      (some : 0 < length t.children) (name : List ℕ) (name_short : IsTrue (is_short_key room name)) (size : ℕ) (size_is : size ≡ 4 + size_of (cells_in (suc level) t)) (full : has_room room size name ≡ false)
      (passed : IsPassed lo hi s room key value level span t) (fit : size ≤ room) where
    abbrev live : List Cell
    live = live_in (suc level) t

    live_some : 0 < length live
    live_some = omega (arith, some, length-map t.children (λ (c : List ℕ × Tree level). child_cell c.0 (root_of level c.1)))

    inner_part : t.past ≡ [] → IsCut (suc level) span t (middle live) (key_at live (middle live))
    inner_part none =
        let alone : cells_in (suc level) t ≡ live = ap (λ (l : List Cell). live ++ l) none ∙ append-nil live in
        let more : room < size + (length name + 8) = leb-false (size + (length name + 8)) room full in
        let mid =
        middle_is (room / 8) live (sizes_live (StandIn level) (root_of level) room t.children short.0)
        (omega (arith, more, size_is, ap size_of alone, roomy, leb-true (8 * (length name + 8)) room name_short)) in
        inner_cut level span t (middle live) share (subst (λ (l : List Cell). T (is_sorted byte_order l)) alone rise) mid.some mid.inside

    inner_halves : t.past ≡ [] → AreHalves lo hi s room key value level t (inner_split t.object (suc level) (cells_in (suc level) t) live)
    inner_halves none =
        let alone : cells_in (suc level) t ≡ live = ap (λ (l : List Cell). live ++ l) none ∙ append-nil live in
        let more : room < size + (length name + 8) = leb-false (size + (length name + 8)) room full in
        let mid =
        middle_is (room / 8) live (sizes_live (StandIn level) (root_of level) room t.children short.0)
        (omega (arith, more, size_is, ap size_of alone, roomy, leb-true (8 * (length name + 8)) room name_short)) in
        record {
          key_is = refl;
          inside = mid.inside;
          first = omega (arith, mid.before, fit, size_is, ap size_of alone, roomy);
          last = omega (arith, mid.behind, fit, size_is, ap size_of alone, roomy);
        }

    pub inner_asked : IsAsked lo hi s room key value (suc level) span t (inner_split t.object (suc level) (cells_in (suc level) t) live)
    inner_asked = record {
      object = refl;
      level_is = refl;
      count = refl;
      past_is = refl;
      key_short = all_at (is_short_key room) live (middle live) (keys_live (StandIn level) (root_of level) (is_short_key room) t.children short.0) (middle_inside live live_some);
      cut = λ e. inner_part (none_past (suc level) t e);
      some = λ e. live_some;
      why = passed;
      halves = λ e. inner_halves (none_past (suc level) t e);
      name_is = refl;
    }

abbrev ok_or_zero : Result ℕ ℕ → ℕ
ok_or_zero (Ok x) = x
ok_or_zero (Err x) = 0

same_ok : (x y : ℕ) → ◌≡◌ {A = Result ℕ ℕ} (Ok x) (Ok y) → x ≡ y
same_ok x y e = ap ok_or_zero e

module _ (reads : ReadsCells) (lo hi : ℕ) (small : hi < 2 ^ 32) (s : State) (room : ℕ) (key value : List ℕ) (leaf : ℕ) where
  -- the page above has room for the name
  pub record IsGranted (level : ℕ) (span : Span) (t : Tree level) (w : Split) (q i : ℕ) : Type 0 where
    pub l : ℕ
    pub inner : Span
    pub page : Tree (suc l)
    pub place : IsPlace reads lo hi small room key value level span t (suc l) inner page
    pub ends : IsTrue (is_below inner.from inner.to)
    pub object : q ≡ page.object
    pub child : Tree l
    pub at : IsAt i child page.children
    pub under : last_under key (cells_in (suc l) page) ≡ Some i
    pub within : IsTrue (is_within (span_of inner page.children i) key)
    pub asked : IsAsked lo hi s room key value l (span_of inner page.children i) child w
    pub room_is : IsTrue (has_room room (length (bytes_at lo s q)) w.key)

  -- the leaf has room for the pair, or a page is cut, or asks for it
  abbrev pub IsDue : (level : ℕ) → Span → Tree level → Due → Type 0
  IsDue level span t fits = 4 + size_of (put byte_order key value (cells_read (bytes_at lo s leaf))) ≤ room
  IsDue level span t (asks w) = IsAsked lo hi s room key value level span t w
  IsDue level span t (granted w q i) = IsGranted level span t w q i

  pub record DueFound (level : ℕ) (span : Span) (t : Tree level) : Type 0 where
    pub due : Due
    pub comes : due_from room lo s key value level (root_of level t) span.to ≡ Some due
    pub is : IsDue level span t due

  module _ (searches : Searches) (pair : IsTrue (is_short_pair room (key, value))) (fit : (x level : ℕ) (cells : List Cell) → IsHeld level (bytes_at lo s x) cells → 4 + size_of cells ≤ room) where
    pub due_found : (level : ℕ) (span : Span) (t : Tree level) → Holds lo hi s level t → StandIn level span t → AreShortPairs room level t → IsTrue (is_within span key)
        → walk_from lo hi s key level (root_of level t) ≡ Ok leaf → DueFound level span t
    due_found zero span t holds stand short within walk =
        let all : List Cell = t.cells ++ t.past in
        let cells = page_cells reads lo hi small room key value s zero t.object all holds in
        let front : front_of span.to all ≡ t.cells =
        front_is span.to t.cells t.past (all_weaker (λ c. is_within span c.0) (λ c. is_below c.0 span.to) (λ c e. (within_parts span c.0 e).1) t.cells stand.0) stand.1 in
        let reached : ◌≡◌ {A = Result ℕ ℕ} (Ok t.object) (Ok leaf) = sym (ap (λ (b : Bool). if b then Ok t.object else Err t.object) (on_level searches lo hi small s key 0 (bytes_at lo s t.object) all holds)) ∙ walk in
        let here : t.object ≡ leaf = same_ok t.object leaf reached in
        let same : size_of (put byte_order key value (cells_read (bytes_at lo s leaf))) ≡ size_of (put byte_order key value all) =
        ap (λ (x : ℕ). size_of (put byte_order key value (cells_read (bytes_at lo s x)))) (sym here) ∙ ap (λ (l : List Cell). size_of (put byte_order key value l)) cells in
        let size : ℕ = 4 + size_of (put byte_order key value all) in
        let comes : due_from room lo s key value 0 t.object span.to ≡ Some (if nat_le size room then fits else asks (leaf_split t.object span.to key value all t.cells)) =
        ap (λ (l : List Cell). Some (due_in_leaf room t.object key value span.to l)) cells
        ∙ ap (λ (l : List Cell). Some (if nat_le size room then fits else asks (leaf_split t.object span.to key value all l))) front in
        elim (nat_le size room) as (λ b. nat_le size room ≡ b → due_from room lo s key value 0 t.object span.to ≡ Some (if b then fits else asks (leaf_split t.object span.to key value all t.cells)) → DueFound 0 span t) [
          | true ↦ λ e comes. record { due = fits; comes = comes; is = omega (arith, leb-true size room e, same) }
          | false ↦ λ e comes. record {
            due = asks (leaf_split t.object span.to key value all t.cells);
            comes = comes;
            is = leaf_asked lo hi s room key value pair span t stand.0 within holds.rise short (leb-false size room e) (fit t.object 0 all holds);
          }
        ] refl comes
    due_found (suc level) span t holds stand short within walk =
        let bytes : List ℕ = bytes_at lo s t.object in
        let all : List Cell = cells_in (suc level) t in
        let live : List Cell = live_in (suc level) t in
        let found =
        child_found (StandIn level) (HoldsChild lo hi s level) (root_of level) (pairs_in level) (pairs_within level) key span t.children t.past stand.0 holds.1 stand.1 within in
        let i : ℕ = found.place in
        let inner : Span = span_of span t.children i in
        let named : child_for lo hi bytes (under bytes key) ≡ Some (root_of level found.child) =
        child_named searches lo hi small s key (suc level) bytes all i (root_of level found.child) holds.0 found.under found.inside found.beside found.held.0 in
        let down : walk_from lo hi s key (suc level) t.object ≡ walk_from lo hi s key level (root_of level found.child) =
        ap (λ (b : Bool). if b then on_from (walk_from lo hi s key level) t.object (child_for lo hi bytes (under bytes key)) else Err t.object)
        (on_level searches lo hi small s key (suc level) bytes all holds.0)
        ∙ ap (on_from (walk_from lo hi s key level) t.object) named in
        let rest = due_found level inner found.child found.held.1 found.stands (each_at (AreShortPairs room level) t.children i found.child found.at short.1) found.within (sym down ∙ walk) in
        let place : IsPlace reads lo hi small room key value (suc level) span t (suc level) span t = place_here reads lo hi small room key value (suc level) span t stand in
        let ends : IsTrue (is_below span.from span.to) = from_below span key within in
        let low : root_of level found.child ≤ hi = leb-true (root_of level found.child) hi (both_true (nat_lt lo (root_of level found.child)) (nat_le (root_of level found.child) hi) found.held.0).1 in
        let own : Split = inner_split t.object (suc level) all live in
        let came : due_from room lo s key value (suc level) t.object span.to ≡ Some (ask_above room (length bytes) t.object i own rest.due) =
        due_down reads lo hi small room key value s level span t holds.0 stand.0 stand.1 ends i found.child found.at found.under low
        ∙ ap (option_map (ask_above room (length bytes) t.object i own)) rest.comes in
        elim rest.due as (λ d. IsDue level inner found.child d → due_from room lo s key value level (root_of level found.child) inner.to ≡ Some d
        → due_from room lo s key value (suc level) t.object span.to ≡ Some (ask_above room (length bytes) t.object i own d) → DueFound (suc level) span t) [
          | fits ↦ λ roomy below comes. record { due = fits; comes = comes; is = roomy }
          | asks w ↦ λ asked below comes.
              elim (has_room room (length bytes) w.key) as (λ b. has_room room (length bytes) w.key ≡ b
              → due_from room lo s key value (suc level) t.object span.to ≡ Some (if b then granted w t.object i else asks own) → DueFound (suc level) span t) [
                | true ↦ λ roomy comes. record {
                  due = granted w t.object i;
                  comes = comes;
                  is = record {
                    l = level;
                    inner = span;
                    page = t;
                    place = place;
                    ends = ends;
                    object = refl;
                    child = found.child;
                    at = found.at;
                    under = found.under;
                    within = found.within;
                    asked = asked;
                    room_is = roomy;
                  };
                }
                | false ↦ λ full comes. record {
                  due = asks own;
                  comes = comes;
                  is =
                      inner_asked lo hi s room key value pair level span t stand.0 holds.0.rise short (omega (arith, at_inside t.children i found.child found.at)) w.key asked.key_short (length bytes)
                      (ap (λ (l : List ℕ). length l) holds.0.code ∙ page_size (suc level) all) full
                      (record {
                        place = i;
                        child = found.child;
                        at = found.at;
                        under = found.under;
                        within = found.within;
                        split = w;
                        comes = below;
                        key_short = asked.key_short;
                        level_is = asked.level_is;
                      })
                      (omega (arith, fit t.object (suc level) all holds.0, ap (λ (l : List ℕ). length l) holds.0.code, page_size (suc level) all));
                }
              ] refl comes
          | granted w q j ↦ λ given below comes. record {
            due = granted w q j;
            comes = comes;
            is = record {
              l = given.l;
              inner = given.inner;
              page = given.page;
              place =
                  place_below reads lo hi small room key value level span t i found.child found.at stand found.before found.after found.split found.again (suc given.l) given.inner given.page given.place
                  found.under ends;
              ends = given.ends;
              object = given.object;
              child = given.child;
              at = given.at;
              under = given.under;
              within = given.within;
              asked = given.asked;
              room_is = given.room_is;
            };
          }
        ] rest.is rest.comes came
