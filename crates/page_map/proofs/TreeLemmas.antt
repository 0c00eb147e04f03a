-- Trees of pages: a page that is cut in two, and a page among others that is replaced.
use Rattle.std.proofs.Common.{◌≡◌, ℕ, zero, suc, ◌+◌, ◌<◌, ◌≤◌, ◌==◌, true, false, not, if◌then◌else◌, List, [], ◌∷◌, ◌++◌, T, map, flat_map, length, take, drop, is_lt, refl, sym, ap, ◌∙◌, subst, arith, take-append-drop, drop-cons, slice_index_or}
use Rattle.std.specs.Prelude.{⊤, IsTrue}
use Rattle.std.specs.List.{list_all, take-map, drop-map}
use Rattle.std.specs.FinMap.Entries.{below_all, is_sorted}
use Rattle.std.proofs.lemmas.List.{append-nil, length-map}
use Rattle.std.proofs.lemmas.List.Concat.{flat_map-append}
use Rattle.oper_core.specs.State.{State}
use Rattle.key_entries.specs.Entries.{byte_order}
use Rattle.key_entries.specs.EntryLaws.{true_both}
use Rattle.key_entries.specs.KeyLaws.{first, second}
use Rattle.page_ops.specs.Page.{Cell}
use Rattle.page_ops.specs.Seen.{child_cell}
use Rattle.page_ops.specs.OnCells.{key_at}
use Rattle.page_ops.specs.Search.{place_for}
use Rattle.page_map.specs.Map.{Span, is_below, is_within, Tree, Leaf, root_of, pairs_in, cells_in, IsHeld, Each, bytes_at, is_child, Holds, all_within, all_past, Share, StandIn, objects_in, one_if, times}
use Rattle.page_map.specs.Sets.{AreShortPairs, is_short_key, is_short_pair}
use Rattle.page_map.proofs.MapLemmas.{below_both, not_below_itself, not_true, true_not, within_parts, parts_within, lower, upper, times_both, held_again}
use Rattle.page_map.proofs.CutLemmas.{all_taken, all_together, below_place, reached_place, not_below_behind, sorted_taken, next_above}

-- ---- the cells of a page

abbrev pub live_in : (level : ℕ) → Tree level → List Cell
live_in zero t = t.cells
live_in (suc level) t = map (λ c. child_cell c.0 (root_of level c.1)) t.children

abbrev pub past_in : (level : ℕ) → Tree level → List Cell
past_in zero t = t.past
past_in (suc level) t = t.past

pub whole_is : (level : ℕ) (t : Tree level) → cells_in level t ≡ live_in level t ++ past_in level t
whole_is zero t = refl
whole_is (suc level) t = refl

-- the first cells of a page, in an object, with others past the span, and those behind them
abbrev pub first_part : (level : ℕ) → ℕ → ℕ → List Cell → Tree level → Tree level
first_part zero x m past t = record { object = x; cells = take m t.cells; past = past }
first_part (suc level) x m past t = record { object = x; children = take m t.children; past = past }

abbrev pub last_part : (level : ℕ) → ℕ → ℕ → Tree level → Tree level
last_part zero x m t = record { object = x; cells = drop m t.cells; past = [] }
last_part (suc level) x m t = record { object = x; children = drop m t.children; past = [] }

pub first_root : (level x m : ℕ) (past : List Cell) (t : Tree level) → root_of level (first_part level x m past t) ≡ x
first_root zero x m past t = refl
first_root (suc level) x m past t = refl

pub last_root : (level x m : ℕ) (t : Tree level) → root_of level (last_part level x m t) ≡ x
last_root zero x m t = refl
last_root (suc level) x m t = refl

pub first_cells : (level x m : ℕ) (past : List Cell) (t : Tree level) → cells_in level (first_part level x m past t) ≡ take m (live_in level t) ++ past
first_cells zero x m past t = refl
first_cells (suc level) x m past t = ap (λ (l : List Cell). l ++ past) (sym (take-map (λ (c : List ℕ × Tree level). child_cell c.0 (root_of level c.1)) m t.children))

pub last_cells : (level x m : ℕ) (t : Tree level) → cells_in level (last_part level x m t) ≡ drop m (live_in level t)
last_cells zero x m t = append-nil (drop m t.cells)
last_cells (suc level) x m t =
    append-nil (map (λ c. child_cell c.0 (root_of level c.1)) (drop m t.children)) ∙ sym (drop-map (λ (c : List ℕ × Tree level). child_cell c.0 (root_of level c.1)) m t.children)

pub parts_pairs : (level x y m : ℕ) (past : List Cell) (t : Tree level) → pairs_in level (first_part level x m past t) ++ pairs_in level (last_part level y m t) ≡ pairs_in level t
parts_pairs zero x y m past t = take-append-drop m t.cells
parts_pairs (suc level) x y m past t =
    sym (flat_map-append (λ (c : List ℕ × Tree level). pairs_in level c.1) (take m t.children) (drop m t.children))
    ∙ ap (flat_map (λ (c : List ℕ × Tree level). pairs_in level c.1)) (take-append-drop m t.children)

pub parts_objects : (level x n m : ℕ) (past : List Cell) (t : Tree level) (y : ℕ)
    → times y (objects_in level (first_part level x m past t)) + times y (objects_in level (last_part level n m t)) + one_if (root_of level t == y)
    ≡ times y (objects_in level t) + one_if (x == y) + one_if (n == y)
parts_objects zero x n m past t y = omega arith
parts_objects (suc level) x n m past t y =
    let f : List ℕ × Tree level → List ℕ = λ c. objects_in level c.1 in
    let all : times y (flat_map f (take m t.children) ++ flat_map f (drop m t.children)) ≡ times y (flat_map f t.children) =
    ap (times y) (sym (flat_map-append f (take m t.children) (drop m t.children)) ∙ ap (flat_map f) (take-append-drop m t.children)) in
    omega (arith, all, times_both y (flat_map f (take m t.children)) (flat_map f (drop m t.children)))

-- a property of each child is one of each in both parts
pub each_taken : {Child : Type 0} (P : Child → Type 0) (m : ℕ) (children : List (List ℕ × Child)) → Each P children → Each P (take m children) × Each P (drop m children)
each_taken P zero children all = (tt, all)
each_taken P (suc m) [] all = (tt, tt)
each_taken P (suc m) (c ∷ children) all = let rest = each_taken P m children all.1 in ((all.0, rest.0), rest.1)

pub parts_short : (room level x n m : ℕ) (past : List Cell) (t : Tree level) → AreShortPairs room level t
    → AreShortPairs room level (first_part level x m past t) × AreShortPairs room level (last_part level n m t)
parts_short room zero x n m past t short = all_taken (is_short_pair room) m t.cells short
parts_short room (suc level) x n m past t short =
    let keys = all_taken (λ (c : List ℕ × Tree level). is_short_key room c.0) m t.children short.0 in
    let below = each_taken (AreShortPairs room level) m t.children short.1 in
    ((keys.0, below.0), (keys.1, below.1))

-- a page without the cells past its span
abbrev pub bare : (level : ℕ) → Tree level → Tree level
bare zero t = record { object = t.object; cells = t.cells; past = [] }
bare (suc level) t = record { object = t.object; children = t.children; past = [] }

pub bare_root : (level : ℕ) (t : Tree level) → root_of level (bare level t) ≡ root_of level t
bare_root zero t = refl
bare_root (suc level) t = refl

pub bare_pairs : (level : ℕ) (t : Tree level) → pairs_in level (bare level t) ≡ pairs_in level t
bare_pairs zero t = refl
bare_pairs (suc level) t = refl

pub bare_objects : (level : ℕ) (t : Tree level) → objects_in level (bare level t) ≡ objects_in level t
bare_objects zero t = refl
bare_objects (suc level) t = refl

pub bare_short : (room level : ℕ) (t : Tree level) → AreShortPairs room level t → AreShortPairs room level (bare level t)
bare_short room zero t short = short
bare_short room (suc level) t short = short

pub bare_stands : (level : ℕ) (span : Span) (t : Tree level) → StandIn level span t → StandIn level span (bare level t)
bare_stands zero span t stand = (stand.0, refl)
bare_stands (suc level) span t stand = (stand.0, refl)

module _ (lo hi : ℕ) where
  -- a child is held, and stands in the range
  abbrev pub HoldsChild : State → (level : ℕ) → Tree level → Type 0
  HoldsChild s level child = IsTrue (is_child lo hi (root_of level child)) × Holds lo hi s level child

  -- the pages below one are held
  abbrev pub HoldsBelow : State → (level : ℕ) → Tree level → Type 0
  HoldsBelow s zero t = ⊤
  HoldsBelow s (suc level) t = Each (HoldsChild s level) t.children

  pub below_held : (s : State) (level : ℕ) (t : Tree level) → Holds lo hi s level t → HoldsBelow s level t
  below_held s zero t holds = tt
  below_held s (suc level) t holds = holds.1

  pub root_held : (s : State) (level : ℕ) (t : Tree level) → Holds lo hi s level t → IsHeld level (bytes_at lo s (root_of level t)) (cells_in level t)
  root_held s zero t holds = holds
  root_held s (suc level) t holds = holds.0

  pub bare_held : (s : State) (level : ℕ) (t : Tree level) → HoldsBelow s level t → IsHeld level (bytes_at lo s (root_of level t)) (live_in level t) → Holds lo hi s level (bare level t)
  bare_held s zero t below held = held_again zero (bytes_at lo s t.object) (bytes_at lo s t.object) t.cells (t.cells ++ []) held refl (append-nil t.cells)
  bare_held s (suc level) t below held =
      (held_again (suc level) (bytes_at lo s t.object) (bytes_at lo s t.object) (live_in (suc level) t) (live_in (suc level) t ++ []) held refl (append-nil (live_in (suc level) t)), below)

  pub first_held : (s : State) (level x m : ℕ) (past : List Cell) (t : Tree level) → HoldsBelow s level t → IsHeld level (bytes_at lo s x) (take m (live_in level t) ++ past)
      → Holds lo hi s level (first_part level x m past t)
  first_held s zero x m past t below held = held
  first_held s (suc level) x m past t below held = (
    held_again (suc level) (bytes_at lo s x) (bytes_at lo s x) (take m (live_in (suc level) t) ++ past) (cells_in (suc level) (first_part (suc level) x m past t)) held refl (first_cells (suc level) x m past t),
    (each_taken (HoldsChild s level) m t.children below).0,
  )

  pub last_held : (s : State) (level x m : ℕ) (t : Tree level) → HoldsBelow s level t → IsHeld level (bytes_at lo s x) (drop m (live_in level t)) → Holds lo hi s level (last_part level x m t)
  last_held s zero x m t below held = held_again zero (bytes_at lo s x) (bytes_at lo s x) (drop m t.cells) (drop m t.cells ++ []) held refl (append-nil (drop m t.cells))
  last_held s (suc level) x m t below held = (
    held_again (suc level) (bytes_at lo s x) (bytes_at lo s x) (drop m (live_in (suc level) t)) (cells_in (suc level) (last_part (suc level) x m t)) held refl (last_cells (suc level) x m t),
    (each_taken (HoldsChild s level) m t.children below).1,
  )

-- ---- where a page may be cut

-- keys below one stand in the first cells, and in the others those that are not
pub record IsCut (level : ℕ) (span : Span) (t : Tree level) (m : ℕ) (key : List ℕ) : Type 0 where
  pub above : is_lt (byte_order span.from key) ≡ true
  pub below : IsTrue (is_below key span.to)
  pub inside : m ≤ length (live_in level t)
  pub before : (x : ℕ) (past : List Cell) → IsTrue (all_past (lower span key) past) → StandIn level (lower span key) (first_part level x m past t)
  pub from : (x : ℕ) → StandIn level (upper span key) (last_part level x m t)
  pub behind : IsTrue (all_past (lower span key) (drop m (live_in level t)))

place_most : (key : List ℕ) (cells : List Cell) → place_for key cells ≤ length cells
place_most key [] = omega arith
place_most key (c ∷ cells) =
    elim (is_lt (byte_order c.0 key)) as (λ t. (if t then suc (place_for key cells) else 0) ≤ suc (length cells)) [ true ↦ omega (arith, place_most key cells) | false ↦ omega arith ]

pub leaf_cut : (span : Span) (t : Leaf) (key : List ℕ) → IsTrue (all_within span t.cells) → T (is_sorted byte_order t.cells) → is_lt (byte_order span.from key) ≡ true → IsTrue (is_below key span.to)
    → IsCut 0 span t (place_for key t.cells) key
leaf_cut span t key within rise above below =
    let m : ℕ = place_for key t.cells in
    let parts = all_taken (λ (c : Cell). is_within span c.0) m t.cells within in
    record {
      above = above;
      below = below;
      inside = place_most key t.cells;
      before = λ x past all. (
        all_together (λ c. is_within span c.0) (λ c. is_lt (byte_order c.0 key)) (λ c. is_within (lower span key) c.0)
            (λ c one two. parts_within (lower span key) c.0 (within_parts span c.0 one).0 two) (take m t.cells) parts.0 (below_place key t.cells),
        all,
      );
      from = λ x. (
        all_together (λ c. is_within span c.0) (λ c. not (is_lt (byte_order c.0 key))) (λ c. is_within (upper span key) c.0)
            (λ c one two. parts_within (upper span key) c.0 (not_true (is_lt (byte_order c.0 key)) two) (within_parts span c.0 one).1) (drop m t.cells) parts.1 (reached_place key t.cells rise),
        refl,
      );
      behind = reached_place key t.cells rise;
    }

module _ {Child : Type 0} (In : Span → Child → Type 0) (root : Child → ℕ) where
  abbrev pub cells_of : List (List ℕ × Child) → List Cell
  cells_of children = map (λ c. child_cell c.0 (root c.1)) children

  pub record IsShared (span : Span) (children : List (List ℕ × Child)) (m : ℕ) (key : List ℕ) : Type 0 where
    pub above : is_lt (byte_order span.from key) ≡ true
    pub below : IsTrue (is_below key span.to)
    pub before : Share In (lower span key) (take m children)
    pub from : Share In (upper span key) (drop m children)

  -- the second key is above the first, which begins the span
  above_first : (span : Span) (c d : List ℕ × Child) (children : List (List ℕ × Child)) → c.0 ≡ span.from → T (is_sorted byte_order (cells_of (c ∷ d ∷ children))) → is_lt (byte_order span.from d.0) ≡ true
  above_first span c d children from rise =
      ap (λ (k : List ℕ). is_lt (byte_order k d.0)) (sym from) ∙ ap is_lt (next_above (cells_of (c ∷ d ∷ children)) 0 rise (omega arith))

  sorted_behind : (c : List ℕ × Child) (children : List (List ℕ × Child)) → T (is_sorted byte_order (cells_of (c ∷ children))) → T (is_sorted byte_order (cells_of children))
  sorted_behind c children rise = second (below_all byte_order c.0 (cells_of children)) (is_sorted byte_order (cells_of children)) rise

  pub shared_cut : (span : Span) (children : List (List ℕ × Child)) (m : ℕ) → Share In span children → T (is_sorted byte_order (cells_of children)) → 0 < m → m < length children
      → IsShared span children m (key_at (cells_of children) m)
  shared_cut span [] m share rise some inside = absurd share
  shared_cut span (c ∷ []) m share rise some inside = absurd (omega (arith, some, inside))
  shared_cut span (c ∷ d ∷ children) zero share rise some inside = absurd (omega (arith, some))
  shared_cut span (c ∷ d ∷ children) (suc zero) share rise some inside = record {
    above = above_first span c d children share.0 rise;
    below = (within_parts span d.0 share.1).1;
    before = (share.0, share.2);
    from = share.3;
  }
  shared_cut span (c ∷ d ∷ children) (suc (suc m)) share rise some inside =
      let rest = shared_cut (upper span d.0) (d ∷ children) (suc m) share.3 (sorted_behind c (d ∷ children) rise) (omega arith) (omega (arith, inside)) in
      let key : List ℕ = key_at (cells_of (d ∷ children)) (suc m) in
      record {
        above = below_both span.from d.0 key (above_first span c d children share.0 rise) rest.above;
        below = rest.below;
        before = (share.0, parts_within (lower span key) d.0 (within_parts span d.0 share.1).0 rest.above, share.2, rest.before);
        from = rest.from;
      }

-- cells from a place on are not below the key there
pub behind_place : (cells : List Cell) (m : ℕ) → T (is_sorted byte_order cells) → m < length cells → IsTrue (list_all (λ c. not (is_lt (byte_order c.0 (key_at cells m)))) (drop m cells))
behind_place cells m rise inside =
    let key : List ℕ = key_at cells m in
    let split : drop m cells ≡ slice_index_or cells m ([], []) ∷ drop (suc m) cells = drop-cons cells m ([], []) inside in
    let sorted = subst (λ (l : List Cell). T (is_sorted byte_order l)) split (sorted_taken m cells rise).1 in
    subst (λ (l : List Cell). IsTrue (list_all (λ c. not (is_lt (byte_order c.0 key))) l)) (sym split)
    (true_both (not (is_lt (byte_order key key))) (list_all (λ c. not (is_lt (byte_order c.0 key))) (drop (suc m) cells)) (true_not (is_lt (byte_order key key)) (not_below_itself key))
    (not_below_behind key key (drop (suc m) cells) (first (below_all byte_order key (drop (suc m) cells)) (is_sorted byte_order (drop (suc m) cells)) sorted) (not_below_itself key)))

pub inner_cut : (level : ℕ) (span : Span) (t : Tree (suc level)) (m : ℕ) → Share (StandIn level) span t.children → T (is_sorted byte_order (live_in (suc level) t)) → 0 < m → m < length (live_in (suc level) t)
    → IsCut (suc level) span t m (key_at (live_in (suc level) t) m)
inner_cut level span t m share rise some inside =
    let cut = shared_cut (StandIn level) (root_of level) span t.children m share rise some (subst (λ (n : ℕ). m < n) (length-map t.children (λ (c : List ℕ × Tree level). child_cell c.0 (root_of level c.1))) inside) in
    record {
      above = cut.above;
      below = cut.below;
      inside = omega (arith, inside);
      before = λ x past all. (cut.before, all);
      from = λ x. (cut.from, refl);
      behind = behind_place (live_in (suc level) t) m rise inside;
    }
