-- The commands of a turn are accepted one after the other, and behind each the range is a map with the same pairs.
use Rattle.std.proofs.Common.{◌≡◌, ◌≢◌, ℕ, zero, suc, ◌+◌, ◌-◌, ◌*◌, ◌^◌, ◌<◌, ◌≤◌, ◌==◌, Bool, true, false, ◌&&◌, if◌then◌else◌, Option, None, Some, option_map, List, [], ◌∷◌, ◌++◌, T, flat_map, length, take, drop, take_all, take_at, take-append-drop, length-append, length-drop, inl, inr, is_lt, refl, sym, ap, ◌∙◌, subst, arith}
use Rattle.std.specs.Prelude.{IsTrue, nat_lt, nat_le}
use Rattle.std.specs.FinMap.{from_entries}
use Rattle.std.specs.FinMap.Entries.{is_sorted, put}
use Rattle.std.proofs.lemmas.Bool.{eqb-true, leb-true, le-leb, lt-ltb, ltb-true, ne_eqb}
use Rattle.std.proofs.lemmas.List.{append-nil}
use Rattle.byteorder.specs.Endian.{little_bytes}
use Rattle.oper_core.specs.LittleEndian.{length-little_bytes}
use Rattle.oper_core.specs.State.{State, with_values}
use Rattle.oper_core.specs.Meaning.{Accepts, Meaning, after}
use Rattle.oper_core.specs.declared.bounds.Bounds.{Bounds}
use Rattle.key_entries.specs.Entries.{byte_order}
use Rattle.key_entries.specs.EntryLaws.{both_true, true_both}
use Rattle.call_plans.specs.Laws.{after_all}
use Rattle.page_ops.specs.Page.{Cell, page_of, AreShort}
use Rattle.page_ops.specs.Seen.{child_cell}
use Rattle.page_ops.specs.OnCells.{key_at, replaced}
use Rattle.page_ops.specs.Operation.{page_meaning}
use Rattle.page_ops.specs.declared.page_op.PageOp.{PageOp}
use Rattle.page_ops.specs.declared.page_op.PageOp.TheVariants.{Part, Keep, TurnTwo, Root}
use Rattle.page_map.specs.Map.{Span, is_below, is_within, all_keys, all_past, Tree, root_of, pairs_in, cells_in, IsHeld, Each, bytes_at, is_child, Holds, Share, StandIn, content_of, objects_in, one_if, times}
use Rattle.page_map.specs.Plan.{Admits}
use Rattle.page_ops.specs.Search.{last_under, next_under}
use Rattle.page_map.specs.Splits.{Split, ask_above, has_room, inner_split, size_of}
use Rattle.page_map.specs.Sets.{AreShortPairs, IsKept, Keeps, is_short_key, room_of}
use Rattle.page_map.proofs.MapLemmas.{Needs, lower, not_both, parts_within, IsAt, cells_again, each_at, each_with, keys_with, objects_again, shared_again, span_of, with_child, among, one_here, times_both, held_again}
use Rattle.page_map.proofs.CutLemmas.{ReadsCells, code_size, not_below_none, page_size, pair_size, size_both, size_put, size_taken, sorted_parts, sorted_taken}
use Rattle.page_map.proofs.ChangeLemmas.{Changes, read_as}
use Rattle.page_map.proofs.TreeLemmas.{HoldsBelow, HoldsChild, IsCut, bare, bare_held, bare_objects, bare_pairs, bare_root, bare_short, bare_stands, below_held, first_held, first_part, first_root, last_held, last_part, last_root, live_in, parts_objects, parts_pairs, parts_short, past_in, root_held, whole_is}
use Rattle.page_map.proofs.PlaceLemmas.{IsPlace, SameAt, below_over, each_same, each_swapped, held_over, at_with, end_with, pairs_with, root_reached, share_at}
use Rattle.page_map.proofs.TwoLemmas.{above_cell, cell_inside, cells_two, each_two, keys_two, pairs_two, precedes_next, put_two, shared_two, times_two, two_rise, with_two}
use Rattle.page_map.proofs.HalfLemmas.{at_left, at_right, end_left, end_right, under_two}
use Rattle.page_map.proofs.WayLemmas.{Settled, due_at, due_down, from_below, rank, settled_up}
use Rattle.page_map.proofs.DueLemmas.{IsAsked}
use Rattle.page_map.proofs.FullLemmas.{bare_needs, cut_needs, on_way, one_needs, top_needs, two_needs}
use Rattle.page_map.proofs.SettleLemmas.{bare_settles, left_settles, right_settles}
use Rattle.page_map.proofs.OpLemmas.{IsWritten, bytes_else, bytes_there, fits_after, keep_done, part_done, read_child, read_inner, root_done, room_cap, room_fits, room_low, two_done, value_else}

-- ---- turns, command by command

module _ (b : Bounds) (lo hi : ℕ) where
  -- the pages of a tree are a map as calls make it
  pub record IsTree (s : State) (level : ℕ) (t : Tree level) : Type 0 where
    pub order : lo ≤ hi
    pub root : root_of level t ≡ lo
    pub holds : Holds lo hi s level t
    pub stand : StandIn level all_keys t
    pub once : (x : ℕ) → times x (objects_in level t) ≤ 1
    pub short : AreShortPairs (room_of b.cap) level t
    pub fits : (x : ℕ) → length (s x) ≤ b.cap

  abbrev pub kept_by : (s : State) (level : ℕ) (t : Tree level) → IsTree s level t → IsKept b lo hi s
  kept_by s level t is = record {
    map = record { order = is.order; level = level; tree = t; root = is.root; holds = is.holds; stand = is.stand; once = is.once };
    short = is.short;
    values_fit = is.fits;
  }

  pub tree_of : (s : State) (is : IsKept b lo hi s) → IsTree s is.map.level is.map.tree
  tree_of s is = record { order = is.map.order; root = is.map.root; holds = is.map.holds; stand = is.map.stand; once = is.map.once; short = is.short; fits = is.values_fit }

  pub keeps_none : (s : State) (is : IsKept b lo hi s) → Keeps b lo hi s is []
  keeps_none s is = record { accepted = tt; kept = all; content = same }
    where
      all : (k : ℕ) → IsKept b lo hi (after_all (page_meaning b) s (take k []))
      all zero = is
      all (suc k) = is

      same : (k : ℕ) → content_of (all k).map ≡ content_of is.map
      same zero = refl
      same (suc k) = refl

  pub keeps_more : (s : State) (is : IsKept b lo hi s) (op : PageOp) (ops : List PageOp) → Accepts (page_meaning b) s op → (next : IsKept b lo hi (after (page_meaning b) s op))
      → content_of next.map ≡ content_of is.map → Keeps b lo hi (after (page_meaning b) s op) next ops → Keeps b lo hi s is (op ∷ ops)
  keeps_more s is op ops accepted next content rest = record { accepted = (accepted, rest.accepted); kept = all; content = same }
    where
      all : (k : ℕ) → IsKept b lo hi (after_all (page_meaning b) s (take k (op ∷ ops)))
      all zero = is
      all (suc k) = rest.kept k

      same : (k : ℕ) → content_of (all k).map ≡ content_of is.map
      same zero = refl
      same (suc k) = rest.content k ∙ content

  -- ---- objects that are not reached

  not_here : (s : State) (level object : ℕ) (cells : List Cell) (x : ℕ) → IsHeld level (bytes_at lo s object) cells → x ≢ lo → s x ≡ [] → one_if (object == x) ≡ 0
  not_here s level object cells x held apart none =
      elim (object == x) as (λ t. (object == x) ≡ t → one_if t ≡ 0) [
        | true ↦ λ e.
            let same : object ≡ x = eqb-true object x e in
            let empty : page_of level cells ≡ [] = sym held.code ∙ ap (bytes_at lo s) same ∙ sym (read_child lo s x apart) ∙ none in
            absurd (omega (arith, ap (λ (l : List ℕ). length l) empty, page_size level cells))
        | false ↦ λ e. refl
      ] refl

  none_in_each : {Child : Type 0} (objects : Child → List ℕ) (Held : Child → Type 0) (x : ℕ) → ((child : Child) → Held child → times x (objects child) ≡ 0) → (children : List (List ℕ × Child))
      → Each Held children → times x (flat_map (λ c. objects c.1) children) ≡ 0
  none_in_each objects Held x none [] held = refl
  none_in_each objects Held x none (c ∷ children) held =
      omega (arith, none c.1 held.0, none_in_each objects Held x none children held.1, times_both x (objects c.1) (flat_map (λ c. objects c.1) children))

  pub unreached : (s : State) (x : ℕ) → x ≢ lo → s x ≡ [] → (level : ℕ) (t : Tree level) → Holds lo hi s level t → times x (objects_in level t) ≡ 0
  unreached s x apart none zero t holds = omega (arith, not_here s 0 t.object (cells_in 0 t) x holds apart none)
  unreached s x apart none (suc level) t holds =
      omega (
        arith,
        not_here s (suc level) t.object (cells_in (suc level) t) x holds.0 apart none,
        none_in_each (objects_in level) (HoldsChild lo hi s level) x (λ child held. unreached s x apart none level child held.1) t.children holds.1,
      )

  -- a page of a store fits its room
  pub page_fits : (s : State) → ((x : ℕ) → length (s x) ≤ b.cap) → (x level : ℕ) (cells : List Cell) → s x ≡ page_of level cells → AreShort cells → length (page_of level cells) ≤ room_of b.cap
  page_fits s fits x level cells read short =
      room_fits (length (page_of level cells)) b.cap (omega (arith, fits x, ap (λ (l : List ℕ). length l) read)) (omega (arith, short, page_size level cells, code_size cells))

  -- a tree is held behind a command that writes no page of it
  pub over_new : (s new : State) (x level : ℕ) (cells : List Cell) → new ≡ with_values s (x ∷ []) (page_of level cells ∷ []) → length (page_of level cells) ≤ room_of b.cap
      → (l : ℕ) (t : Tree l) → times x (objects_in l t) ≡ 0 → IsTree s l t → IsTree new l t
  over_new s new x level cells is size l t none tree = record {
    order = tree.order;
    root = tree.root;
    holds =
        held_over lo hi s new l t (λ y there. bytes_else lo s new x level cells is y (λ e. absurd (omega (arith, there, none, ap (λ (z : ℕ). times z (objects_in l t)) e)))) tree.holds;
    stand = tree.stand;
    once = tree.once;
    short = tree.short;
    fits = fits_after lo s new x level cells is b.cap tree.fits (omega (arith, size, room_cap b.cap));
  }

-- cells that are there have some bytes
no_cells : (cells : List Cell) → 0 < length cells → size_of cells ≡ 0 → ⊥
no_cells [] some none = absurd (omega (arith, some))
no_cells (c ∷ cells) some none = absurd (omega (arith, none))

-- ---- a page is cut

module _ (changes : Changes) (reads : ReadsCells) (b : Bounds) (lo hi : ℕ) (small : hi < 2 ^ 32) (admits : Admits b hi) (sought value : List ℕ) where
  abbrev room : ℕ
  room = room_of b.cap

  abbrev meaning : Meaning PageOp
  meaning = page_meaning b

  child_places : (x : ℕ) → IsTrue (is_child lo hi x) → (lo < x) × (x ≤ hi)
  child_places x is = let both = both_true (nat_lt lo x) (nat_le x hi) is in (ltb-true lo x both.0, leb-true x hi both.1)

  key_length : (key : List ℕ) → IsTrue (is_short_key room key) → length key < 65536
  key_length key short = omega (arith, leb-true (8 * (length key + 8)) room short, room_low b.cap)

  settled_as : (new : State) (n l : ℕ) {x y : ℕ} {to end : Option (List ℕ)} → x ≡ y → to ≡ end → Settled reads lo hi small room sought value new n l x to → Settled reads lo hi small room sought value new n l y end
  settled_as new n l one two rest = record { due = rest.due; comes = (λ k. due_at reads lo hi small room sought value new l (sym one k) (sym two k)) ∙ rest.comes; less = rest.less }

  -- a page under another, of which no cell is past the span
  module _ (s : State) (level : ℕ) (t : Tree level) (tree : IsTree b lo hi s level t) (l : ℕ) (inner : Span) (page : Tree (suc l)) (place : IsPlace reads lo hi small (room_of b.cap) sought value level all_keys t (suc l) inner page)
      (i : ℕ) (child : Tree l) (at : IsAt i child page.children) where
    abbrev q : ℕ
    q = page.object

    abbrev x : ℕ
    x = root_of l child

    abbrev live : List Cell
    live = live_in l child

    abbrev children : List (List ℕ × Tree l)
    children = page.children

    abbrev span : Span
    span = span_of inner children i

    held_page : Holds lo hi s (suc l) page
    held_page = place.held s tree.holds

    held_child : HoldsChild lo hi s l child
    held_child = each_at (HoldsChild lo hi s l) children i child at held_page.1

    q_low : q ≤ hi
    q_low = place.in_range s tree.holds (omega (arith, tree.root, tree.order))

    x_low : x ≤ hi
    x_low = (child_places x held_child.0).1

    x_apart : x ≢ lo
    x_apart e = absurd (omega (arith, (child_places x held_child.0).0, e))

    in_children : (y : ℕ) → times y (objects_in l child) ≤ times y (flat_map (λ c. objects_in l c.1) children)
    in_children y = among (objects_in l) y children i child at

    page_once : (y : ℕ) → times y (objects_in (suc l) page) ≤ 1
    page_once y = omega (arith, tree.once y, place.reached y)

    q_not_below : times q (flat_map (λ c. objects_in l c.1) children) ≡ 0
    q_not_below = omega (arith, page_once q, one_here q (flat_map (λ c. objects_in l c.1) children))

    x_apart_q : x ≢ q
    x_apart_q e = absurd (omega (arith, root_reached l child, in_children x, q_not_below, ap (λ (z : ℕ). times z (flat_map (λ c. objects_in l c.1) children)) e))

    child_held : IsHeld l (bytes_at lo s x) (cells_in l child)
    child_held = root_held lo hi s l child held_child.1

    -- the object as it reads
    child_read : s x ≡ page_of l (cells_in l child)
    child_read = read_child lo s x x_apart ∙ child_held.code

    child_size : length (page_of l (cells_in l child)) ≤ room
    child_size = page_fits b lo hi s tree.fits x l (cells_in l child) child_read child_held.short

    abbrev page_cells : List Cell
    page_cells = cells_in (suc l) page

    page_short : AreShortPairs room (suc l) page
    page_short = place.short tree.short

    child_short : AreShortPairs room l child
    child_short = each_at (AreShortPairs room l) children i child at page_short.1

    -- ---- the cells go in two
    module _ (none : past_in l child ≡ []) (w : Split) (cut : IsCut l span child w.place w.key) (key_short : IsTrue (is_short_key room w.key))
        (roomy : IsTrue (has_room room (length (bytes_at lo s q)) w.key)) (new : ℕ) (above : lo < new) (low : new ≤ hi) (free : s new ≡ []) where
      abbrev k : ℕ
      k = w.place

      abbrev key : List ℕ
      key = w.key

      whole : cells_in l child ≡ live
      whole = whole_is l child ∙ ap (λ (c : List Cell). live ++ c) none ∙ append-nil live

      live_held : IsHeld l (bytes_at lo s x) live
      live_held = held_again l (bytes_at lo s x) (bytes_at lo s x) (cells_in l child) live child_held refl (sym whole)

      live_read : s x ≡ page_of l live
      live_read = child_read ∙ ap (page_of l) whole

      live_size : length (page_of l live) ≤ room
      live_size = page_fits b lo hi s tree.fits x l live live_read live_held.short

      unreached_new : times new (objects_in level t) ≡ 0
      unreached_new = unreached b lo hi s new (λ e. absurd (omega (arith, above, e))) free level t tree.holds

      new_not : (y : ℕ) → 1 ≤ times y (objects_in level t) → y ≢ new
      new_not y there e = absurd (omega (arith, there, unreached_new, ap (λ (z : ℕ). times z (objects_in level t)) e))

      x_reached : 1 ≤ times x (objects_in level t)
      x_reached = omega (arith, root_reached l child, in_children x, place.reached x)

      q_reached : 1 ≤ times q (objects_in level t)
      q_reached = omega (arith, root_reached (suc l) page, place.reached q)

      -- at most once, with the new one
      once_more : (y : ℕ) → times y (objects_in level t) + one_if (new == y) ≤ 1
      once_more y =
          elim (new == y) as (λ e. (new == y) ≡ e → times y (objects_in level t) + one_if e ≤ 1) [
            | true ↦ λ e. omega (arith, unreached_new, ap (λ (z : ℕ). times z (objects_in level t)) (eqb-true new y e))
            | false ↦ λ e. omega (arith, tree.once y)
          ] refl

      -- the new page is made
      abbrev part : PageOp
      part = Part new x k (length live)

      written1 : IsWritten b s part l (drop k live)
      written1 =
          part_done changes b hi small admits s new x k (length live) l live (drop k live) live_read live_held.short live_size (λ e. new_not x x_reached (sym e)) low x_low cut.inside (omega arith)
          (take_all (length live - k) (drop k live) (omega (arith, length-drop k live))) (omega (arith, size_taken k live))

      abbrev pub s1 : State
      s1 = after meaning s part

      tree1 : IsTree b lo hi s1 level t
      tree1 = over_new b lo hi s s1 new l (drop k live) written1.after_is written1.size level t unreached_new tree

      page1 : Holds lo hi s1 (suc l) page
      page1 = place.held s1 tree1.holds

      -- the page above with two children, where cells may be past the span of the first
      abbrev left : List Cell → Tree l
      left past = first_part l x k past child

      abbrev right : Tree l
      right = last_part l new k child

      abbrev with_new : List Cell → Tree (suc l)
      with_new past = record { object = q; children = with_two i (left past) key right children; past = page.past }

      put_is : (past : List Cell) → cells_in (suc l) (with_new past) ≡ put byte_order key (little_bytes 4 (root_of l right)) page_cells
      put_is past =
          put_two (StandIn l) (root_of l) inner children page.past i child (left past) key right at place.stand.0 place.stand.1 cut.above cut.below (first_root l x k past child) page1.0.rise

      abbrev names : List Cell
      names = cells_in (suc l) (with_new (drop k live))

      names_size : length (page_of (suc l) names) ≤ room
      names_size =
          omega (
            arith,
            page_size (suc l) names,
            ap size_of (put_is (drop k live)),
            size_put key (little_bytes 4 (root_of l right)) page_cells,
            pair_size (key, little_bytes 4 (root_of l right)),
            length-little_bytes 4 (root_of l right),
            page_size (suc l) page_cells,
            ap (λ (v : List ℕ). length v) held_page.0.code,
            leb-true (length (bytes_at lo s q) + (length key + 8)) room roomy,
          )

      -- the page above names it
      abbrev name : PageOp
      name = TurnTwo q i 1 x key new

      written2 : IsWritten b s1 name (suc l) names
      written2 =
          let same = first_root l x k (drop k live) child in
          two_done changes b hi small admits s1 q i x key new l page_cells names (read_inner lo s1 q l page_cells page1.0.code) page1.0.short q_low x_low low
          (cell_inside (StandIn l) (root_of l) inner children page.past i child (left (drop k live)) key right at place.stand.0 place.stand.1 cut.above cut.below same page1.0.rise)
          (above_cell (StandIn l) (root_of l) inner children page.past i child (left (drop k live)) key right at place.stand.0 place.stand.1 cut.above cut.below same page1.0.rise)
          (precedes_next (StandIn l) (root_of l) inner children page.past i child key at place.stand.0 place.stand.1 cut.below) (key_length key key_short)
          (cells_two (StandIn l) (root_of l) children page.past i child (left (drop k live)) key right at
          ∙ (λ j. replaced i 1 (child_cell (key_at page_cells i) (same j) ∷ child_cell key (last_root l new k child j) ∷ []) page_cells)) names_size

      abbrev pub s2 : State
      s2 = after meaning s1 name

      else2 : (y : ℕ) → y ≢ q → SameAt lo hi s1 s2 y
      else2 = bytes_else lo s1 s2 q (suc l) names written2.after_is

      each2 : Each (HoldsChild lo hi s2 l) children
      each2 =
          each_same (objects_in l) (HoldsChild lo hi s1 l) (HoldsChild lo hi s2 l) (SameAt lo hi s1 s2) (λ kid same held. (held.0, held_over lo hi s1 s2 l kid same held.1)) children
          (λ y there. else2 y (λ e. absurd (omega (arith, there, q_not_below, ap (λ (z : ℕ). times z (flat_map (λ c. objects_in l c.1) children)) e)))) page1.1

      child2 : Holds lo hi s2 l child
      child2 = (each_at (HoldsChild lo hi s2 l) children i child at each2).1

      left_child : (past : List Cell) → IsTrue (is_child lo hi (root_of l (left past)))
      left_child past = subst (λ (y : ℕ). IsTrue (is_child lo hi y)) (sym (first_root l x k past child)) held_child.0

      left2 : HoldsChild lo hi s2 l (left (drop k live))
      left2 = (
        left_child (drop k live),
        first_held lo hi s2 l x k (drop k live) child (below_held lo hi s2 l child child2)
            (held_again l (bytes_at lo s2 x) (bytes_at lo s2 x) (cells_in l child) (take k live ++ drop k live) (root_held lo hi s2 l child child2) refl (take-append-drop k live ∙ sym whole)),
      )

      part2 : IsHeld l (bytes_at lo s2 new) (drop k live)
      part2 = record { code = else2 new (λ e. new_not q q_reached (sym e)) ∙ bytes_there lo s s1 new l (drop k live) written1.after_is; short = written1.short; rise = (sorted_taken k live live_held.rise).1 }

      right2 : HoldsChild lo hi s2 l right
      right2 = (
        subst (λ (y : ℕ). IsTrue (is_child lo hi y)) (sym (last_root l new k child)) (true_both (nat_lt lo new) (nat_le new hi) (lt-ltb lo new above) (le-leb new hi low)),
        last_held lo hi s2 l new k child (below_held lo hi s2 l child child2) part2,
      )

      held2 : IsHeld (suc l) (bytes_at lo s2 q) names
      held2 = record {
        code = bytes_there lo s1 s2 q (suc l) names written2.after_is;
        short = written2.short;
        rise =
            two_rise (StandIn l) (root_of l) inner children page.past i child (left (drop k live)) key right at place.stand.0 place.stand.1 cut.above cut.below (first_root l x k (drop k live) child) page1.0.rise;
      }

      shares : (past : List Cell) → IsTrue (all_past (lower span key) past) → Share (StandIn l) inner (with_two i (left past) key right children)
      shares past all =
          shared_two (StandIn l) inner children i child (left past) key right at place.stand.0 (parts_within span key (not_both span.from key cut.above) cut.below) (cut.before x past all) (cut.from new)

      -- the tree with it
      pub record IsMade (new_s : State) (past : List Cell) : Type 0 where
        pub made : Tree level
        pub is : IsTree b lo hi new_s level made
        pub pairs : pairs_in level made ≡ pairs_in level t
        pub settled : (n : ℕ) → Settled reads lo hi small room sought value new_s n (suc l) q inner.to → Settled reads lo hi small room sought value new_s n level (root_of level made) None
        pub needs : (m n : ℕ) → Needs sought m level t → Needs sought n (suc l) (with_new past) → Needs sought n level made

      made_with : (new_s : State) (past : List Cell) → IsTrue (all_past (lower span key) past) → IsHeld (suc l) (bytes_at lo new_s q) (cells_in (suc l) (with_new past))
          → Each (HoldsChild lo hi new_s l) (with_child i (left past) children) → HoldsChild lo hi new_s l right
          → ((y : ℕ) → 1 ≤ times y (objects_in level t) → times y (objects_in (suc l) page) ≡ 0 → SameAt lo hi s1 new_s y) → ((y : ℕ) → length (new_s y) ≤ b.cap) → IsMade new_s past
      made_with new_s past all held each new_held same fits =
          let changed =
          place.again s1 new_s (with_new past) tree.once tree1.holds refl same (held, each_two (HoldsChild lo hi new_s l) children i (left past) key right each new_held) (shares past all, place.stand.1) in
          let parts = parts_short room l x new k past child child_short in
          record {
            made = changed.tree;
            is = record {
              order = tree.order;
              root = changed.root ∙ tree.root;
              holds = changed.holds;
              stand = changed.stand;
              once = λ y.
                  omega (arith, once_more y, changed.objects y, times_two (objects_in l) y children i child (left past) key right at, parts_objects l x new k past child y);
              short =
                  changed.short (
                    keys_two (is_short_key room) children i (left past) key right page_short.0 key_short,
                    each_two (AreShortPairs room l) children i (left past) key right (each_with (AreShortPairs room l) children i (left past) page_short.1 parts.0) parts.1,
                  ) tree.short;
              fits = fits;
            };
            pairs =
                changed.pairs_are
                ∙ ap (λ (c : List Cell). place.before ++ (c ++ place.after)) (pairs_two (pairs_in l) children i child (left past) key right at (parts_pairs l x new k past child))
                ∙ sym place.split;
            settled = changed.settled;
            needs = changed.needs (omega arith);
          }

      made2 : IsMade s2 (drop k live)
      made2 =
          made_with s2 (drop k live) cut.behind held2 (each_with (HoldsChild lo hi s2 l) children i (left (drop k live)) each2 left2) right2
          (λ y there out. else2 y (λ e. absurd (omega (arith, out, root_reached (suc l) page, ap (λ (z : ℕ). times z (objects_in (suc l) page)) e))))
          (fits_after lo s1 s2 q (suc l) names written2.after_is b.cap tree1.fits (omega (arith, names_size, room_cap b.cap)))

      -- the cells that it has go
      abbrev keep : PageOp
      keep = Keep x k

      written3 : IsWritten b s2 keep l (take k live)
      written3 =
          keep_done changes b hi small admits s2 x k l live (take k live)
          (value_else lo s1 s2 q (suc l) names written2.after_is x x_apart_q ∙ value_else lo s s1 new l (drop k live) written1.after_is x (new_not x x_reached) ∙ live_read)
          live_held.short live_size x_low cut.inside refl (omega (arith, size_taken k live))

      abbrev pub s3 : State
      s3 = after meaning s2 keep

      else3 : (y : ℕ) → y ≢ x → SameAt lo hi s2 s3 y
      else3 = bytes_else lo s2 s3 x l (take k live) written3.after_is

      part3 : IsHeld l (bytes_at lo s3 x) (take k live ++ [])
      part3 =
          held_again l (bytes_at lo s3 x) (bytes_at lo s3 x) (take k live) (take k live ++ [])
          (record { code = bytes_there lo s2 s3 x l (take k live) written3.after_is; short = written3.short; rise = (sorted_taken k live live_held.rise).0 }) refl (append-nil (take k live))

      left3 : HoldsChild lo hi s3 l (left [])
      left3 = (
        left_child [],
        first_held lo hi s3 l x k [] child (below_over lo hi s2 s3 l child (λ y. omega (arith, page_once y, in_children y)) (λ y there apart. else3 y apart) (below_held lo hi s2 l child child2))
            part3,
      )

      -- the new page does not have the old one below it
      right_apart : times x (objects_in l right) ≡ 0
      right_apart =
          omega (
            arith,
            parts_objects l x new k [] child x,
            root_reached l (left []),
            ap (λ (y : ℕ). times y (objects_in l (left []))) (first_root l x k [] child),
            once_more x,
            x_reached,
            page_once x,
            in_children x,
          )

      right3 : HoldsChild lo hi s3 l right
      right3 = (right2.0, held_over lo hi s2 s3 l right (λ y there. else3 y (λ e. absurd (omega (arith, there, right_apart, ap (λ (z : ℕ). times z (objects_in l right)) e)))) right2.1)

      each3 : Each (HoldsChild lo hi s3 l) (with_child i (left []) children)
      each3 =
          each_swapped (objects_in l) (HoldsChild lo hi s2 l) (HoldsChild lo hi s3 l) (SameAt lo hi s2 s3) (λ kid same held. (held.0, held_over lo hi s2 s3 l kid same held.1)) children i child (left []) at
          (λ y. omega (arith, page_once y)) (λ y there out. else3 y (λ e. absurd (omega (arith, out, root_reached l child, ap (λ (z : ℕ). times z (objects_in l child)) e)))) left3 each2

      held3 : IsHeld (suc l) (bytes_at lo s3 q) (cells_in (suc l) (with_new []))
      held3 =
          held_again (suc l) (bytes_at lo s2 q) (bytes_at lo s3 q) names (cells_in (suc l) (with_new [])) held2 (else3 q (λ e. x_apart_q (sym e))) (put_is [] ∙ sym (put_is (drop k live)))

      pub made3 : IsMade s3 []
      made3 =
          made_with s3 [] refl held3 each3 right3
          (λ y there out.
          else3 y (λ e. absurd (omega (arith, out, in_children x, root_reached l child, ap (λ (z : ℕ). times z (objects_in (suc l) page)) e)))
          ∙ else2 y (λ e. absurd (omega (arith, out, root_reached (suc l) page, ap (λ (z : ℕ). times z (objects_in (suc l) page)) e))))
          (fits_after lo s2 s3 x l (take k live) written3.after_is b.cap made2.is.fits (omega (arith, written3.size, room_cap b.cap)))

      -- what is due behind the cut comes before
      module _ (asked : IsAsked lo hi s room sought value l span child w) (clean : w.has_past ≡ false) (under : last_under sought page_cells ≡ Some i) (ends : IsTrue (is_below inner.from inner.to)) where
        below_same : (y : ℕ) → 1 ≤ times y (objects_in l child) → y ≢ x → SameAt lo hi s s3 y
        below_same y there apart =
            else3 y apart ∙ else2 y (λ e. absurd (omega (arith, there, in_children y, q_not_below, ap (λ (z : ℕ). times z (flat_map (λ c. objects_in l c.1) children)) e)))
            ∙ bytes_else lo s s1 new l (drop k live) written1.after_is y (new_not y (omega (arith, there, in_children y, place.reached y)))

        child_stands : StandIn l span child
        child_stands = share_at (StandIn l) inner children i child at place.stand.0

        child_once : (y : ℕ) → times y (objects_in l child) ≤ 1
        child_once y = omega (arith, page_once y, in_children y)

        page_settles : Settled reads lo hi small room sought value s3 (rank w) (suc l) q inner.to
        page_settles =
            let both = under_two (root_of l) sought children page.past i child (left []) key right at under in
            elim (is_lt (byte_order sought key)) as (λ e. is_lt (byte_order sought key) ≡ e → last_under sought (cells_in (suc l) (with_new [])) ≡ (if e then Some i else Some (suc i))
            → Settled reads lo hi small room sought value s3 (rank w) (suc l) q inner.to) [
              | true ↦ λ less goes.
                  settled_up reads lo hi small room sought value s3 (rank w) l inner (with_new []) held3 (shares [] refl) place.stand.1 ends i (left []) (at_left (root_of l) children i child (left []) key right at) goes
                  (omega (arith, x_low, first_root l x k [] child))
                  (settled_as s3 (rank w) l (sym (first_root l x k [] child)) (sym (end_left (root_of l) inner children i child (left []) key right at))
                  (left_settles reads lo hi small room sought value s s3 w clean l span child asked held_child.1 child_stands child_once below_same x part3 less))
              | false ↦ λ reached goes.
                  settled_up reads lo hi small room sought value s3 (rank w) l inner (with_new []) held3 (shares [] refl) place.stand.1 ends (suc i) right (at_right (root_of l) children i child (left []) key right at) goes
                  (omega (arith, low, last_root l new k child))
                  (settled_as s3 (rank w) l (sym (last_root l new k child)) (sym (end_right (root_of l) inner children i child (left []) key right at))
                  (right_settles reads lo hi small room sought value s s3 w clean l span child asked held_child.1 child_stands child_once below_same new
                  (held_again l (bytes_at lo s2 new) (bytes_at lo s3 new) (drop k live) (drop k live) part2 (else3 new (λ e. new_not x x_reached (sym e))) refl) reached))
            ] refl both

        pub cut_settles : Settled reads lo hi small room sought value s3 (rank w) level (root_of level made3.made) None
        cut_settles = made3.settled (rank w) page_settles

        -- no leaf is without cells but that of the key
        pub cut_full : Needs sought 2 level t → Needs sought 2 level made3.made
        cut_full needs =
            let here : Needs sought 2 (suc l) page = place.needed 2 needs in
            made3.needs 2 2 needs
            (two_needs sought l page i child (left []) key right at under here
            (cut_needs sought lo hi s room value x new l span child w asked clean live_held.rise (on_way sought l page i child at under here)))

      pub cut_keeps : (is : IsKept b lo hi s) → from_entries (pairs_in level t) ≡ content_of is.map → Keeps b lo hi s is (part ∷ name ∷ keep ∷ [])
      cut_keeps is same =
          keeps_more b lo hi s is part (name ∷ keep ∷ []) written1.accepted (kept_by b lo hi s1 level t tree1) same
          (keeps_more b lo hi s1 (kept_by b lo hi s1 level t tree1) name (keep ∷ []) written2.accepted (kept_by b lo hi s2 level made2.made made2.is) (ap from_entries made2.pairs)
          (keeps_more b lo hi s2 (kept_by b lo hi s2 level made2.made made2.is) keep [] written3.accepted (kept_by b lo hi s3 level made3.made made3.is) (ap from_entries (made3.pairs ∙ sym made2.pairs))
          (keeps_none b lo hi s3 (kept_by b lo hi s3 level made3.made made3.is))))

    -- ---- the cells past the span go
    abbrev trim : PageOp
    trim = Keep x (length live)

    trimmed : IsWritten b s trim l live
    trimmed =
        keep_done changes b hi small admits s x (length live) l (cells_in l child) live child_read child_held.short child_size x_low
        (omega (arith, ap (λ (c : List Cell). length c) (whole_is l child), length-append live (past_in l child)))
        (ap (take (length live)) (whole_is l child) ∙ take_at live (past_in l child) (length live) refl)
        (omega (arith, ap size_of (whole_is l child), size_both live (past_in l child)))

    abbrev pub after_trim : State
    after_trim = after meaning s trim

    else_trim : (y : ℕ) → y ≢ x → SameAt lo hi s after_trim y
    else_trim = bytes_else lo s after_trim x l live trimmed.after_is

    part_trim : IsHeld l (bytes_at lo after_trim x) live
    part_trim = record {
      code = bytes_there lo s after_trim x l live trimmed.after_is;
      short = trimmed.short;
      rise = (sorted_parts live (past_in l child) (subst (λ (c : List Cell). T (is_sorted byte_order c)) (whole_is l child) child_held.rise)).0;
    }

    bare_child : HoldsChild lo hi after_trim l (bare l child)
    bare_child = (
      subst (λ (y : ℕ). IsTrue (is_child lo hi y)) (sym (bare_root l child)) held_child.0,
      bare_held lo hi after_trim l child
          (below_over lo hi s after_trim l child (λ y. omega (arith, page_once y, in_children y)) (λ y there apart. else_trim y apart) (below_held lo hi s l child held_child.1)) part_trim,
    )

    abbrev kids : List (List ℕ × Tree l)
    kids = with_child i (bare l child) children

    abbrev other : Tree (suc l)
    other = record { object = q; children = kids; past = page.past }

    other_cells : cells_in (suc l) other ≡ page_cells
    other_cells = ap (λ (c : List Cell). c ++ page.past) (cells_again (root_of l) children i child (bare l child) at (bare_root l child))

    other_held : IsHeld (suc l) (bytes_at lo after_trim q) (cells_in (suc l) other)
    other_held = held_again (suc l) (bytes_at lo s q) (bytes_at lo after_trim q) page_cells (cells_in (suc l) other) held_page.0 (else_trim q (λ e. x_apart_q (sym e))) other_cells

    other_share : Share (StandIn l) inner kids
    other_share = shared_again (StandIn l) inner children i child (bare l child) at place.stand.0 (bare_stands l span child (share_at (StandIn l) inner children i child at place.stand.0))

    pub record IsTrimmed : Type 0 where
      pub made : Tree level
      pub is : IsTree b lo hi after_trim level made
      pub pairs : pairs_in level made ≡ pairs_in level t
      pub settled : (n : ℕ) → Settled reads lo hi small room sought value after_trim n (suc l) q inner.to → Settled reads lo hi small room sought value after_trim n level (root_of level made) None
      pub needs : (m n : ℕ) → Needs sought m level t → Needs sought n (suc l) other → Needs sought n level made

    pub trim_tree : IsTrimmed
    trim_tree =
        let out_of : (y : ℕ) → times y (objects_in (suc l) page) ≡ 0 → y ≢ x =
        λ y out e. absurd (omega (arith, out, in_children x, root_reached l child, ap (λ (z : ℕ). times z (objects_in (suc l) page)) e)) in
        let held : Holds lo hi after_trim (suc l) other = (
          other_held,
          each_swapped (objects_in l) (HoldsChild lo hi s l) (HoldsChild lo hi after_trim l) (SameAt lo hi s after_trim) (λ kid same held. (held.0, held_over lo hi s after_trim l kid same held.1)) children i child (bare l child) at
              (λ y. omega (arith, page_once y)) (λ y there out. else_trim y (λ e. absurd (omega (arith, out, root_reached l child, ap (λ (z : ℕ). times z (objects_in l child)) e)))) bare_child held_page.1,
        ) in
        let changed = place.again s after_trim other tree.once tree.holds refl (λ y there out. else_trim y (out_of y out)) held (other_share, place.stand.1) in
        let same : flat_map (λ c. objects_in l c.1) kids ≡ flat_map (λ c. objects_in l c.1) children = objects_again (objects_in l) children i child (bare l child) at (bare_objects l child) in
        record {
          made = changed.tree;
          is = record {
            order = tree.order;
            root = changed.root ∙ tree.root;
            holds = changed.holds;
            stand = changed.stand;
            once = λ y. omega (arith, tree.once y, changed.objects y, ap (λ (o : List ℕ). times y o) same);
            short =
                changed.short
                (keys_with (is_short_key room) children i (bare l child) page_short.0, each_with (AreShortPairs room l) children i (bare l child) page_short.1 (bare_short room l child child_short)) tree.short;
            fits = fits_after lo s after_trim x l live trimmed.after_is b.cap tree.fits (omega (arith, trimmed.size, room_cap b.cap));
          };
          pairs = changed.pairs_are ∙ ap (λ (c : List Cell). place.before ++ (c ++ place.after)) (pairs_with (pairs_in l) children i child (bare l child) at (bare_pairs l child)) ∙ sym place.split;
          settled = changed.settled;
          needs = changed.needs (omega arith);
        }

    -- what is due behind it comes before
    module _ (w : Split) (asked : IsAsked lo hi s room sought value l span child w) (has : w.has_past ≡ true) (under : last_under sought page_cells ≡ Some i) (within : IsTrue (is_within span sought))
        (ends : IsTrue (is_below inner.from inner.to)) (roomy : IsTrue (has_room room (length (bytes_at lo s q)) w.key)) where
      pub trim_settles : Settled reads lo hi small room sought value after_trim (rank w) level (root_of level trim_tree.made) None
      trim_settles =
          let here =
          bare_settles reads lo hi small room sought value s after_trim w has l span child asked held_child.1 (share_at (StandIn l) inner children i child at place.stand.0)
          (λ y. omega (arith, page_once y, in_children y)) (λ y there apart. else_trim y apart) (from_below span sought within) part_trim in
          let size : ℕ = length (bytes_at lo after_trim q) in
          let own : Split = inner_split q (suc l) (cells_in (suc l) other) (live_in (suc l) other) in
          let same : length (bytes_at lo s q) ≡ size = ap (λ (v : List ℕ). length v) (sym (else_trim q (λ e. x_apart_q (sym e)))) in
          let below : due_at reads lo hi small room sought value after_trim l (root_of l (bare l child)) (span_of inner kids i).to ≡ Some here.due =
          (λ k. due_at reads lo hi small room sought value after_trim l (bare_root l child k) (end_with inner children i (bare l child) k)) ∙ here.comes in
          trim_tree.settled (rank w)
          (record {
            due = ask_above room size q i own here.due;
            comes =
                due_down reads lo hi small room sought value after_trim l inner other other_held other_share place.stand.1 ends i (bare l child) (at_with children i child (bare l child) at)
                (ap (last_under sought) other_cells ∙ under) (omega (arith, x_low, bare_root l child)) ∙ ap (option_map (ask_above room size q i own)) below;
            less = here.goes size q i own (subst (λ (n : ℕ). IsTrue (has_room room n w.key)) same roomy);
          })

      pub trim_full : Needs sought 2 level t → Needs sought 2 level trim_tree.made
      trim_full needs =
          let here : Needs sought 2 (suc l) page = place.needed 2 needs in
          trim_tree.needs 2 2 needs (one_needs sought l page i child (bare l child) at (bare_root l child) under here (bare_needs sought lo hi s room value x x l span child w asked))

    pub trim_keeps : (is : IsKept b lo hi s) → from_entries (pairs_in level t) ≡ content_of is.map → Keeps b lo hi s is (trim ∷ [])
    trim_keeps is same =
        let made : IsKept b lo hi after_trim = kept_by b lo hi after_trim level trim_tree.made trim_tree.is in
        keeps_more b lo hi s is trim [] trimmed.accepted made (ap from_entries trim_tree.pairs ∙ same) (keeps_none b lo hi after_trim made)

  -- ---- the root is cut: both halves are made, and it becomes the page above them
  module _ (s : State) (level : ℕ) (t : Tree level) (tree : IsTree b lo hi s level t) (none : past_in level t ≡ []) (some : 0 < length (live_in level t)) (w : Split) (cut : IsCut level all_keys t w.place w.key)
      (key_short : IsTrue (is_short_key room w.key)) (left right : ℕ) (left_above : lo < left) (left_low : left ≤ hi) (left_free : s left ≡ []) (right_above : lo < right) (right_low : right ≤ hi) (right_free : s right ≡ [])
      (apart : left ≢ right) (levels : level < 255) where
    abbrev cells : List Cell
    cells = live_in level t

    root_is_held : IsHeld level (bytes_at lo s lo) cells
    root_is_held =
        held_again level (bytes_at lo s (root_of level t)) (bytes_at lo s lo) (cells_in level t) cells (root_held lo hi s level t tree.holds) (ap (bytes_at lo s) (sym tree.root))
        (sym (whole_is level t ∙ ap (λ (c : List Cell). cells ++ c) none ∙ append-nil cells))

    root_read : s lo ≡ page_of level cells
    root_read = elim (read_as lo s lo) [
      | inl same ↦ same ∙ root_is_held.code
      | inr empty ↦
          absurd (no_cells cells some (omega (arith, page_size level cells, page_size 0 [], ap (λ (v : List ℕ). length v) (sym root_is_held.code ∙ empty.1))))
    ]

    root_size : length (page_of level cells) ≤ room
    root_size = page_fits b lo hi s tree.fits lo level cells root_read root_is_held.short

    left_apart : left ≢ lo
    left_apart e = absurd (omega (arith, left_above, e))

    right_apart_lo : right ≢ lo
    right_apart_lo e = absurd (omega (arith, right_above, e))

    left_out : times left (objects_in level t) ≡ 0
    left_out = unreached b lo hi s left left_apart left_free level t tree.holds

    right_out : times right (objects_in level t) ≡ 0
    right_out = unreached b lo hi s right right_apart_lo right_free level t tree.holds

    lo_low : lo ≤ hi
    lo_low = tree.order

    first_done : IsWritten b s (Part left lo 0 w.place) level (take w.place cells)
    first_done =
        let all : w.place - 0 ≡ w.place = omega arith in
        part_done changes b hi small admits s left lo 0 w.place level cells (take w.place cells) root_read root_is_held.short root_size left_apart left_low lo_low (omega arith) cut.inside
        (ap (λ (n : ℕ). take n cells) all) (omega (arith, size_taken w.place cells))

    abbrev t1 : State
    t1 = after meaning s (Part left lo 0 w.place)

    first_tree : IsTree b lo hi t1 level t
    first_tree = over_new b lo hi s t1 left level (take w.place cells) first_done.after_is first_done.size level t left_out tree

    last_done : IsWritten b t1 (Part right lo w.place (length cells)) level (drop w.place cells)
    last_done =
        part_done changes b hi small admits t1 right lo w.place (length cells) level cells (drop w.place cells)
        (value_else lo s t1 left level (take w.place cells) first_done.after_is lo (λ e. left_apart (sym e)) ∙ root_read) root_is_held.short root_size right_apart_lo right_low lo_low cut.inside (omega arith)
        (take_all (length cells - w.place) (drop w.place cells) (omega (arith, length-drop w.place cells))) (omega (arith, size_taken w.place cells))

    abbrev t2 : State
    t2 = after meaning t1 (Part right lo w.place (length cells))

    last_tree : IsTree b lo hi t2 level t
    last_tree = over_new b lo hi t1 t2 right level (drop w.place cells) last_done.after_is last_done.size level t right_out first_tree

    abbrev two : List Cell
    two = child_cell [] left ∷ child_cell w.key right ∷ []

    two_size : length (page_of (suc level) two) ≤ room
    two_size =
        omega (
          arith,
          page_size (suc level) two,
          pair_size (child_cell [] left),
          pair_size (child_cell w.key right),
          length-little_bytes 4 left,
          length-little_bytes 4 right,
          leb-true (8 * (length w.key + 8)) room key_short,
        )

    abbrev top : PageOp
    top = Root lo (suc level) left w.key right

    top_done : IsWritten b t2 top (suc level) two
    top_done = root_done changes b hi small admits t2 lo (suc level) left w.key right lo_low left_low right_low (omega (arith, levels)) (key_length w.key key_short) two_size

    abbrev t3 : State
    t3 = after meaning t2 top

    else_top : (y : ℕ) → y ≢ lo → SameAt lo hi t2 t3 y
    else_top = bytes_else lo t2 t3 lo (suc level) two top_done.after_is

    below_top : HoldsBelow lo hi t3 level t
    below_top =
        below_over lo hi t2 t3 level t tree.once (λ y there other. else_top y (λ e. other (e ∙ sym tree.root))) (below_held lo hi t2 level t last_tree.holds)

    abbrev front_half : Tree level
    front_half = first_part level left w.place [] t

    abbrev back_half : Tree level
    back_half = last_part level right w.place t

    front_part : IsHeld level (bytes_at lo t3 left) (take w.place cells ++ [])
    front_part =
        held_again level (bytes_at lo t3 left) (bytes_at lo t3 left) (take w.place cells) (take w.place cells ++ [])
        (record {
          code = else_top left left_apart ∙ bytes_else lo t1 t2 right level (drop w.place cells) last_done.after_is left apart ∙ bytes_there lo s t1 left level (take w.place cells) first_done.after_is;
          short = first_done.short;
          rise = (sorted_taken w.place cells root_is_held.rise).0;
        }) refl (append-nil (take w.place cells))

    back_part : IsHeld level (bytes_at lo t3 right) (drop w.place cells)
    back_part = record {
      code = else_top right right_apart_lo ∙ bytes_there lo t1 t2 right level (drop w.place cells) last_done.after_is;
      short = last_done.short;
      rise = (sorted_taken w.place cells root_is_held.rise).1;
    }

    front_child : HoldsChild lo hi t3 level front_half
    front_child = (
      subst (λ (y : ℕ). IsTrue (is_child lo hi y)) (sym (first_root level left w.place [] t)) (true_both (nat_lt lo left) (nat_le left hi) (lt-ltb lo left left_above) (le-leb left hi left_low)),
      first_held lo hi t3 level left w.place [] t below_top front_part,
    )

    back_child : HoldsChild lo hi t3 level back_half
    back_child = (
      subst (λ (y : ℕ). IsTrue (is_child lo hi y)) (sym (last_root level right w.place t)) (true_both (nat_lt lo right) (nat_le right hi) (lt-ltb lo right right_above) (le-leb right hi right_low)),
      last_held lo hi t3 level right w.place t below_top back_part,
    )

    abbrev pub above_both : Tree (suc level)
    above_both = record { object = lo; children = ([], front_half) ∷ (w.key, back_half) ∷ []; past = [] }

    top_held : IsHeld (suc level) (bytes_at lo t3 lo) (cells_in (suc level) above_both)
    top_held =
        held_again (suc level) (bytes_at lo t3 lo) (bytes_at lo t3 lo) two (cells_in (suc level) above_both)
        (record {
          code = bytes_there lo t2 t3 lo (suc level) two top_done.after_is;
          short = top_done.short;
          rise = subst (λ (e : Bool). T ((e && true) && true)) (sym cut.above) tt;
        }) refl (λ j. child_cell [] (first_root level left w.place [] t j) ∷ child_cell w.key (last_root level right w.place t j) ∷ [])

    -- at most once, with the new ones
    once_both : (y : ℕ) → times y (objects_in level t) + one_if (left == y) + one_if (right == y) ≤ 1
    once_both y =
        elim (left == y) as (λ e. (left == y) ≡ e → times y (objects_in level t) + one_if e + one_if (right == y) ≤ 1) [
          | true ↦ λ e.
              let same : left ≡ y = eqb-true left y e in
              let other : (right == y) ≡ false = ne_eqb right y (λ f. apart (same ∙ sym f)) in
              omega (arith, left_out, ap (λ (z : ℕ). times z (objects_in level t)) same, ap one_if other)
          | false ↦ λ e.
              elim (right == y) as (λ f. (right == y) ≡ f → times y (objects_in level t) + 0 + one_if f ≤ 1) [
                | true ↦ λ f. omega (arith, right_out, ap (λ (z : ℕ). times z (objects_in level t)) (eqb-true right y f))
                | false ↦ λ f. omega (arith, tree.once y)
              ] refl
        ] refl

    top_share : Share (StandIn level) all_keys above_both.children
    top_share = (refl, parts_within all_keys w.key (not_below_none w.key) refl, cut.before left [] refl, (refl, cut.from right))

    pub top_tree : IsTree b lo hi t3 (suc level) above_both
    top_tree =
        let parts = parts_short room level left right w.place [] t tree.short in
        let least : IsTrue (is_short_key room []) = le-leb (8 * (0 + 8)) room (omega (arith, leb-true (8 * (length w.key + 8)) room key_short)) in
        record {
          order = tree.order;
          root = refl;
          holds = (top_held, (front_child, (back_child, tt)));
          stand = (top_share, refl);
          once = λ y.
              omega (
                arith,
                once_both y,
                parts_objects level left right w.place [] t y,
                times_both y (objects_in level front_half) (objects_in level back_half ++ []),
                times_both y (objects_in level back_half) [],
                ap (λ (x : ℕ). one_if (x == y)) tree.root,
              );
          short = (true_both (is_short_key room []) (is_short_key room w.key && true) least (true_both (is_short_key room w.key) true key_short refl), (parts.0, (parts.1, tt)));
          fits = fits_after lo t2 t3 lo (suc level) two top_done.after_is b.cap last_tree.fits (omega (arith, two_size, room_cap b.cap));
        }

    pub top_pairs : pairs_in (suc level) above_both ≡ pairs_in level t
    top_pairs = ap (λ (c : List Cell). pairs_in level front_half ++ c) (append-nil (pairs_in level back_half)) ∙ parts_pairs level left right w.place [] t

    -- what is due behind it comes before
    module _ (asked : IsAsked lo hi s room sought value level all_keys t w) (clean : w.has_past ≡ false) where
      root_same : (y : ℕ) → 1 ≤ times y (objects_in level t) → y ≢ root_of level t → SameAt lo hi s t3 y
      root_same y there other =
          else_top y (λ e. other (e ∙ sym tree.root))
          ∙ bytes_else lo t1 t2 right level (drop w.place cells) last_done.after_is y (λ e. absurd (omega (arith, there, right_out, ap (λ (z : ℕ). times z (objects_in level t)) e)))
          ∙ bytes_else lo s t1 left level (take w.place cells) first_done.after_is y (λ e. absurd (omega (arith, there, left_out, ap (λ (z : ℕ). times z (objects_in level t)) e)))

      pub root_settles : Settled reads lo hi small room sought value t3 (rank w) (suc level) lo None
      root_settles =
          let goes : last_under sought (cells_in (suc level) above_both) ≡ (if is_lt (byte_order sought w.key) then Some 0 else Some 1) =
          ap (λ (e : Bool). if e then None else next_under (if is_lt (byte_order sought w.key) then None else Some 0)) (not_below_none sought)
          ∙ elim (is_lt (byte_order sought w.key)) as (λ e. next_under (if e then None else Some 0) ≡ (if e then Some 0 else Some 1)) [ true ↦ refl | false ↦ refl ] in
          elim (is_lt (byte_order sought w.key)) as (λ e. is_lt (byte_order sought w.key) ≡ e → last_under sought (cells_in (suc level) above_both) ≡ (if e then Some 0 else Some 1)
          → Settled reads lo hi small room sought value t3 (rank w) (suc level) lo None) [
            | true ↦ λ less goes.
                settled_up reads lo hi small room sought value t3 (rank w) level all_keys above_both top_held top_share refl refl 0 front_half refl goes (omega (arith, left_low, first_root level left w.place [] t))
                (settled_as t3 (rank w) level (sym (first_root level left w.place [] t)) refl (left_settles reads lo hi small room sought value s t3 w clean level all_keys t asked tree.holds tree.stand tree.once root_same left front_part less))
            | false ↦ λ reached goes.
                settled_up reads lo hi small room sought value t3 (rank w) level all_keys above_both top_held top_share refl refl 1 back_half refl goes (omega (arith, right_low, last_root level right w.place t))
                (settled_as t3 (rank w) level (sym (last_root level right w.place t)) refl (right_settles reads lo hi small room sought value s t3 w clean level all_keys t asked tree.holds tree.stand tree.once root_same right back_part reached))
          ] refl goes

      pub root_full : Needs sought 2 level t → Needs sought 2 (suc level) above_both
      root_full needs =
          top_needs sought level above_both front_half w.key back_half refl
          (ap (λ (e : Bool). if e then None else next_under (if is_lt (byte_order sought w.key) then None else Some 0)) (not_below_none sought)
          ∙ elim (is_lt (byte_order sought w.key)) as (λ e. next_under (if e then None else Some 0) ≡ (if e then Some 0 else Some 1)) [ true ↦ refl | false ↦ refl ])
          (cut_needs sought lo hi s room value left right level all_keys t w asked clean root_is_held.rise needs)

    pub root_keeps : (is : IsKept b lo hi s) → from_entries (pairs_in level t) ≡ content_of is.map → Keeps b lo hi s is (Part left lo 0 w.place ∷ Part right lo w.place (length cells) ∷ top ∷ [])
    root_keeps is same =
        keeps_more b lo hi s is (Part left lo 0 w.place) (Part right lo w.place (length cells) ∷ top ∷ []) first_done.accepted (kept_by b lo hi t1 level t first_tree) same
        (keeps_more b lo hi t1 (kept_by b lo hi t1 level t first_tree) (Part right lo w.place (length cells)) (top ∷ []) last_done.accepted (kept_by b lo hi t2 level t last_tree) refl
        (keeps_more b lo hi t2 (kept_by b lo hi t2 level t last_tree) top [] top_done.accepted (kept_by b lo hi t3 (suc level) above_both top_tree) (ap from_entries top_pairs)
        (keeps_none b lo hi t3 (kept_by b lo hi t3 (suc level) above_both top_tree))))
