-- The commands that tidy the way to a key keep the map.
use Rattle.std.proofs.Common.{◌≡◌, length-append, ◌*◌, ◌≢◌, ◌⊎◌, inl, inr, ℕ, zero, suc, ◌+◌, ◌-◌, ◌^◌, ◌<◌, ◌≤◌, ◌==◌, Bool, true, false, if◌then◌else◌, Option, None, Some, Result, Ok, Err, List, [], ◌∷◌, ◌++◌, T, flat_map, length, drop, is_lt, is_some, option_and_then, option_map, refl, sym, ap, ◌∙◌, subst, arith, take_all, true≢false}
use Rattle.std.specs.Prelude.{⊤, IsTrue, nat_lt, nat_le}
use Rattle.std.specs.FinMap.{from_entries}
use Rattle.std.proofs.lemmas.Bool.{eq-eqb, eqb-true, le-ltb, leb-true, ltb-false, ltb-true}
use Rattle.std.specs.FinMap.Entries.{is_sorted}
use Rattle.std.proofs.lemmas.List.{append-nil, length-map}
use Rattle.oper_core.specs.State.{State}
use Rattle.oper_core.specs.Meaning.{Accepts, Meaning, after}
use Rattle.oper_core.specs.declared.bounds.Bounds.{Bounds}
use Rattle.key_entries.specs.Entries.{byte_order}
use Rattle.key_entries.specs.EntryLaws.{both_true, same_some}
use Rattle.call_plans.specs.Laws.{after_all}
use Rattle.call_plans.specs.Plan.{Plan}
use Rattle.page_ops.specs.Page.{Cell, page_of, AreShort}
use Rattle.page_ops.specs.Reading.{count_in, key_of, level_in, under}
use Rattle.page_ops.specs.Seen.{child_cell}
use Rattle.page_ops.specs.Search.{last_under}
use Rattle.page_ops.specs.Operation.{page_meaning}
use Rattle.page_ops.specs.declared.page_op.PageOp.{PageOp}
use Rattle.page_ops.specs.declared.page_op.PageOp.TheVariants.{Part, Keep, Turn, Free}
use Rattle.page_map.specs.Map.{Span, is_below, is_within, all_keys, all_past, Leaf, Tree, root_of, pairs_in, cells_in, IsHeld, Each, bytes_at, Holds, Share, StandIn, content_of, objects_in, one_if, times}
use Rattle.page_map.specs.Plan.{Admits}
use Rattle.page_map.specs.Splits.{front_of}
use Rattle.page_map.specs.Sets.{AreShortPairs, IsKept, Keeps, is_short_key, room_of}
use Rattle.page_map.specs.Deletes.{IsFull, NoneIsEmpty, before_takes, by_tidying, child_goes, else_root, front_at, gives_way, leaf_goes, on_way, root_goes, root_takes, takes_both, tidied, tidy_from, tidy_plan, tidy_turn, when_empty}
use Rattle.page_map.specs.Ranges.{or_bad}
use Rattle.page_map.specs.Steps.{Step, before_in, beside_in, both_under, ended, front_in, only_child, step_in, step_under, with_beside}
use Rattle.page_map.specs.Walk.{child_in, is_on}
use Rattle.page_map.specs.declared.beside.Beside.{Beside}
use Rattle.page_map.specs.declared.beside.Beside.TheVariants.{Next, Before, Only}
use Rattle.page_map.specs.declared.refusal.MapRefusal.{MapRefusal}
use Rattle.page_map.proofs.MapLemmas.{IsAt, Needs, NeedsHere, Others, Searches, Trimmed, among, at_new, at_same, below_through, cells_again, child_found, each_at, ends_too, full_needs, in_all, moved, not_below_through, on_level, one_here, pairs_within, parts_within, span_of, times_both, upper, wider, with_all, with_child, within_parts}
use Rattle.page_map.proofs.CutLemmas.{ReadsCells, front_is}
use Rattle.page_map.proofs.StepLemmas.{child_is_at, count_held, front_held, has_next, step_ends, step_from, step_held, step_of}
use Rattle.page_map.proofs.ChangeLemmas.{Changes, written_else}
use Rattle.page_map.proofs.TreeLemmas.{HoldsBelow, HoldsChild, bare, below_held, last_held, last_part, last_root, live_in, parts_short, root_held, whole_is}
use Rattle.page_map.proofs.TwoLemmas.{at_inside}
use Rattle.page_map.proofs.PlaceLemmas.{IsPlace, SameAt, below_over, each_same, held_over, place_below, place_here, root_reached, share_at}
use Rattle.page_map.proofs.WayLemmas.{from_below}
use Rattle.page_map.proofs.DueLemmas.{none_past}
use Rattle.page_map.proofs.OpLemmas.{IsWritten, bytes_else, bytes_there, fits_after, free_done, part_done, read_child, read_inner, room_cap, turn_done}
use Rattle.page_map.proofs.TurnLemmas.{IsTree, keeps_more, keeps_none, kept_by, page_fits, tree_of, trim_keeps, trim_tree}
use Rattle.page_map.proofs.GoneLemmas.{cells_one, child_there, each_by, each_one, each_one_but, joined_span, keys_one, pairs_one, rise_one, share_one, size_one, times_one, two_inside, with_one}
use Rattle.page_map.proofs.SetLemmas.{all_after, fits_too, root_ends}

-- ---- spans beside each other

module _ {Child : Type 0} (In : Span → Child → Type 0) where
  -- the next one does not begin before one
  next_begins : (span : Span) (children : List (List ℕ × Child)) (i : ℕ) (b : Child) → IsAt (suc i) b children → Share In span children
      → is_lt (byte_order (span_of span children (suc i)).from (span_of span children i).from) ≡ false
  next_begins span [] i b two share = absurd share
  next_begins span (c ∷ []) i b two share = absurd two
  next_begins span (c ∷ d ∷ []) zero b two share = (within_parts span d.0 share.1).0
  next_begins span (c ∷ d ∷ e ∷ children) zero b two share = (within_parts span d.0 share.1).0
  next_begins span (c ∷ d ∷ children) (suc i) b two share = next_begins (upper span d.0) (d ∷ children) i b two share.3

  -- and a key that is in one ends before the end of the next
  next_ends : (span : Span) (children : List (List ℕ × Child)) (i : ℕ) (b : Child) → IsAt (suc i) b children → Share In span children → (key : List ℕ) → IsTrue (is_below key (span_of span children i).to)
      → IsTrue (is_below key (span_of span children (suc i)).to)
  next_ends span [] i b two share key below = absurd share
  next_ends span (c ∷ []) i b two share key below = absurd two
  next_ends span (c ∷ d ∷ []) zero b two share key below = ends_too key d.0 span.to below (within_parts span d.0 share.1).1
  next_ends span (c ∷ d ∷ e ∷ children) zero b two share key below = below_through key d.0 e.0 below (within_parts (upper span d.0) e.0 share.3.1).0
  next_ends span (c ∷ d ∷ children) (suc i) b two share key below = next_ends (upper span d.0) (d ∷ children) i b two share.3 key below

  -- one ends where the next begins
  end_next : (span : Span) (children : List (List ℕ × Child)) (i : ℕ) (b : Child) → IsAt (suc i) b children → (span_of span children i).to ≡ Some (span_of span children (suc i)).from
  end_next span [] i b two = absurd two
  end_next span (c ∷ []) i b two = absurd two
  end_next span (c ∷ d ∷ []) zero b two = refl
  end_next span (c ∷ d ∷ e ∷ children) zero b two = refl
  end_next span (c ∷ d ∷ children) (suc i) b two = end_next (upper span d.0) (d ∷ children) i b two

nothing_in : (l : List Cell) → length l ≡ 0 → l ≡ []
nothing_in [] e = refl
nothing_in (c ∷ l) e = absurd (omega (arith, e))

module _ (searches : Searches) (changes : Changes) (reads : ReadsCells) (b : Bounds) (lo hi : ℕ) (small : hi < 2 ^ 32) (admits : Admits b hi) (key : List ℕ) where
  abbrev room : ℕ
  room = room_of b.cap

  abbrev meaning : Meaning PageOp
  meaning = page_meaning b

  -- what is tidied next keeps the map
  abbrev Tidies : (s : State) → IsKept b lo hi s → Result (List PageOp) ℕ → Type 0
  Tidies s is (Err bad) = ⊥
  Tidies s is (Ok ops) = Keeps b lo hi s is ops

  -- a turn of at least one command, behind which fewer are needed
  pub record GoesOn (s : State) (most : ℕ) (r : Result (List PageOp) ℕ) : Type 0 where
    pub op : PageOp
    pub ops : List PageOp
    pub turn_is : r ≡ Ok (op ∷ ops)
    pub depth : ℕ
    pub made : Tree depth
    pub tree_made : IsTree b lo hi (after_all meaning s (op ∷ ops)) depth made
    pub left : ℕ
    pub needs : Needs key left depth made
    pub fewer : depth + left < most

  -- ---- an object that is not reached is given back

  pub over_free : (s : State) (x : ℕ) → x ≤ hi → (level : ℕ) (t : Tree level) → times x (objects_in level t) ≡ 0 → IsTree b lo hi s level t → Accepts meaning s (Free x) × IsTree b lo hi (after meaning s (Free x)) level t
  over_free s x low level t none tree =
      let done = free_done changes b hi small admits s x low in
      let new : State = after meaning s (Free x) in
      let same : (y : ℕ) → y ≢ x → bytes_at lo new y ≡ bytes_at lo s y =
      λ y apart. ap (λ (v : List ℕ). bytes_at lo (λ z. v) y) (ap (λ (t : State). t y) done.1 ∙ written_else s x y [] apart) in (
        done.0,
        record {
          order = tree.order;
          root = tree.root;
          holds = moved lo hi s new x same level t none tree.holds;
          stand = tree.stand;
          once = tree.once;
          short = tree.short;
          fits = fits_too b s (Free x) tree.fits;
        },
      )

  child_low : (level : ℕ) (s : State) (child : Tree level) → HoldsChild lo hi s level child → root_of level child ≤ hi
  child_low level s child held = leb-true (root_of level child) hi (both_true (nat_lt lo (root_of level child)) (nat_le (root_of level child) hi) held.0).1

  child_above : (level : ℕ) (s : State) (child : Tree level) → HoldsChild lo hi s level child → lo < root_of level child
  child_above level s child held = ltb-true lo (root_of level child) (both_true (nat_lt lo (root_of level child)) (nat_le (root_of level child) hi) held.0).0

  -- ---- a page above leaves

  module _ (s : State) (level : ℕ) (t : Tree level) (tree : IsTree b lo hi s level t) (inner : Span) (page : Tree 1) (place : IsPlace reads lo hi small room key [] level all_keys t 1 inner page) where
    abbrev q : ℕ
    q = page.object

    abbrev children : List (List ℕ × Leaf)
    children = page.children

    abbrev cells : List Cell
    cells = cells_in 1 page

    abbrev below : List ℕ
    below = flat_map (λ c. objects_in 0 c.1) children

    held_page : Holds lo hi s 1 page
    held_page = place.held s tree.holds

    q_low : q ≤ hi
    q_low = place.in_range s tree.holds (omega (arith, tree.root, tree.order))

    page_once : (y : ℕ) → times y (objects_in 1 page) ≤ 1
    page_once y = omega (arith, tree.once y, place.reached y)

    q_not_below : times q below ≡ 0
    q_not_below = omega (arith, page_once q, one_here q below)

    page_short : AreShortPairs room 1 page
    page_short = place.short tree.short

    apart_below : (y : ℕ) → 1 ≤ times y below → y ≢ q
    apart_below y there e = absurd (omega (arith, there, q_not_below, ap (λ (z : ℕ). times z below) e))

    -- commands that keep the map, and leave a tree with another page in the place of this one
    record Drops (is : IsKept b lo hi s) (ops : List PageOp) (other : Tree 1) : Type 0 where
      pub keeps : Keeps b lo hi s is ops
      pub made : Tree level
      pub tree_made : IsTree b lo hi (after_all meaning s ops) level made
      pub needs : (m n : ℕ) → Needs key m level t → Needs key n 1 other → Needs key n level made

    -- one of two leaves takes the place of both
    module _ (i : ℕ) (a next kid gone : Leaf) (one : IsAt i a children) (two : IsAt (suc i) next children)
        (objects : (y : ℕ) → times y (objects_in 0 a) + times y (objects_in 0 next) ≡ times y (objects_in 0 kid) + times y (objects_in 0 gone)) (pairs : pairs_in 0 a ++ pairs_in 0 next ≡ pairs_in 0 kid)
        (stands : StandIn 0 (joined_span inner children i) kid) (held : HoldsChild lo hi s 0 kid) (gone_low : gone.object ≤ hi) (short : AreShortPairs room 0 kid) where
      abbrev x : ℕ
      x = gone.object

      abbrev turn : PageOp
      turn = Turn q i 2 kid.object

      abbrev other : Tree 1
      other = record { object = q; children = with_one i kid children; past = page.past }

      abbrev names : List Cell
      names = cells_in 1 other

      counts : (y : ℕ) → times y (objects_in 1 other) + times y (objects_in 0 gone) ≡ times y (objects_in 1 page)
      counts y = omega (arith, times_one (objects_in 0) y children i a next kid gone one two (objects y))

      kid_apart : (y : ℕ) → 1 ≤ times y (objects_in 0 kid) → y ≢ q
      kid_apart y there =
          apart_below y
          (omega (arith, there, counts y, times_one (objects_in 0) y children i a next kid gone one two (objects y), objects y, among (objects_in 0) y children i a one, among (objects_in 0) y children (suc i) next two))

      read : s q ≡ page_of 1 cells
      read = read_inner lo s q 0 cells held_page.0.code

      written : IsWritten b s turn 1 names
      written =
          turn_done changes b hi small admits s q i kid.object 0 cells names read held_page.0.short (page_fits b lo hi s tree.fits q 1 cells read held_page.0.short) q_low (child_low 0 s kid held)
          (two_inside (root_of 0) children page.past i next two) (cells_one (root_of 0) children page.past i a next kid one two) (size_one (root_of 0) children page.past i kid)

      abbrev s1 : State
      s1 = after meaning s turn

      else1 : (y : ℕ) → y ≢ q → SameAt lo hi s s1 y
      else1 = bytes_else lo s s1 q 1 names written.after_is

      held1 : IsHeld 1 (bytes_at lo s1 q) names
      held1 = record { code = bytes_there lo s s1 q 1 names written.after_is; short = written.short; rise = rise_one (root_of 0) children page.past i kid held_page.0.rise }

      each1 : Each (HoldsChild lo hi s1 0) children
      each1 =
          each_same (objects_in 0) (HoldsChild lo hi s 0) (HoldsChild lo hi s1 0) (SameAt lo hi s s1) (λ kid same held. (held.0, held_over lo hi s s1 0 kid same held.1)) children
          (λ y there. else1 y (apart_below y there)) held_page.1

      kid1 : HoldsChild lo hi s1 0 kid
      kid1 = (held.0, held_over lo hi s s1 0 kid (λ y there. else1 y (kid_apart y there)) held.1)

      pub record IsDropped : Type 0 where
        pub made : Tree level
        pub is : IsTree b lo hi s1 level made
        pub same_pairs : pairs_in level made ≡ pairs_in level t
        pub none : times x (objects_in level made) ≡ 0
        pub needs : (m n : ℕ) → Needs key m level t → Needs key n 1 other → Needs key n level made

      dropped : IsDropped
      dropped =
          let out_of : (y : ℕ) → times y (objects_in 1 page) ≡ 0 → y ≢ q = λ y out e. absurd (omega (arith, out, root_reached 1 page, ap (λ (z : ℕ). times z (objects_in 1 page)) e)) in
          let changed =
          place.again s s1 other tree.once tree.holds refl (λ y there out. else1 y (out_of y out)) (held1, each_one (HoldsChild lo hi s1 0) children i kid each1 kid1)
          (share_one (StandIn 0) inner children i a next kid one two place.stand.0 stands, place.stand.1) in
          record {
            made = changed.tree;
            is = record {
              order = tree.order;
              root = changed.root ∙ tree.root;
              holds = changed.holds;
              stand = changed.stand;
              once = λ y. omega (arith, tree.once y, changed.objects y, counts y);
              short = changed.short (keys_one (is_short_key room) children i kid page_short.0, each_one (AreShortPairs room 0) children i kid page_short.1 short) tree.short;
              fits = fits_after lo s s1 q 1 names written.after_is b.cap tree.fits (omega (arith, written.size, room_cap b.cap));
            };
            same_pairs = changed.pairs_are ∙ ap (λ (c : List Cell). place.before ++ (c ++ place.after)) (pairs_one (pairs_in 0) children i a next kid one two pairs) ∙ sym place.split;
            none = omega (arith, changed.objects x, counts x, tree.once x, place.reached x, one_here x []);
            needs = changed.needs (omega arith);
          }

      drop_keeps : (is : IsKept b lo hi s) → from_entries (pairs_in level t) ≡ content_of is.map → Drops is (turn ∷ Free x ∷ []) other
      drop_keeps is same =
          let last = over_free s1 x gone_low level dropped.made dropped.none dropped.is in
          let s2 : State = after meaning s1 (Free x) in
          record {
            keeps =
                keeps_more b lo hi s is turn (Free x ∷ []) written.accepted (kept_by b lo hi s1 level dropped.made dropped.is) (ap from_entries dropped.same_pairs ∙ same)
                (keeps_more b lo hi s1 (kept_by b lo hi s1 level dropped.made dropped.is) (Free x) [] last.0 (kept_by b lo hi s2 level dropped.made last.1) refl
                (keeps_none b lo hi s2 (kept_by b lo hi s2 level dropped.made last.1)));
            made = dropped.made;
            tree_made = last.1;
            needs = dropped.needs;
          }

    -- ---- an empty leaf

    module _ (is : IsKept b lo hi s) (same : from_entries (pairs_in level t) ≡ content_of is.map) (ends : IsTrue (is_below inner.from inner.to)) where
      held_at : (j : ℕ) (leaf : Leaf) → IsAt j leaf children → HoldsChild lo hi s 0 leaf
      held_at j leaf at = each_at (HoldsChild lo hi s 0) children j leaf at held_page.1

      short_at : (j : ℕ) (leaf : Leaf) → IsAt j leaf children → AreShortPairs room 0 leaf
      short_at j leaf at = each_at (AreShortPairs room 0) children j leaf at page_short.1

      stands_at : (j : ℕ) (leaf : Leaf) → IsAt j leaf children → StandIn 0 (span_of inner children j) leaf
      stands_at j leaf at = share_at (StandIn 0) inner children j leaf at place.stand.0

      abbrev bytes : List ℕ
      bytes = bytes_at lo s q

      abbrev step_at : (j : ℕ) (leaf : Leaf) → IsAt j leaf children → Step
      step_at j leaf at = step_of searches reads lo hi small bytes 0 inner page held_page.0 place.stand.0 place.stand.1 ends j leaf at (held_at j leaf at).0

      named : (j : ℕ) (leaf : Leaf) → IsAt j leaf children → child_in lo hi bytes j ≡ Some leaf.object
      named j leaf at = child_is_at searches reads lo hi small bytes 0 inner page held_page.0 place.stand.0 place.stand.1 ends j leaf at (held_at j leaf at).0

      front_is_at : (j : ℕ) (leaf : Leaf) → IsAt j leaf children → (to : Option (List ℕ)) → to ≡ (span_of inner children j).to → front_at lo hi s to leaf.object ≡ Some (length leaf.cells)
      front_is_at j leaf at to ends_there =
          let span : Span = span_of inner children j in
          let held : IsHeld 0 (bytes_at lo s leaf.object) (leaf.cells ++ leaf.past) = (held_at j leaf at).1 in
          ap (λ (t : Bool). if t then front_in (bytes_at lo s leaf.object) to else None) (on_level searches lo hi small s [] 0 (bytes_at lo s leaf.object) (leaf.cells ++ leaf.past) held)
          ∙ front_held changes.place 0 (bytes_at lo s leaf.object) (leaf.cells ++ leaf.past) held to
          ∙ ap (λ (l : List Cell). Some (length l))
          (ap (λ (e : Option (List ℕ)). front_of e (leaf.cells ++ leaf.past)) ends_there
          ∙ front_is span.to leaf.cells leaf.past (wider (is_within span) (λ k. is_below k span.to) (λ k e. (within_parts span k e).1) leaf.cells (stands_at j leaf at).0) (stands_at j leaf at).1)

      -- the next one takes its place
      next_takes : (i : ℕ) (leaf next : Leaf) → IsAt i leaf children → IsAt (suc i) next children → leaf.cells ≡ []
          → Drops is (takes_both q i next.object leaf.object) (record { object = q; children = with_one i next children; past = page.past })
      next_takes i leaf next one two empty =
          let span : Span = span_of inner children (suc i) in
          let joined : Span = joined_span inner children i in
          let stands : StandIn 0 joined next = (
            wider (is_within span) (is_within joined)
                (λ k e. parts_within joined k (not_below_through k span.from joined.from (within_parts span k e).0 (next_begins (StandIn 0) inner children i next two place.stand.0)) (within_parts span k e).1) next.cells (stands_at (suc i) next two).0,
            (stands_at (suc i) next two).1,
          ) in
          drop_keeps i leaf next next leaf one two (λ y. omega arith) (ap (λ (l : List Cell). l ++ next.cells) empty) stands (held_at (suc i) next two) (child_low 0 s leaf (held_at i leaf one))
          (short_at (suc i) next two) is same

      -- the one before it does
      first_takes : (j : ℕ) (first leaf : Leaf) → IsAt j first children → IsAt (suc j) leaf children → leaf.cells ≡ [] → first.past ≡ []
          → Drops is (takes_both q j first.object leaf.object) (record { object = q; children = with_one j first children; past = page.past })
      first_takes j first leaf one two empty none =
          let span : Span = span_of inner children j in
          let joined : Span = joined_span inner children j in
          let stands : StandIn 0 joined first = (
            wider (is_within span) (is_within joined) (λ k e. parts_within joined k (within_parts span k e).0 (next_ends (StandIn 0) inner children j leaf two place.stand.0 k (within_parts span k e).1)) first.cells
                (stands_at j first one).0,
            subst (λ (l : List Cell). IsTrue (all_past joined l)) (sym none) refl,
          ) in
          drop_keeps j first leaf first leaf one two (λ y. refl) (ap (λ (l : List Cell). first.cells ++ l) empty ∙ append-nil first.cells) stands (held_at j first one)
          (child_low 0 s leaf (held_at (suc j) leaf two)) (short_at j first one) is same

      trims_or_takes : (j : ℕ) (first leaf : Leaf) → IsAt j first children → IsAt (suc j) leaf children → leaf.cells ≡ []
          → Keeps b lo hi s is (before_takes q j first.object leaf.object (bytes_at lo s first.object) (length first.cells))
      trims_or_takes j first leaf one two empty =
          let count : count_in (bytes_at lo s first.object) ≡ length (first.cells ++ first.past) = count_held 0 (bytes_at lo s first.object) (first.cells ++ first.past) (held_at j first one).1 in
          let choose : Bool → List PageOp = λ t. if t then Keep first.object (length first.cells) ∷ [] else takes_both q j first.object leaf.object in
          subst (λ (n : ℕ). Keeps b lo hi s is (choose (nat_lt (length first.cells) n))) (sym count)
          (elim (nat_lt (length first.cells) (length (first.cells ++ first.past))) as (λ t. nat_lt (length first.cells) (length (first.cells ++ first.past)) ≡ t → Keeps b lo hi s is (choose t)) [
            | true ↦ λ e. trim_keeps changes reads b lo hi small admits key [] s level t tree 0 inner page place j first one is same
            | false ↦ λ e. (first_takes j first leaf one two empty (none_past 0 first e)).keeps
          ] refl)

      before_is : (j : ℕ) (first leaf : Leaf) → IsAt j first children → (at : IsAt (suc j) leaf children)
          → gives_way lo hi s q (step_at (suc j) leaf at) (Before first.object) ≡ Ok (before_takes q j first.object leaf.object (bytes_at lo s first.object) (length first.cells))
      before_is j first leaf one two =
          let from : key_of bytes (suc j) ≡ (span_of inner children (suc j)).from =
          step_from searches reads lo hi small bytes 0 inner page held_page.0 place.stand.0 place.stand.1 ends (suc j) leaf two (held_at (suc j) leaf two).0 in
          let front : front_at lo hi s (Some (key_of bytes (suc j))) first.object ≡ Some (length first.cells) =
          front_is_at j first one (Some (key_of bytes (suc j))) (ap (λ (k : List ℕ). Some k) from ∙ sym (end_next (StandIn 0) inner children j leaf two)) in
          let place_is : suc j - 1 ≡ j = omega arith in
          (λ k. or_bad first.object (option_map (before_takes q (place_is k) first.object leaf.object (bytes_at lo s first.object)) (front k)))

      -- which one is beside it
      record IsBeside (i : ℕ) (leaf : Leaf) (at : IsAt i leaf children) : Type 0 where
        pub beside : Beside
        pub is_beside : beside_in lo hi bytes i (is_some (step_at i leaf at).end) ≡ Some beside
        pub keeps : leaf.cells ≡ [] → Tidies s is (gives_way lo hi s q (step_at i leaf at) beside)

      more_is : (i : ℕ) (leaf : Leaf) (at : IsAt i leaf children) → is_some (step_at i leaf at).end ≡ nat_lt (suc i) (length children)
      more_is i leaf at = has_next searches reads lo hi small bytes 0 inner page held_page.0 place.stand.0 place.stand.1 ends i leaf at (held_at i leaf at).0

      next_beside : (i : ℕ) (leaf : Leaf) (at : IsAt i leaf children) → nat_lt (suc i) (length children) ≡ true → IsBeside i leaf at
      next_beside i leaf at more =
          let next = child_there children (suc i) (ltb-true (suc i) (length children) more) in
          record {
            beside = Next next.0.object;
            is_beside =
                ap (λ (t : Bool). if t then option_map Next (child_in lo hi bytes (suc i)) else before_in lo hi bytes i) (more_is i leaf at ∙ more)
                ∙ ap (option_map Next) (named (suc i) next.0 next.1);
            keeps = λ empty. (next_takes i leaf next.0 at next.1 empty).keeps;
          }

      before_beside : (i : ℕ) (leaf : Leaf) (at : IsAt i leaf children) → nat_lt (suc i) (length children) ≡ false → IsBeside i leaf at
      before_beside zero leaf at last = record {
        beside = Only;
        is_beside = ap (λ (t : Bool). if t then option_map Next (child_in lo hi bytes 1) else Some Only) (more_is 0 leaf at ∙ last);
        keeps = λ empty. keeps_none b lo hi s is;
      }
      before_beside (suc j) leaf at last =
          let first = child_there children j (omega (arith, at_inside children (suc j) leaf at)) in
          record {
            beside = Before first.0.object;
            is_beside =
                ap (λ (t : Bool). if t then option_map Next (child_in lo hi bytes (suc (suc j))) else option_map Before (child_in lo hi bytes j)) (more_is (suc j) leaf at ∙ last)
                ∙ ap (option_map Before) (named j first.0 first.1);
            keeps = λ empty. subst (λ (r : Result (List PageOp) ℕ). Tidies s is r) (sym (before_is j first.0 leaf first.1 at)) (trims_or_takes j first.0 leaf first.1 at empty);
          }

      beside_found : (i : ℕ) (leaf : Leaf) (at : IsAt i leaf children) → IsBeside i leaf at
      beside_found i leaf at =
          elim (nat_lt (suc i) (length children)) as (λ t. nat_lt (suc i) (length children) ≡ t → IsBeside i leaf at) [
            | true ↦ λ e. next_beside i leaf at e
            | false ↦ λ e. before_beside i leaf at e
          ] refl

      abbrev turn_here : Result (List PageOp) ℕ
      turn_here = leaf_goes lo hi s q inner.to (both_under lo hi bytes inner.to key)

      module _ (i : ℕ) (leaf : Leaf) (at : IsAt i leaf children) (found : under bytes key ≡ Some i) where
        both_is : (by : IsBeside i leaf at) → both_under lo hi bytes inner.to key ≡ Some (step_at i leaf at, by.beside)
        both_is by =
            let step : step_in lo hi bytes inner.to i ≡ Some (step_at i leaf at) =
            step_held searches reads lo hi small bytes 0 inner page held_page.0 place.stand.0 place.stand.1 ends i leaf at (held_at i leaf at).0 in
            ap (λ (o : Option ℕ). option_and_then (with_beside lo hi bytes inner.to) (option_and_then (step_in lo hi bytes inner.to) o)) found
            ∙ ap (option_and_then (with_beside lo hi bytes inner.to)) step ∙ ap (option_map (λ beside. (step_at i leaf at, beside))) by.is_beside

        leaf_is : (by : IsBeside i leaf at) (n : ℕ) → length leaf.cells ≡ n → turn_here ≡ when_empty leaf.object (gives_way lo hi s q (step_at i leaf at) by.beside) (Some n)
        leaf_is by n count =
            ap (leaf_goes lo hi s q inner.to) (both_is by)
            ∙ ap (when_empty leaf.object (gives_way lo hi s q (step_at i leaf at) by.beside))
            (front_is_at i leaf at (ended inner.to (step_at i leaf at).end) (step_ends searches reads lo hi small bytes 0 inner page held_page.0 place.stand.0 place.stand.1 ends i leaf at (held_at i leaf at).0)
            ∙ ap (λ (k : ℕ). Some k) count)

        leaf_keeps : Tidies s is turn_here
        leaf_keeps = by_count (length leaf.cells) refl
          where
            by_count : (n : ℕ) → length leaf.cells ≡ n → Tidies s is turn_here
            by_count zero e = subst (λ (r : Result (List PageOp) ℕ). Tidies s is r) (sym (leaf_is (beside_found i leaf at) 0 e)) ((beside_found i leaf at).keeps (nothing_in leaf.cells e))
            by_count (suc n) e = subst (λ (r : Result (List PageOp) ℕ). Tidies s is r) (sym (leaf_is (beside_found i leaf at) (suc n) e)) (keeps_none b lo hi s is)

      -- ---- and then the leaf of the key rests

      abbrev IsFilled : Leaf → Type 0
      IsFilled leaf = 0 < length leaf.cells

      others_of : (n : ℕ) → NeedsHere key (suc n) page → Others key page
      others_of zero needs = needs.0
      others_of (suc n) needs = needs

      filled_but : (i : ℕ) → last_under key cells ≡ Some i → Others key page → 1 < length children → (j : ℕ) (leaf : Leaf) → IsAt j leaf children → j ≢ i → IsFilled leaf
      filled_but i here (inl few) more j leaf at apart = absurd (omega (arith, few, more))
      filled_but i here (inr others) more j leaf at apart = others j leaf at (λ e. apart (same_some j i (sym e ∙ here)))

      joined_rests : (i : ℕ) (kid : Leaf) → suc i < length children → ((j : ℕ) (leaf : Leaf) → IsAt j leaf children → j ≢ i → j ≢ suc i → IsFilled leaf) → IsFilled kid
          → NoneIsEmpty 1 (record { object = q; children = with_one i kid children; past = page.past })
      joined_rests i kid more others filled = inr (each_one_but IsFilled children i kid more others filled)

      module _ (i : ℕ) (leaf : Leaf) (at : IsAt i leaf children) (found : under bytes key ≡ Some i) (here : last_under key cells ≡ Some i) where
        filled_rests : IsFilled leaf → Others key page → NoneIsEmpty 1 page
        filled_rests some (inl few) = inl few
        filled_rests some (inr others) = inr (each_by IsFilled children filled)
          where
            filled : (j : ℕ) (other : Leaf) → IsAt j other children → IsFilled other
            filled j other there =
                elim (j == i) as (λ t. (j == i) ≡ t → IsFilled other) [
                  | true ↦ λ e. subst IsFilled (at_same children i leaf other at (subst (λ (p : ℕ). IsAt p other children) (eqb-true j i e) there)) some
                  | false ↦ λ e. others j other there (λ u. absurd (true≢false (sym (eq-eqb j i (same_some j i (sym u ∙ here))) ∙ e)))
                ] refl

        next_goes : (n : ℕ) → Needs key (suc n) level t → Others key page → leaf.cells ≡ [] → nat_lt (suc i) (length children) ≡ true → GoesOn s (level + suc n) turn_here
        unfolding next_beside
        next_goes n whole others empty more =
            let inside : suc i < length children = ltb-true (suc i) (length children) more in
            let next = child_there children (suc i) inside in
            let takes = next_takes i leaf next.0 at next.1 empty in
            let filled : (j : ℕ) (leaf : Leaf) → IsAt j leaf children → j ≢ i → IsFilled leaf = filled_but i here others (omega (arith, inside)) in
            record {
              op = Turn q i 2 next.0.object;
              ops = Free leaf.object ∷ [];
              turn_is = leaf_is i leaf at found (next_beside i leaf at more) 0 (ap (λ (l : List Cell). length l) empty);
              depth = level;
              made = takes.made;
              tree_made = takes.tree_made;
              left = 0;
              needs = takes.needs (suc n) 0 whole (joined_rests i next.0 inside (λ j leaf at one two. filled j leaf at one) (filled (suc i) next.0 next.1 (λ e. absurd (omega (arith, e)))));
              fewer = omega arith;
            }

      -- the leaf before it
      module _ (j : ℕ) (first leaf : Leaf) (one : IsAt j first children) (two : IsAt (suc j) leaf children) (found : under bytes key ≡ Some (suc j)) (here : last_under key cells ≡ Some (suc j)) (empty : leaf.cells ≡ [])
          (others : Others key page) (turn_is : turn_here ≡ Ok (before_takes q j first.object leaf.object (bytes_at lo s first.object) (length first.cells))) where
        inside_two : suc j < length children
        inside_two = at_inside children (suc j) leaf two

        filled : (k : ℕ) (leaf : Leaf) → IsAt k leaf children → k ≢ suc j → IsFilled leaf
        filled = filled_but (suc j) here others (omega (arith, inside_two))

        first_filled : IsFilled first
        first_filled = filled j first one (λ e. absurd (omega (arith, e)))

        chosen : (t : Bool) → nat_lt (length first.cells) (length (first.cells ++ first.past)) ≡ t → turn_here ≡ Ok (if t then Keep first.object (length first.cells) ∷ [] else takes_both q j first.object leaf.object)
        chosen t e =
            let count : count_in (bytes_at lo s first.object) ≡ length (first.cells ++ first.past) = count_held 0 (bytes_at lo s first.object) (first.cells ++ first.past) (held_at j first one).1 in
            turn_is ∙ ap (λ (t : Bool). Ok (if t then Keep first.object (length first.cells) ∷ [] else takes_both q j first.object leaf.object)) (ap (nat_lt (length first.cells)) count ∙ e)

        first_goes : (n : ℕ) → Needs key (suc n) level t → nat_lt (length first.cells) (length (first.cells ++ first.past)) ≡ false → GoesOn s (level + suc n) turn_here
        first_goes n whole e =
            let takes = first_takes j first leaf one two empty (none_past 0 first e) in
            record {
              op = Turn q j 2 first.object;
              ops = Free leaf.object ∷ [];
              turn_is = chosen false e;
              depth = level;
              made = takes.made;
              tree_made = takes.tree_made;
              left = 0;
              needs = takes.needs (suc n) 0 whole (joined_rests j first inside_two (λ k leaf at one two. filled k leaf at two) first_filled);
              fewer = omega arith;
            }

        abbrev trimmed_page : Tree 1
        trimmed_page = record { object = q; children = with_child j (bare 0 first) children; past = page.past }

        trimmed_cells : last_under key (cells_in 1 trimmed_page) ≡ Some (suc j)
        trimmed_cells = ap (λ (l : List Cell). last_under key (l ++ page.past)) (cells_again (root_of 0) children j first (bare 0 first) one refl) ∙ here

        trimmed_others : Others key trimmed_page
        trimmed_others = inr (λ k leaf there apart.
            with_all IsFilled children j k (bare 0 first) leaf there first_filled (λ stays. filled k leaf stays (λ e. apart (trimmed_cells ∙ ap (λ (p : ℕ). Some p) (sym e)))))

        trimmed_there : Trimmed key trimmed_page
        trimmed_there = λ k other there e.
            let same : k ≡ j = let next : suc k ≡ suc j = same_some (suc k) (suc j) (sym e ∙ trimmed_cells) in omega (arith, next) in
            subst (λ (l : Leaf). l.past ≡ []) (at_new children j (bare 0 first) other (subst (λ (p : ℕ). IsAt p other (with_child j (bare 0 first) children)) same there)) refl

        trims : (n : ℕ) → Needs key (suc n) level t → NeedsHere key (suc n) page → nat_lt (length first.cells) (length (first.cells ++ first.past)) ≡ true → GoesOn s (level + suc n) turn_here
        trims zero whole needs e =
            let none : first.past ≡ [] = needs.1 j first one here in
            absurd (omega (arith, ltb-true (length first.cells) (length (first.cells ++ first.past)) e, length-append first.cells first.past, ap (λ (l : List Cell). length l) none))
        trims (suc n) whole needs e =
            let trim = trim_tree changes reads b lo hi small admits key [] s level t tree 0 inner page place j first one in
            record {
              op = Keep first.object (length first.cells);
              ops = [];
              turn_is = chosen true e;
              depth = level;
              made = trim.made;
              tree_made = trim.is;
              left = 1;
              needs = trim.needs (suc (suc n)) 1 whole (trimmed_others, trimmed_there);
              fewer = omega arith;
            }

        before_goes : (n : ℕ) → Needs key (suc n) level t → NeedsHere key (suc n) page → GoesOn s (level + suc n) turn_here
        before_goes n whole needs =
            elim (nat_lt (length first.cells) (length (first.cells ++ first.past))) as (λ t. nat_lt (length first.cells) (length (first.cells ++ first.past)) ≡ t → GoesOn s (level + suc n) turn_here) [
              | true ↦ λ e. trims n whole needs e
              | false ↦ λ e. first_goes n whole e
            ] refl

      -- an only child
      only_idle : (leaf : Leaf) (at : IsAt 0 leaf children) → under bytes key ≡ Some 0 → leaf.cells ≡ [] → nat_lt 1 (length children) ≡ false → turn_here ≡ Ok []
      unfolding before_beside
      only_idle leaf at found empty last = leaf_is 0 leaf at found (before_beside 0 leaf at last) 0 (ap (λ (l : List Cell). length l) empty)

      last_goes : (i : ℕ) (leaf : Leaf) → IsAt i leaf children → under bytes key ≡ Some i → last_under key cells ≡ Some i → (n : ℕ) → Needs key (suc n) level t → NeedsHere key (suc n) page → leaf.cells ≡ []
          → nat_lt (suc i) (length children) ≡ false → ((turn_here ≡ Ok []) × NoneIsEmpty 1 page) ⊎ GoesOn s (level + suc n) turn_here
      unfolding before_beside
      last_goes zero leaf at found here n whole needs empty last = inl (only_idle leaf at found empty last, inl (omega (arith, ltb-false 1 (length children) last)))
      last_goes (suc j) leaf at found here n whole needs empty last =
          let first = child_there children j (omega (arith, at_inside children (suc j) leaf at)) in
          inr (before_goes j first.0 leaf first.1 at found here empty (others_of n needs)
          (leaf_is (suc j) leaf at found (before_beside (suc j) leaf at last) 0 (ap (λ (l : List Cell). length l) empty) ∙ before_is j first.0 leaf first.1 at) n whole needs)

      page_turn : (i : ℕ) (leaf : Leaf) → IsAt i leaf children → under bytes key ≡ Some i → last_under key cells ≡ Some i → (n : ℕ) → Needs key (suc n) level t → NeedsHere key (suc n) page
          → ((turn_here ≡ Ok []) × NoneIsEmpty 1 page) ⊎ GoesOn s (level + suc n) turn_here
      page_turn i leaf at found here n whole needs = by_count (length leaf.cells) refl
        where
          by_count : (k : ℕ) → length leaf.cells ≡ k → ((turn_here ≡ Ok []) × NoneIsEmpty 1 page) ⊎ GoesOn s (level + suc n) turn_here
          by_count (suc k) e = inl (leaf_is i leaf at found (beside_found i leaf at) (suc k) e, filled_rests i leaf at found here (omega (arith, e)) (others_of n needs))
          by_count zero e =
              elim (nat_lt (suc i) (length children)) as (λ t. nat_lt (suc i) (length children) ≡ t → ((turn_here ≡ Ok []) × NoneIsEmpty 1 page) ⊎ GoesOn s (level + suc n) turn_here) [
                | true ↦ λ more. inr (next_goes i leaf at found here n whole (others_of n needs) (nothing_in leaf.cells e) more)
                | false ↦ λ last. last_goes i leaf at found here n whole needs (nothing_in leaf.cells e) last
              ] refl

      filled_idle : (i : ℕ) (leaf : Leaf) → IsAt i leaf children → under bytes key ≡ Some i → 0 < length leaf.cells → turn_here ≡ Ok []
      filled_idle i leaf at found some = by_count (length leaf.cells) refl
        where
          by_count : (k : ℕ) → length leaf.cells ≡ k → turn_here ≡ Ok []
          by_count (suc k) e = leaf_is i leaf at found (beside_found i leaf at) (suc k) e
          by_count zero e = absurd (omega (arith, e, some))

      few_idle : (i : ℕ) (leaf : Leaf) → IsAt i leaf children → under bytes key ≡ Some i → length children ≤ 1 → turn_here ≡ Ok []
      few_idle (suc i) leaf at found few = absurd (omega (arith, few, at_inside children (suc i) leaf at))
      few_idle zero leaf at found few = by_count (length leaf.cells) refl
        where
          by_count : (k : ℕ) → length leaf.cells ≡ k → turn_here ≡ Ok []
          by_count (suc k) e = leaf_is 0 leaf at found (beside_found 0 leaf at) (suc k) e
          by_count zero e = only_idle leaf at found (nothing_in leaf.cells e) (le-ltb 1 (length children) few)

      rests_idle : (i : ℕ) (leaf : Leaf) → IsAt i leaf children → under bytes key ≡ Some i → NoneIsEmpty 1 page → turn_here ≡ Ok []
      rests_idle i leaf at found (inl few) = few_idle i leaf at found few
      rests_idle i leaf at found (inr filled) = filled_idle i leaf at found (each_at IsFilled children i leaf at filled)

  -- ---- the page above the leaf of the key

  module _ (s : State) where
    record IsAbove (level : ℕ) (span : Span) (t : Tree level) : Type 0 where
      pub inner : Span
      pub page : Tree 1
      pub place : IsPlace reads lo hi small room key [] level span t 1 inner page
      pub ends : IsTrue (is_below inner.from inner.to)
      pub i : ℕ
      pub leaf : Leaf
      pub at : IsAt i leaf page.children
      pub found : under (bytes_at lo s page.object) key ≡ Some i
      pub here : last_under key (cells_in 1 page) ≡ Some i
      pub needs : (n : ℕ) → Needs key n level t → NeedsHere key n page
      pub full : (n : ℕ) → Needs key n level t → NoneIsEmpty 1 page → NoneIsEmpty level t
      pub turn_is : tidy_from lo hi s key level (root_of level t) span.to ≡ leaf_goes lo hi s page.object inner.to (both_under lo hi (bytes_at lo s page.object) inner.to key)

    under_is : (level x : ℕ) (cells : List Cell) (i : ℕ) → IsHeld level (bytes_at lo s x) cells → last_under key cells ≡ Some i → under (bytes_at lo s x) key ≡ Some i
    under_is level x cells i held found = ap (λ (b : List ℕ). under b key) held.code ∙ searches.under (record { level = level; cells = cells }) key held.short held.rise ∙ found

    above_found : (level : ℕ) (span : Span) (t : Tree (suc level)) → Holds lo hi s (suc level) t → StandIn (suc level) span t → IsTrue (is_within span key) → IsAbove (suc level) span t
    above_found zero span t holds stand within =
        let found = child_found (StandIn 0) (HoldsChild lo hi s 0) (root_of 0) (pairs_in 0) (pairs_within 0) key span t.children t.past stand.0 holds.1 stand.1 within in
        record {
          inner = span;
          page = t;
          place = place_here reads lo hi small room key [] 1 span t stand;
          ends = from_below span key within;
          i = found.place;
          leaf = found.child;
          at = found.at;
          found = under_is 1 t.object (cells_in 1 t) found.place holds.0 found.under;
          here = found.under;
          needs = λ n needs. needs;
          full = λ n needs full. full;
          turn_is =
              ap (λ (b : Bool). if b then leaf_goes lo hi s t.object span.to (both_under lo hi (bytes_at lo s t.object) span.to key) else Err t.object)
              (on_level searches lo hi small s [] 1 (bytes_at lo s t.object) (cells_in 1 t) holds.0);
        }
    above_found (suc level) span t holds stand within =
        let x : ℕ = t.object in
        let bytes : List ℕ = bytes_at lo s x in
        let cells : List Cell = cells_in (suc (suc level)) t in
        let found =
        child_found (StandIn (suc level)) (HoldsChild lo hi s (suc level)) (root_of (suc level)) (pairs_in (suc level)) (pairs_within (suc level)) key span t.children t.past stand.0 holds.1 stand.1 within in
        let i : ℕ = found.place in
        let inner : Span = span_of span t.children i in
        let rest = above_found level inner found.child found.held.1 found.stands found.within in
        let ends : IsTrue (is_below span.from span.to) = from_below span key within in
        let on : ℕ → Option (List ℕ) → Result (List PageOp) ℕ = tidy_from lo hi s key (suc level) in
        let step : Step = step_of searches reads lo hi small bytes (suc level) span t holds.0 stand.0 stand.1 ends i found.child found.at found.held.0 in
        let steps : step_under lo hi bytes span.to key ≡ Some step =
        ap (option_and_then (step_in lo hi bytes span.to)) (under_is (suc (suc level)) x cells i holds.0 found.under)
        ∙ step_held searches reads lo hi small bytes (suc level) span t holds.0 stand.0 stand.1 ends i found.child found.at found.held.0 in
        let to : ended span.to step.end ≡ inner.to = step_ends searches reads lo hi small bytes (suc level) span t holds.0 stand.0 stand.1 ends i found.child found.at found.held.0 in
        record {
          inner = rest.inner;
          page = rest.page;
          place = place_below reads lo hi small room key [] (suc level) span t i found.child found.at stand found.before found.after found.split found.again 1 rest.inner rest.page rest.place found.under ends;
          ends = rest.ends;
          i = rest.i;
          leaf = rest.leaf;
          at = rest.at;
          found = rest.found;
          here = rest.here;
          needs = λ n needs. rest.needs n ((needs i found.child found.at).0 found.under);
          full = λ n needs full.
              each_by (NoneIsEmpty (suc level)) t.children
              (λ j kid there.
              elim (j == i) as (λ t. (j == i) ≡ t → NoneIsEmpty (suc level) kid) [
                | true ↦ λ e.
                    subst (NoneIsEmpty (suc level)) (at_same t.children i found.child kid found.at (subst (λ (p : ℕ). IsAt p kid t.children) (eqb-true j i e) there))
                    (rest.full n ((needs i found.child found.at).0 found.under) full)
                | false ↦ λ e. (needs j kid there).1 (λ u. absurd (true≢false (sym (eq-eqb j i (same_some j i (sym u ∙ found.under))) ∙ e)))
              ] refl);
          turn_is =
              ap (λ (b : Bool). if b then on_way on x span.to (step_under lo hi bytes span.to key) else Err x) (on_level searches lo hi small s [] (suc (suc level)) bytes cells holds.0)
              ∙ ap (on_way on x span.to) steps ∙ ap (on (root_of (suc level) found.child)) to ∙ rest.turn_is;
        }

  -- ---- a root with one child

  last_stands : (level x : ℕ) (span : Span) (t : Tree level) → StandIn level span t → StandIn level span (last_part level x 0 t)
  last_stands zero x span t stand = (stand.0, refl)
  last_stands (suc level) x span t stand = (stand.0, refl)

  last_pairs : (level x : ℕ) (t : Tree level) → pairs_in level (last_part level x 0 t) ≡ pairs_in level t
  last_pairs zero x t = refl
  last_pairs (suc level) x t = refl

  last_objects : (level x : ℕ) (t : Tree level) (y : ℕ) → times y (objects_in level (last_part level x 0 t)) + one_if (root_of level t == y) ≡ times y (objects_in level t) + one_if (x == y)
  last_objects zero x t y = omega arith
  last_objects (suc level) x t y = omega arith

  module _ (s : State) (level : ℕ) (t : Tree (suc level)) (tree : IsTree b lo hi s (suc level) t) (from : List ℕ) (child : Tree level) (only : t.children ≡ (from, child) ∷ []) where
    abbrev old : ℕ
    old = root_of level child

    abbrev page : List Cell
    page = cells_in level child

    abbrev up : Tree level
    up = last_part level lo 0 child

    child_held : HoldsChild lo hi s level child
    child_held = (subst (λ (l : List (List ℕ × Tree level)). Each (HoldsChild lo hi s level) l) only tree.holds.1).0

    child_stands : StandIn level all_keys child
    child_stands = (subst (λ (l : List (List ℕ × Tree level)). Share (StandIn level) all_keys l) only tree.stand.0).1

    child_short : AreShortPairs room level child
    child_short = (subst (λ (l : List (List ℕ × Tree level)). Each (AreShortPairs room level) l) only tree.short.1).0

    old_apart : old ≢ lo
    old_apart e = absurd (omega (arith, child_above level s child child_held, e))

    root_is : IsHeld level (bytes_at lo s old) page
    root_is = root_of_held level child child_held.1
      where
        root_of_held : (level : ℕ) (child : Tree level) → Holds lo hi s level child → IsHeld level (bytes_at lo s (root_of level child)) (cells_in level child)
        root_of_held zero child holds = holds
        root_of_held (suc level) child holds = holds.0

    old_read : s old ≡ page_of level page
    old_read = read_child lo s old old_apart ∙ root_is.code

    whole_page : page ≡ live_in level child
    whole_page = whole_is level child ∙ ap (λ (l : List Cell). live_in level child ++ l) (root_ends level child child_stands) ∙ append-nil (live_in level child)

    -- the root and the objects below it, each once
    both_once : (y : ℕ) → one_if (lo == y) + times y (objects_in level child) ≤ 1
    both_once y =
        omega (
          arith,
          tree.once y,
          ap (λ (x : ℕ). one_if (x == y)) tree.root,
          ap (λ (l : List (List ℕ × Tree level)). times y (flat_map (λ c. objects_in level c.1) l)) only,
          times_both y (objects_in level child) [],
        )

    parted : IsWritten b s (Part lo old 0 (length page)) level page
    parted =
        let all : length page - 0 ≡ length page = omega arith in
        part_done changes b hi small admits s lo old 0 (length page) level page page old_read root_is.short (page_fits b lo hi s tree.fits old level page old_read root_is.short) (λ e. old_apart (sym e)) tree.order
        (child_low level s child child_held) (omega arith) (omega arith) (take_all (length page - 0) page (omega arith)) (omega arith)

    abbrev s_up : State
    s_up = after meaning s (Part lo old 0 (length page))

    else_up : (y : ℕ) → y ≢ lo → SameAt lo hi s s_up y
    else_up = bytes_else lo s s_up lo level page parted.after_is

    held_up : IsHeld level (bytes_at lo s_up lo) (drop 0 (live_in level child))
    held_up = record {
      code = bytes_there lo s s_up lo level page parted.after_is ∙ ap (page_of level) whole_page;
      short = subst (λ (l : List Cell). AreShort l) whole_page parted.short;
      rise = subst (λ (l : List Cell). T (is_sorted byte_order l)) whole_page root_is.rise;
    }

    below_up : HoldsBelow lo hi s_up level child
    below_up =
        below_over lo hi s s_up level child (λ y. omega (arith, both_once y))
        (λ y there other. else_up y (λ e. absurd (omega (arith, there, both_once y, ap (λ (x : ℕ). one_if (x == y)) (sym e), one_here y [])))) (below_held lo hi s level child child_held.1)

    tree_up : IsTree b lo hi s_up level up
    tree_up = record {
      order = tree.order;
      root = last_root level lo 0 child;
      holds = last_held lo hi s_up level lo 0 child below_up held_up;
      stand = last_stands level lo all_keys child child_stands;
      once = λ y. omega (arith, last_objects level lo child y, both_once y);
      short = (parts_short room level lo lo 0 [] child child_short).1;
      fits = fits_after lo s s_up lo level page parted.after_is b.cap tree.fits (omega (arith, parted.size, room_cap b.cap));
    }

    old_gone : times old (objects_in level up) ≡ 0
    old_gone = omega (arith, last_objects level lo child old, both_once old, root_reached level child, one_here old [])

    up_keeps : (is : IsKept b lo hi s) → from_entries (pairs_in (suc level) t) ≡ content_of is.map → Keeps b lo hi s is (Part lo old 0 (length page) ∷ Free old ∷ [])
    up_keeps is same =
        let last = over_free s_up old (child_low level s child child_held) level up old_gone tree_up in
        let s2 : State = after meaning s_up (Free old) in
        let pairs : pairs_in level up ≡ pairs_in (suc level) t =
        last_pairs level lo child ∙ sym (append-nil (pairs_in level child)) ∙ ap (λ (l : List (List ℕ × Tree level)). flat_map (λ c. pairs_in level c.1) l) (sym only) in
        keeps_more b lo hi s is (Part lo old 0 (length page)) (Free old ∷ []) parted.accepted (kept_by b lo hi s_up level up tree_up) (ap from_entries pairs ∙ same)
        (keeps_more b lo hi s_up (kept_by b lo hi s_up level up tree_up) (Free old) [] last.0 (kept_by b lo hi s2 level up last.1) refl (keeps_none b lo hi s2 (kept_by b lo hi s2 level up last.1)))

    -- where the root has one child
    only_is : child_goes lo hi s level (Some (Some old)) ≡ Ok (Part lo old 0 (length page) ∷ Free old ∷ [])
    only_is =
        ap (λ (t : Bool). if t then Ok (root_takes lo old (count_in (bytes_at lo s old))) else Err old) (on_level searches lo hi small s [] level (bytes_at lo s old) page root_is)
        ∙ ap (λ (n : ℕ). Ok (root_takes lo old n)) (count_held level (bytes_at lo s old) page root_is)

    only_keeps : (is : IsKept b lo hi s) → from_entries (pairs_in (suc level) t) ≡ content_of is.map → Tidies s is (child_goes lo hi s level (Some (Some old)))
    only_keeps is same = subst (λ (r : Result (List PageOp) ℕ). Tidies s is r) (sym only_is) (up_keeps is same)

    up_tree : IsTree b lo hi (after_all meaning s (Part lo old 0 (length page) ∷ Free old ∷ [])) level up
    up_tree = (over_free s_up old (child_low level s child child_held) level up old_gone tree_up).1

    up_full : NoneIsEmpty (suc level) t → NoneIsEmpty level up
    up_full full = moved_up level child (below level t only full)
      where
        below : (level : ℕ) (t : Tree (suc level)) {child : Tree level} → t.children ≡ (from, child) ∷ [] → NoneIsEmpty (suc level) t → NoneIsEmpty level child
        below zero t only full = tt
        below (suc level) t only full = (subst (λ (l : List (List ℕ × Tree (suc level))). Each (NoneIsEmpty (suc level)) l) only full).0

        moved_up : (level : ℕ) (child : Tree level) → NoneIsEmpty level child → NoneIsEmpty level (last_part level lo 0 child)
        moved_up zero child full = tt
        moved_up (suc zero) child full = full
        moved_up (suc (suc level)) child full = full

  module _ (s : State) (level : ℕ) (t : Tree (suc level)) (tree : IsTree b lo hi s (suc level) t) where
    abbrev root_cells : List Cell
    root_cells = cells_in (suc level) t

    top_held : IsHeld (suc level) (bytes_at lo s lo) root_cells
    top_held = subst (λ (x : ℕ). IsHeld (suc level) (bytes_at lo s x) root_cells) tree.root tree.holds.0

    -- it has no cells but those of its children
    top_count : count_in (bytes_at lo s lo) ≡ length t.children
    top_count =
        count_held (suc level) (bytes_at lo s lo) root_cells top_held
        ∙ ap (λ (l : List Cell). length l) (ap (λ (l : List Cell). live_in (suc level) t ++ l) (root_ends (suc level) t tree.stand) ∙ append-nil (live_in (suc level) t))
        ∙ length-map t.children (λ (c : List ℕ × Tree level). child_cell c.0 (root_of level c.1))

    -- its one child, where it has one
    abbrev one_of : List (List ℕ × Tree level) → Option ℕ
    one_of [] = None
    one_of (c ∷ []) = Some (root_of level c.1)
    one_of (c ∷ d ∷ kids) = None

    only_found : (kids : List (List ℕ × Tree level)) → t.children ≡ kids → only_child lo hi (bytes_at lo s lo) ≡ Some (one_of kids)
    only_found [] e =
        ap (λ (t : Bool). if t then option_map Some (child_in lo hi (bytes_at lo s lo) 0) else Some None) (ap (λ (n : ℕ). n == 1) (top_count ∙ ap (λ (l : List (List ℕ × Tree level)). length l) e))
    only_found (c ∷ []) e =
        let at : IsAt 0 c.1 t.children = subst (λ (l : List (List ℕ × Tree level)). IsAt 0 c.1 l) (sym e) refl in
        ap (λ (t : Bool). if t then option_map Some (child_in lo hi (bytes_at lo s lo) 0) else Some None) (ap (λ (n : ℕ). n == 1) (top_count ∙ ap (λ (l : List (List ℕ × Tree level)). length l) e))
        ∙ ap (option_map Some)
        (child_is_at searches reads lo hi small (bytes_at lo s lo) level all_keys t top_held tree.stand.0 tree.stand.1 refl 0 c.1 at (each_at (HoldsChild lo hi s level) t.children 0 c.1 at tree.holds.1).0)
    only_found (c ∷ d ∷ kids) e =
        ap (λ (t : Bool). if t then option_map Some (child_in lo hi (bytes_at lo s lo) 0) else Some None)
        (ap (λ (n : ℕ). n == 1) (top_count ∙ ap (λ (l : List (List ℕ × Tree level)). length l) e) ∙ many (length kids))
      where
        many : (n : ℕ) → (suc (suc n) == 1) ≡ false
        many n = elim (suc (suc n) == 1) as (λ t. (suc (suc n) == 1) ≡ t → t ≡ false) [ true ↦ λ f. absurd (omega (arith, eqb-true (suc (suc n)) 1 f)) | false ↦ λ f. refl ] refl

    child_turn : NoneIsEmpty (suc level) t → (kids : List (List ℕ × Tree level)) → t.children ≡ kids
        → (child_goes lo hi s level (Some (one_of kids)) ≡ Ok []) ⊎ GoesOn s (suc level) (child_goes lo hi s level (Some (one_of kids)))
    child_turn full [] e = inl refl
    child_turn full (c ∷ []) e =
        inr (record {
          op = Part lo (root_of level c.1) 0 (length (cells_in level c.1));
          ops = Free (root_of level c.1) ∷ [];
          turn_is = only_is s level t tree c.0 c.1 e;
          depth = level;
          made = last_part level lo 0 c.1;
          tree_made = up_tree s level t tree c.0 c.1 e;
          left = 0;
          needs = full_needs key level (last_part level lo 0 c.1) (up_full s level t tree c.0 c.1 e full);
          fewer = omega arith;
        })
    child_turn full (c ∷ d ∷ kids) e = inl refl

    root_turn : NoneIsEmpty (suc level) t → (root_goes lo hi s (suc level) ≡ Ok []) ⊎ GoesOn s (suc level) (root_goes lo hi s (suc level))
    root_turn full =
        subst (λ (o : Option (Option ℕ)). (child_goes lo hi s level o ≡ Ok []) ⊎ GoesOn s (suc level) (child_goes lo hi s level o)) (sym (only_found t.children refl)) (child_turn full t.children refl)

    module _ (is : IsKept b lo hi s) (same : from_entries (pairs_in (suc level) t) ≡ content_of is.map) where
      by_children : (kids : List (List ℕ × Tree level)) → t.children ≡ kids → Tidies s is (child_goes lo hi s level (Some (one_of kids)))
      by_children [] e = keeps_none b lo hi s is
      by_children (c ∷ []) e = only_keeps s level t tree c.0 c.1 e is same
      by_children (c ∷ d ∷ kids) e = keeps_none b lo hi s is

      root_keeps_map : Tidies s is (root_goes lo hi s (suc level))
      root_keeps_map = subst (λ (o : Option (Option ℕ)). Tidies s is (child_goes lo hi s level o)) (sym (only_found t.children refl)) (by_children t.children refl)

      or_root : (r : Result (List PageOp) ℕ) → Tidies s is r → Tidies s is (else_root lo hi s (suc level) r)
      or_root (Err bad) keeps = absurd keeps
      or_root (Ok []) keeps = root_keeps_map
      or_root (Ok (op ∷ ops)) keeps = keeps

  -- ---- one turn after the other

  turn_keeps : (s : State) (level : ℕ) (t : Tree level) → IsTree b lo hi s level t → (is : IsKept b lo hi s) → from_entries (pairs_in level t) ≡ content_of is.map
      → Tidies s is (else_root lo hi s level (tidy_from lo hi s key level (root_of level t) None))
  turn_keeps s zero t tree is same =
      subst (λ (r : Result (List PageOp) ℕ). Tidies s is (else_root lo hi s 0 r))
      (sym (ap (λ (b : Bool). if b then Ok [] else Err t.object) (on_level searches lo hi small s [] 0 (bytes_at lo s t.object) (cells_in 0 t) tree.holds))) (keeps_none b lo hi s is)
  turn_keeps s (suc level) t tree is same =
      let found = above_found s level all_keys t tree.holds tree.stand (in_all key) in
      subst (λ (r : Result (List PageOp) ℕ). Tidies s is (else_root lo hi s (suc level) r)) (sym found.turn_is)
      (or_root s level t tree is same (leaf_goes lo hi s found.page.object found.inner.to (both_under lo hi (bytes_at lo s found.page.object) found.inner.to key))
      (leaf_keeps s (suc level) t tree found.inner found.page found.place is same found.ends found.i found.leaf found.at found.found))

  tidy_keeps : (s : State) (is : IsKept b lo hi s) → Tidies s is (tidy_turn lo hi s key)
  tidy_keeps s is =
      let level : ℕ = is.map.level in
      let t : Tree level = is.map.tree in
      let top : level_in (bytes_at lo s lo) ≡ level = ap (λ (x : ℕ). level_in (bytes_at lo s x)) (sym is.map.root) ∙ ap level_in (root_held lo hi s level t is.map.holds).code in
      subst (λ (r : Result (List PageOp) ℕ). Tidies s is r) (λ k. else_root lo hi s (sym top k) (tidy_from lo hi s key (sym top k) (is.map.root k) None)) (turn_keeps s level t (tree_of b lo hi s is) is refl)

  keeps_all : (ops : List PageOp) (s : State) (is : IsKept b lo hi s) → Keeps b lo hi s is ops → IsKept b lo hi (after_all meaning s ops)
  keeps_all ops s is keeps = subst (λ (l : List PageOp). IsKept b lo hi (after_all meaning s l)) (take_all (length ops) ops (omega arith)) (keeps.kept (length ops))

  keeps_both : (ops : List PageOp) (s : State) (is : IsKept b lo hi s) → Keeps b lo hi s is ops → (others : List PageOp)
      → ((next : IsKept b lo hi (after_all meaning s ops)) → Keeps b lo hi (after_all meaning s ops) next others) → Keeps b lo hi s is (ops ++ others)
  keeps_both [] s is keeps others rest = rest is
  keeps_both (op ∷ ops) s is keeps others rest =
      let tail : Keeps b lo hi (after meaning s op) (keeps.kept 1) ops =
      record { accepted = keeps.accepted.1; kept = λ k. keeps.kept (suc k); content = λ k. keeps.content (suc k) ∙ sym (keeps.content 1) } in
      keeps_more b lo hi s is op (ops ++ others) keeps.accepted.0 (keeps.kept 1) (keeps.content 1) (keeps_both ops (after meaning s op) (keeps.kept 1) tail others rest)

  -- the plan is not refused, and its commands keep the map
  abbrev pub IsTidyPlan : (s : State) → IsKept b lo hi s → Plan PageOp MapRefusal → Type 0
  IsTidyPlan s is plan = (plan.refusal ≡ None) × Keeps b lo hi s is plan.commands

  tidied_keeps : (n : ℕ) (s : State) (is : IsKept b lo hi s) → IsTidyPlan s is (tidied b lo hi key n s)
  tidied_keeps zero s is = (refl, keeps_none b lo hi s is)
  tidied_keeps (suc n) s is = by_turn (tidy_turn lo hi s key) (tidy_keeps s is) (λ ops next. tidied_keeps n (after_all meaning s ops) next)
    where
      by_turn : (r : Result (List PageOp) ℕ) → Tidies s is r → ((ops : List PageOp) (next : IsKept b lo hi (after_all meaning s ops)) → IsTidyPlan (after_all meaning s ops) next (tidied b lo hi key n (after_all meaning s ops)))
          → IsTidyPlan s is (by_tidying (λ ops. tidied b lo hi key n (after_all meaning s ops)) r)
      by_turn (Err bad) keeps rest = absurd keeps
      by_turn (Ok ops) keeps rest = (
        (rest ops (keeps_all ops s is keeps)).0,
        keeps_both ops s is keeps (tidied b lo hi key n (after_all meaning s ops)).commands (λ next. (rest ops next).1),
      )

  pub tidy_is_kept : (s : State) (is : IsKept b lo hi s) → IsTidyPlan s is (tidy_plan b lo hi key s)
  tidy_is_kept s is = tidied_keeps (level_in (bytes_at lo s lo) + 2) s is

  -- ---- where nothing is left to tidy

  later : (s : State) (few most : ℕ) (r : Result (List PageOp) ℕ) → few ≤ most → GoesOn s few r → GoesOn s most r
  later s few most r less goes = record {
    op = goes.op;
    ops = goes.ops;
    turn_is = goes.turn_is;
    depth = goes.depth;
    made = goes.made;
    tree_made = goes.tree_made;
    left = goes.left;
    needs = goes.needs;
    fewer = omega (arith, less, goes.fewer);
  }

  -- nothing is left, and no leaf is without cells; or there is a turn that leaves less
  abbrev IsTurn : State → ℕ → Result (List PageOp) ℕ → Type 0
  IsTurn s most r = ((r ≡ Ok []) × IsFull b lo hi s) ⊎ GoesOn s most r

  full_by : (s : State) (level : ℕ) (t : Tree level) → IsTree b lo hi s level t → NoneIsEmpty level t → IsFull b lo hi s
  full_by s level t tree full = record { kept = kept_by b lo hi s level t tree; full = full }

  module _ (s : State) (level : ℕ) (t : Tree (suc level)) (tree : IsTree b lo hi s (suc level) t) where
    at_root : (most : ℕ) → suc level ≤ most → NoneIsEmpty (suc level) t → (r : Result (List PageOp) ℕ) → r ≡ Ok [] → IsTurn s most (else_root lo hi s (suc level) r)
    at_root most less full r none = subst (λ (r : Result (List PageOp) ℕ). IsTurn s most (else_root lo hi s (suc level) r)) (sym none) (by_turn (root_turn s level t tree full))
      where
        by_turn : (root_goes lo hi s (suc level) ≡ Ok []) ⊎ GoesOn s (suc level) (root_goes lo hi s (suc level)) → IsTurn s most (root_goes lo hi s (suc level))
        by_turn (inl none) = inl (none, full_by s (suc level) t tree full)
        by_turn (inr goes) = inr (later s (suc level) most (root_goes lo hi s (suc level)) less goes)

    at_page : (most : ℕ) (r : Result (List PageOp) ℕ) → GoesOn s most r → IsTurn s most (else_root lo hi s (suc level) r)
    at_page most r goes =
        inr (record {
          op = goes.op;
          ops = goes.ops;
          turn_is = ap (else_root lo hi s (suc level)) goes.turn_is;
          depth = goes.depth;
          made = goes.made;
          tree_made = goes.tree_made;
          left = goes.left;
          needs = goes.needs;
          fewer = goes.fewer;
        })

  abbrev turn_in : State → (level : ℕ) → Tree level → Result (List PageOp) ℕ
  turn_in s level t = else_root lo hi s level (tidy_from lo hi s key level (root_of level t) None)

  tree_turn : (s : State) (level : ℕ) (t : Tree level) → IsTree b lo hi s level t → (n : ℕ) → Needs key n level t → IsTurn s (level + n) (turn_in s level t)
  tree_turn s zero t tree n needs =
      inl (
        ap (else_root lo hi s 0) (ap (λ (b : Bool). if b then Ok [] else Err t.object) (on_level searches lo hi small s [] 0 (bytes_at lo s t.object) (cells_in 0 t) tree.holds)),
        full_by s 0 t tree tt,
      )
  tree_turn s (suc level) t tree zero needs =
      let is : IsKept b lo hi s = kept_by b lo hi s (suc level) t tree in
      let found = above_found s level all_keys t tree.holds tree.stand (in_all key) in
      let full : NoneIsEmpty 1 found.page = found.needs 0 needs in
      at_root s level t tree (suc level + 0) (omega arith) (found.full 0 needs full) (tidy_from lo hi s key (suc level) t.object None)
      (found.turn_is ∙ rests_idle s (suc level) t tree found.inner found.page found.place is refl found.ends found.i found.leaf found.at found.found full)
  tree_turn s (suc level) t tree (suc n) needs =
      let is : IsKept b lo hi s = kept_by b lo hi s (suc level) t tree in
      let found = above_found s level all_keys t tree.holds tree.stand (in_all key) in
      by_page (leaf_goes lo hi s found.page.object found.inner.to (both_under lo hi (bytes_at lo s found.page.object) found.inner.to key)) (NoneIsEmpty 1 found.page) found.turn_is (found.full (suc n) needs)
      (page_turn s (suc level) t tree found.inner found.page found.place is refl found.ends found.i found.leaf found.at found.found found.here n needs (found.needs (suc n) needs))
    where
      by_page : (r : Result (List PageOp) ℕ) (Rest : Type 0) → tidy_from lo hi s key (suc level) t.object None ≡ r → (Rest → NoneIsEmpty (suc level) t) → ((r ≡ Ok []) × Rest) ⊎ GoesOn s (suc level + suc n) r
          → IsTurn s (suc level + suc n) (turn_in s (suc level) t)
      by_page r Rest is full (inl idle) = at_root s level t tree (suc level + suc n) (omega arith) (full idle.1) (tidy_from lo hi s key (suc level) t.object None) (is ∙ idle.0)
      by_page r Rest is full (inr goes) = subst (λ (r : Result (List PageOp) ℕ). IsTurn s (suc level + suc n) (else_root lo hi s (suc level) r)) (sym is) (at_page s level t tree (suc level + suc n) r goes)

  next_turn : (s : State) (level : ℕ) (t : Tree level) (tree : IsTree b lo hi s level t) (n : ℕ) → Needs key n level t → IsTurn s (level + n) (tidy_turn lo hi s key)
  next_turn s level t tree n needs =
      let top : level_in (bytes_at lo s lo) ≡ level = ap (λ (x : ℕ). level_in (bytes_at lo s x)) (sym tree.root) ∙ ap level_in (root_held lo hi s level t tree.holds).code in
      subst (λ (r : Result (List PageOp) ℕ). IsTurn s (level + n) r) (λ k. else_root lo hi s (sym top k) (tidy_from lo hi s key (sym top k) (tree.root k) None)) (tree_turn s level t tree n needs)

  idle : (n : ℕ) (s : State) → tidy_turn lo hi s key ≡ Ok [] → (tidied b lo hi key n s).commands ≡ []
  idle zero s none = refl
  idle (suc n) s none = ap (λ (r : Result (List PageOp) ℕ). (by_tidying (λ ops. tidied b lo hi key n (after_all meaning s ops)) r).commands) none ∙ idle n s none

  -- behind so many turns
  abbrev pub IsRest : State → Type 0
  IsRest s = (tidy_turn lo hi s key ≡ Ok []) × IsFull b lo hi s

  pub tidied_ends : (n : ℕ) (s : State) (level : ℕ) (t : Tree level) → IsTree b lo hi s level t → (k : ℕ) → Needs key k level t → level + k ≤ n → IsRest (after_all meaning s (tidied b lo hi key n s).commands)
  tidied_ends zero s level t tree k needs few = by_turn (next_turn s level t tree k needs)
    where
      by_turn : IsTurn s (level + k) (tidy_turn lo hi s key) → IsRest s
      by_turn (inl rest) = rest
      by_turn (inr goes) = absurd (omega (arith, few, goes.fewer))
  tidied_ends (suc n) s level t tree k needs few =
      by_turn (next_turn s level t tree k needs) (λ goes. tidied_ends n (after_all meaning s (goes.op ∷ goes.ops)) goes.depth goes.made goes.tree_made goes.left goes.needs (omega (arith, few, goes.fewer)))
    where
      by_turn : IsTurn s (level + k) (tidy_turn lo hi s key)
          → ((goes : GoesOn s (level + k) (tidy_turn lo hi s key)) → IsRest (after_all meaning (after_all meaning s (goes.op ∷ goes.ops)) (tidied b lo hi key n (after_all meaning s (goes.op ∷ goes.ops))).commands))
          → IsRest (after_all meaning s (tidied b lo hi key (suc n) s).commands)
      by_turn (inl rest) on = subst (λ (ops : List PageOp). IsRest (after_all meaning s ops)) (sym (idle (suc n) s rest.0)) rest
      by_turn (inr goes) on =
          let ops : List PageOp = goes.op ∷ goes.ops in
          let others : List PageOp = (tidied b lo hi key n (after_all meaning s ops)).commands in
          subst IsRest
          (sym (ap (λ (r : Result (List PageOp) ℕ). after_all meaning s (by_tidying (λ ops. tidied b lo hi key n (after_all meaning s ops)) r).commands) goes.turn_is ∙ all_after b ops others s)) (on goes)

-- ---- how many commands they are

-- two at most in a turn
abbrev AreFew : Result (List PageOp) ℕ → Type 0
AreFew (Err bad) = ⊤
AreFew (Ok ops) = length ops ≤ 2

module _ (lo hi : ℕ) (s : State) where
  few_before : (q i stays goes : ℕ) (bytes : List ℕ) (n : ℕ) → length (before_takes q i stays goes bytes n) ≤ 2
  few_before q i stays goes bytes n =
      elim (nat_lt n (count_in bytes)) as (λ t. length (if t then Keep stays n ∷ [] else takes_both q i stays goes) ≤ 2) [ true ↦ omega arith | false ↦ omega arith ]

  few_way : (q : ℕ) (leaf : Step) (beside : Beside) → AreFew (gives_way lo hi s q leaf beside)
  few_way q leaf Only = omega arith
  few_way q leaf (Next other) = omega arith
  few_way q leaf (Before other) = by_front (front_at lo hi s (Some leaf.from) other)
    where
      by_front : (o : Option ℕ) → AreFew (or_bad other (option_map (before_takes q (leaf.place - 1) other leaf.object (bytes_at lo s other)) o))
      by_front None = tt
      by_front (Some n) = few_before q (leaf.place - 1) other leaf.object (bytes_at lo s other) n

  few_empty : (x : ℕ) (way : Result (List PageOp) ℕ) → AreFew way → (o : Option ℕ) → AreFew (when_empty x way o)
  few_empty x way few None = tt
  few_empty x way few (Some zero) = few
  few_empty x way few (Some (suc n)) = omega arith

  few_leaf : (q : ℕ) (to : Option (List ℕ)) (o : Option (Step × Beside)) → AreFew (leaf_goes lo hi s q to o)
  few_leaf q to None = tt
  few_leaf q to (Some both) = few_empty both.0.object (gives_way lo hi s q both.0 both.1) (few_way q both.0 both.1) (front_at lo hi s (ended to both.0.end) both.0.object)

  few_on : (on : ℕ → Option (List ℕ) → Result (List PageOp) ℕ) → ((x : ℕ) (to : Option (List ℕ)) → AreFew (on x to)) → (x : ℕ) (to : Option (List ℕ)) (o : Option Step) → AreFew (on_way on x to o)
  few_on on few x to None = tt
  few_on on few x to (Some step) = few step.object (ended to step.end)

  few_if : (t : Bool) (x : ℕ) (r : Result (List PageOp) ℕ) → AreFew r → AreFew (if t then r else Err x)
  few_if true x r few = few
  few_if false x r few = tt

  few_from : (key : List ℕ) (level x : ℕ) (to : Option (List ℕ)) → AreFew (tidy_from lo hi s key level x to)
  few_from key zero x to = few_if (is_on 0 (bytes_at lo s x)) x (Ok []) (omega arith)
  few_from key (suc zero) x to =
      let both : Option (Step × Beside) = both_under lo hi (bytes_at lo s x) to key in few_if (is_on 1 (bytes_at lo s x)) x (leaf_goes lo hi s x to both) (few_leaf x to both)
  few_from key (suc (suc level)) x to =
      let step : Option Step = step_under lo hi (bytes_at lo s x) to key in
      few_if (is_on (suc (suc level)) (bytes_at lo s x)) x (on_way (tidy_from lo hi s key (suc level)) x to step) (few_on (tidy_from lo hi s key (suc level)) (few_from key (suc level)) x to step)

  few_child : (level : ℕ) (o : Option (Option ℕ)) → AreFew (child_goes lo hi s level o)
  few_child level None = tt
  few_child level (Some None) = omega arith
  few_child level (Some (Some child)) = few_if (is_on level (bytes_at lo s child)) child (Ok (root_takes lo child (count_in (bytes_at lo s child)))) (omega arith)

  few_root : (level : ℕ) → AreFew (root_goes lo hi s level)
  few_root zero = omega arith
  few_root (suc level) = few_child level (only_child lo hi (bytes_at lo s lo))

  few_else : (level : ℕ) (r : Result (List PageOp) ℕ) → AreFew r → AreFew (else_root lo hi s level r)
  few_else level (Err bad) few = tt
  few_else level (Ok []) few = few_root level
  few_else level (Ok (op ∷ ops)) few = few

  few_turn : (key : List ℕ) → AreFew (tidy_turn lo hi s key)
  few_turn key = let level : ℕ = level_in (bytes_at lo s lo) in few_else level (tidy_from lo hi s key level lo None) (few_from key level lo None)

pub few_tidied : (b : Bounds) (lo hi : ℕ) (key : List ℕ) (n : ℕ) (s : State) → length (tidied b lo hi key n s).commands ≤ 2 * n
few_tidied b lo hi key zero s = omega arith
few_tidied b lo hi key (suc n) s = by_turn (tidy_turn lo hi s key) (few_turn lo hi s key) (λ ops. few_tidied b lo hi key n (after_all (page_meaning b) s ops))
  where
    by_turn : (r : Result (List PageOp) ℕ) → AreFew r → ((ops : List PageOp) → length (tidied b lo hi key n (after_all (page_meaning b) s ops)).commands ≤ 2 * n)
        → length (by_tidying (λ ops. tidied b lo hi key n (after_all (page_meaning b) s ops)) r).commands ≤ 2 * suc n
    by_turn (Err bad) few rest = omega arith
    by_turn (Ok ops) few rest =
        let others : List PageOp = (tidied b lo hi key n (after_all (page_meaning b) s ops)).commands in
        omega (arith, few, rest ops, length-append ops others)
