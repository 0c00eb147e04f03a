-- A page among those of a tree, with its span: others may stand in its place.
use Rattle.std.proofs.Common.{◌≡◌, ◌≢◌, ℕ, zero, suc, ◌+◌, ◌<◌, ◌≤◌, ◌^◌, Option, Some, List, [], ◌∷◌, ◌++◌, flat_map, refl, sym, ap, ◌∙◌, subst, arith, append_assoc}
use Rattle.std.specs.Prelude.{IsTrue, nat_lt, nat_le}
use Rattle.std.proofs.lemmas.List.{append-nil}
use Rattle.std.proofs.lemmas.Bool.{leb-true}
use Rattle.oper_core.specs.State.{State}
use Rattle.key_entries.specs.EntryLaws.{both_true}
use Rattle.page_ops.specs.Page.{Cell}
use Rattle.page_map.specs.Map.{Span, is_below, Tree, root_of, pairs_in, cells_in, IsHeld, Each, bytes_at, is_child, Holds, Share, StandIn, objects_in, times}
use Rattle.page_ops.specs.Search.{last_under}
use Rattle.page_map.specs.Sets.{AreShortPairs, is_short_key}
use Rattle.page_map.proofs.MapLemmas.{Needs, needs_below, each_at, each_with, keys_with, lower, upper, IsAt, span_of, with_child, shared_again, cells_again, times_both, among, one_here, held_again}
use Rattle.page_map.proofs.CutLemmas.{ReadsCells}
use Rattle.page_map.proofs.TreeLemmas.{HoldsBelow, HoldsChild}
use Rattle.page_map.proofs.WayLemmas.{Settled, settled_up}

pub root_reached : (level : ℕ) (t : Tree level) → 1 ≤ times (root_of level t) (objects_in level t)
root_reached zero t = omega (arith, one_here t.object [])
root_reached (suc level) t = omega (arith, one_here t.object (flat_map (λ c. objects_in level c.1) t.children))

-- ---- children by their places

module _ {Child : Type 0} where
  pub share_at : (In : Span → Child → Type 0) (span : Span) (children : List (List ℕ × Child)) (i : ℕ) (child : Child) → IsAt i child children → Share In span children → In (span_of span children i) child
  share_at In span [] i child at share = absurd share
  share_at In span (c ∷ []) zero child at share = subst (In span) at share.1
  share_at In span (c ∷ []) (suc i) child at share = absurd at
  share_at In span (c ∷ d ∷ children) zero child at share = subst (In (lower span d.0)) at share.2
  share_at In span (c ∷ d ∷ children) (suc i) child at share = share_at In (upper span d.0) (d ∷ children) i child at share.3

  pub at_with : (children : List (List ℕ × Child)) (i : ℕ) (child other : Child) → IsAt i child children → IsAt i other (with_child i other children)
  at_with [] i child other at = absurd at
  at_with (c ∷ children) zero child other at = refl
  at_with (c ∷ children) (suc i) child other at = at_with children i child other at

  pub end_with : (span : Span) (children : List (List ℕ × Child)) (i : ℕ) (other : Child) → (span_of span (with_child i other children) i).to ≡ (span_of span children i).to
  end_with span [] i other = refl
  end_with span (c ∷ []) zero other = refl
  end_with span (c ∷ []) (suc i) other = refl
  end_with span (c ∷ d ∷ children) zero other = refl
  end_with span (c ∷ d ∷ children) (suc zero) other = end_with (upper span d.0) (d ∷ children) zero other
  end_with span (c ∷ d ∷ children) (suc (suc i)) other = end_with (upper span d.0) (d ∷ children) (suc i) other

  pub pairs_with : (pairs : Child → List Cell) (children : List (List ℕ × Child)) (i : ℕ) (child other : Child) → IsAt i child children → pairs other ≡ pairs child
      → flat_map (λ c. pairs c.1) (with_child i other children) ≡ flat_map (λ c. pairs c.1) children
  pairs_with pairs [] i child other at same = absurd at
  pairs_with pairs (c ∷ children) zero child other at same = ap (λ (l : List Cell). l ++ flat_map (λ c. pairs c.1) children) (same ∙ ap pairs (sym at))
  pairs_with pairs (c ∷ children) (suc i) child other at same = ap (λ (l : List Cell). pairs c.1 ++ l) (pairs_with pairs children i child other at same)

  module _ (objects : Child → List ℕ) where
    abbrev all_objects : List (List ℕ × Child) → List ℕ
    all_objects children = flat_map (λ c. objects c.1) children

    pub times_with : (x : ℕ) (children : List (List ℕ × Child)) (i : ℕ) (child other : Child) → IsAt i child children
        → times x (all_objects (with_child i other children)) + times x (objects child) ≡ times x (all_objects children) + times x (objects other)
    times_with x [] i child other at = absurd at
    times_with x (c ∷ children) zero child other at =
        omega (arith, times_both x (objects other) (all_objects children), times_both x (objects c.1) (all_objects children), ap (λ (k : Child). times x (objects k)) at)
    times_with x (c ∷ children) (suc i) child other at =
        omega (arith, times_with x children i child other at, times_both x (objects c.1) (all_objects (with_child i other children)), times_both x (objects c.1) (all_objects children))

    -- pages stay where their objects do
    module _ (Held Held' : Child → Type 0) (Same : ℕ → Type 0) (moves : (child : Child) → ((y : ℕ) → 1 ≤ times y (objects child) → Same y) → Held child → Held' child) where
      pub each_same : (children : List (List ℕ × Child)) → ((y : ℕ) → 1 ≤ times y (all_objects children) → Same y) → Each Held children → Each Held' children
      each_same [] same held = tt
      each_same (c ∷ children) same held = (
        moves c.1 (λ y there. same y (omega (arith, there, times_both y (objects c.1) (all_objects children)))) held.0,
        each_same children (λ y there. same y (omega (arith, there, times_both y (objects c.1) (all_objects children)))) held.1,
      )

      pub each_swapped : (children : List (List ℕ × Child)) (i : ℕ) (child other : Child) → IsAt i child children → ((y : ℕ) → times y (all_objects children) ≤ 1)
          → ((y : ℕ) → 1 ≤ times y (all_objects children) → times y (objects child) ≡ 0 → Same y) → Held' other → Each Held children → Each Held' (with_child i other children)
      each_swapped [] i child other at once same new held = tt
      each_swapped (c ∷ children) zero child other at once same new held = (
        new,
        each_same children
            (λ y there.
            let both = times_both y (objects c.1) (all_objects children) in
            same y (omega (arith, there, both)) (omega (arith, there, both, once y, ap (λ (k : Child). times y (objects k)) at))) held.1,
      )
      each_swapped (c ∷ children) (suc i) child other at once same new held = (
        moves c.1
            (λ y there.
            let both = times_both y (objects c.1) (all_objects children) in
            same y (omega (arith, there, both)) (omega (arith, there, both, once y, among objects y children i child at))) held.0,
        each_swapped children i child other at (λ y. omega (arith, once y, times_both y (objects c.1) (all_objects children)))
            (λ y there none. same y (omega (arith, there, times_both y (objects c.1) (all_objects children))) none) new held.1,
      )

module _ (lo hi : ℕ) where
  abbrev pub SameAt : State → State → ℕ → Type 0
  SameAt s new y = bytes_at lo new y ≡ bytes_at lo s y

  -- pages are held where none of their objects has changed
  pub held_over : (s new : State) (level : ℕ) (t : Tree level) → ((y : ℕ) → 1 ≤ times y (objects_in level t) → SameAt s new y) → Holds lo hi s level t → Holds lo hi new level t
  held_over s new zero t same holds =
      held_again 0 (bytes_at lo s t.object) (bytes_at lo new t.object) (cells_in 0 t) (cells_in 0 t) holds (same t.object (root_reached zero t)) refl
  held_over s new (suc level) t same holds = (
    held_again (suc level) (bytes_at lo s t.object) (bytes_at lo new t.object) (cells_in (suc level) t) (cells_in (suc level) t) holds.0 (same t.object (root_reached (suc level) t)) refl,
    each_same (objects_in level) (HoldsChild lo hi s level) (HoldsChild lo hi new level) (SameAt s new) (λ child same held. (held.0, held_over s new level child same held.1)) t.children
        (λ y there. same y (omega (arith, there))) holds.1,
  )

  -- and so are those below one
  pub below_over : (s new : State) (level : ℕ) (t : Tree level) → ((x : ℕ) → times x (objects_in level t) ≤ 1) → ((y : ℕ) → 1 ≤ times y (objects_in level t) → y ≢ root_of level t → SameAt s new y)
      → HoldsBelow lo hi s level t → HoldsBelow lo hi new level t
  below_over s new zero t once same below = tt
  below_over s new (suc level) t once same below =
      let all : List ℕ = flat_map (λ c. objects_in level c.1) t.children in
      each_same (objects_in level) (HoldsChild lo hi s level) (HoldsChild lo hi new level) (SameAt s new) (λ child same held. (held.0, held_over s new level child same held.1)) t.children
      (λ y there. same y (omega (arith, there)) (λ e. absurd (omega (arith, there, once t.object, one_here t.object all, ap (λ (x : ℕ). times x all) e)))) below

-- how many turns are needed does not change by what is off the way to the key
needs_up : (key : List ℕ) (m n level l : ℕ) (t : Tree (suc level)) (i : ℕ) (child new : Tree level) → IsAt i child t.children → root_of level new ≡ root_of level child → last_under key (cells_in (suc level) t) ≡ Some i → 1 ≤ l → l ≤ level
    → Needs key m (suc level) t → (Needs key m level child → Needs key n level new) → Needs key n (suc level) (record { object = t.object; children = with_child i new t.children; past = t.past })
needs_up key m n zero l t i child new at root under some deep old goes = absurd (omega (arith, some, deep))
needs_up key m n (suc level) l t i child new at root under some deep old goes =
    needs_below key n level t i child new at root under (λ j kid there apart. (old j kid there).1 apart) (goes ((old i child at).0 under))

module _ (reads : ReadsCells) (lo hi : ℕ) (small : hi < 2 ^ 32) (room : ℕ) (key value : List ℕ) where
  -- a tree with another page in the place of one
  pub record IsReplaced (new : State) (level : ℕ) (outer : Span) (t : Tree level) (l : ℕ) (inner : Span) (page other : Tree l) (pairs : List Cell) : Type 0 where
    pub tree : Tree level
    pub root : root_of level tree ≡ root_of level t
    pub objects : (x : ℕ) → times x (objects_in level tree) + times x (objects_in l page) ≡ times x (objects_in level t) + times x (objects_in l other)
    pub holds : Holds lo hi new level tree
    pub stand : StandIn level outer tree
    pub pairs_are : pairs_in level tree ≡ pairs
    pub short : AreShortPairs room l other → AreShortPairs room level t → AreShortPairs room level tree
    pub settled : (n : ℕ) → Settled reads lo hi small room key value new n l (root_of l other) inner.to → Settled reads lo hi small room key value new n level (root_of level tree) outer.to
    pub needs : 1 ≤ l → (m n : ℕ) → Needs key m level t → Needs key n l other → Needs key n level tree

  -- the page has this span in the tree, and is on the way to the key
  pub record IsPlace (level : ℕ) (outer : Span) (t : Tree level) (l : ℕ) (inner : Span) (page : Tree l) : Type 0 where
    pub depth : l ≤ level
    pub reached : (x : ℕ) → times x (objects_in l page) ≤ times x (objects_in level t)
    pub held : (s : State) → Holds lo hi s level t → Holds lo hi s l page
    pub in_range : (s : State) → Holds lo hi s level t → root_of level t ≤ hi → root_of l page ≤ hi
    pub stand : StandIn l inner page
    pub short : AreShortPairs room level t → AreShortPairs room l page
    pub needed : (n : ℕ) → Needs key n level t → Needs key n l page
    pub before : List Cell
    pub after : List Cell
    pub split : pairs_in level t ≡ before ++ (pairs_in l page ++ after)
    pub again : (s new : State) (other : Tree l) → ((x : ℕ) → times x (objects_in level t) ≤ 1) → Holds lo hi s level t → root_of l other ≡ root_of l page
        → ((y : ℕ) → 1 ≤ times y (objects_in level t) → times y (objects_in l page) ≡ 0 → SameAt lo hi s new y) → Holds lo hi new l other → StandIn l inner other
        → IsReplaced new level outer t l inner page other (before ++ (pairs_in l other ++ after))

  pub place_here : (level : ℕ) (span : Span) (t : Tree level) → StandIn level span t → IsPlace level span t level span t
  place_here level span t stand = record {
    depth = omega arith;
    reached = λ x. omega arith;
    held = λ s holds. holds;
    in_range = λ s holds low. low;
    stand = stand;
    short = λ short. short;
    needed = λ n needs. needs;
    before = [];
    after = [];
    split = sym (append-nil (pairs_in level t));
    again = λ s new other once holds root same held stands. record {
      tree = other;
      root = root;
      objects = λ x. omega arith;
      holds = held;
      stand = stands;
      pairs_are = sym (append-nil (pairs_in level other));
      short = λ short all. short;
      settled = λ n rest. rest;
      needs = λ more m n old rest. rest;
    };
  }

  joined : (front before cells after back pairs mid : List Cell) → pairs ≡ front ++ (mid ++ back) → mid ≡ before ++ (cells ++ after) → pairs ≡ (front ++ before) ++ (cells ++ (after ++ back))
  joined front before cells after back pairs mid one two =
      one ∙ ap (λ (l : List Cell). front ++ l)
      (ap (λ (l : List Cell). l ++ back) two ∙ append_assoc before (cells ++ after) back ∙ ap (λ (l : List Cell). before ++ l) (append_assoc cells after back))
      ∙ sym (append_assoc front before (cells ++ (after ++ back)))

  module _ (level : ℕ) (outer : Span) (t : Tree (suc level)) (i : ℕ) (child : Tree level) (at : IsAt i child t.children) (stand : StandIn (suc level) outer t) (front back : List Cell)
      (split : pairs_in (suc level) t ≡ front ++ (pairs_in level child ++ back))
      (others : (other : Tree level) → flat_map (λ c. pairs_in level c.1) (with_child i other t.children) ≡ front ++ (pairs_in level other ++ back))
      (l : ℕ) (inner : Span) (page : Tree l) (place : IsPlace level (span_of outer t.children i) child l inner page) (under : last_under key (cells_in (suc level) t) ≡ Some i)
      (ends : IsTrue (is_below outer.from outer.to)) where
    below : (x : ℕ) → times x (objects_in level child) ≤ times x (flat_map (λ c. objects_in level c.1) t.children)
    below x = among (objects_in level) x t.children i child at

    replaced_below : (s new : State) (other : Tree l) → ((x : ℕ) → times x (objects_in (suc level) t) ≤ 1) → Holds lo hi s (suc level) t → root_of l other ≡ root_of l page
        → ((y : ℕ) → 1 ≤ times y (objects_in (suc level) t) → times y (objects_in l page) ≡ 0 → SameAt lo hi s new y) → Holds lo hi new l other → StandIn l inner other
        → IsReplaced new (suc level) outer t l inner page other ((front ++ place.before) ++ (pairs_in l other ++ (place.after ++ back)))
    replaced_below s new other once holds root same held stands =
        let all : List ℕ = flat_map (λ c. objects_in level c.1) t.children in
        let here : HoldsChild lo hi s level child = each_at (HoldsChild lo hi s level) t.children i child at holds.1 in
        let changed = place.again s new other (λ y. omega (arith, once y, below y)) here.1 root (λ y there none. same y (omega (arith, there, below y)) none) held stands in
        let apart : times t.object (objects_in l page) ≡ 0 = omega (arith, once t.object, one_here t.object all, place.reached t.object, below t.object) in
        let cells : cells_in (suc level) (record { object = t.object; children = with_child i changed.tree t.children; past = t.past }) ≡ cells_in (suc level) t =
        ap (λ (l : List Cell). l ++ t.past) (cells_again (root_of level) t.children i child changed.tree at changed.root) in
        let kids : List (List ℕ × Tree level) = with_child i changed.tree t.children in
        let low : root_of level changed.tree ≤ hi =
        omega (arith, changed.root, leb-true (root_of level child) hi (both_true (nat_lt lo (root_of level child)) (nat_le (root_of level child) hi) here.0).1) in
        let held_top : IsHeld (suc level) (bytes_at lo new t.object) (cells_in (suc level) (record { object = t.object; children = kids; past = t.past })) =
        held_again (suc level) (bytes_at lo s t.object) (bytes_at lo new t.object) (cells_in (suc level) t) _ holds.0 (same t.object (omega (arith, one_here t.object all)) apart) cells in
        let share : Share (StandIn level) outer kids = shared_again (StandIn level) outer t.children i child changed.tree at stand.0 changed.stand in
        record {
          tree = record { object = t.object; children = kids; past = t.past };
          root = refl;
          objects = λ x. omega (arith, changed.objects x, times_with (objects_in level) x t.children i child changed.tree at);
          holds = (
            held_top,
            each_swapped (objects_in level) (HoldsChild lo hi s level) (HoldsChild lo hi new level) (SameAt lo hi s new) (λ kid same held. (held.0, held_over lo hi s new level kid same held.1)) t.children i child changed.tree at
                (λ y. omega (arith, once y)) (λ y there none. same y (omega (arith, there)) (omega (arith, none, place.reached y)))
                (subst (λ (y : ℕ). IsTrue (is_child lo hi y)) (sym changed.root) here.0, changed.holds) holds.1,
          );
          stand = (share, stand.1);
          pairs_are = joined front place.before (pairs_in l other) place.after back _ _ (others changed.tree) changed.pairs_are;
          short = λ short all. (
            keys_with (is_short_key room) t.children i changed.tree all.0,
            each_with (AreShortPairs room level) t.children i changed.tree all.1 (changed.short short (each_at (AreShortPairs room level) t.children i child at all.1)),
          );
          settled = λ n rest.
              settled_up reads lo hi small room key value new n level outer (record { object = t.object; children = kids; past = t.past }) held_top share stand.1 ends i changed.tree
              (at_with t.children i child changed.tree at) (ap (last_under key) cells ∙ under) low
              (subst (λ (to : Option (List ℕ)). Settled reads lo hi small room key value new n level (root_of level changed.tree) to) (sym (end_with outer t.children i changed.tree)) (changed.settled n rest));
          needs = λ more m n old rest. needs_up key m n level l t i child changed.tree at changed.root under (omega (arith, more)) place.depth old (λ below. changed.needs more m n below rest);
        }

    child_needs : (level : ℕ) (t : Tree (suc level)) (i : ℕ) (child : Tree level) → IsAt i child t.children → last_under key (cells_in (suc level) t) ≡ Some i → (n : ℕ) → Needs key n (suc level) t → Needs key n level child
    child_needs zero t i child at under n needs = tt
    child_needs (suc level) t i child at under n needs = (needs i child at).0 under

    pub place_below : IsPlace (suc level) outer t l inner page
    place_below = record {
      depth = omega (arith, place.depth);
      reached = λ x. omega (arith, place.reached x, below x);
      held = λ s holds. place.held s (each_at (HoldsChild lo hi s level) t.children i child at holds.1).1;
      in_range = λ s holds low.
          let here = each_at (HoldsChild lo hi s level) t.children i child at holds.1 in
          place.in_range s here.1 (leb-true (root_of level child) hi (both_true (nat_lt lo (root_of level child)) (nat_le (root_of level child) hi) here.0).1);
      stand = place.stand;
      short = λ short. place.short (each_at (AreShortPairs room level) t.children i child at short.1);
      needed = λ n needs. place.needed n (child_needs level t i child at under n needs);
      before = front ++ place.before;
      after = place.after ++ back;
      split = joined front place.before (pairs_in l page) place.after back (pairs_in (suc level) t) (pairs_in level child) split place.split;
      again = replaced_below;
    }
