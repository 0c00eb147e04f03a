-- The way to the leaf under which a key stands, and the scan of the keys that stand there with it.
use Rattle.std.proofs.Common.{◌≡◌, ◌<◌, refl, sym, ap, ◌∙◌, subst, ℕ, ◌+◌, ◌-◌, Bool, true, false, Option, None, Some, Result, Ok, Err, List, [], ◌∷◌, if◌then◌else◌, filter, append-nil, Ordering, Less, Equal, Greater, is_lt, true≢false}
use Rattle.std.specs.Ordering.{ordering_reverse}
use Rattle.std.specs.Cmp.Lexicographic.{nat_list_cmp_total}
use Rattle.std.proofs.lemmas.Bool.{cond-true, cond-false}
use Rattle.arrayvec.specs.ArrayVec.{ArrayVec}
use Rattle.oper_core.specs.State.{State}
use Rattle.oper_core.specs.declared.bounds.Bounds.{Bounds}
use Rattle.key_entries.specs.Entries.{byte_order}
use Rattle.key_entries.specs.KeyLaws.{same_key}
use Rattle.btree_ops.specs.declared.node.Node.{Node}
use Rattle.btree_ops.specs.declared.node.Node.TheVariants.{Leaf, Inner}
use Rattle.logical_btree.specs.Plan.{get_answer, get_on, is_there, range_on}
use Rattle.logical_btree.specs.Walk.{Met, Pair, Span, Way, both_pairs, child_for, is_below, is_within, lower_end, lower_part, node_at, scan, scan_at, scan_child, scan_children, scan_from, size, upper_part, walk, walk_at, walk_from, with_met}
use Rattle.logical_btree.specs.declared.refusal.TreeRefusal.{TreeRefusal}
use Rattle.logical_btree.specs.declared.refusal.TreeRefusal.TheVariants as refusals
use Rattle.tree_client.specs.Answers.{TreeErr, bad_tree, told}
use Rattle.tree_client.specs.Finding.{node_answer}
use Rattle.tree_client.specs.Pieces.{end_below, span_answer}
use Rattle.tree_client.proofs.WalkLemmas.{node_bad, one_less}

-- ---- keys in their order

abbrev pub less : List ℕ → List ℕ → Bool
less x y = is_lt (byte_order x y)

is_less : (o : Ordering) → is_lt o ≡ true → o ≡ Less
is_less Less e = refl
is_less Equal e = absurd (true≢false (sym e))
is_less Greater e = absurd (true≢false (sym e))

unless_true : (b : Bool) → (b ≡ true → ⊥) → b ≡ false
unless_true true never = absurd (never refl)
unless_true false never = refl

less_trans : (x y z : List ℕ) → less x y ≡ true → less y z ≡ true → less x z ≡ true
less_trans x y z a b = ap is_lt (nat_list_cmp_total.trans x y z (is_less (byte_order x y) a) (is_less (byte_order y z) b))

not_less_itself : (x : List ℕ) → less x x ≡ false
not_less_itself x = unless_true (less x x) (λ is. true≢false (sym is ∙ ap is_lt (nat_list_cmp_total.antisymm x x ∙ ap ordering_reverse (is_less (byte_order x x) is))))

-- what is not above a key is below all that the key is below
not_above : (x y z : List ℕ) → less x y ≡ false → less x z ≡ true → less y z ≡ true
not_above x y z a b =
    elim (byte_order y x) as (λ o. byte_order y x ≡ o → less y z ≡ true) [
      | Less ↦ λ e. less_trans y x z (ap is_lt e) b
      | Equal ↦ λ e. subst (λ (k : List ℕ). less k z ≡ true) (sym (same_key y x e)) b
      | Greater ↦ λ e. absurd (true≢false (sym (ap is_lt (nat_list_cmp_total.antisymm x y ∙ ap ordering_reverse e)) ∙ a))
    ] refl

-- ---- ends of spans

-- the first of two ends is not past the second
abbrev pub no_later : Option (List ℕ) → Option (List ℕ) → Type 0
no_later to None = Unit {0}
no_later None (Some end) = ⊥
no_later (Some to) (Some end) = less end to ≡ false

not_later_itself : (end : Option (List ℕ)) → no_later end end
not_later_itself None = tt
not_later_itself (Some end) = not_less_itself end

-- the lesser of a key and an end is past neither
lesser_by_key : (x : Bool) (key end to : List ℕ) → less key end ≡ x → less (if x then key else end) to ≡ false → less key to ≡ false
lesser_by_key true key end to is near = near
lesser_by_key false key end to is near = unless_true (less key to) (λ below. true≢false (sym (not_above key end to is below) ∙ near))

lesser_by_end : (x : Bool) (key end to : List ℕ) → less key end ≡ x → less (if x then key else end) to ≡ false → less end to ≡ false
lesser_by_end true key end to is near = unless_true (less end to) (λ below. true≢false (sym (less_trans key end to is below) ∙ near))
lesser_by_end false key end to is near = near

near_key : (key to : List ℕ) (end : Option (List ℕ)) → less (lower_end key end) to ≡ false → less key to ≡ false
near_key key to None near = near
near_key key to (Some end) near = lesser_by_key (less key end) key end to refl near

near_end : (key : List ℕ) (to end : Option (List ℕ)) → no_later to (Some (lower_end key end)) → no_later to end
near_end key None end near = absurd near
near_end key (Some to) None near = tt
near_end key (Some to) (Some end) near = lesser_by_end (less key end) key end to refl near

-- so is where the keys end that stand under one child
near_below : (key : List ℕ) (to end : Option (List ℕ)) (branches : List (List ℕ × ℕ)) → no_later to (end_below key end branches) → no_later to end
near_below key to end [] near = near
near_below key to end (b ∷ branches) near =
    elim (less key b.0) as (λ x. no_later to (if x then Some (lower_end b.0 end) else end_below key end branches) → no_later to end) [
      | true ↦ λ here. near_end b.0 to end here
      | false ↦ λ there. near_below key to end branches there
    ] near

-- and the key is below it
above_lesser : (x : Bool) (key other end : List ℕ) → less key other ≡ true → less key end ≡ true → less key (if x then other else end) ≡ true
above_lesser true key other end a b = a
above_lesser false key other end a b = b

lower_above : (key other : List ℕ) (end : Option (List ℕ)) → less key other ≡ true → is_below key end ≡ true → less key (lower_end other end) ≡ true
lower_above key other None a b = a
lower_above key other (Some end) a b = above_lesser (less other end) key other end a b

pub key_below : (key : List ℕ) (end : Option (List ℕ)) (branches : List (List ℕ × ℕ)) → is_below key end ≡ true → is_below key (end_below key end branches) ≡ true
key_below key end [] below = below
key_below key end (b ∷ branches) below =
    elim (less key b.0) as (λ x. less key b.0 ≡ x → is_below key (if x then Some (lower_end b.0 end) else end_below key end branches) ≡ true) [
      | true ↦ λ is. lower_above key b.0 end is below
      | false ↦ λ is. key_below key end branches below
    ] refl

-- ---- one child has all keys of such a span

both_none : (r : Result (List Pair) ℕ) → both_pairs (Ok []) r ≡ r
both_none (Err x) = refl
both_none (Ok x) = refl

none_behind : (r : Result (List Pair) ℕ) → both_pairs r (Ok []) ≡ r
none_behind (Err x) = refl
none_behind (Ok x) = ap (λ (l : List Pair). Ok l) (append-nil x)

lower_empty : (x : Bool) (from key to : List ℕ) → less key to ≡ x → less from to ≡ false → less from (if x then key else to) ≡ false
lower_empty true from key to is empty = unless_true (less from key) (λ below. true≢false (sym (less_trans from key to below is) ∙ empty))
lower_empty false from key to is empty = empty

upper_empty : (x : Bool) (from key to : List ℕ) → less from key ≡ x → less from to ≡ false → less (if x then key else from) to ≡ false
upper_empty true from key to is empty = unless_true (less key to) (λ below. true≢false (sym (less_trans from key to is below) ∙ empty))
upper_empty false from key to is empty = empty

module _ (on : ℕ → Span → Result (List Pair) ℕ) where
  -- in an empty span no child is gone to
  nothing : (from to : List ℕ) → less from to ≡ false → (child : ℕ) (branches : List (List ℕ × ℕ)) → scan_children on (record { from = from; to = Some to }) child branches ≡ Ok []
  nothing from to empty child [] = cond-false (less from to) (on child (record { from = from; to = Some to })) (Ok []) empty
  nothing from to empty child (b ∷ branches) =
      let span : Span = record { from = from; to = Some to } in
      let rest = scan_children on (upper_part span b.0) b.1 branches in
      ap (λ (r : Result (List Pair) ℕ). both_pairs r rest)
      (cond-false (less from (lower_end b.0 (Some to))) (on child (lower_part span b.0)) (Ok []) (lower_empty (less b.0 to) from b.0 to refl empty))
      ∙ both_none rest
      ∙ nothing (if less from b.0 then b.0 else from) to (upper_empty (less from b.0) from b.0 to refl empty) b.1 branches

  -- the first child has them, where the key is below the first separator
  at_first : (key to : List ℕ) (child : ℕ) (b : List ℕ × ℕ) (branches : List (List ℕ × ℕ)) → less key b.0 ≡ true → less key to ≡ true → less b.0 to ≡ false
      → scan_children on (record { from = key; to = Some to }) child (b ∷ branches) ≡ on child (record { from = key; to = Some to })
  at_first key to child b branches is below near =
      let span : Span = record { from = key; to = Some to } in
      ap (λ (k : List ℕ). both_pairs (scan_child on (record { from = key; to = Some k }) child) (scan_children on (upper_part span b.0) b.1 branches)) (cond-false (less b.0 to) b.0 to near)
      ∙ ap (λ (k : List ℕ). both_pairs (scan_child on span child) (scan_children on (record { from = k; to = Some to }) b.1 branches)) (cond-true (less key b.0) b.0 key is)
      ∙ ap (λ (r : Result (List Pair) ℕ). both_pairs (scan_child on span child) r) (nothing b.0 to near b.1 branches)
      ∙ none_behind (scan_child on span child)
      ∙ cond-true (less key to) (on child span) (Ok []) below

  -- else the others have them
  lower_is : (key other : List ℕ) (to : Option (List ℕ)) → less key other ≡ false → is_below key to ≡ true → lower_end other to ≡ other
  lower_is key other None is below = refl
  lower_is key other (Some to) is below = cond-true (less other to) other to (not_above key other to is below)

  past_first : (key : List ℕ) (to : Option (List ℕ)) (child : ℕ) (b : List ℕ × ℕ) (branches : List (List ℕ × ℕ)) → less key b.0 ≡ false → is_below key to ≡ true
      → scan_children on (record { from = key; to = to }) child (b ∷ branches) ≡ scan_children on (record { from = key; to = to }) b.1 branches
  past_first key to child b branches is below =
      let span : Span = record { from = key; to = to } in
      let rest = scan_children on (upper_part span b.0) b.1 branches in
      ap (λ (k : List ℕ). both_pairs (scan_child on (record { from = key; to = Some k }) child) rest) (lower_is key b.0 to is below)
      ∙ ap (λ (r : Result (List Pair) ℕ). both_pairs r rest) (cond-false (less key b.0) (on child (record { from = key; to = Some b.0 })) (Ok []) is)
      ∙ both_none rest
      ∙ ap (λ (k : List ℕ). scan_children on (record { from = k; to = to }) b.1 branches) (cond-false (less key b.0) b.0 key is)

  by_first : (key : List ℕ) (to end : Option (List ℕ)) (child : ℕ) (b : List ℕ × ℕ) (branches : List (List ℕ × ℕ)) → less key b.0 ≡ true → is_below key to ≡ true → no_later to (Some (lower_end b.0 end))
      → scan_children on (record { from = key; to = to }) child (b ∷ branches) ≡ on child (record { from = key; to = to })
  by_first key None end child b branches is below near = absurd near
  by_first key (Some to) end child b branches is below near = at_first key to child b branches is below (near_key b.0 to end near)

  one_child : (key : List ℕ) (to end : Option (List ℕ)) (child : ℕ) (branches : List (List ℕ × ℕ)) → is_below key to ≡ true → no_later to (end_below key end branches)
      → scan_children on (record { from = key; to = to }) child branches ≡ on (child_for key child branches) (record { from = key; to = to })
  one_child key to end child [] below near = cond-true (is_below key to) (on child (record { from = key; to = to })) (Ok []) below
  one_child key to end child (b ∷ branches) below near =
      elim (less key b.0) as (λ x. less key b.0 ≡ x → no_later to (if x then Some (lower_end b.0 end) else end_below key end branches)
      → scan_children on (record { from = key; to = to }) child (b ∷ branches) ≡ on (if x then child else child_for key b.1 branches) (record { from = key; to = to })) [
        | true ↦ λ is here. by_first key to end child b branches is below here
        | false ↦ λ is there. past_first key to child b branches is below ∙ one_child key to end b.1 branches below there
      ] refl near

-- ---- the way to the leaf

module _ (lo hi : ℕ) (s : State) (key : List ℕ) where
  -- so many objects from here on have all keys from this one on, up to each end that is not past this one
  abbrev pub IsOnWay : Option (List ℕ) → ℕ → ℕ → Type 0
  IsOnWay end n x = (to : Option (List ℕ)) → is_below key to ≡ true → no_later to end → scan lo hi s (record { from = key; to = to }) ≡ scan_from lo hi s n (record { from = key; to = to }) x

  -- and the way to the key goes on here
  abbrev pub GetsFrom : ℕ → ℕ → Type 0
  GetsFrom n x = get_on key (walk lo hi s key) ≡ get_on key (walk_from lo hi s key n x)

  pub way_begins : (end : Option (List ℕ)) (n x : ℕ) → n ≡ size lo hi → x ≡ lo → IsOnWay end n x
  way_begins end n x all root to below near =
      ap (λ (k : ℕ). scan_from lo hi s k (record { from = key; to = to }) lo) (sym all) ∙ ap (λ (y : ℕ). scan_from lo hi s n (record { from = key; to = to }) y) (sym root)

  pub gets_begin : (n x : ℕ) → n ≡ size lo hi → x ≡ lo → GetsFrom n x
  gets_begin n x all root = ap (λ (k : ℕ). get_on key (walk_from lo hi s key k lo)) (sym all) ∙ ap (λ (y : ℕ). get_on key (walk_from lo hi s key n y)) (sym root)

  met_gets : (met : Met) (r : Result Way ℕ) → get_on key (with_met met r) ≡ get_on key r
  met_gets met (Err bad) = refl
  met_gets met (Ok way) = refl

  module _ (step x : ℕ) (turn : step < size lo hi) where
    pub way_goes_on : (end next : Option (List ℕ)) (first child : ℕ) (branches : List (List ℕ × ℕ)) → node_at lo hi s x ≡ Some (Inner first (record { items = branches })) → next ≡ end_below key end branches
        → child ≡ child_for key first branches → IsOnWay end (size lo hi - step) x → IsOnWay next (size lo hi - (step + 1)) child
    way_goes_on end next first child branches is nearer below way to asked near =
        let span : Span = record { from = key; to = to } in
        let n = size lo hi - (step + 1) in
        let here : no_later to (end_below key end branches) = subst (λ (e : Option (List ℕ)). no_later to e) nearer near in
        way to asked (near_below key to end branches here)
        ∙ ap (λ (k : ℕ). scan_from lo hi s k span x) (one_less (size lo hi) step turn)
        ∙ ap (λ (o : Option Node). scan_at (λ y part. scan_from lo hi s n part y) span x o) is
        ∙ one_child (λ y part. scan_from lo hi s n part y) key to end first branches asked here
        ∙ ap (λ (y : ℕ). scan_from lo hi s n span y) (sym below)

    pub gets_go_on : (first child : ℕ) (branches : List (List ℕ × ℕ)) → node_at lo hi s x ≡ Some (Inner first (record { items = branches })) → child ≡ child_for key first branches
        → GetsFrom (size lo hi - step) x → GetsFrom (size lo hi - (step + 1)) child
    gets_go_on first child branches is below gets =
        let n = size lo hi - (step + 1) in
        gets
        ∙ ap (λ (k : ℕ). get_on key (walk_from lo hi s key k x)) (one_less (size lo hi) step turn)
        ∙ ap (λ (o : Option Node). get_on key (walk_at (λ y. walk_from lo hi s key n y) key x o)) is
        ∙ met_gets (record { object = x; node = Inner first (record { items = branches }) }) (walk_from lo hi s key n (child_for key first branches))
        ∙ ap (λ (y : ℕ). get_on key (walk_from lo hi s key n y)) (sym below)

    pub way_ends : (end : Option (List ℕ)) (leaf : ArrayVec (List ℕ × List ℕ)) (kept : List Pair) → node_at lo hi s x ≡ Some (Leaf leaf) → is_below key end ≡ true → kept ≡ filter (λ e. is_within e.0 (record { from = key; to = end })) leaf.items
        → IsOnWay end (size lo hi - step) x → scan lo hi s (record { from = key; to = end }) ≡ Ok kept
    way_ends end leaf kept is below asked way =
        let span : Span = record { from = key; to = end } in
        let n = size lo hi - (step + 1) in
        way end below (not_later_itself end)
        ∙ ap (λ (k : ℕ). scan_from lo hi s k span x) (one_less (size lo hi) step turn)
        ∙ ap (λ (o : Option Node). scan_at (λ y part. scan_from lo hi s n part y) span x o) is
        ∙ ap (λ (l : List Pair). Ok l) (sym asked)

    pub gets_bad : (e : TreeErr) → Err e ≡ node_answer x (node_at lo hi s x) → GetsFrom (size lo hi - step) x → told (get_on key (walk lo hi s key)) ≡ Err e
    gets_bad e is gets =
        let n = size lo hi - (step + 1) in
        let bad = node_bad x (node_at lo hi s x) e is in
        ap (λ (r : Result (Option (List ℕ)) TreeRefusal). told r) (gets
        ∙ ap (λ (k : ℕ). get_on key (walk_from lo hi s key k x)) (one_less (size lo hi) step turn)
        ∙ ap (λ (o : Option Node). get_on key (walk_at (λ y. walk_from lo hi s key n y) key x o)) bad.0)
        ∙ ap (λ (o : TreeErr). Err o) (sym bad.1)

  pub gets_end : (n x : ℕ) → n ≡ 0 → GetsFrom n x → told (get_on key (walk lo hi s key)) ≡ Err (bad_tree x)
  gets_end n x none gets = ap (λ (r : Result (Option (List ℕ)) TreeRefusal). told r) (gets ∙ ap (λ (k : ℕ). get_on key (walk_from lo hi s key k x)) none)

-- a span of a range that is there
pub span_found : (b : Bounds) (lo hi : ℕ) (s : State) (span : Span) (pairs : List Pair) → is_there b lo hi ≡ true → scan lo hi s span ≡ Ok pairs → span_answer b lo hi s span ≡ Ok pairs
span_found b lo hi s span pairs there is = cond-true (is_there b lo hi) (range_on (scan lo hi s span)) (Err refusals.NoObject) there ∙ ap range_on is

pub get_there : (b : Bounds) (lo hi : ℕ) (s : State) (key : List ℕ) → is_there b lo hi ≡ true → get_answer b lo hi s key ≡ get_on key (walk lo hi s key)
get_there b lo hi s key there = cond-true (is_there b lo hi) (get_on key (walk lo hi s key)) (Err refusals.NoObject) there
