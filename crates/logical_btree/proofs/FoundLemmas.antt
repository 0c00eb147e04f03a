-- What a walk finds is what the map of all pairs has.
use Rattle.std.proofs.Common.{◌≡◌, ℕ, zero, suc, ◌==◌, Bool, true, false, cond, ◌&&◌, if◌then◌else◌, Option, None, Some, Result, Ok, Err, List, [], ◌∷◌, ◌++◌, refl, sym, ap, ◌∙◌, subst, Less, Equal, Greater, is_lt, is_eq, T, length, drop, option_map, option_and_then, true≢false, inl, inr}
use Rattle.std.specs.Prelude.{IsTrue, nat_le}
use Rattle.std.specs.List.{list_all}
use Rattle.std.specs.Ordering.{eq_by_cmp}
use Rattle.std.specs.FinMap.{get, get-from_entries}
use Rattle.std.specs.FinMap.Entries.{find, is_sorted}
use Rattle.std.specs.Cmp.Lexicographic.{nat_list_cmp_total}
use Rattle.oper_core.specs.State.{State}
use Rattle.key_entries.specs.Entries.{byte_order, short_field, child_field, entries_in, rising}
use Rattle.key_entries.specs.KeyLaws.{same_key}
use Rattle.key_entries.specs.EntryLaws.{both_true, if_some, same_some, and_then_some, map_some}
use Rattle.btree_ops.specs.Node.{leaf, inner, node_in, leaf_in, inner_in}
use Rattle.byteorder.specs.Endian.{little_number}
use Rattle.btree_ops.specs.declared.node.Node.TheVariants.{Leaf, Inner}
use Rattle.btree_ops.specs.declared.node.Node.{Node}
use Rattle.logical_btree.specs.Walk.{Pair, Span, Met, Way, is_within, root_in, children_of, is_child, if_sound, node_at, size, child_for, walk_at, with_met, walk_from, found, lookup}
use Rattle.logical_btree.specs.Tree.{Reach, all_within, reach_children, reach_from, all_keys, IsTree, map_of, content_of}
use Rattle.logical_btree.proofs.ReachLemmas.{none_some, both_are, at_node}
use Rattle.logical_btree.proofs.SpanLemmas.{Ordered, ordered_rest, within_from, within_to, within_made, not_below_trans, to_trans}

abbrev Found : List ℕ → List Pair → Option (List ℕ)
Found q pairs = find byte_order q pairs

pub find_append : (q : List ℕ) (a b : List Pair) → Found q a ≡ None → Found q (a ++ b) ≡ Found q b
find_append q [] b none = refl
find_append q (e ∷ a) b none =
    elim (eq_by_cmp byte_order q e.0) as (λ t. cond t (Some e.1) (Found q a) ≡ None → cond t (Some e.1) (Found q (a ++ b)) ≡ Found q b) [
      | true ↦ λ none. absurd (none_some e.1 (sym none))
      | false ↦ λ none. find_append q a b none
    ] none

pub find_front : (q : List ℕ) (a b : List Pair) → Found q b ≡ None → Found q (a ++ b) ≡ Found q a
find_front q [] b none = none
find_front q (e ∷ a) b none = ap (λ (o : Option (List ℕ)). cond (eq_by_cmp byte_order q e.0) (Some e.1) o) (find_front q a b none)

-- not in the span
abbrev pub Outside : List ℕ → Span → Type 0
Outside q span = IsTrue (is_within q span) → ⊥

-- a key outside of the span of all is not found
find_outside : (q : List ℕ) (span : Span) (es : List Pair) → IsTrue (all_within span es) → Outside q span → Found q es ≡ None
find_outside q span [] all out = refl
find_outside q span (e ∷ es) all out =
    let both = both_true (is_within e.0 span) (all_within span es) all in
    elim (byte_order q e.0) as (λ o. byte_order q e.0 ≡ o → cond (is_eq o) (Some e.1) (Found q es) ≡ None) [
      | Less ↦ λ is. find_outside q span es both.1 out
      | Equal ↦ λ is. absurd (out (subst (λ (k : List ℕ). IsTrue (is_within k span)) (sym (same_key q e.0 is)) both.0))
      | Greater ↦ λ is. find_outside q span es both.1 out
    ] refl

test_of : (b : Bool) → (b ≡ true → ⊥) → b ≡ false
test_of true never = absurd (never refl)
test_of false never = refl

-- the keys of a node rise
abbrev pub Sorted : Node → Type 0
Sorted (Leaf pairs) = T (is_sorted byte_order pairs.items)
Sorted (Inner first branches) = T (is_sorted byte_order branches.items)

yes : (b : Bool) → b ≡ true → T b
yes true e = tt
yes false e = absurd (true≢false (sym e))

risen : {X : Type 0} (o : Option (List (List ℕ × X))) (es : List (List ℕ × X)) → option_and_then rising o ≡ Some es → T (is_sorted byte_order es)
risen o es e =
    let read = and_then_some rising o es e in
    let tests = if_some (is_sorted byte_order read.0) (Some read.0) es read.2 in
    subst (λ (l : List (List ℕ × _)). T (is_sorted byte_order l)) (same_some read.0 es tests.1) (yes (is_sorted byte_order read.0) tests.0)

leaf_sorted : (count : ℕ) (body : List ℕ) (node : Node) → leaf_in count body ≡ Some node → Sorted node
leaf_sorted count body node e =
    let tests = if_some (nat_le count 7) (option_map leaf (option_and_then rising (entries_in short_field count body))) node e in
    let mapped = map_some leaf (option_and_then rising (entries_in short_field count body)) node tests.1 in
    subst Sorted mapped.2 (risen (entries_in short_field count body) mapped.0 mapped.1)

inner_sorted : (count : ℕ) (body : List ℕ) (node : Node) → inner_in count body ≡ Some node → Sorted node
inner_sorted count body node e =
    let tests = if_some (nat_le 1 count && (nat_le count 7 && nat_le 4 (length body))) (option_map (inner (little_number 4 body)) (option_and_then rising (entries_in child_field count (drop 4 body)))) node e in
    let mapped = map_some (inner (little_number 4 body)) (option_and_then rising (entries_in child_field count (drop 4 body))) node tests.1 in
    subst Sorted mapped.2 (risen (entries_in child_field count (drop 4 body)) mapped.0 mapped.1)

node_sorted : (bytes : List ℕ) (node : Node) → node_in bytes ≡ Some node → Sorted node
node_sorted [] node e = absurd (none_some node e)
node_sorted (kind ∷ []) node e = absurd (none_some node e)
node_sorted (kind ∷ count ∷ body) node e =
    elim (kind == 1) as (λ t. (if t then leaf_in count body else (if kind == 2 then inner_in count body else None)) ≡ Some node → Sorted node) [
      | true ↦ λ e. leaf_sorted count body node e
      | false ↦ λ e. inner_sorted count body node (if_some (kind == 2) (inner_in count body) node e).1
    ] e

root_sorted : (bytes : List ℕ) (node : Node) → root_in bytes ≡ Some node → Sorted node
root_sorted [] node e = subst Sorted (same_some (leaf []) node e) tt
root_sorted (b ∷ bytes) node e = node_sorted (b ∷ bytes) node e

pub at_sorted : (lo hi : ℕ) (s : State) (x : ℕ) (node : Node) → node_at lo hi s x ≡ Some node → Sorted node
at_sorted lo hi s x node e =
    let read = and_then_some (if_sound lo hi) (if x == lo then root_in (s x) else node_in (s x)) node e in
    let tests = if_some (list_all (is_child lo hi) (children_of read.0)) (Some read.0) node read.2 in
    subst Sorted (same_some read.0 node tests.1)
    (elim (x == lo) as (λ t. (if t then root_in (s x) else node_in (s x)) ≡ Some read.0 → Sorted read.0) [
      | true ↦ λ e. root_sorted (s x) read.0 e
      | false ↦ λ e. node_sorted (s x) read.0 e
    ] read.1)

module _ (q : List ℕ) where
  abbrev Blind : (ℕ → Span → Option Reach) → Type 0
  Blind on = (x : ℕ) (span : Span) (r : Reach) → on x span ≡ Some r → Outside q span → Found q r.pairs ≡ None

  blind_children : (on : ℕ → Span → Option Reach) → Blind on → (branches : List (List ℕ × ℕ)) (first : ℕ) (span : Span) (r : Reach)
      → reach_children on span first branches ≡ Some r → Ordered span branches → Outside q span → Found q r.pairs ≡ None
  blind_children on blind [] first span r is all out = blind first span r is out
  blind_children on blind (b ∷ branches) first span r is all out =
      let low : Span = record { from = span.from; to = Some b.0 } in
      let high : Span = record { from = b.0; to = span.to } in
      let two = both_are (on first low) (reach_children on high b.1 branches) r is in
      let rest = ordered_rest span b branches all in
      let left = blind first low two.left two.left_is (λ inside. out (within_made q span (within_from q low inside) (to_trans q b.0 span.to (within_to q low inside) (within_to b.0 span rest.0)))) in
      let right = blind_children on blind branches b.1 high two.right two.right_is rest.1
      (λ inside. out (within_made q span (not_below_trans span.from b.0 q (within_from b.0 span rest.0) (within_from q high inside)) (within_to q high inside))) in
      sym (ap (λ (r : Reach). Found q r.pairs) two.all) ∙ find_append q two.left.pairs two.right.pairs left ∙ right

  abbrev Sees : (ℕ → Span → Option Reach) → (ℕ → Result Way ℕ) → Type 0
  Sees on go = (x : ℕ) (span : Span) (r : Reach) → on x span ≡ Some r → IsTrue (is_within q span) → found q (go x) ≡ Found q r.pairs

  sees_children : (on : ℕ → Span → Option Reach) (go : ℕ → Result Way ℕ) → Blind on → Sees on go → (branches : List (List ℕ × ℕ)) (first : ℕ) (span : Span) (r : Reach)
      → reach_children on span first branches ≡ Some r → Ordered span branches → IsTrue (is_within q span) → found q (go (child_for q first branches)) ≡ Found q r.pairs
  sees_children on go blind sees [] first span r is all inside = sees first span r is inside
  sees_children on go blind sees (b ∷ branches) first span r is all inside =
      let low : Span = record { from = span.from; to = Some b.0 } in
      let high : Span = record { from = b.0; to = span.to } in
      let two = both_are (on first low) (reach_children on high b.1 branches) r is in
      let rest = ordered_rest span b branches all in
      elim (is_lt (byte_order q b.0)) as (λ t. is_lt (byte_order q b.0) ≡ t → found q (go (if t then first else child_for q b.1 branches)) ≡ Found q r.pairs) [
        | true ↦ λ less.
            let here = sees first low two.left two.left_is (within_made q low (within_from q span inside) less) in
            let none = blind_children on blind branches b.1 high two.right two.right_is rest.1 (λ into. true≢false (sym less ∙ within_from q high into)) in
            here ∙ sym (find_front q two.left.pairs two.right.pairs none) ∙ ap (λ (r : Reach). Found q r.pairs) two.all
        | false ↦ λ not_less.
            let there = sees_children on go blind sees branches b.1 high two.right two.right_is rest.1 (within_made q high not_less (within_to q span inside)) in
            let none = blind first low two.left two.left_is (λ into. true≢false (sym (within_to q low into) ∙ not_less)) in
            there ∙ sym (find_append q two.left.pairs two.right.pairs none) ∙ ap (λ (r : Reach). Found q r.pairs) two.all
      ] refl

  module _ (lo hi : ℕ) (s : State) where
    pub blind_from : (n : ℕ) → Blind (λ x span. reach_from lo hi s n span x)
    blind_from zero x span r is out = absurd (none_some r is)
    blind_from (suc n) x span r is out =
        let on : ℕ → Span → Option Reach = λ y part. reach_from lo hi s n part y in
        elim (at_node on span x (node_at lo hi s x) r is) [
          | inl at ↦ sym (ap (λ (r : Reach). Found q r.pairs) at.all) ∙ find_outside q span at.pairs at.within out
          | inr at ↦ sym (ap (λ (r : Reach). Found q r.pairs) at.all)
              ∙ blind_children on (blind_from n) at.branches at.first span at.below at.children
              (record { within = at.within; rise = at_sorted lo hi s x (inner at.first at.branches) at.node_is }) out
        ]

    pub found_with : (met : Met) (r : Result Way ℕ) → found q (with_met met r) ≡ found q r
    found_with met (Err bad) = refl
    found_with met (Ok way) = refl

    pub sees_from : (n : ℕ) → Sees (λ x span. reach_from lo hi s n span x) (λ x. walk_from lo hi s q n x)
    sees_from zero x span r is inside = absurd (none_some r is)
    sees_from (suc n) x span r is inside =
        let on : ℕ → Span → Option Reach = λ y part. reach_from lo hi s n part y in
        let go : ℕ → Result Way ℕ = λ y. walk_from lo hi s q n y in
        elim (at_node on span x (node_at lo hi s x) r is) [
          | inl at ↦ ap (λ (o : Option Node). found q (walk_at go q x o)) at.node_is ∙ ap (λ (r : Reach). Found q r.pairs) at.all
          | inr at ↦ ap (λ (o : Option Node). found q (walk_at go q x o)) at.node_is
              ∙ found_with (record { object = x; node = inner at.first at.branches }) (go (child_for q at.first at.branches))
              ∙ sees_children on go (blind_from n) (sees_from n) at.branches at.first span at.below at.children
              (record { within = at.within; rise = at_sorted lo hi s x (inner at.first at.branches) at.node_is }) inside
              ∙ ap (λ (r : Reach). Found q r.pairs) at.all
        ]

    -- on a tree the way to a key finds what its content has
    pub content_found : IsTree lo hi s → get (content_of lo hi s) q ≡ lookup lo hi s q
    content_found tree =
        ap (λ (o : Option Reach). get (map_of lo hi o) q) tree.is
        ∙ get-from_entries nat_list_cmp_total tree.reached.pairs q
        ∙ sym (sees_from (size lo hi) lo all_keys tree.reached tree.is (within_made q all_keys (not_below_least q) refl))
      where
        not_below_least : (q : List ℕ) → is_lt (byte_order q []) ≡ false
        not_below_least [] = refl
        not_below_least (b ∷ bytes) = refl
