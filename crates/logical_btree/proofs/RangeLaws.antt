-- On a tree a scan of a span of keys gives the pairs of the content in that span, and they rise.
use Rattle.std.proofs.Common.{◌≡◌, ℕ, zero, suc, Bool, true, false, ◌&&◌, if◌then◌else◌, T, Option, None, Some, Result, Ok, Err, List, [], ◌∷◌, ◌++◌, filter, is_lt, refl, sym, ap, ◌∙◌, subst, true≢false, inl, inr}
use Rattle.std.specs.Prelude.{IsTrue}
use Rattle.std.specs.FinMap.{entries, from_entries, from_sorted, get-from_entries, get-from_sorted, entries-from_sorted, same_map, slice_cmp-IsAntisymmetric, nat_cmp-IsAntisymmetric}
use Rattle.std.specs.FinMap.Entries.{is_sorted, below_all, is_sorted-where_key}
use Rattle.std.specs.Cmp.Lexicographic.{nat_list_cmp_total}
use Rattle.oper_core.specs.State.{State}
use Rattle.oper_core.specs.declared.bounds.Bounds.{Bounds}
use Rattle.key_entries.specs.Entries.{byte_order}
use Rattle.key_entries.specs.EntryLaws.{both_true, true_both}
use Rattle.btree_ops.specs.Node.{leaf, inner}
use Rattle.btree_ops.specs.declared.node.Node.{Node}
use Rattle.logical_btree.specs.Walk.{Pair, Span, is_within, is_below, lower_end, lower_part, upper_part, both_pairs, scan_at, scan_child, scan_children, scan_from, scan, node_at, size}
use Rattle.logical_btree.specs.Tree.{Reach, all_within, reach_children, reach_from, all_keys, IsTree, map_of, content_of}
use Rattle.logical_btree.specs.Plan.{is_there, range_on, range_answer}
use Rattle.logical_btree.specs.Laws.{RangeTells}
use Rattle.logical_btree.specs.declared.refusal.TreeRefusal.{TreeRefusal}
use Rattle.logical_btree.specs.declared.refusal.TreeRefusal.TheVariants.{NoObject}
use Rattle.logical_btree.proofs.ReachLemmas.{none_some, both_are, at_node}
use Rattle.logical_btree.proofs.SpanLemmas.{Below, NotBelow, Ordered, ordered_rest, split_and, within_from, within_to, within_made, within_append, not_below_trans, below_not_below, below_trans, below_asym, to_trans}
use Rattle.logical_btree.proofs.FoundLemmas.{at_sorted}

-- a part of a span
abbrev Inside : Span → Span → Type 0
Inside part span = (q : List ℕ) → IsTrue (is_within q part) → IsTrue (is_within q span)

widen : {X : Type 0} (part span : Span) → Inside part span → (es : List (List ℕ × X)) → IsTrue (all_within part es) → IsTrue (all_within span es)
widen part span wide [] is = refl
widen part span wide (e ∷ es) is =
    let both = both_true (is_within e.0 part) (all_within part es) is in
    true_both (is_within e.0 span) (all_within span es) (wide e.0 both.0) (widen part span wide es both.1)

low_inside : (span : Span) (key : List ℕ) → IsTrue (is_within key span) → Inside (record { from = span.from; to = Some key }) span
low_inside span key is q into = within_made q span (within_from q (record { from = span.from; to = Some key }) into)
    (to_trans q key span.to (within_to q (record { from = span.from; to = Some key }) into) (within_to key span is))

high_inside : (span : Span) (key : List ℕ) → IsTrue (is_within key span) → Inside (record { from = key; to = span.to }) span
high_inside span key is q into = within_made q span (not_below_trans span.from key q (within_from key span is) (within_from q (record { from = key; to = span.to }) into))
    (within_to q (record { from = key; to = span.to }) into)

holds : (b : Bool) → b ≡ true → T b
holds true e = tt
holds false e = absurd (true≢false (sym e))

both_hold : (a b : Bool) → T a → T b → T (a && b)
both_hold true b x y = y
both_hold false b x y = absurd x

-- lists that rise, one below a key and one not below it
all_below : (x key : List ℕ) (to : Option (List ℕ)) (es : List Pair) → Below x key → IsTrue (all_within (record { from = key; to = to }) es) → T (below_all byte_order x es)
all_below x key to [] less is = tt
all_below x key to (e ∷ es) less is =
    let part : Span = record { from = key; to = to } in
    let both = both_true (is_within e.0 part) (all_within part es) is in
    both_hold (is_lt (byte_order x e.0)) (below_all byte_order x es) (holds (is_lt (byte_order x e.0)) (below_not_below x key e.0 less (within_from e.0 part both.0))) (all_below x key to es less both.1)

below_append : (x : List ℕ) (a b : List Pair) → T (below_all byte_order x a) → T (below_all byte_order x b) → T (below_all byte_order x (a ++ b))
below_append x [] b p q = q
below_append x (e ∷ a) b p q =
    let parts = split_and (is_lt (byte_order x e.0)) (below_all byte_order x a) p in
    both_hold (is_lt (byte_order x e.0)) (below_all byte_order x (a ++ b)) (holds (is_lt (byte_order x e.0)) parts.0) (below_append x a b parts.1 q)

rise_append : (from key : List ℕ) (to : Option (List ℕ)) (a b : List Pair) → T (is_sorted byte_order a) → T (is_sorted byte_order b)
    → IsTrue (all_within (record { from = from; to = Some key }) a) → IsTrue (all_within (record { from = key; to = to }) b) → T (is_sorted byte_order (a ++ b))
rise_append from key to [] b p q x y = q
rise_append from key to (e ∷ a) b p q x y =
    let parts = split_and (below_all byte_order e.0 a) (is_sorted byte_order a) p in
    let both = both_true (is_within e.0 (record { from = from; to = Some key })) (all_within (record { from = from; to = Some key }) a) x in
    both_hold (below_all byte_order e.0 (a ++ b)) (is_sorted byte_order (a ++ b))
    (below_append e.0 a b (holds (below_all byte_order e.0 a) parts.0) (all_below e.0 key to b (within_to e.0 (record { from = from; to = Some key }) both.0) y))
    (rise_append from key to a b parts.1 q both.1 y)

-- filters
same_filter : (f g : Span) (span : Span) → ((q : List ℕ) → IsTrue (is_within q span) → is_within q f ≡ is_within q g) → (es : List Pair) → IsTrue (all_within span es)
    → filter (λ e. is_within e.0 f) es ≡ filter (λ e. is_within e.0 g) es
same_filter f g span alike [] is = refl
same_filter f g span alike (e ∷ es) is =
    let both = both_true (is_within e.0 span) (all_within span es) is in
    (λ i. if alike e.0 both.0 i then e ∷ filter (λ e. is_within e.0 f) es else filter (λ e. is_within e.0 f) es)
    ∙ ap (λ (l : List Pair). if is_within e.0 g then e ∷ l else l) (same_filter f g span alike es both.1)

filter_append : (f : Span) (a b : List Pair) → filter (λ e. is_within e.0 f) (a ++ b) ≡ filter (λ e. is_within e.0 f) a ++ filter (λ e. is_within e.0 f) b
filter_append f [] b = refl
filter_append f (e ∷ a) b =
    elim (is_within e.0 f) as (λ t. (if t then e ∷ filter (λ e. is_within e.0 f) (a ++ b) else filter (λ e. is_within e.0 f) (a ++ b))
    ≡ (if t then e ∷ filter (λ e. is_within e.0 f) a else filter (λ e. is_within e.0 f) a) ++ filter (λ e. is_within e.0 f) b) [
      | true ↦ ap (λ (l : List Pair). e ∷ l) (filter_append f a b)
      | false ↦ filter_append f a b
    ]

-- bools that imply each other
alike : (a b : Bool) → (a ≡ true → b ≡ true) → (b ≡ true → a ≡ true) → a ≡ b
alike true b f g = sym (f refl)
alike false true f g = g refl
alike false false f g = refl

lower_to : (q key : List ℕ) (to : Option (List ℕ)) → IsTrue (is_below q to) → Below q key → Below q (lower_end key to)
lower_to q key None a b = b
lower_to q key (Some end) a b = elim (is_lt (byte_order key end)) as (λ t. Below q (if t then key else end)) [ true ↦ b | false ↦ a ]

from_lower : (q key : List ℕ) (to : Option (List ℕ)) → Below q (lower_end key to) → IsTrue (is_below q to)
from_lower q key None a = refl
from_lower q key (Some end) a =
    elim (is_lt (byte_order key end)) as (λ t. is_lt (byte_order key end) ≡ t → Below q (if t then key else end) → Below q end) [
      | true ↦ λ e a. below_trans q key end a e
      | false ↦ λ e a. a
    ] refl a

-- below a key the lower part of a span has the same keys, and from it on the upper part
lower_alike : (part : Span) (key q : List ℕ) → Below q key → is_within q part ≡ is_within q (lower_part part key)
lower_alike part key q less = alike (is_within q part) (is_within q (lower_part part key))
    (λ is. within_made q (lower_part part key) (within_from q part is) (lower_to q key part.to (within_to q part is) less))
    (λ is. within_made q part (within_from q (lower_part part key) is) (from_lower q key part.to (within_to q (lower_part part key) is)))

upper_from : (part : Span) (key q : List ℕ) → NotBelow q key → NotBelow q part.from → NotBelow q (upper_part part key).from
upper_from part key q a b = elim (is_lt (byte_order part.from key)) as (λ t. NotBelow q (if t then key else part.from)) [ true ↦ a | false ↦ b ]

from_upper : (part : Span) (key q : List ℕ) → NotBelow q (upper_part part key).from → NotBelow q part.from
from_upper part key q a =
    elim (is_lt (byte_order part.from key)) as (λ t. is_lt (byte_order part.from key) ≡ t → NotBelow q (if t then key else part.from) → NotBelow q part.from) [
      | true ↦ λ e a. not_below_trans part.from key q (below_asym part.from key e) a
      | false ↦ λ e a. a
    ] refl a

upper_alike : (part : Span) (key q : List ℕ) → NotBelow q key → is_within q part ≡ is_within q (upper_part part key)
upper_alike part key q not_less = alike (is_within q part) (is_within q (upper_part part key))
    (λ is. within_made q (upper_part part key) (upper_from part key q not_less (within_from q part is)) (within_to q part is))
    (λ is. within_made q part (from_upper part key q (within_from q (upper_part part key) is)) (within_to q (upper_part part key) is))

-- a span without keys
none_within : (part : Span) → is_below part.from part.to ≡ false → (es : List Pair) → filter (λ e. is_within e.0 part) es ≡ []
none_within part empty [] = refl
none_within part empty (e ∷ es) =
    let out : is_within e.0 part ≡ false = alike (is_within e.0 part) false (λ is. sym empty ∙ under e.0 part.from part.to (within_from e.0 part is) (within_to e.0 part is)) (λ e. absurd (true≢false (sym e))) in
    ap (λ (t : Bool). if t then e ∷ filter (λ e. is_within e.0 part) es else filter (λ e. is_within e.0 part) es) out ∙ none_within part empty es
  where
    under : (q from : List ℕ) (to : Option (List ℕ)) → NotBelow q from → IsTrue (is_below q to) → is_below from to ≡ true
    under q from None a b = refl
    under q from (Some end) a b =
        elim (is_lt (byte_order from end)) as (λ t. is_lt (byte_order from end) ≡ t → t ≡ true) [
          | true ↦ λ e. refl
          | false ↦ λ e. absurd (true≢false (sym b ∙ not_below_trans end from q e a))
        ] refl

record Sound (on : ℕ → Span → Option Reach) : Type 0 where
  within : (x : ℕ) (span : Span) (r : Reach) → on x span ≡ Some r → IsTrue (all_within span r.pairs)
  rise : (x : ℕ) (span : Span) (r : Reach) → on x span ≡ Some r → T (is_sorted byte_order r.pairs)

record InOrder (span : Span) (r : Reach) : Type 0 where
  within : IsTrue (all_within span r.pairs)
  rise : T (is_sorted byte_order r.pairs)

order_children : (on : ℕ → Span → Option Reach) → ((x : ℕ) (span : Span) (r : Reach) → on x span ≡ Some r → InOrder span r)
    → (branches : List (List ℕ × ℕ)) (first : ℕ) (span : Span) (r : Reach) → reach_children on span first branches ≡ Some r → Ordered span branches → InOrder span r
order_children on ih [] first span r is all = ih first span r is
order_children on ih (b ∷ branches) first span r is all =
    let low : Span = record { from = span.from; to = Some b.0 } in
    let high : Span = record { from = b.0; to = span.to } in
    let two = both_are (on first low) (reach_children on high b.1 branches) r is in
    let rest = ordered_rest span b branches all in
    let a = ih first low two.left two.left_is in
    let c = order_children on ih branches b.1 high two.right two.right_is rest.1 in
    subst (λ (r : Reach). InOrder span r) two.all
    (record {
      within = within_append span two.left.pairs two.right.pairs (widen low span (low_inside span b.0 rest.0) two.left.pairs a.within) (widen high span (high_inside span b.0 rest.0) two.right.pairs c.within);
      rise = rise_append span.from b.0 span.to two.left.pairs two.right.pairs a.rise c.rise a.within c.within;
    })

abbrev Scans : (ℕ → Span → Option Reach) → (ℕ → Span → Result (List Pair) ℕ) → Type 0
Scans on go = (x : ℕ) (span part : Span) (r : Reach) → on x span ≡ Some r → go x part ≡ Ok (filter (λ e. is_within e.0 part) r.pairs)

scan_one : (go : ℕ → Span → Result (List Pair) ℕ) (part : Span) (x : ℕ) (es : List Pair) → go x part ≡ Ok (filter (λ e. is_within e.0 part) es) → scan_child go part x ≡ Ok (filter (λ e. is_within e.0 part) es)
scan_one go part x es is =
    elim (is_below part.from part.to) as (λ t. is_below part.from part.to ≡ t → (if t then go x part else Ok []) ≡ Ok (filter (λ e. is_within e.0 part) es)) [
      | true ↦ λ e. is
      | false ↦ λ e. ap (λ (l : List Pair). Ok l) (sym (none_within part e es))
    ] refl

both_scans : (a b : Result (List Pair) ℕ) (x y : List Pair) → a ≡ Ok x → b ≡ Ok y → both_pairs a b ≡ Ok (x ++ y)
both_scans a b x y e f = ap (λ (o : Result (List Pair) ℕ). both_pairs o b) e ∙ ap (λ (o : Result (List Pair) ℕ). both_pairs (Ok x) o) f

scans_children : (on : ℕ → Span → Option Reach) (go : ℕ → Span → Result (List Pair) ℕ) → ((x : ℕ) (span : Span) (r : Reach) → on x span ≡ Some r → InOrder span r) → Scans on go
    → (branches : List (List ℕ × ℕ)) (first : ℕ) (span part : Span) (r : Reach) → reach_children on span first branches ≡ Some r → Ordered span branches
    → scan_children go part first branches ≡ Ok (filter (λ e. is_within e.0 part) r.pairs)
scans_children on go order ih [] first span part r is all = scan_one go part first r.pairs (ih first span part r is)
scans_children on go order ih (b ∷ branches) first span part r is all =
    let low : Span = record { from = span.from; to = Some b.0 } in
    let high : Span = record { from = b.0; to = span.to } in
    let two = both_are (on first low) (reach_children on high b.1 branches) r is in
    let rest = ordered_rest span b branches all in
    let left = order first low two.left two.left_is in
    let right = order_children on order branches b.1 high two.right two.right_is rest.1 in
    let a = scan_one go (lower_part part b.0) first two.left.pairs (ih first low (lower_part part b.0) two.left two.left_is) in
    let c = scans_children on go order ih branches b.1 high (upper_part part b.0) two.right two.right_is rest.1 in
    both_scans (scan_child go (lower_part part b.0) first) (scan_children go (upper_part part b.0) b.1 branches)
    (filter (λ e. is_within e.0 (lower_part part b.0)) two.left.pairs) (filter (λ e. is_within e.0 (upper_part part b.0)) two.right.pairs) a c
    ∙ (λ i. Ok (same_filter (lower_part part b.0) part low (λ q into. sym (lower_alike part b.0 q (within_to q low into))) two.left.pairs left.within i
    ++ same_filter (upper_part part b.0) part high (λ q into. sym (upper_alike part b.0 q (within_from q high into))) two.right.pairs right.within i))
    ∙ ap (λ (l : List Pair). Ok l) (sym (filter_append part two.left.pairs two.right.pairs))
    ∙ ap (λ (r : Reach). Ok (filter (λ e. is_within e.0 part) r.pairs)) two.all

module _ (lo hi : ℕ) (s : State) where
  order_from : (n x : ℕ) (span : Span) (r : Reach) → reach_from lo hi s n span x ≡ Some r → InOrder span r
  order_from zero x span r is = absurd (none_some r is)
  order_from (suc n) x span r is =
      let on : ℕ → Span → Option Reach = λ y part. reach_from lo hi s n part y in
      elim (at_node on span x (node_at lo hi s x) r is) [
        | inl at ↦ subst (λ (r : Reach). InOrder span r) at.all (record { within = at.within; rise = at_sorted lo hi s x (leaf at.pairs) at.node_is })
        | inr at ↦
            let below = order_children on (λ y part r is. order_from n y part r is) at.branches at.first span at.below at.children
            (record { within = at.within; rise = at_sorted lo hi s x (inner at.first at.branches) at.node_is }) in
            subst (λ (r : Reach). InOrder span r) at.all (record { within = below.within; rise = below.rise })
      ]

  scans_from : (n : ℕ) → Scans (λ x span. reach_from lo hi s n span x) (λ x part. scan_from lo hi s n part x)
  scans_from zero x span part r is = absurd (none_some r is)
  scans_from (suc n) x span part r is =
      let on : ℕ → Span → Option Reach = λ y part. reach_from lo hi s n part y in
      let go : ℕ → Span → Result (List Pair) ℕ = λ y part. scan_from lo hi s n part y in
      elim (at_node on span x (node_at lo hi s x) r is) [
        | inl at ↦ ap (λ (o : Option Node). scan_at go part x o) at.node_is ∙ ap (λ (r : Reach). Ok (filter (λ e. is_within e.0 part) r.pairs)) at.all
        | inr at ↦ ap (λ (o : Option Node). scan_at go part x o) at.node_is
            ∙ scans_children on go (λ y part r is. order_from n y part r is) (scans_from n) at.branches at.first span part at.below at.children
            (record { within = at.within; rise = at_sorted lo hi s x (inner at.first at.branches) at.node_is })
            ∙ ap (λ (r : Reach). Ok (filter (λ e. is_within e.0 part) r.pairs)) at.all
      ]

  -- the entries of the content are the pairs that are reached
  pub content_entries : (tree : IsTree lo hi s) → entries (content_of lo hi s) ≡ tree.reached.pairs
  content_entries tree =
      let rise = (order_from (size lo hi) lo all_keys tree.reached tree.is).rise in
      ap (λ (o : Option Reach). entries (map_of lo hi o)) tree.is
      ∙ ap entries (same_map nat_list_cmp_total (slice_cmp-IsAntisymmetric nat_cmp-IsAntisymmetric) (from_entries {R = byte_order} tree.reached.pairs) (from_sorted tree.reached.pairs)
      (λ q. get-from_entries nat_list_cmp_total tree.reached.pairs q ∙ sym (get-from_sorted byte_order tree.reached.pairs q rise)))
      ∙ entries-from_sorted byte_order tree.reached.pairs rise

  -- on a tree a range reports the map's pairs in it, in their order
  pub range_tells : (b : Bounds) (from to : List ℕ) → IsTrue (is_there b lo hi) → IsTree lo hi s → RangeTells b lo hi s from to
  range_tells b from to there tree =
      let part : Span = record { from = from; to = Some to } in
      ap (λ (t : Bool). if t then range_on (scan lo hi s part) else Err NoObject) there
      ∙ ap range_on (scans_from (size lo hi) lo all_keys part tree.reached tree.is)
      ∙ ap (λ (l : List Pair). Ok (filter (λ e. is_within e.0 part) l)) (sym (content_entries tree))

  abbrev pairs_in : Result (List Pair) TreeRefusal → List Pair
  pairs_in (Ok pairs) = pairs
  pairs_in (Err r) = []

  abbrev is_answer : Result (List Pair) TreeRefusal → Bool
  is_answer (Ok pairs) = true
  is_answer (Err r) = false

  -- the pairs that a range reports rise
  pub range_rises : (b : Bounds) (from to : List ℕ) (pairs : List Pair) → IsTree lo hi s → range_answer b lo hi s from to ≡ Ok pairs → T (is_sorted byte_order pairs)
  range_rises b from to pairs tree is =
      let part : Span = record { from = from; to = Some to } in
      elim (is_there b lo hi) as (λ t. is_there b lo hi ≡ t → (if t then range_on (scan lo hi s part) else Err NoObject) ≡ Ok pairs → T (is_sorted byte_order pairs)) [
        | true ↦ λ there is.
            let told : range_on (scan lo hi s part) ≡ Ok (filter (λ e. is_within e.0 part) tree.reached.pairs) = ap range_on (scans_from (size lo hi) lo all_keys part tree.reached tree.is) in
            subst (λ (l : List Pair). T (is_sorted byte_order l)) (ap pairs_in (sym told ∙ is))
            (is_sorted-where_key byte_order (λ k. is_within k part) tree.reached.pairs (order_from (size lo hi) lo all_keys tree.reached tree.is).rise)
        | false ↦ λ none is. absurd (true≢false (sym (ap is_answer is)))
      ] refl is
