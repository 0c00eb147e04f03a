-- A tree is never deeper than its range is long.
use Rattle.std.proofs.Common.{◌≡◌, ◌≢◌, ◌≤◌, ◌<◌, inl, inr, ℕ, zero, suc, ◌+◌, ◌==◌, true, if◌then◌else◌, Option, Some, List, [], ◌∷◌, ◌++◌, length, map, refl, sym, ap, ◌∙◌, subst, arith, length-append}
use Rattle.std.specs.Prelude.{IsTrue, nat_lt, nat_le}
use Rattle.std.specs.List.{list_all}
use Rattle.std.proofs.lemmas.Bool.{ltb-true, leb-true}
use Rattle.std.proofs.lemmas.Bool.Decides.{eqb_tells}
use Rattle.oper_core.specs.State.{State}
use Rattle.key_entries.specs.EntryLaws.{both_true, if_some, same_some, and_then_some}
use Rattle.btree_ops.specs.Node.{inner, node_in}
use Rattle.btree_ops.specs.declared.node.Node.{Node}
use Rattle.logical_btree.specs.Walk.{Span, root_in, children_of, is_child, if_sound, node_at, size}
use Rattle.logical_btree.specs.Tree.{Reach, reach_children, reach_from, times, one_if}
use Rattle.logical_btree.proofs.ReachLemmas.{none_some, both_are, both_made, times_append, joined, at_node, leaf_made, inner_made}
use Rattle.logical_btree.proofs.GrownLemmas.{Once}

length_joined : (a b r : Reach) → joined a b ≡ r → length a.objects + length b.objects ≡ length r.objects
length_joined a b r all = sym (length-append a.objects b.objects) ∙ ap (λ (r : Reach). length r.objects) all

abbrev Enough : ℕ → (ℕ → Span → Option Reach) → (ℕ → Span → Option Reach) → Type 0
Enough m on into = (x : ℕ) (span : Span) (r : Reach) → on x span ≡ Some r → length r.objects ≤ m → into x span ≡ Some r

enough_children : (m : ℕ) (on into : ℕ → Span → Option Reach) → Enough m on into → (branches : List (List ℕ × ℕ)) (first : ℕ) (span : Span) (r : Reach)
    → reach_children on span first branches ≡ Some r → length r.objects ≤ m → reach_children into span first branches ≡ Some r
enough_children m on into ih [] first span r is few = ih first span r is few
enough_children m on into ih (b ∷ branches) first span r is few =
    let low : Span = record { from = span.from; to = Some b.0 } in
    let high : Span = record { from = b.0; to = span.to } in
    let two = both_are (on first low) (reach_children on high b.1 branches) r is in
    let sizes = length_joined two.left two.right r two.all in
    both_made (into first low) (reach_children into high b.1 branches) two.left two.right (ih first low two.left two.left_is (omega (arith, sizes, few)))
    (enough_children m on into ih branches b.1 high two.right two.right_is (omega (arith, sizes, few)))
    ∙ ap (λ (r : Reach). Some r) two.all

module _ (lo hi : ℕ) (s : State) where
  -- ways of as many objects as are reached are long enough
  pub enough : (n m : ℕ) → Enough m (λ x span. reach_from lo hi s n span x) (λ x span. reach_from lo hi s m span x)
  enough zero m x span r is few = absurd (none_some r is)
  enough (suc n) zero x span r is few =
      let on : ℕ → Span → Option Reach = λ y part. reach_from lo hi s n part y in
      elim (at_node on span x (node_at lo hi s x) r is) [
        | inl at ↦ absurd (let all = ap (λ (r : Reach). length r.objects) at.all in omega (arith, all, few))
        | inr at ↦ absurd (let all = ap (λ (r : Reach). length r.objects) at.all in omega (arith, all, few))
      ]
  enough (suc n) (suc m) x span r is few =
      let on : ℕ → Span → Option Reach = λ y part. reach_from lo hi s n part y in
      let into : ℕ → Span → Option Reach = λ y part. reach_from lo hi s m part y in
      elim (at_node on span x (node_at lo hi s x) r is) [
        | inl at ↦ leaf_made into span x (node_at lo hi s x) at.pairs at.node_is at.within ∙ ap (λ (r : Reach). Some r) at.all
        | inr at ↦
            let all = ap (λ (r : Reach). length r.objects) at.all in
            inner_made into span x (node_at lo hi s x) at.first at.branches at.below at.node_is at.within
            (enough_children m on into (enough n m) at.branches at.first span at.below at.children (omega (arith, all, few)))
            ∙ ap (λ (r : Reach). Some r) at.all
      ]

-- so often n objects from x on stand in a list
abbrev total : ℕ → ℕ → List ℕ → ℕ
total zero x xs = 0
total (suc n) x xs = times x xs + total n (suc x) xs

total_append : (n x : ℕ) (a b : List ℕ) → total n x (a ++ b) ≡ total n x a + total n x b
total_append zero x a b = refl
total_append (suc n) x a b = omega (arith, times_append x a b, total_append n (suc x) a b)

total_cons : (n x y : ℕ) (ys : List ℕ) → total n x (y ∷ ys) ≡ total n x (y ∷ []) + total n x ys
total_cons n x y ys = total_append n x (y ∷ []) ys

one_of : (n x y : ℕ) → x ≤ y → y < x + n → 1 ≤ total n x (y ∷ [])
one_of zero x y above below = absurd (omega (arith, above, below))
one_of (suc n) x y above below =
    elim (eqb_tells y x) [
      | inl here ↦ let one : one_if (y == x) ≡ 1 = ap one_if here.0 in omega (arith, one)
      | inr other ↦
          let none : one_if (y == x) ≡ 0 = ap one_if other.0 in
          let more : suc x ≤ y = next x y above (λ e. other.1 (sym e)) in
          omega (arith, none, one_of n (suc x) y more (omega (arith, below)))
    ]
  where
    next : (x y : ℕ) → x ≤ y → x ≢ y → suc x ≤ y
    next x y a b = omega (arith, a, b)

total_once : (n x : ℕ) (r : Reach) → Once r → total n x r.objects ≤ n
total_once zero x r once = omega arith
total_once (suc n) x r once = omega (arith, once x, total_once n (suc x) r once)

module _ (lo hi : ℕ) (s : State) where
  abbrev Stays : Reach → Type 0
  Stays r = length r.objects ≤ total (size lo hi) lo r.objects

  abbrev Ranges : (ℕ → Span → Option Reach) → Type 0
  Ranges on = (x : ℕ) (span : Span) (r : Reach) → on x span ≡ Some r → (lo ≤ x) × (x ≤ hi) → Stays r

  child_ranges : (x : ℕ) → IsTrue (is_child lo hi x) → (lo ≤ x) × (x ≤ hi)
  child_ranges x is =
      let both = both_true (nat_lt lo x) (nat_le x hi) is in
      (omega (arith, ltb-true lo x both.0), leb-true x hi both.1)

  ranges_children : (on : ℕ → Span → Option Reach) → Ranges on → (branches : List (List ℕ × ℕ)) (first : ℕ) (span : Span) (r : Reach)
      → reach_children on span first branches ≡ Some r → IsTrue (list_all (is_child lo hi) (first ∷ map (λ b. b.1) branches)) → Stays r
  ranges_children on ranges [] first span r is sound = ranges first span r is (child_ranges first (both_true (is_child lo hi first) true sound).0)
  ranges_children on ranges (b ∷ branches) first span r is sound =
      let low : Span = record { from = span.from; to = Some b.0 } in
      let high : Span = record { from = b.0; to = span.to } in
      let two = both_are (on first low) (reach_children on high b.1 branches) r is in
      let parts = both_true (is_child lo hi first) (list_all (is_child lo hi) (b.1 ∷ map (λ b. b.1) branches)) sound in
      let sizes = length_joined two.left two.right r two.all in
      let sums : total (size lo hi) lo r.objects ≡ total (size lo hi) lo two.left.objects + total (size lo hi) lo two.right.objects =
      sym (ap (λ (r : Reach). total (size lo hi) lo r.objects) two.all) ∙ total_append (size lo hi) lo two.left.objects two.right.objects in
      omega (arith, sizes, sums, ranges first low two.left two.left_is (child_ranges first parts.0), ranges_children on ranges branches b.1 high two.right two.right_is parts.1)

  pub sound_at : (x first : ℕ) (branches : List (List ℕ × ℕ)) → node_at lo hi s x ≡ Some (inner first branches) → IsTrue (list_all (is_child lo hi) (first ∷ map (λ b. b.1) branches))
  sound_at x first branches e =
      let read = and_then_some (if_sound lo hi) (if x == lo then root_in (s x) else node_in (s x)) (inner first branches) e in
      let tests = if_some (list_all (is_child lo hi) (children_of read.0)) (Some read.0) (inner first branches) read.2 in
      subst (λ (node : Node). IsTrue (list_all (is_child lo hi) (children_of node))) (same_some read.0 (inner first branches) tests.1) tests.0

  pub ranges_from : (n : ℕ) → Ranges (λ x span. reach_from lo hi s n span x)
  ranges_from zero x span r is range = absurd (none_some r is)
  ranges_from (suc n) x span r is range =
      let on : ℕ → Span → Option Reach = λ y part. reach_from lo hi s n part y in
      let here = one_of (size lo hi) lo x range.0 (omega (arith, range.0, range.1)) in
      elim (at_node on span x (node_at lo hi s x) r is) [
        | inl at ↦
            let a = ap (λ (r : Reach). length r.objects) at.all in let b = ap (λ (r : Reach). total (size lo hi) lo r.objects) at.all in omega (arith, a, b, here)
        | inr at ↦
            let a = ap (λ (r : Reach). length r.objects) at.all in
            let b : total (size lo hi) lo (x ∷ at.below.objects) ≡ total (size lo hi) lo r.objects = ap (λ (r : Reach). total (size lo hi) lo r.objects) at.all in
            omega (arith, a, b, here, total_cons (size lo hi) lo x at.below.objects, ranges_children on (ranges_from n) at.branches at.first span at.below at.children (sound_at x at.first at.branches at.node_is))
      ]

  -- what is reached once each is reached over ways that are no longer than the range
  pub fits_range : (n x : ℕ) (span : Span) (r : Reach) → reach_from lo hi s n span x ≡ Some r → (lo ≤ x) × (x ≤ hi) → Once r → reach_from lo hi s (size lo hi) span x ≡ Some r
  fits_range n x span r is range once =
      enough lo hi s n (size lo hi) x span r is (omega (arith, ranges_from n x span r is range, total_once (size lo hi) lo r once))
