-- A split of a full child keeps the tree and its content.
use Rattle.std.proofs.Common.{◌≡◌, ◌≤◌, ◌⊎◌, inl, inr, ℕ, zero, suc, ◌+◌, ◌==◌, Option, None, Some, List, [], ◌∷◌, sym, ap, ◌∙◌, arith}
use Rattle.std.proofs.lemmas.Bool.Decides.{eqb_tells}
use Rattle.std.specs.FinMap.{from_entries}
use Rattle.oper_core.specs.State.{State}
use Rattle.key_entries.specs.Entries.{byte_order}
use Rattle.btree_ops.specs.Node.{leaf, inner}
use Rattle.btree_ops.specs.declared.node.Node.{Node}
use Rattle.logical_btree.specs.Walk.{Pair, Span, node_at, size}
use Rattle.logical_btree.specs.Tree.{Reach, reach_children, reach_from, times, one_if, all_keys, IsTree, map_of, content_of}
use Rattle.logical_btree.proofs.ReachLemmas.{times_append, none_some, both_are, at_node, SameBut}
use Rattle.logical_btree.proofs.GrownLemmas.{LeafCut, InnerCut, ParentCut, grown_from}

some_none : {X : Type 0} (x : X) → Some x ≡ None → ⊥
some_none x e = none_some x (sym e)

module _ (lo hi : ℕ) (s : State) (x : ℕ) (free : node_at lo hi s x ≡ None) where
  abbrev Misses : (ℕ → Span → Option Reach) → Type 0
  Misses on = (y : ℕ) (span : Span) (r : Reach) → on y span ≡ Some r → times x r.objects ≡ 0

  misses_children : (on : ℕ → Span → Option Reach) → Misses on → (branches : List (List ℕ × ℕ)) (first : ℕ) (span : Span) (r : Reach)
      → reach_children on span first branches ≡ Some r → times x r.objects ≡ 0
  misses_children on misses [] first span r is = misses first span r is
  misses_children on misses (b ∷ branches) first span r is =
      let low : Span = record { from = span.from; to = Some b.0 } in
      let high : Span = record { from = b.0; to = span.to } in
      let two = both_are (on first low) (reach_children on high b.1 branches) r is in
      let all = ap (λ (r : Reach). times x r.objects) two.all in
      omega (arith, all, times_append x two.left.objects two.right.objects, misses first low two.left two.left_is, misses_children on misses branches b.1 high two.right two.right_is)

  -- an object without a node is not reached
  pub not_reached : (n : ℕ) → Misses (λ y span. reach_from lo hi s n span y)
  not_reached zero y span r is = absurd (none_some r is)
  not_reached (suc n) y span r is =
      let on : ℕ → Span → Option Reach = λ z part. reach_from lo hi s n part z in
      let apart : (node : Node) → node_at lo hi s y ≡ Some node → one_if (y == x) ≡ 0 =
      λ node has. elim (eqb_tells y x) [
        | inl same ↦ absurd (none_some node (sym free ∙ ap (λ (z : ℕ). node_at lo hi s z) (sym same.1) ∙ has))
        | inr other ↦ ap one_if other.0
      ] in
      elim (at_node on span y (node_at lo hi s y) r is) [
        | inl at ↦ let all = ap (λ (r : Reach). times x r.objects) at.all in omega (arith, all, apart (leaf at.pairs) at.node_is)
        | inr at ↦
            let all = ap (λ (r : Reach). times x r.objects) at.all in
            omega (arith, all, apart (inner at.first at.branches) at.node_is, misses_children on (not_reached n) at.branches at.first span at.below at.children)
      ]

module _ (lo hi : ℕ) (s t : State) (parent child new : ℕ) (separator : List ℕ) where
  pub once_more : (r after : Reach) → ((y : ℕ) → times y r.objects ≤ 1) → times new r.objects ≡ 0
      → ((y : ℕ) → times y after.objects ≡ times y r.objects + one_if (new == y)) → (y : ℕ) → times y after.objects ≤ 1
  once_more r after once free objects y =
      elim (eqb_tells new y) [
        | inl here ↦
            let one : one_if (new == y) ≡ 1 = ap one_if here.0 in
            let none : times y r.objects ≡ 0 = ap (λ (z : ℕ). times z r.objects) (sym here.1) ∙ free in
            omega (arith, objects y, one, none)
        | inr other ↦ let zero_here : one_if (new == y) ≡ 0 = ap one_if other.0 in omega (arith, objects y, zero_here, once y)
      ]

  pub split_child_keeps : (same : SameBut lo hi s t parent child) → LeafCut lo hi s t parent child new separator ⊎ InnerCut lo hi s t parent child new separator
      → ParentCut lo hi s t parent child new separator same → node_at lo hi s new ≡ None → (tree : IsTree lo hi s) → 1 ≤ times parent tree.reached.objects
      → IsTree lo hi t × (content_of lo hi t ≡ content_of lo hi s)
  split_child_keeps same cut above free tree there =
      let g = grown_from lo hi s t parent child new separator same cut above (size lo hi) lo all_keys tree.reached tree.is tree.once there in (
        record {
          reached = g.after;
          is = g.is;
          once = once_more tree.reached g.after tree.once (not_reached lo hi s new free (size lo hi) lo all_keys tree.reached tree.is) g.objects;
        },
        ap (λ (o : Option Reach). map_of lo hi o) g.is ∙ ap (λ (l : List Pair). from_entries {R = byte_order} l) g.pairs ∙ sym (ap (λ (o : Option Reach). map_of lo hi o) tree.is),
      )
