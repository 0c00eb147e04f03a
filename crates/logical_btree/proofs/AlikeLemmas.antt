-- Whether a range is a tree, and what it holds, depends on its own objects alone.
use Rattle.std.proofs.Common.{◌≡◌, ◌≤◌, ℕ, zero, suc, true, if◌then◌else◌, Option, None, Some, List, [], ◌∷◌, map, refl, ap, ◌∙◌, arith}
use Rattle.std.specs.Prelude.{IsTrue, nat_lt, nat_le, option_and_then}
use Rattle.std.specs.List.{list_all}
use Rattle.std.proofs.lemmas.Bool.{ltb-true, leb-true}
use Rattle.oper_core.specs.State.{State}
use Rattle.call_plans.specs.Laws.{AreAlike}
use Rattle.key_entries.specs.EntryLaws.{both_true}
use Rattle.btree_ops.specs.declared.node.Node.{Node}
use Rattle.btree_ops.specs.declared.node.Node.TheVariants.{Leaf, Inner}
use Rattle.logical_btree.specs.Walk.{Span, is_child, if_sound, node_at, read_as, size}
use Rattle.logical_btree.specs.Tree.{Reach, IsTree, all_keys, all_within, both_reach, content_of, map_of, reach, reach_at, reach_children, reach_from, with_object}
use Rattle.logical_btree.proofs.DepthLemmas.{sound_at}

module _ (lo hi : ℕ) (s t : State) (alike : AreAlike lo hi s t) where
  node_stays : (x : ℕ) → lo ≤ x → x ≤ hi → node_at lo hi t x ≡ node_at lo hi s x
  node_stays x from to = ap (λ (v : List ℕ). option_and_then (if_sound lo hi) (read_as lo x v)) (alike x from to)

  -- where below each object of the range the same is reached, so it is below a node
  module _ (on into : ℕ → Span → Option Reach) (same : (x : ℕ) → lo ≤ x → x ≤ hi → (span : Span) → into x span ≡ on x span) where
    child_stays : (x : ℕ) → IsTrue (is_child lo hi x) → (span : Span) → into x span ≡ on x span
    child_stays x child span =
        let both = both_true (nat_lt lo x) (nat_le x hi) child in
        same x (omega (arith, ltb-true lo x both.0)) (leb-true x hi both.1) span

    children_stay : (branches : List (List ℕ × ℕ)) (child : ℕ) (span : Span) → IsTrue (list_all (is_child lo hi) (child ∷ map (λ b. b.1) branches))
        → reach_children into span child branches ≡ reach_children on span child branches
    children_stay [] child span sound = child_stays child (both_true (is_child lo hi child) true sound).0 span
    children_stay (b ∷ branches) child span sound =
        let both = both_true (is_child lo hi child) (list_all (is_child lo hi) (b.1 ∷ map (λ b. b.1) branches)) sound in
        let here = child_stays child both.0 (record { from = span.from; to = Some b.0 }) in
        let rest = children_stay branches b.1 (record { from = b.0; to = span.to }) both.1 in
        λ i. both_reach (here i) (rest i)

    below_stays : (span : Span) (x : ℕ) (node : Option Node) → node_at lo hi s x ≡ node → reach_at into span x node ≡ reach_at on span x node
    below_stays span x None is = refl
    below_stays span x (Some (Leaf pairs)) is = refl
    below_stays span x (Some (Inner first branches)) is =
        ap (λ (r : Option Reach). if all_within span branches.items then with_object x r else None)
        (children_stay branches.items first span (sound_at lo hi s x first branches.items is))

  from_stays : (n : ℕ) (x : ℕ) → lo ≤ x → x ≤ hi → (span : Span) → reach_from lo hi t n span x ≡ reach_from lo hi s n span x
  from_stays zero x from to span = refl
  from_stays (suc n) x from to span =
      ap (λ (node : Option Node). reach_at (λ y part. reach_from lo hi t n part y) span x node) (node_stays x from to)
      ∙ below_stays (λ y part. reach_from lo hi s n part y) (λ y part. reach_from lo hi t n part y) (λ y from to part. from_stays n y from to part) span x (node_at lo hi s x) refl

  pub tree_stays : lo ≤ hi → IsTree lo hi s → IsTree lo hi t × (content_of lo hi t ≡ content_of lo hi s)
  tree_stays order tree =
      let same : reach lo hi t ≡ reach lo hi s = from_stays (size lo hi) lo (omega arith) order all_keys in
      (record { reached = tree.reached; is = same ∙ tree.is; once = tree.once }, ap (map_of lo hi) same)
