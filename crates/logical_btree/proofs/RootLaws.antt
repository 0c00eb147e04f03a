-- A split of a full root keeps the tree and its content.
use Rattle.std.proofs.Common.{◌≡◌, ◌≢◌, ◌≤◌, ◌⊎◌, inl, inr, ℕ, zero, suc, ◌+◌, ◌==◌, true, Option, None, Some, List, [], ◌∷◌, ◌++◌, refl, sym, ap, ◌∙◌, arith}
use Rattle.std.specs.Prelude.{IsTrue}
use Rattle.std.proofs.lemmas.Bool.Decides.{eqb_tells}
use Rattle.std.specs.FinMap.{from_entries}
use Rattle.oper_core.specs.State.{State}
use Rattle.key_entries.specs.Entries.{byte_order}
use Rattle.key_entries.specs.EntryLaws.{both_true, true_both}
use Rattle.btree_ops.specs.Node.{leaf, inner}
use Rattle.btree_ops.specs.Laws.{StandApart}
use Rattle.btree_ops.specs.declared.node.Node.{Node}
use Rattle.logical_btree.specs.Walk.{Pair, Span, is_within, node_at, size}
use Rattle.logical_btree.specs.Tree.{Reach, all_within, reach_children, reach_at, reach_from, times, one_if, all_keys, reach, IsTree, map_of, content_of}
use Rattle.logical_btree.proofs.SpanLemmas.{within_parts, within_lower, within_upper}
use Rattle.logical_btree.proofs.ReachLemmas.{times_append, joined, headed, none_some, both_are, both_made, leaf_is, inner_is, leaf_made, inner_made, middle, SameBut, keeps_children, keeps_from}
use Rattle.logical_btree.proofs.GrownLemmas.{Once}
use Rattle.logical_btree.proofs.SplitLaws.{not_reached}
use Rattle.logical_btree.proofs.DepthLemmas.{fits_range}

module _ (lo hi : ℕ) (s t : State) (left right : ℕ) (separator : List ℕ) where
  -- how the root was cut
  pub record LeafRootCut : Type 0 where
    pub lower : List Pair
    pub upper : List Pair
    pub old : node_at lo hi s lo ≡ Some (leaf (lower ++ upper))
    pub low : node_at lo hi t left ≡ Some (leaf lower)
    pub high : node_at lo hi t right ≡ Some (leaf upper)
    pub apart : StandApart lower separator upper
    pub held : (span : Span) → IsTrue (all_within span upper) → IsTrue (is_within separator span)

  pub record InnerRootCut : Type 0 where
    pub first : ℕ
    pub lower : List (List ℕ × ℕ)
    pub center : ℕ
    pub upper : List (List ℕ × ℕ)
    pub old : node_at lo hi s lo ≡ Some (inner first (lower ++ (separator, center) ∷ upper))
    pub low : node_at lo hi t left ≡ Some (inner first lower)
    pub high : node_at lo hi t right ≡ Some (inner center upper)
    pub apart : StandApart lower separator upper

  record Raised (span : Span) (m : Option Reach) (r : Reach) : Type 0 where
    after : Reach
    is : m ≡ Some after
    pairs : after.pairs ≡ r.pairs
    objects : (y : ℕ) → times y after.objects ≡ times y r.objects + one_if (left == y) + one_if (right == y)

  itself : (x : ℕ) → one_if (x == x) ≡ 1
  itself x = elim (eqb_tells x x) [ inl same ↦ ap one_if same.0 | inr other ↦ absurd (other.1 refl) ]

  module _ (same : SameBut lo hi s t lo lo) (now : node_at lo hi t lo ≡ Some (inner left ((separator, right) ∷ []))) where
    raised : LeafRootCut ⊎ InnerRootCut → (n : ℕ) (span : Span) (r : Reach) → reach_from lo hi s n span lo ≡ Some r → Once r → Raised span (reach_from lo hi t (suc n) span lo) r
    raised cut zero span r is once = absurd (none_some r is)
    raised (inl cut) (suc n) span r is once =
        let on : ℕ → Span → Option Reach = λ y part. reach_from lo hi s n part y in
        let into : ℕ → Span → Option Reach = λ y part. reach_from lo hi t n part y in
        let over : ℕ → Span → Option Reach = λ y part. reach_from lo hi t (suc n) part y in
        let low_span : Span = record { from = span.from; to = Some separator } in
        let high_span : Span = record { from = separator; to = span.to } in
        let at = leaf_is on span lo (cut.lower ++ cut.upper) r (sym (ap (λ (m : Option Node). reach_at on span lo m) cut.old) ∙ is) in
        let parts = within_parts span cut.lower cut.upper at.within in
        let a : Reach = record { objects = left ∷ []; pairs = cut.lower } in
        let b : Reach = record { objects = right ∷ []; pairs = cut.upper } in
        let a_is : over left low_span ≡ Some a = leaf_made into low_span left (node_at lo hi t left) cut.lower cut.low (within_lower span separator cut.lower parts.0 cut.apart.below) in
        let b_is : over right high_span ≡ Some b = leaf_made into high_span right (node_at lo hi t right) cut.upper cut.high (within_upper span separator cut.upper parts.1 cut.apart.above) in
        record {
          after = headed lo (joined a b);
          is = inner_made over span lo (node_at lo hi t lo) left ((separator, right) ∷ []) (joined a b) now (true_both (is_within separator span) true (cut.held span parts.1) refl)
              (both_made (over left low_span) (over right high_span) a b a_is b_is);
          pairs = ap (λ (r : Reach). r.pairs) at.all;
          objects = λ y. let all = ap (λ (r : Reach). times y r.objects) at.all in omega (arith, all);
        }
    raised (inr cut) (suc n) span r is once =
        let on : ℕ → Span → Option Reach = λ y part. reach_from lo hi s n part y in
        let into : ℕ → Span → Option Reach = λ y part. reach_from lo hi t n part y in
        let over : ℕ → Span → Option Reach = λ y part. reach_from lo hi t (suc n) part y in
        let low_span : Span = record { from = span.from; to = Some separator } in
        let high_span : Span = record { from = separator; to = span.to } in
        let at = inner_is on span lo cut.first (cut.lower ++ (separator, cut.center) ∷ cut.upper) r (sym (ap (λ (m : Option Node). reach_at on span lo m) cut.old) ∙ is) in
        let parts = within_parts span cut.lower ((separator, cut.center) ∷ cut.upper) at.within in
        let upper = both_true (is_within separator span) (all_within span cut.upper) parts.1 in
        let two = both_are (reach_children on low_span cut.first cut.lower) (reach_children on high_span cut.center cut.upper) at.below
        (sym (middle on span cut.first cut.lower separator cut.center cut.upper) ∙ at.children) in
        let counts : (y : ℕ) → one_if (lo == y) + (times y two.left.objects + times y two.right.objects) ≡ times y r.objects =
        λ y. let a = ap (λ (r : Reach). times y r.objects) at.all in let b = ap (λ (r : Reach). times y r.objects) two.all in omega (arith, a, b, times_append y two.left.objects two.right.objects) in
        let no_left : times lo two.left.objects ≡ 0 = omega (arith, counts lo, itself lo, once lo) in
        let no_right : times lo two.right.objects ≡ 0 = omega (arith, counts lo, itself lo, once lo) in
        let a : Reach = headed left two.left in
        let b : Reach = headed right two.right in
        let a_is : over left low_span ≡ Some a =
        inner_made into low_span left (node_at lo hi t left) cut.first cut.lower two.left cut.low (within_lower span separator cut.lower parts.0 cut.apart.below)
        (keeps_children lo lo on into (keeps_from lo hi s t lo lo same n) cut.lower cut.first low_span two.left two.left_is (no_left, no_left)) in
        let b_is : over right high_span ≡ Some b =
        inner_made into high_span right (node_at lo hi t right) cut.center cut.upper two.right cut.high (within_upper span separator cut.upper upper.1 cut.apart.above)
        (keeps_children lo lo on into (keeps_from lo hi s t lo lo same n) cut.upper cut.center high_span two.right two.right_is (no_right, no_right)) in
        record {
          after = headed lo (joined a b);
          is = inner_made over span lo (node_at lo hi t lo) left ((separator, right) ∷ []) (joined a b) now (true_both (is_within separator span) true upper.0 refl)
              (both_made (over left low_span) (over right high_span) a b a_is b_is);
          pairs = ap (λ (r : Reach). r.pairs) two.all ∙ ap (λ (r : Reach). r.pairs) at.all;
          objects = λ y. omega (arith, counts y, times_append y a.objects b.objects);
        }

    pub split_root_keeps : LeafRootCut ⊎ InnerRootCut → node_at lo hi s left ≡ None → node_at lo hi s right ≡ None → left ≢ right → lo ≤ hi → IsTree lo hi s
        → IsTree lo hi t × (content_of lo hi t ≡ content_of lo hi s)
    split_root_keeps cut free_left free_right apart range tree =
        let g = raised cut (size lo hi) all_keys tree.reached tree.is tree.once in
        let none_left = not_reached lo hi s left free_left (size lo hi) lo all_keys tree.reached tree.is in
        let none_right = not_reached lo hi s right free_right (size lo hi) lo all_keys tree.reached tree.is in
        let once : Once g.after = λ y.
        elim (eqb_tells left y) [
          | inl l ↦
              let one : one_if (left == y) ≡ 1 = ap one_if l.0 in
              let none : times y tree.reached.objects ≡ 0 = ap (λ (z : ℕ). times z tree.reached.objects) (sym l.1) ∙ none_left in
              elim (eqb_tells right y) [
                | inl r ↦ absurd (apart (l.1 ∙ sym r.1))
                | inr r ↦ let zero_here : one_if (right == y) ≡ 0 = ap one_if r.0 in omega (arith, g.objects y, one, none, zero_here)
              ]
          | inr l ↦
              let zero_left : one_if (left == y) ≡ 0 = ap one_if l.0 in
              elim (eqb_tells right y) [
                | inl r ↦
                    let one : one_if (right == y) ≡ 1 = ap one_if r.0 in
                    let none : times y tree.reached.objects ≡ 0 = ap (λ (z : ℕ). times z tree.reached.objects) (sym r.1) ∙ none_right in
                    omega (arith, g.objects y, one, none, zero_left)
                | inr r ↦ let zero_here : one_if (right == y) ≡ 0 = ap one_if r.0 in omega (arith, g.objects y, zero_left, zero_here, tree.once y)
              ]
        ] in
        let fits : reach lo hi t ≡ Some g.after = fits_range lo hi t (suc (size lo hi)) lo all_keys g.after g.is (omega arith, range) once in (
          record { reached = g.after; is = fits; once = once },
          ap (λ (o : Option Reach). map_of lo hi o) fits ∙ ap (λ (l : List Pair). from_entries {R = byte_order} l) g.pairs ∙ sym (ap (λ (o : Option Reach). map_of lo hi o) tree.is),
        )
