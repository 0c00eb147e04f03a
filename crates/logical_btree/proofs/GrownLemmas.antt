-- A full child is split: what was reached is reached still, in the same order, and one object more.
use Rattle.std.proofs.Common.{◌≡◌, ◌≢◌, ◌≤◌, ◌⊎◌, inl, inr, ℕ, zero, suc, ◌+◌, ◌==◌, Option, Some, List, [], ◌∷◌, ◌++◌, refl, sym, ap, ◌∙◌, subst, arith, append_assoc}
use Rattle.std.specs.Prelude.{IsTrue}
use Rattle.std.proofs.lemmas.Bool.Decides.{eqb_tells}
use Rattle.oper_core.specs.State.{State}
use Rattle.key_entries.specs.EntryLaws.{both_true, true_both}
use Rattle.btree_ops.specs.Node.{leaf, inner}
use Rattle.btree_ops.specs.Laws.{StandApart, IsBehindBranch}
use Rattle.btree_ops.specs.declared.node.Node.{Node}
use Rattle.logical_btree.specs.Walk.{Pair, Span, is_within, node_at}
use Rattle.logical_btree.specs.Tree.{Reach, all_within, reach_children, reach_at, reach_from, times, one_if}
use Rattle.logical_btree.proofs.SpanLemmas.{within_from, within_to, within_made, within_append, within_parts, within_lower, within_upper, not_below_trans, to_trans}
use Rattle.logical_btree.proofs.ReachLemmas.{times_append, joined, headed, none_some, both_are, both_made, at_node, leaf_is, inner_is, leaf_made, inner_made, middle, SameBut, Keeps, keeps_children, keeps_from}

-- no object twice
abbrev pub Once : Reach → Type 0
Once r = (y : ℕ) → times y r.objects ≤ 1

module _ (lo hi : ℕ) (s t : State) (parent child new : ℕ) (separator : List ℕ) where
  -- how the child was cut
  pub record LeafCut : Type 0 where
    pub lower : List Pair
    pub upper : List Pair
    pub old : node_at lo hi s child ≡ Some (leaf (lower ++ upper))
    pub low : node_at lo hi t child ≡ Some (leaf lower)
    pub high : node_at lo hi t new ≡ Some (leaf upper)
    pub apart : StandApart lower separator upper
    pub held : (span : Span) → IsTrue (all_within span upper) → IsTrue (is_within separator span)

  pub record InnerCut : Type 0 where
    pub first : ℕ
    pub lower : List (List ℕ × ℕ)
    pub center : ℕ
    pub upper : List (List ℕ × ℕ)
    pub old : node_at lo hi s child ≡ Some (inner first (lower ++ (separator, center) ∷ upper))
    pub low : node_at lo hi t child ≡ Some (inner first lower)
    pub high : node_at lo hi t new ≡ Some (inner center upper)
    pub apart : StandApart lower separator upper

  -- the same pairs in the same order, and the new object once more
  pub record Grown (o : Option Reach) (r : Reach) : Type 0 where
    pub after : Reach
    pub is : o ≡ Some after
    pub pairs : after.pairs ≡ r.pairs
    pub objects : (y : ℕ) → times y after.objects ≡ times y r.objects + one_if (new == y)
    pub there : 1 ≤ times child r.objects

  -- the halves are reached where the child was
  pub record Parted (low high : Option Reach) (span : Span) (r : Reach) : Type 0 where
    pub left : Reach
    pub right : Reach
    pub left_is : low ≡ Some left
    pub right_is : high ≡ Some right
    pub pairs : left.pairs ++ right.pairs ≡ r.pairs
    pub objects : (y : ℕ) → times y left.objects + times y right.objects ≡ times y r.objects + one_if (new == y)
    pub within : IsTrue (is_within separator span)
    pub there : 1 ≤ times child r.objects

  itself : (x : ℕ) → one_if (x == x) ≡ 1
  itself x = elim (eqb_tells x x) [ inl same ↦ ap one_if same.0 | inr other ↦ absurd (other.1 refl) ]

  module _ (same : SameBut lo hi s t parent child) where
    parted : LeafCut ⊎ InnerCut → (n : ℕ) (span : Span) (r : Reach) → reach_from lo hi s n span child ≡ Some r → times parent r.objects ≡ 0 → Once r
        → Parted (reach_from lo hi t n (record { from = span.from; to = Some separator }) child) (reach_from lo hi t n (record { from = separator; to = span.to }) new) span r
    parted cut zero span r is spared once = absurd (none_some r is)
    parted (inl cut) (suc n) span r is spared once =
        let on : ℕ → Span → Option Reach = λ y part. reach_from lo hi s n part y in
        let into : ℕ → Span → Option Reach = λ y part. reach_from lo hi t n part y in
        let old : reach_at on span child (Some (leaf (cut.lower ++ cut.upper))) ≡ Some r = sym (ap (λ (o : Option Node). reach_at on span child o) cut.old) ∙ is in
        let at = leaf_is on span child (cut.lower ++ cut.upper) r old in
        let parts = within_parts span cut.lower cut.upper at.within in
        record {
          left = record { objects = child ∷ []; pairs = cut.lower };
          right = record { objects = new ∷ []; pairs = cut.upper };
          left_is = leaf_made into (record { from = span.from; to = Some separator }) child (node_at lo hi t child) cut.lower cut.low (within_lower span separator cut.lower parts.0 cut.apart.below);
          right_is = leaf_made into (record { from = separator; to = span.to }) new (node_at lo hi t new) cut.upper cut.high (within_upper span separator cut.upper parts.1 cut.apart.above);
          pairs = ap (λ (r : Reach). r.pairs) at.all;
          objects = λ y. let o = ap (λ (r : Reach). times y r.objects) at.all in omega (arith, o);
          within = cut.held span parts.1;
          there = let o = ap (λ (r : Reach). times child r.objects) at.all in omega (arith, o, itself child);
        }
    parted (inr cut) (suc n) span r is spared once =
        let on : ℕ → Span → Option Reach = λ y part. reach_from lo hi s n part y in
        let into : ℕ → Span → Option Reach = λ y part. reach_from lo hi t n part y in
        let all : List (List ℕ × ℕ) = cut.lower ++ (separator, cut.center) ∷ cut.upper in
        let low_span : Span = record { from = span.from; to = Some separator } in
        let high_span : Span = record { from = separator; to = span.to } in
        let old : reach_at on span child (Some (inner cut.first all)) ≡ Some r = sym (ap (λ (o : Option Node). reach_at on span child o) cut.old) ∙ is in
        let at = inner_is on span child cut.first all r old in
        let parts = within_parts span cut.lower ((separator, cut.center) ∷ cut.upper) at.within in
        let upper = both_true (is_within separator span) (all_within span cut.upper) parts.1 in
        let two = both_are (reach_children on low_span cut.first cut.lower) (reach_children on high_span cut.center cut.upper) at.below
        (sym (middle on span cut.first cut.lower separator cut.center cut.upper) ∙ at.children) in
        let counts : (y : ℕ) → one_if (child == y) + (times y two.left.objects + times y two.right.objects) ≡ times y r.objects =
        λ y. let a = ap (λ (r : Reach). times y r.objects) at.all in let b = ap (λ (r : Reach). times y r.objects) two.all in omega (arith, a, b, times_append y two.left.objects two.right.objects) in
        record {
          left = headed child two.left;
          right = headed new two.right;
          left_is = inner_made into low_span child (node_at lo hi t child) cut.first cut.lower two.left cut.low (within_lower span separator cut.lower parts.0 cut.apart.below)
              (keeps_children parent child on into (keeps_from lo hi s t parent child same n) cut.lower cut.first low_span two.left two.left_is
              (omega (arith, counts parent, spared), omega (arith, counts child, itself child, once child)));
          right_is = inner_made into high_span new (node_at lo hi t new) cut.center cut.upper two.right cut.high (within_upper span separator cut.upper upper.1 cut.apart.above)
              (keeps_children parent child on into (keeps_from lo hi s t parent child same n) cut.upper cut.center high_span two.right two.right_is
              (omega (arith, counts parent, spared), omega (arith, counts child, itself child, once child)));
          pairs = ap (λ (r : Reach). r.pairs) two.all ∙ ap (λ (r : Reach). r.pairs) at.all;
          objects = λ y. omega (arith, counts y);
          within = upper.0;
          there = omega (arith, counts child, itself child);
        }

    -- the halves stand where the child stood, before its neighbours
    behind : LeafCut ⊎ InnerCut → (n : ℕ) (base : List ℕ) (branches : List (List ℕ × ℕ)) (span : Span) (r : Reach)
        → reach_children (λ y part. reach_from lo hi s n part y) span child branches ≡ Some r → times parent r.objects ≡ 0 → Once r
        → IsTrue (all_within (record { from = base; to = span.to }) branches)
        → Grown (reach_children (λ y part. reach_from lo hi t n part y) span child ((separator, new) ∷ branches)) r × IsTrue (is_within separator span)
    behind cut n base [] span r is spared once within =
        let part = parted cut n span r is spared once in (
          record {
            after = joined part.left part.right;
            is = both_made (reach_from lo hi t n (record { from = span.from; to = Some separator }) child) (reach_from lo hi t n (record { from = separator; to = span.to }) new) part.left part.right part.left_is part.right_is;
            pairs = part.pairs;
            objects = λ y. omega (arith, times_append y part.left.objects part.right.objects, part.objects y);
            there = part.there;
          },
          part.within,
        )
    behind cut n base (b ∷ branches) span r is spared once within =
        let on : ℕ → Span → Option Reach = λ y part. reach_from lo hi s n part y in
        let into : ℕ → Span → Option Reach = λ y part. reach_from lo hi t n part y in
        let first : Span = record { from = span.from; to = Some b.0 } in
        let others : Span = record { from = b.0; to = span.to } in
        let two = both_are (on child first) (reach_children on others b.1 branches) r is in
        let counts : (y : ℕ) → times y two.left.objects + times y two.right.objects ≡ times y r.objects =
        λ y. let a = ap (λ (r : Reach). times y r.objects) two.all in omega (arith, a, times_append y two.left.objects two.right.objects) in
        let part = parted cut n first two.left two.left_is (omega (arith, counts parent, spared)) (λ y. omega (arith, counts y, once y)) in
        let rest : reach_children into others b.1 branches ≡ Some two.right =
        keeps_children parent child on into (keeps_from lo hi s t parent child same n) branches b.1 others two.right two.right_is
        (omega (arith, counts parent, spared), omega (arith, counts child, part.there, once child)) in
        let high = both_made (into new (record { from = separator; to = Some b.0 })) (reach_children into others b.1 branches) part.right two.right part.right_is rest in (
          record {
            after = joined part.left (joined part.right two.right);
            is = both_made (into child (record { from = span.from; to = Some separator })) (reach_children into (record { from = separator; to = span.to }) new (b ∷ branches)) part.left (joined part.right two.right) part.left_is high;
            pairs = sym (append_assoc part.left.pairs part.right.pairs two.right.pairs) ∙ ap (λ (l : List Pair). l ++ two.right.pairs) part.pairs ∙ ap (λ (r : Reach). r.pairs) two.all;
            objects = λ y. omega (arith, times_append y part.left.objects (part.right.objects ++ two.right.objects), times_append y part.right.objects two.right.objects, part.objects y, counts y);
            there = omega (arith, counts child, part.there);
          },
          within_made separator span (within_from separator first part.within)
              (to_trans separator b.0 span.to (within_to separator first part.within)
              (within_to b.0 (record { from = base; to = span.to }) (both_true (is_within b.0 (record { from = base; to = span.to })) (all_within (record { from = base; to = span.to }) branches) within).0)),
        )

    -- how the parent changed: the new child follows directly the old one
    pub record ParentCut : Type 0 where
      pub first : ℕ
      pub branches : List (List ℕ × ℕ)
      pub more : List (List ℕ × ℕ)
      pub old : node_at lo hi s parent ≡ Some (inner first branches)
      pub now : node_at lo hi t parent ≡ Some (inner first more)
      pub stands : ((first ≡ child) × (more ≡ (separator, new) ∷ branches)) ⊎ ((first ≢ child) × IsBehindBranch child (separator, new) branches more)

    module _ (cut : LeafCut ⊎ InnerCut) (above : ParentCut) where
      record MoreChildren (n : ℕ) (span : Span) (r : Reach) : Type 0 where
        grown : Grown (reach_children (λ y part. reach_from lo hi t n part y) span above.first above.more) r
        within : IsTrue (all_within span above.more)

      more_children : (n : ℕ) (span : Span) (r : Reach) → reach_children (λ y part. reach_from lo hi s n part y) span above.first above.branches ≡ Some r
          → times parent r.objects ≡ 0 → Once r → IsTrue (all_within span above.branches)
          → ((above.first ≡ child) × (above.more ≡ (separator, new) ∷ above.branches)) ⊎ ((above.first ≢ child) × IsBehindBranch child (separator, new) above.branches above.more)
          → MoreChildren n span r
      more_children n span r is spared once within (inl here) =
          let on : ℕ → Span → Option Reach = λ y part. reach_from lo hi s n part y in
          let into : ℕ → Span → Option Reach = λ y part. reach_from lo hi t n part y in
          let g = behind cut n span.from above.branches span r (ap (λ (f : ℕ). reach_children on span f above.branches) (sym here.0) ∙ is) spared once within in
          record {
            grown = record {
              after = g.0.after;
              is = ap (λ (f : ℕ). reach_children into span f above.more) here.0 ∙ ap (λ (m : List (List ℕ × ℕ)). reach_children into span child m) here.1 ∙ g.0.is;
              pairs = g.0.pairs;
              objects = g.0.objects;
              there = g.0.there;
            };
            within = subst (λ (m : List (List ℕ × ℕ)). IsTrue (all_within span m)) (sym here.1) (true_both (is_within separator span) (all_within span above.branches) g.1 within);
          }
      more_children n span r is spared once within (inr (other, st)) =
          let on : ℕ → Span → Option Reach = λ y part. reach_from lo hi s n part y in
          let into : ℕ → Span → Option Reach = λ y part. reach_from lo hi t n part y in
          let low : Span = record { from = span.from; to = Some st.key } in
          let high : Span = record { from = st.key; to = span.to } in
          let parts = within_parts span st.before ((st.key, child) ∷ st.behind) (subst (λ (m : List (List ℕ × ℕ)). IsTrue (all_within span m)) st.old within) in
          let upper = both_true (is_within st.key span) (all_within span st.behind) parts.1 in
          let two = both_are (reach_children on low above.first st.before) (reach_children on high child st.behind) r
          (sym (middle on span above.first st.before st.key child st.behind) ∙ ap (λ (m : List (List ℕ × ℕ)). reach_children on span above.first m) (sym st.old) ∙ is) in
          let counts : (y : ℕ) → times y two.left.objects + times y two.right.objects ≡ times y r.objects =
          λ y. let a = ap (λ (r : Reach). times y r.objects) two.all in omega (arith, a, times_append y two.left.objects two.right.objects) in
          let g = behind cut n span.from st.behind high two.right two.right_is (omega (arith, counts parent, spared)) (λ y. omega (arith, counts y, once y)) upper.1 in
          let left : reach_children into low above.first st.before ≡ Some two.left =
          keeps_children parent child on into (keeps_from lo hi s t parent child same n) st.before above.first low two.left two.left_is
          (omega (arith, counts parent, spared), omega (arith, counts child, g.0.there, once child)) in
          let inside : IsTrue (is_within separator span) =
          within_made separator span (not_below_trans span.from st.key separator (within_from st.key span upper.0) (within_from separator high g.1)) (within_to separator high g.1) in
          record {
            grown = record {
              after = joined two.left g.0.after;
              is = ap (λ (m : List (List ℕ × ℕ)). reach_children into span above.first m) st.more
                  ∙ middle into span above.first st.before st.key child ((separator, new) ∷ st.behind)
                  ∙ both_made (reach_children into low above.first st.before) (reach_children into high child ((separator, new) ∷ st.behind)) two.left g.0.after left g.0.is;
              pairs = ap (λ (l : List Pair). two.left.pairs ++ l) g.0.pairs ∙ ap (λ (r : Reach). r.pairs) two.all;
              objects = λ y. omega (arith, times_append y two.left.objects g.0.after.objects, g.0.objects y, counts y);
              there = omega (arith, counts child, g.0.there);
            };
            within = subst (λ (m : List (List ℕ × ℕ)). IsTrue (all_within span m)) (sym st.more)
                (within_append span st.before ((st.key, child) ∷ (separator, new) ∷ st.behind) parts.0
                (true_both (is_within st.key span) (all_within span ((separator, new) ∷ st.behind)) upper.0
                (true_both (is_within separator span) (all_within span st.behind) inside upper.1)));
          }

      at_parent : (n : ℕ) (span : Span) (r : Reach) → reach_from lo hi s (suc n) span parent ≡ Some r → Once r → Grown (reach_from lo hi t (suc n) span parent) r
      at_parent n span r is once =
          let on : ℕ → Span → Option Reach = λ y part. reach_from lo hi s n part y in
          let into : ℕ → Span → Option Reach = λ y part. reach_from lo hi t n part y in
          let at = inner_is on span parent above.first above.branches r (sym (ap (λ (o : Option Node). reach_at on span parent o) above.old) ∙ is) in
          let counts : (y : ℕ) → one_if (parent == y) + times y at.below.objects ≡ times y r.objects = λ y. ap (λ (r : Reach). times y r.objects) at.all in
          let m = more_children n span at.below at.children (omega (arith, counts parent, itself parent, once parent)) (λ y. omega (arith, counts y, once y)) at.within above.stands in
          record {
            after = headed parent m.grown.after;
            is = inner_made into span parent (node_at lo hi t parent) above.first above.more m.grown.after above.now m.within m.grown.is;
            pairs = m.grown.pairs ∙ ap (λ (r : Reach). r.pairs) at.all;
            objects = λ y. omega (arith, m.grown.objects y, counts y);
            there = omega (arith, counts child, m.grown.there);
          }

      none_or_some : (n : ℕ) → (n ≡ 0) ⊎ (1 ≤ n)
      none_or_some zero = inl refl
      none_or_some (suc n) = inr (omega arith)

      abbrev Grows : (ℕ → Span → Option Reach) → (ℕ → Span → Option Reach) → Type 0
      Grows on into = (x : ℕ) (span : Span) (r : Reach) → on x span ≡ Some r → Once r → 1 ≤ times parent r.objects → Grown (into x span) r

      grown_children : (on into : ℕ → Span → Option Reach) → Keeps parent child on into → Grows on into
          → (branches : List (List ℕ × ℕ)) (first : ℕ) (span : Span) (r : Reach) → reach_children on span first branches ≡ Some r → Once r → 1 ≤ times parent r.objects
          → Grown (reach_children into span first branches) r
      grown_children on into keeps grows [] first span r is once there = grows first span r is once there
      grown_children on into keeps grows (b ∷ branches) first span r is once there =
          let low : Span = record { from = span.from; to = Some b.0 } in
          let high : Span = record { from = b.0; to = span.to } in
          let two = both_are (on first low) (reach_children on high b.1 branches) r is in
          let counts : (y : ℕ) → times y two.left.objects + times y two.right.objects ≡ times y r.objects =
          λ y. let a = ap (λ (r : Reach). times y r.objects) two.all in omega (arith, a, times_append y two.left.objects two.right.objects) in
          elim (none_or_some (times parent two.left.objects)) [
            | inl none ↦
                let g = grown_children on into keeps grows branches b.1 high two.right two.right_is (λ y. omega (arith, counts y, once y)) (omega (arith, counts parent, none, there)) in
                let left = keeps first low two.left two.left_is (none, omega (arith, counts child, g.there, once child)) in
                record {
                  after = joined two.left g.after;
                  is = both_made (into first low) (reach_children into high b.1 branches) two.left g.after left g.is;
                  pairs = ap (λ (l : List Pair). two.left.pairs ++ l) g.pairs ∙ ap (λ (r : Reach). r.pairs) two.all;
                  objects = λ y. omega (arith, times_append y two.left.objects g.after.objects, g.objects y, counts y);
                  there = omega (arith, counts child, g.there);
                }
            | inr some ↦
                let g = grows first low two.left two.left_is (λ y. omega (arith, counts y, once y)) some in
                let right = keeps_children parent child on into keeps branches b.1 high two.right two.right_is
                (omega (arith, counts parent, some, once parent), omega (arith, counts child, g.there, once child)) in
                record {
                  after = joined g.after two.right;
                  is = both_made (into first low) (reach_children into high b.1 branches) g.after two.right g.is right;
                  pairs = ap (λ (l : List Pair). l ++ two.right.pairs) g.pairs ∙ ap (λ (r : Reach). r.pairs) two.all;
                  objects = λ y. omega (arith, times_append y g.after.objects two.right.objects, g.objects y, counts y);
                  there = omega (arith, counts child, g.there);
                }
          ]

      pub grown_from : (n : ℕ) → Grows (λ x span. reach_from lo hi s n span x) (λ x span. reach_from lo hi t n span x)
      grown_from zero x span r is once there = absurd (none_some r is)
      grown_from (suc n) x span r is once there =
          let on : ℕ → Span → Option Reach = λ y part. reach_from lo hi s n part y in
          let into : ℕ → Span → Option Reach = λ y part. reach_from lo hi t n part y in
          elim (eqb_tells x parent) [
            | inl here ↦
                subst (λ (x : ℕ). Grown (reach_from lo hi t (suc n) span x) r) (sym here.1)
                (at_parent n span r (ap (λ (x : ℕ). reach_from lo hi s (suc n) span x) (sym here.1) ∙ is) once)
            | inr other ↦
                let not_here : one_if (x == parent) ≡ 0 = ap one_if other.0 in
                elim (at_node on span x (node_at lo hi s x) r is) [
                  | inl at ↦ absurd (let o = ap (λ (r : Reach). times parent r.objects) at.all in omega (arith, o, not_here, there))
                  | inr at ↦
                      let counts : (y : ℕ) → one_if (x == y) + times y at.below.objects ≡ times y r.objects = λ y. ap (λ (r : Reach). times y r.objects) at.all in
                      let g = grown_children on into (keeps_from lo hi s t parent child same n) (grown_from n) at.branches at.first span at.below at.children
                      (λ y. omega (arith, counts y, once y)) (omega (arith, counts parent, not_here, there)) in
                      let not_child : x ≢ child = λ is_child. let one : one_if (x == child) ≡ 1 = subst (λ (z : ℕ). one_if (x == z) ≡ 1) is_child (itself x) in omega (arith, counts child, once child, g.there, one) in
                      record {
                        after = headed x g.after;
                        is = inner_made into span x (node_at lo hi t x) at.first at.branches g.after (same x (inner at.first at.branches) other.1 not_child at.node_is) at.within g.is;
                        pairs = g.pairs ∙ ap (λ (r : Reach). r.pairs) at.all;
                        objects = λ y. omega (arith, g.objects y, counts y);
                        there = omega (arith, counts child, g.there);
                      }
                ]
          ]
