-- The separator of a split child stands strictly in its place in the parent, so the parent's keys still rise.
use Rattle.std.proofs.Common.{◌≡◌, ◌≢◌, ◌≤◌, ◌⊎◌, inl, inr, ℕ, zero, suc, ◌+◌, ◌==◌, Bool, true, false, ◌&&◌, T, Option, Some, List, [], ◌∷◌, ◌++◌, is_lt, refl, sym, ap, ◌∙◌, subst, arith, true≢false}
use Rattle.std.specs.Prelude.{IsTrue}
use Rattle.std.proofs.lemmas.Bool.Decides.{eqb_tells}
use Rattle.std.specs.FinMap.Entries.{is_sorted, below_all}
use Rattle.oper_core.specs.State.{State}
use Rattle.key_entries.specs.Entries.{byte_order}
use Rattle.btree_ops.specs.Laws.{IsBehindBranch}
use Rattle.logical_btree.specs.Walk.{Span, is_below, node_at}
use Rattle.logical_btree.specs.Tree.{Reach, reach_children, reach_from, times, one_if}
use Rattle.logical_btree.proofs.ReachLemmas.{none_some, both_are, times_append, at_node, middle}
use Rattle.logical_btree.proofs.SpanLemmas.{Below, split_and, below_trans}

holds : (b : Bool) → b ≡ true → T b
holds true e = tt
holds false e = absurd (true≢false (sym e))

both_hold : (a b : Bool) → T a → T b → T (a && b)
both_hold true b x y = y
both_hold false b x y = absurd x

none_or_some : (n : ℕ) → (n ≡ 0) ⊎ (1 ≤ n)
none_or_some zero = inl refl
none_or_some (suc n) = inr (omega arith)

-- what is reached from an object on the way
pub record ReachedAt (lo hi : ℕ) (s : State) (p : ℕ) : Type 0 where
  pub count : ℕ
  pub span : Span
  pub reached : Reach
  pub is : reach_from lo hi s (suc count) span p ≡ Some reached

module _ (lo hi : ℕ) (s : State) (p : ℕ) where
  abbrev Leads : (ℕ → Span → Option Reach) → Type 0
  Leads on = (x : ℕ) (span : Span) (r : Reach) → on x span ≡ Some r → 1 ≤ times p r.objects → ReachedAt lo hi s p

  leads_children : (on : ℕ → Span → Option Reach) → Leads on → (branches : List (List ℕ × ℕ)) (first : ℕ) (span : Span) (r : Reach)
      → reach_children on span first branches ≡ Some r → 1 ≤ times p r.objects → ReachedAt lo hi s p
  leads_children on ih [] first span r is there = ih first span r is there
  leads_children on ih (b ∷ branches) first span r is there =
      let low : Span = record { from = span.from; to = Some b.0 } in
      let high : Span = record { from = b.0; to = span.to } in
      let two = both_are (on first low) (reach_children on high b.1 branches) r is in
      let counts : times p two.left.objects + times p two.right.objects ≡ times p r.objects =
      let a = ap (λ (r : Reach). times p r.objects) two.all in omega (arith, a, times_append p two.left.objects two.right.objects) in
      elim (none_or_some (times p two.left.objects)) [
        | inl none ↦ leads_children on ih branches b.1 high two.right two.right_is (omega (arith, counts, none, there))
        | inr some ↦ ih first low two.left two.left_is some
      ]

  pub leads_from : (n : ℕ) → Leads (λ x span. reach_from lo hi s n span x)
  leads_from zero x span r is there = absurd (none_some r is)
  leads_from (suc n) x span r is there =
      let on : ℕ → Span → Option Reach = λ y part. reach_from lo hi s n part y in
      elim (eqb_tells x p) [
        | inl here ↦ record { count = n; span = span; reached = r; is = ap (λ (z : ℕ). reach_from lo hi s (suc n) span z) (sym here.1) ∙ is }
        | inr other ↦
            let not_here : one_if (x == p) ≡ 0 = ap one_if other.0 in
            elim (at_node on span x (node_at lo hi s x) r is) [
              | inl at ↦ absurd (let o = ap (λ (r : Reach). times p r.objects) at.all in omega (arith, o, not_here, there))
              | inr at ↦ leads_children on (leads_from n) at.branches at.first span at.below at.children
                  (let o = ap (λ (r : Reach). times p r.objects) at.all in omega (arith, o, not_here, there))
            ]
      ]

-- where the child is reached in a span, the separator is strictly inside
abbrev pub Placed : (ℕ → Span → Option Reach) → ℕ → List ℕ → Type 0
Placed on child separator = (span : Span) (r : Reach) → on child span ≡ Some r → Below span.from separator × IsTrue (is_below separator span.to)

below_less : (x y : List ℕ) (es : List (List ℕ × ℕ)) → Below x y → T (below_all byte_order y es) → T (below_all byte_order x es)
below_less x y [] less all = tt
below_less x y (e ∷ es) less all =
    let parts = split_and (is_lt (byte_order y e.0)) (below_all byte_order y es) all in
    both_hold (is_lt (byte_order x e.0)) (below_all byte_order x es) (holds (is_lt (byte_order x e.0)) (below_trans x y e.0 less parts.0)) (below_less x y es less parts.1)

behind_place : (on : ℕ → Span → Option Reach) (child : ℕ) (separator : List ℕ) → Placed on child separator → (branches : List (List ℕ × ℕ)) (span : Span) (r : Reach)
    → reach_children on span child branches ≡ Some r → T (is_sorted byte_order branches) → Below span.from separator × T (below_all byte_order separator branches)
behind_place on child separator placed [] span r is rise = ((placed span r is).0, tt)
behind_place on child separator placed (b ∷ branches) span r is rise =
    let low : Span = record { from = span.from; to = Some b.0 } in
    let two = both_are (on child low) (reach_children on (record { from = b.0; to = span.to }) b.1 branches) r is in
    let here = placed low two.left two.left_is in
    let parts = split_and (below_all byte_order b.0 branches) (is_sorted byte_order branches) rise in (
      here.0,
      both_hold (is_lt (byte_order separator b.0)) (below_all byte_order separator branches) (holds (is_lt (byte_order separator b.0)) here.1)
          (below_less separator b.0 branches here.1 (holds (below_all byte_order b.0 branches) parts.0)),
    )

sorted_tail : (before rest : List (List ℕ × ℕ)) → T (is_sorted byte_order (before ++ rest)) → T (is_sorted byte_order rest)
sorted_tail [] rest rise = rise
sorted_tail (e ∷ before) rest rise = sorted_tail before rest (split_and (below_all byte_order e.0 (before ++ rest)) (is_sorted byte_order (before ++ rest)) rise).1

below_put : (x key : List ℕ) (child : ℕ) (new : List ℕ × ℕ) (before behind : List (List ℕ × ℕ)) → Below key new.0 → T (below_all byte_order x (before ++ (key, child) ∷ behind))
    → T (below_all byte_order x (before ++ (key, child) ∷ new ∷ behind))
below_put x key child new [] behind less all =
    let parts = split_and (is_lt (byte_order x key)) (below_all byte_order x behind) all in
    both_hold (is_lt (byte_order x key)) (is_lt (byte_order x new.0) && below_all byte_order x behind) (holds (is_lt (byte_order x key)) parts.0)
    (both_hold (is_lt (byte_order x new.0)) (below_all byte_order x behind) (holds (is_lt (byte_order x new.0)) (below_trans x key new.0 parts.0 less)) parts.1)
below_put x key child new (e ∷ before) behind less all =
    let parts = split_and (is_lt (byte_order x e.0)) (below_all byte_order x (before ++ (key, child) ∷ behind)) all in
    both_hold (is_lt (byte_order x e.0)) (below_all byte_order x (before ++ (key, child) ∷ new ∷ behind)) (holds (is_lt (byte_order x e.0)) parts.0) (below_put x key child new before behind less parts.1)

sorted_put : (key : List ℕ) (child : ℕ) (new : List ℕ × ℕ) (before behind : List (List ℕ × ℕ)) → Below key new.0 → T (below_all byte_order new.0 behind)
    → T (is_sorted byte_order (before ++ (key, child) ∷ behind)) → T (is_sorted byte_order (before ++ (key, child) ∷ new ∷ behind))
sorted_put key child new [] behind less above rise =
    let parts = split_and (below_all byte_order key behind) (is_sorted byte_order behind) rise in
    both_hold (is_lt (byte_order key new.0) && below_all byte_order key behind) (below_all byte_order new.0 behind && is_sorted byte_order behind)
    (both_hold (is_lt (byte_order key new.0)) (below_all byte_order key behind) (holds (is_lt (byte_order key new.0)) less) (holds (below_all byte_order key behind) parts.0))
    (both_hold (below_all byte_order new.0 behind) (is_sorted byte_order behind) above parts.1)
sorted_put key child new (e ∷ before) behind less above rise =
    let parts = split_and (below_all byte_order e.0 (before ++ (key, child) ∷ behind)) (is_sorted byte_order (before ++ (key, child) ∷ behind)) rise in
    both_hold (below_all byte_order e.0 (before ++ (key, child) ∷ new ∷ behind)) (is_sorted byte_order (before ++ (key, child) ∷ new ∷ behind))
    (below_put e.0 key child new before behind less (holds (below_all byte_order e.0 (before ++ (key, child) ∷ behind)) parts.0)) (sorted_put key child new before behind less above parts.1)

-- the parent's separators still rise
pub more_rise : (on : ℕ → Span → Option Reach) (child new : ℕ) (separator : List ℕ) → Placed on child separator → (span : Span) (first : ℕ) (branches more : List (List ℕ × ℕ)) (r : Reach)
    → reach_children on span first branches ≡ Some r → T (is_sorted byte_order branches)
    → ((first ≡ child) × (more ≡ (separator, new) ∷ branches)) ⊎ ((first ≢ child) × IsBehindBranch child (separator, new) branches more)
    → T (is_sorted byte_order more)
more_rise on child new separator placed span first branches more r is rise (inl here) =
    let at = behind_place on child separator placed branches span r (ap (λ (f : ℕ). reach_children on span f branches) (sym here.0) ∙ is) rise in
    subst (λ (m : List (List ℕ × ℕ)). T (is_sorted byte_order m)) (sym here.1) (both_hold (below_all byte_order separator branches) (is_sorted byte_order branches) at.1 rise)
more_rise on child new separator placed span first branches more r is rise (inr (other, st)) =
    let risen : T (is_sorted byte_order (st.before ++ (st.key, child) ∷ st.behind)) = subst (λ (m : List (List ℕ × ℕ)). T (is_sorted byte_order m)) st.old rise in
    let tail = split_and (below_all byte_order st.key st.behind) (is_sorted byte_order st.behind) (sorted_tail st.before ((st.key, child) ∷ st.behind) risen) in
    let low : Span = record { from = span.from; to = Some st.key } in
    let high : Span = record { from = st.key; to = span.to } in
    let two = both_are (reach_children on low first st.before) (reach_children on high child st.behind) r
    (sym (middle on span first st.before st.key child st.behind) ∙ ap (λ (m : List (List ℕ × ℕ)). reach_children on span first m) (sym st.old) ∙ is) in
    let at = behind_place on child separator placed st.behind high two.right two.right_is tail.1 in
    subst (λ (m : List (List ℕ × ℕ)). T (is_sorted byte_order m)) (sym st.more) (sorted_put st.key child (separator, new) st.before st.behind at.0 at.1 risen)
