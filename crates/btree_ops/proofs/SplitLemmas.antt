-- The halves of a leaf, and the place of a child.
use Rattle.std.proofs.Common.{◌≡◌, ◌≢◌, ◌<◌, ◌≤◌, ℕ, zero, suc, ◌-◌, ◌==◌, Bool, true, false, if◌then◌else◌, Option, None, Some, List, [], ◌∷◌, length, take, drop, insert, get_or, refl, ap, ◌∙◌, arith, inl, inr, option_map}
use Rattle.std.proofs.lemmas.Bool.Decides.{eqb_tells}
use Rattle.arrayvec.specs.ArrayVec.{ArrayVec}
use Rattle.btree_ops.specs.Node.{leaf}
use Rattle.btree_ops.specs.Effects.{leaf_halves, behind_branch, behind_child}
use Rattle.btree_ops.specs.declared.node.Node.TheVariants.{Leaf}

-- three pairs and the four others are the halves of a leaf, cut before the fourth
pub leaf_parts : (pairs : List (List ℕ × List ℕ)) (low high : ArrayVec (List ℕ × List ℕ)) (d : List ℕ × List ℕ) → 7 ≤ length pairs → length pairs ≤ 7
    → low.items ≡ take 3 pairs → high.items ≡ take (length pairs - 3) (drop 3 pairs)
    → Some (record { left = Leaf low; separator = (get_or pairs 3 d).0; right = Leaf high }) ≡ leaf_halves pairs
leaf_parts (a ∷ b ∷ c ∷ e ∷ f ∷ g ∷ h ∷ []) low high d least most lower upper =
    λ i. Some (record { left = leaf (lower i); separator = e.0; right = leaf (upper i) })
leaf_parts others low high d least most lower upper = absurd (omega (arith, least, most))

-- what a test of a child says
is_child : (x child : ℕ) → x ≡ child → (x == child) ≡ true
is_child x child same = elim (eqb_tells x child) [ inl e ↦ e.0 | inr e ↦ absurd (e.1 same) ]

is_other : (x child : ℕ) → x ≢ child → (x == child) ≡ false
is_other x child apart = elim (eqb_tells x child) [ inl e ↦ absurd (apart e.1) | inr e ↦ e.0 ]

behind_found : (child : ℕ) (branches : List (List ℕ × ℕ)) (i : ℕ) (d : List ℕ × ℕ) → ((k : ℕ) (d : List ℕ × ℕ) → k < i → (get_or branches k d).1 ≢ child) → i < length branches
    → (get_or branches i d).1 ≡ child → (new : List ℕ × ℕ) → behind_branch child new branches ≡ Some (insert branches (suc i) new)
behind_found child [] i d others within is new = absurd (omega arith)
behind_found child (b ∷ branches) zero d others within is new =
    ap (λ (t : Bool). if t then Some (b ∷ new ∷ branches) else option_map (λ (bs : List (List ℕ × ℕ)). b ∷ bs) (behind_branch child new branches)) (is_child b.1 child is)
behind_found child (b ∷ branches) (suc i) d others within is new =
    ap (λ (t : Bool). if t then Some (b ∷ new ∷ branches) else option_map (λ (bs : List (List ℕ × ℕ)). b ∷ bs) (behind_branch child new branches)) (is_other b.1 child (others 0 d (omega arith)))
    ∙ ap (λ (o : Option (List (List ℕ × ℕ))). option_map (λ (bs : List (List ℕ × ℕ)). b ∷ bs) o)
    (behind_found child branches i d (λ k d low. others (suc k) d (omega (arith, low))) (omega (arith, within)) is new)

behind_none : (child : ℕ) (branches : List (List ℕ × ℕ)) → ((k : ℕ) (d : List ℕ × ℕ) → k < length branches → (get_or branches k d).1 ≢ child)
    → (new : List ℕ × ℕ) → behind_branch child new branches ≡ None
behind_none child [] others new = refl
behind_none child (b ∷ branches) others new =
    ap (λ (t : Bool). if t then Some (b ∷ new ∷ branches) else option_map (λ (bs : List (List ℕ × ℕ)). b ∷ bs) (behind_branch child new branches)) (is_other b.1 child (others 0 b (omega arith)))
    ∙ ap (λ (o : Option (List (List ℕ × ℕ))). option_map (λ (bs : List (List ℕ × ℕ)). b ∷ bs) o)
    (behind_none child branches (λ k d low. others (suc k) d (omega (arith, low))) new)

module _ (child first : ℕ) (branches : List (List ℕ × ℕ)) where
  pub behind_later : first ≢ child → (i : ℕ) (d : List ℕ × ℕ) → ((k : ℕ) (d : List ℕ × ℕ) → k < i → (get_or branches k d).1 ≢ child) → i < length branches
      → (get_or branches i d).1 ≡ child → (new : List ℕ × ℕ) → behind_child child new first branches ≡ Some (insert branches (suc i) new)
  behind_later apart i d others within is new =
      ap (λ (t : Bool). if t then Some (new ∷ branches) else behind_branch child new branches) (is_other first child apart)
      ∙ behind_found child branches i d others within is new

  pub behind_no_child : first ≢ child → ((k : ℕ) (d : List ℕ × ℕ) → k < length branches → (get_or branches k d).1 ≢ child)
      → (new : List ℕ × ℕ) → behind_child child new first branches ≡ None
  behind_no_child apart others new =
      ap (λ (t : Bool). if t then Some (new ∷ branches) else behind_branch child new branches) (is_other first child apart)
      ∙ behind_none child branches others new
