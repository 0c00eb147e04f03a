-- The values of objects that are written at once.
use Rattle.std.proofs.Common.{◌≡◌, ◌≢◌, ℕ, ◌==◌, Bool, true, false, not, ◌&&◌, ◌||◌, inl, inr, if◌then◌else◌, List, [], ◌∷◌, refl, ap, ◌∙◌}
use Rattle.std.specs.Prelude.{IsTrue}
use Rattle.std.proofs.lemmas.Bool.Decides.{eqb_tells}
use Rattle.oper_core.specs.State.{State, with_values}
use Rattle.key_entries.specs.Objects.{are_apart}

pub same_test : (x : ℕ) → (x == x) ≡ true
same_test x = elim (eqb_tells x x) [ inl same ↦ same.0 | inr other ↦ absurd (other.1 refl) ]

pub other_test : (x y : ℕ) → x ≢ y → (x == y) ≡ false
other_test x y apart = elim (eqb_tells x y) [ inl same ↦ absurd (apart same.1) | inr other ↦ other.0 ]

abbrev pick : Bool → Bool → Bool → List ℕ → List ℕ → List ℕ → List ℕ → List ℕ
pick p q r u v w z = if p || (q || (r || false)) then (if p then u else (if q then v else (if r then w else []))) else z

abbrev pick_two : Bool → Bool → List ℕ → List ℕ → List ℕ → List ℕ
pick_two p q u v z = if p || (q || false) then (if p then u else (if q then v else [])) else z

abbrev pick_one : Bool → List ℕ → List ℕ → List ℕ
pick_one p u z = if p || false then (if p then u else []) else z

pub record HasThree (s t : State) (a b c : ℕ) (u v w : List ℕ) : Type 0 where
  pub first : t a ≡ u
  pub second : t b ≡ v
  pub third : t c ≡ w
  pub others : (y : ℕ) → y ≢ a → y ≢ b → y ≢ c → t y ≡ s y

pub has_three : (s : State) (a b c : ℕ) (u v w : List ℕ) → b ≢ a → c ≢ a → c ≢ b → HasThree s (with_values s (a ∷ b ∷ c ∷ []) (u ∷ v ∷ w ∷ [])) a b c u v w
has_three s a b c u v w ba ca cb = record {
  first = ap (λ (p : Bool). pick p (a == b) (a == c) u v w (s a)) (same_test a);
  second = ap (λ (p : Bool). pick p (b == b) (b == c) u v w (s b)) (other_test b a ba) ∙ ap (λ (q : Bool). pick false q (b == c) u v w (s b)) (same_test b);
  third = ap (λ (p : Bool). pick p (c == b) (c == c) u v w (s c)) (other_test c a ca) ∙ ap (λ (q : Bool). pick false q (c == c) u v w (s c)) (other_test c b cb)
      ∙ ap (λ (r : Bool). pick false false r u v w (s c)) (same_test c);
  others = λ y ya yb yc.
      ap (λ (p : Bool). pick p (y == b) (y == c) u v w (s y)) (other_test y a ya) ∙ ap (λ (q : Bool). pick false q (y == c) u v w (s y)) (other_test y b yb)
      ∙ ap (λ (r : Bool). pick false false r u v w (s y)) (other_test y c yc);
}

pub three_apart : (a b c : ℕ) → a ≢ b → a ≢ c → b ≢ c → IsTrue (are_apart (a ∷ b ∷ c ∷ []))
three_apart a b c ab ac bc =
    ap (λ (p : Bool). not (p || ((a == c) || false)) && (not ((b == c) || false) && true)) (other_test a b ab)
    ∙ ap (λ (q : Bool). not (q || false) && (not ((b == c) || false) && true)) (other_test a c ac)
    ∙ ap (λ (r : Bool). not (r || false) && true) (other_test b c bc)

pub record HasTwo (s t : State) (a b : ℕ) (u v : List ℕ) : Type 0 where
  pub first : t a ≡ u
  pub second : t b ≡ v
  pub others : (y : ℕ) → y ≢ a → y ≢ b → t y ≡ s y

pub has_two : (s : State) (a b : ℕ) (u v : List ℕ) → b ≢ a → HasTwo s (with_values s (a ∷ b ∷ []) (u ∷ v ∷ [])) a b u v
has_two s a b u v ba = record {
  first = ap (λ (p : Bool). pick_two p (a == b) u v (s a)) (same_test a);
  second = ap (λ (p : Bool). pick_two p (b == b) u v (s b)) (other_test b a ba) ∙ ap (λ (q : Bool). pick_two false q u v (s b)) (same_test b);
  others = λ y ya yb. ap (λ (p : Bool). pick_two p (y == b) u v (s y)) (other_test y a ya) ∙ ap (λ (q : Bool). pick_two false q u v (s y)) (other_test y b yb);
}

pub one_at : (s : State) (a : ℕ) (u : List ℕ) → with_values s (a ∷ []) (u ∷ []) a ≡ u
one_at s a u = ap (λ (p : Bool). pick_one p u (s a)) (same_test a)

pub one_beside : (s : State) (a : ℕ) (u : List ℕ) (y : ℕ) → y ≢ a → with_values s (a ∷ []) (u ∷ []) y ≡ s y
one_beside s a u y apart = ap (λ (p : Bool). pick_one p u (s y)) (other_test y a apart)
