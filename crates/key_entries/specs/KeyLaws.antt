-- Keys in the order of their bytes, and tests on them.
use Rattle.std.proofs.Common.{◌≡◌, ℕ, Bool, true, false, ◌&&◌, T, List, [], ◌∷◌, Ordering, Less, Equal, Greater, is_lt, refl, sym, ap, ◌∙◌, subst}
use Rattle.std.specs.Cmp.Lexicographic.{nat_list_cmp_total}
use Rattle.std.specs.FinMap.Entries.{is_sorted, below_all}
use Rattle.std.specs.FinMap.{slice_cmp-IsAntisymmetric, nat_cmp-IsAntisymmetric}
use Rattle.key_entries.specs.Entries.{byte_order}

-- equal in the order of bytes is equal
pub same_key : (x y : List ℕ) → byte_order x y ≡ Equal → x ≡ y
same_key = slice_cmp-IsAntisymmetric nat_cmp-IsAntisymmetric

-- both parts of a test
pub both : (a b : Bool) → T a → T b → T (a && b)
both true b p q = q
both false b p q = p

pub first : (a b : Bool) → T (a && b) → T a
first true b p = tt
first false b p = p

pub second : (a b : Bool) → T (a && b) → T b
second true b p = p
second false b p = absurd p

pub less_if : (o : Ordering) → T (is_lt o) → o ≡ Less
less_if Less p = refl
less_if Equal p = absurd p
less_if Greater p = absurd p

pub if_less : (o : Ordering) → o ≡ Less → T (is_lt o)
if_less o e = subst (λ (o : Ordering). T (is_lt o)) (sym e) tt

module _ {X : Type 0} where
  -- a key below one that is below all
  pub below_less : (x y : List ℕ) (es : List (List ℕ × X)) → byte_order x y ≡ Less → T (below_all byte_order y es) → T (below_all byte_order x es)
  below_less x y [] less below = tt
  below_less x y (e ∷ es) less below =
      both (is_lt (byte_order x e.0)) (below_all byte_order x es)
      (if_less (byte_order x e.0) (nat_list_cmp_total.trans x y e.0 less (less_if (byte_order y e.0) (first (is_lt (byte_order y e.0)) (below_all byte_order y es) below))))
      (below_less x y es less (second (is_lt (byte_order y e.0)) (below_all byte_order y es) below))

  -- of rising keys the first need be above another for all to be
  pub rise_behind : (x : List ℕ) (e : List ℕ × X) (es : List (List ℕ × X)) → byte_order x e.0 ≡ Less
      → (below_all byte_order x (e ∷ es) && is_sorted byte_order (e ∷ es)) ≡ (below_all byte_order e.0 es && is_sorted byte_order es)
  rise_behind x e es less =
      let at : below_all byte_order x (e ∷ es) ≡ below_all byte_order x es = ap (λ (o : Ordering). is_lt o && below_all byte_order x es) less in
      ap (λ (b : Bool). b && is_sorted byte_order (e ∷ es)) at
      ∙ elim (below_all byte_order e.0 es) as (λ b. (T b → T (below_all byte_order x es)) → (below_all byte_order x es && (b && is_sorted byte_order es)) ≡ (b && is_sorted byte_order es)) [
        | true ↦ λ all. elim (below_all byte_order x es) as (λ c. T c → (c && is_sorted byte_order es) ≡ is_sorted byte_order es) [ true ↦ λ _. refl | false ↦ λ c. absurd c ] (all tt)
        | false ↦ λ all. elim (below_all byte_order x es) as (λ c. (c && false) ≡ false) [ true ↦ refl | false ↦ refl ]
      ] (below_less x e.0 es less)
