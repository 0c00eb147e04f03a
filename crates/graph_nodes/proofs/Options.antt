-- Numbers that may be there.
use Rattle.std.proofs.Common.{rules, ◌≡◌, sym, subst, ℕ, false, refl}
use Rattle.std.specs.Prelude.{Option, None, Some, IsSome}
use Rattle.std.proofs.lemmas.Bool.{both_ways}

some-is : (j : ℕ) → IsSome (Some j)
some-is j = search rules

pub none-some : (j : ℕ) → None ≡ Some j → ⊥
none-some j e = cc

-- what is there, and that it is there
pub some-of : (a : Option ℕ) → IsSome a → (j : ℕ) × (a ≡ Some j)
some-of None some = absurd (both_ways false refl some)
some-of (Some j) some = (j, refl)

pub of-some : (a : Option ℕ) (j : ℕ) → a ≡ Some j → IsSome a
of-some a j e = subst (λ (b : Option ℕ). IsSome b) (sym e) (some-is j)
