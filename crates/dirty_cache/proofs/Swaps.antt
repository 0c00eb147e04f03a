-- Entries of which one gets another value.
use Rattle.std.proofs.Common.{◌≡◌, ◌∙◌, ℕ, false, List, Option, None, Some, is_some, nat_eq, cond, refl, ap, arith}
use Rattle.std.proofs.lemmas.Map.{lookup-set_value}
use Rattle.std.specs.Cmp.{nat_eq_equiv}
use Rattle.std.specs.Map.{lookup, set_value}
use Rattle.std.specs.Option.{option_len, option_map}
use Rattle.dirty_cache.proofs.Counts.{count-replaced}
use Rattle.dirty_cache.specs.Places.{count_of, with_bytes}
use Rattle.dirty_cache.specs.declared.entry.Entry.{Entry}

module _ {X : Type 0} (x : ℕ) (v w : X) (es : List (ℕ × X)) (found : lookup (nat_eq x) es ≡ Some v) where
  looked : (y : ℕ) → lookup (nat_eq y) (set_value (nat_eq x) es w) ≡ cond (nat_eq x y) (Some w) (lookup (nat_eq y) es)
  looked y = lookup-set_value nat_eq_equiv (nat_eq x) (λ p q t. nat_eq_equiv.congr x p q t) y w es (ap is_some found)

  -- what is set is found
  pub lookup-set_same : lookup (nat_eq x) (set_value (nat_eq x) es w) ≡ Some w
  lookup-set_same = looked x ∙ ap (λ b. cond b (Some w) (lookup (nat_eq x) es)) (nat_eq_equiv.refl x)

  -- and what is set of another changes nothing
  pub lookup-set_other : (y : ℕ) → nat_eq x y ≡ false → lookup (nat_eq y) (set_value (nat_eq x) es w) ≡ lookup (nat_eq y) es
  lookup-set_other y apart = looked y ∙ ap (λ b. cond b (Some w) (lookup (nat_eq y) es)) apart

len_map : (bytes : List ℕ) (o : Option Entry) → option_len (option_map (with_bytes bytes) o) ≡ option_len o
len_map bytes None = refl
len_map bytes (Some e) = refl

-- as many places hold an entry
pub count-swapped : (x : ℕ) (places new : List (ℕ × Option Entry)) (v w : Option Entry) (bytes : List ℕ) → lookup (nat_eq x) places ≡ Some v → new ≡ set_value (nat_eq x) places w → w ≡ option_map (with_bytes bytes) v
    → count_of new ≡ count_of places
count-swapped x places new v w bytes found set is = omega (arith, count-replaced x places new v w found set, ap option_len is, len_map bytes v)
