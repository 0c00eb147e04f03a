-- How many places hold an entry, once one is put.
use Rattle.std.proofs.Common.{◌≡◌, ℕ, ◌+◌, ◌≤◌, true, false, List, [], ◌∷◌, Option, None, Some, is_some, length, nat_eq, cond, refl, sym, ap, ◌∙◌, arith}
use Rattle.std.proofs.lemmas.Map.Entries.{sum_by-set_value}
use Rattle.std.proofs.lemmas.List.Sums.{sum_by-cons}
use Rattle.std.specs.Int.{from_bool}
use Rattle.std.specs.Map.{keys_of, lookup, set_value, values_of}
use Rattle.std.proofs.lemmas.Map.Entries.{lookup-filter-values, option_filter}
use Rattle.std.proofs.lemmas.Map.Made.{IsDistinct-keys_filter, is_some-lookup}
use Rattle.std.specs.Cmp.{nat_eq_equiv}
use Rattle.std.specs.List.{IsDistinct, filter}
use Rattle.std.specs.Option.{option_flatten, option_len}
use Rattle.indexmap.specs.IndexMap.{insert_entry}
use Rattle.dirty_cache.specs.Contents.{Contents, AreDirty, dirty_count}
use Rattle.dirty_cache.specs.declared.entry.Entry.{Entry}
use Rattle.dirty_cache.specs.Places.{count_of}

count-cons : (p : ℕ × Option Entry) (ps : List (ℕ × Option Entry)) → count_of (p ∷ ps) ≡ option_len p.1 + count_of ps
count-cons p ps = sum_by-cons option_len p.1 (values_of ps)

-- a new place without an entry counts for nothing
pub count-made : (x : ℕ) (places : List (ℕ × Option Entry)) → is_some (lookup (nat_eq x) places) ≡ false → count_of (insert_entry nat_eq places x None) ≡ count_of places
count-made x [] h = refl
count-made x (p ∷ ps) h = (elim (nat_eq x p.0) as (λ b. nat_eq x p.0 ≡ b → count_of (cond b ((p.0, None) ∷ ps) (p ∷ insert_entry nat_eq ps x None)) ≡ count_of (p ∷ ps)) [
  | true ↦ λ t. let h' = rw t at h in cc
  | false ↦ λ t. count-cons p (insert_entry nat_eq ps x None) ∙ ap (λ n. option_len p.1 + n) (count-made x ps (rw t at h)) ∙ sym (count-cons p ps)
]) refl

-- w in the place of v
pub count-replaced : (x : ℕ) (places new : List (ℕ × Option Entry)) (v w : Option Entry) → lookup (nat_eq x) places ≡ Some v → new ≡ set_value (nat_eq x) places w → count_of new + option_len v ≡ count_of places + option_len w
count-replaced x places new v w h e = ap (λ ps. count_of ps + option_len v) e ∙ sum_by-set_value option_len (nat_eq x) places v w h

pub from_bool-is_some : (o : Option Entry) → from_bool (is_some o) ≡ option_len o
from_bool-is_some None = refl
from_bool-is_some (Some e) = refl

pub option_len-le : (o : Option Entry) → option_len o ≤ 1
option_len-le None = omega arith
option_len-le (Some e) = omega arith

pub count-le-length : (places : List (ℕ × Option Entry)) → count_of places ≤ length places
count-le-length [] = omega arith
count-le-length (p ∷ ps) = omega (arith, count-cons p ps, option_len-le p.1, count-le-length ps)

abbrev dirty_objects : List (ℕ × Option Entry) → List ℕ
dirty_objects places = keys_of (filter (λ p. is_some p.1) places)

length-dirty_objects : (places : List (ℕ × Option Entry)) → length (dirty_objects places) ≡ count_of places
length-dirty_objects [] = refl
length-dirty_objects (p ∷ ps) = (elim p.1 as (λ o. length (keys_of (cond (is_some o) (p ∷ filter (λ q. is_some q.1) ps) (filter (λ q. is_some q.1) ps))) ≡ option_len o + count_of ps) [
  | None ↦ omega (arith, length-dirty_objects ps)
  | Some e ↦ omega (arith, length-dirty_objects ps)
]) ∙ sym (count-cons p ps)

is_some-flat : (o : Option (Option Entry)) → is_some (option_filter is_some o) ≡ is_some (option_flatten o)
is_some-flat None = refl
is_some-flat (Some None) = refl
is_some-flat (Some (Some e)) = refl

-- the places with an entry are the dirty objects, each once
pub are_dirty : (c : Contents) → IsDistinct nat_eq (keys_of c.places) → (objects : List ℕ) × AreDirty c objects × (length objects ≡ dirty_count c)
are_dirty c apart = (
  dirty_objects c.places,
  record {
    apart = IsDistinct-keys_filter nat_eq (λ p. is_some p.1) c.places apart;
    exactly = λ x. sym (is_some-lookup (nat_eq x) (filter (λ p. is_some p.1) c.places)) ∙ ap is_some (lookup-filter-values nat_eq_equiv is_some x c.places apart) ∙ is_some-flat (lookup (nat_eq x) c.places);
  },
  length-dirty_objects c.places,
)
