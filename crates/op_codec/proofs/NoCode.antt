-- Bytes that begin with no code of the family of their tag begin with no code of two families.
use Rattle.std.proofs.Common.{◌≡◌, ℕ, Bool, true, false, Option, Some, unwrap_or, List, [], ◌∷◌, sym, ap, ◌∙◌, true≢false}
use Rattle.std.specs.Prelude.{slice_get}
use Rattle.oper_core.specs.Meaning.{Meaning, StartsWithCode}
use Rattle.oper_core.specs.Family.{IsTagged, begins_with}
use Rattle.op_codec.specs.Sum.{sum_meaning}
use Rattle.op_codec.specs.SumLaws.{begins_first, begins_second, none_of_both, tag_in}
use Rattle.oper_core.specs.declared.bounds.Bounds.{Bounds}
use Rattle.op_codec.specs.declared.sum.Sum.TheVariants.{First, Second}

-- they begin with no code of this meaning
abbrev pub BeginsWithNone : {O : Type 0} → Meaning O → List ℕ → Type 0
BeginsWithNone {O} m bytes = (op : O) → StartsWithCode m bytes op → ⊥

-- whether the first byte is a tag of the family
pub first_byte : (has_tag : ℕ → Bool) (bytes : List ℕ) (tag : ℕ) → Some tag ≡ slice_get bytes 0 → begins_with has_tag bytes ≡ has_tag tag
first_byte has_tag [] tag e = cc
first_byte has_tag (byte ∷ bytes) tag e = sym (ap (λ (o : Option ℕ). has_tag (unwrap_or o byte)) e)

module _ {A B : Type 0} (first : Bounds → Meaning A) (second : Bounds → Meaning B) (tag tag' : ℕ → Bool) (b : Bounds)
    (tagged : IsTagged tag (first b)) (tagged' : IsTagged tag' (second b)) (apart : (t : ℕ) → tag t ≡ true → tag' t ≡ false) (bytes : List ℕ) where
  pub none_in_first : begins_with tag bytes ≡ true → BeginsWithNone (first b) bytes → BeginsWithNone (sum_meaning first second b) bytes
  none_in_first owned none (First op) begins = none op (begins_first first second b bytes op begins)
  none_in_first owned none (Second op) begins =
      none_of_both tag tag' apart bytes owned (tag_in (second b) tag' tagged' bytes op (begins_second first second b bytes op begins))

  pub none_in_second : begins_with tag bytes ≡ false → BeginsWithNone (second b) bytes → BeginsWithNone (sum_meaning first second b) bytes
  none_in_second other none (First op) begins =
      true≢false (sym (tag_in (first b) tag tagged bytes op (begins_first first second b bytes op begins)) ∙ other)
  none_in_second other none (Second op) begins = none op (begins_second first second b bytes op begins)
