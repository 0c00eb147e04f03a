-- What the operations on plain values write.
use Rattle.std.proofs.Common.{◌≡◌, ◌≢◌, ◌<◌, ◌≤◌, refl, ap, ◌∙◌, arith, ℕ, ◌+◌, ◌==◌, true, false, not, ◌&&◌, ◌||◌, if◌then◌else◌, Option, None, List, [], ◌∷◌, ◌++◌, length}
use Rattle.std.specs.Prelude.{nat_le}
use Rattle.std.proofs.lemmas.Bool.{eq-eqb, false_from_ne_true, eqb-true, le-leb, lt-ltb}
use Rattle.oper_core.specs.State.{State, with_values}
use Rattle.oper_core.specs.Meaning.{or_else, unless}
use Rattle.oper_core.specs.MeaningLaws.{or_else-both}
use Rattle.oper_core.specs.declared.bounds.Bounds.{Bounds}
use Rattle.oper_core.specs.declared.refusal.Refusal.{Refusal}
use Rattle.oper_core.specs.declared.refusal.Refusal.TheVariants.{NoObject, Same, TooLarge}
use Rattle.op_codec.specs.AllOps.{plain}
use Rattle.op_meaning.specs.Table.{append_check}
use Rattle.op_meaning.specs.declared.plain_op.PlainOp.TheVariants.{Append, Copy, Put}
use Rattle.op_rows.specs.Rows.{if_applicable, named}
use Rattle.name_ranges.specs.Changes.{Writes}

differ : (x y : ℕ) → x ≢ y → (x == y) ≡ false
differ x y apart = false_from_ne_true (x == y) (λ e. apart (eqb-true x y e))

-- one object with a new value
pub written : (s : State) (x : ℕ) (bytes : List ℕ) → with_values s (x ∷ []) (bytes ∷ []) x ≡ bytes
written s x bytes = ap (λ t. if t || false then (if t then bytes else []) else s x) (eq-eqb x x refl)

pub not_written : (s : State) (x z : ℕ) (bytes : List ℕ) → z ≢ x → with_values s (x ∷ []) (bytes ∷ []) z ≡ s z
not_written s x z bytes apart = ap (λ t. if t || false then (if t then bytes else []) else s z) (differ z x apart)

-- objects that are there, of which no two are one
one_named : (b : Bounds) (x : ℕ) → x < b.objects → named b (x ∷ []) [] ≡ None
one_named b x there = ap (λ t. or_else (unless (t && true) NoObject) None) (lt-ltb x b.objects there)

two_named : (b : Bounds) (x y : ℕ) → x < b.objects → y < b.objects → x ≢ y → named b (x ∷ y ∷ []) [] ≡ None
two_named b x y there also apart =
    λ i. or_else (unless (lt-ltb x b.objects there i && (lt-ltb y b.objects also i && true)) NoObject) (or_else (unless (not (differ x y apart i || false) && true) Same) None)

short : (b : Bounds) (bytes : List ℕ) → length bytes ≤ b.cap → unless (nat_le (length bytes) b.cap) TooLarge ≡ None
short b bytes fits = ap (λ t. unless t TooLarge) (le-leb (length bytes) b.cap fits)

module _ (b : Bounds) (s : State) (x : ℕ) (there : x < b.objects) where
  pub put_writes : (bytes : List ℕ) → length bytes ≤ b.cap → Writes b s (plain (Put x bytes)) x bytes
  put_writes bytes fits = record {
    accepted = or_else-both _ _ (or_else-both _ _ (one_named b x there) (short b bytes fits)) refl;
    made = written s x bytes;
    others = λ z apart. not_written s x z bytes apart;
  }

  module _ (y : ℕ) (also : y < b.objects) (apart : x ≢ y) where
    pub copy_writes : Writes b s (plain (Copy x y)) y (s x)
    copy_writes = record {
      accepted = or_else-both _ _ (or_else-both _ _ (two_named b x y there also apart) (short b [] (omega arith))) refl;
      made = written s y (s x);
      others = λ z other. not_written s y z (s x) other;
    }

    pub append_writes : length (s x) + length (s y) ≤ b.cap → Writes b s (plain (Append x y)) y (s y ++ s x)
    append_writes fits =
        let fit : append_check b (s x) (s y) ≡ None = ap (λ t. unless t TooLarge) (le-leb (length (s x) + length (s y)) b.cap fits) in
        let is : (z : ℕ) → with_values s (y ∷ []) (if_applicable (append_check b (s x) (s y)) ((s y ++ s x) ∷ [])) z ≡ with_values s (y ∷ []) ((s y ++ s x) ∷ []) z =
        λ z. ap (λ (o : Option Refusal). with_values s (y ∷ []) (if_applicable o ((s y ++ s x) ∷ [])) z) fit in
        record {
          accepted = or_else-both _ _ (or_else-both _ _ (two_named b x y there also apart) (short b [] (omega arith))) fit;
          made = is y ∙ written s y (s y ++ s x);
          others = λ z other. is z ∙ not_written s y z (s y ++ s x) other;
        }
