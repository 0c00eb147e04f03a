-- The operations that write what a name is given.
use Rattle.std.proofs.Common.{◌≡◌, ◌≢◌, ◌<◌, ◌≤◌, refl, sym, subst, arith, ℕ, ◌+◌, Option, None, Some, List, ◌++◌, length, length-append}
use Rattle.oper_core.specs.State.{State}
use Rattle.oper_core.specs.declared.bounds.Bounds.{Bounds}
use Rattle.op_codec.specs.AllOps.{plain}
use Rattle.op_meaning.specs.declared.plain_op.PlainOp.TheVariants.{Append, Copy, Put}
use Rattle.name_ranges.specs.Changes.{Writes}
use Rattle.named_objects.specs.Giving.{changed, fresh, given_value, source_of}
use Rattle.named_objects.specs.declared.given.Given.{Given}
use Rattle.named_objects.specs.declared.given.Given.TheVariants.{Bytes, CopyOf, Longer}

module _ (b : Bounds) (s : State)
    (put : (x : ℕ) (bytes : List ℕ) → x < b.objects → length bytes ≤ b.cap → Writes b s (plain (Put x bytes)) x bytes)
    (copy : (x y : ℕ) → x < b.objects → y < b.objects → x ≢ y → Writes b s (plain (Copy x y)) y (s x))
    (append : (x y : ℕ) → x < b.objects → y < b.objects → x ≢ y → length (s x) + length (s y) ≤ b.cap → Writes b s (plain (Append x y)) y (s y ++ s x))
    (x : ℕ) (there : x < b.objects) where
  -- another object is its source, if one is
  abbrev pub Apart : Given → Type 0
  Apart given = (y : ℕ) → source_of given ≡ Some y → (y < b.objects) × (y ≢ x)

  writes_old : (given : Given) → Apart given → length (given_value s (Some (s x)) given) ≤ b.cap → Writes b s (changed given x) x (given_value s (Some (s x)) given)
  writes_old (Bytes value) apart fits = put x value there fits
  writes_old (CopyOf y) apart fits = let from = apart y refl in copy y x from.0 there from.1
  writes_old (Longer y) apart fits =
      let from = apart y refl in
      let long = length-append (s x) (s y) in
      append y x from.0 there from.1 (omega (arith, fits, long))

  pub writes_changed : (given : Given) → Apart given → (had : Option (List ℕ)) → had ≡ Some (s x) → length (given_value s had given) ≤ b.cap → Writes b s (changed given x) x (given_value s had given)
  writes_changed given apart had is =
      subst (λ (o : Option (List ℕ)). length (given_value s o given) ≤ b.cap → Writes b s (changed given x) x (given_value s o given)) (sym is) (writes_old given apart)

  writes_new : (given : Given) → Apart given → length (given_value s None given) ≤ b.cap → Writes b s (fresh given x) x (given_value s None given)
  writes_new (Bytes value) apart fits = put x value there fits
  writes_new (CopyOf y) apart fits = let from = apart y refl in copy y x from.0 there from.1
  writes_new (Longer y) apart fits = let from = apart y refl in copy y x from.0 there from.1

  pub writes_fresh : (given : Given) → Apart given → (had : Option (List ℕ)) → had ≡ None → length (given_value s had given) ≤ b.cap → Writes b s (fresh given x) x (given_value s had given)
  writes_fresh given apart had is =
      subst (λ (o : Option (List ℕ)). length (given_value s o given) ≤ b.cap → Writes b s (fresh given x) x (given_value s o given)) (sym is) (writes_new given apart)
