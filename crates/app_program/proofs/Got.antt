-- The values that an operation reads, as they are got.
use Rattle.std.proofs.Common.{◌≡◌, ℕ, Option, Some, List, [], ◌∷◌, slice_get, unwrap_or, ap}
use Rattle.op_rows.specs.Rows.{first, second}

pub first_is : (values : List (List ℕ)) (v : List ℕ) → slice_get values 0 ≡ Some v → first values ≡ v
first_is [] v e = cc
first_is (w ∷ values) v e = ap (λ (o : Option (List ℕ)). unwrap_or o []) e

pub second_is : (values : List (List ℕ)) (v : List ℕ) → slice_get values 1 ≡ Some v → second values ≡ v
second_is [] v e = cc
second_is (w ∷ values) v e = first_is values v e
