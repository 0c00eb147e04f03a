-- How many bytes a code has.
use Rattle.std.proofs.Common.{◌≡◌, ℕ, ◌+◌, ◌*◌, Option, None, Some, is_some, length, refl, arith}
use Rattle.std.specs.Int.{from_bool}
use Rattle.op_rows.specs.Rows.{Names, listed_number, names_code, text_code}
use Rattle.op_rows.specs.RowLaws.{length_code}

-- a number counts one, and none nothing
pub counted : (number : Option ℕ) → from_bool (is_some number) ≡ length (listed_number number)
counted None = refl
counted (Some n) = refl

-- what the parts have, the code has with its tag
pub code_has : (names : Names) (n k size : ℕ) → n ≡ length names.objects → k ≡ length names.numbers → size ≡ length (text_code names.text)
    → 1 + 4 * (n + k) + size ≡ length (names_code names)
code_has names n k size objects numbers text = omega (arith, objects, numbers, text, length_code names)
