-- A number or none, as one number.
use Rattle.std.proofs.Common.{◌≡◌, sym, ℕ, Bool, true, false, refl}
use Rattle.std.specs.Prelude.{nat_eq, Option, None, Some, if◌then◌else◌}
use Rattle.std.proofs.lemmas.Bool.{eqb-true}
use Rattle.number_lists.specs.declared.packed_option.PackedOption.TheInside.{Inside}

-- the code for none is the greatest number of 32 bits
abbrev pub number_of : Inside → Option ℕ
number_of p = if nat_eq p.code 4294967295 then None else Some p.code

-- the code of a number is the number
abbrev pub packed : Option ℕ → Inside
packed None = record { code = 4294967295 }
packed (Some n) = record { code = n }

by-code : (p : Inside) (b : Bool) → nat_eq p.code 4294967295 ≡ b → packed (if b then None else Some p.code) ≡ p
by-code p true e = λ i. record { code = sym (eqb-true p.code 4294967295 e) i }
by-code p false e = refl

pub packed-number_of : (p : Inside) → packed (number_of p) ≡ p
packed-number_of p = by-code p (nat_eq p.code 4294967295) refl
