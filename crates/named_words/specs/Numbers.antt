-- Numbers of 64 bits with a sign, in digits.
use Rattle.std.specs.Prelude.{ℕ, ℤ, zero, suc, pos, negsuc, neg_ℤ, ◌^◌, ◌+ℤ◌, ◌==◌, ◌&&◌, Bool, nat_lt, Option, Some, None, Result, Ok, Err, List, [], ◌∷◌, if◌then◌else◌}
use Rattle.std.specs.Fmt.{signed_decimal}
use Rattle.std.specs.Str.{bytes_eq}
use Rattle.std.specs.Str.Parse.{digits_value}
use Rattle.named_words.specs.Forms.{◌>>=◌}
use Rattle.named_words.specs.declared.refusal.Refusal.{Refusal}
use Rattle.named_words.specs.declared.refusal.Refusal.TheVariants.{NoNumber, Overflow, NoDecrement}

-- 64 bits hold it
abbrev pub fits : ℤ → Bool
fits (pos n) = nat_lt n (2 ^ 63)
fits (negsuc n) = nat_lt n (2 ^ 63)

-- what digits come to, with a minus in front or without one
abbrev pub value_of : List ℕ → ℤ
value_of [] = pos 0
value_of (first ∷ rest) = if first == 45 then neg_ℤ (pos (digits_value 10 rest)) else pos (digits_value 10 (first ∷ rest))

-- the number that a text is: it is written as this text and as no other
abbrev pub number_of : List ℕ → Option ℤ
number_of text = if fits (value_of text) && bytes_eq text (signed_decimal (value_of text)) then Some (value_of text) else None

abbrev pub or_no_number : Option ℤ → Result ℤ Refusal
or_no_number (Some number) = Ok number
or_no_number None = Err NoNumber

-- a number that a word has to be
abbrev pub integer_of : List ℕ → Result ℤ Refusal
integer_of text = or_no_number (number_of text)

-- a number that so much is, with a minus in front or without one
abbrev pub below_zero : ℕ → Option ℤ
below_zero zero = None
below_zero (suc n) = Some (negsuc n)

abbrev pub from_zero : ℕ → Option ℤ
from_zero n = if n == 2 ^ 63 then None else Some (pos n)

-- what DECRBY adds
abbrev pub negated : ℤ → Result ℤ Refusal
negated number = if fits (neg_ℤ number) then Ok (neg_ℤ number) else Err NoDecrement

abbrev pub sum : ℤ → ℤ → Result ℤ Refusal
sum old by = if fits (old +ℤ by) then Ok (old +ℤ by) else Err Overflow

-- what a value comes to; none counts as 0
abbrev pub incremented_by : Option (List ℕ) → ℤ → Result ℤ Refusal
incremented_by None by = sum (pos 0) by
incremented_by (Some text) by = integer_of text >>= λ old. sum old by
