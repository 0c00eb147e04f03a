-- Numbers in digits, with a sign and without one.
use Rattle.std.proofs.Common.{◌≡◌, ◌≢◌, ◌∙◌, refl, sym, ap, ◌+◌, ◌-◌, ◌*◌, ◌^◌, ◌≤◌, ◌<◌, ◌&&◌, ◌==◌, ℕ, ℤ, pos, negsuc, neg_ℤ, zero, suc, Bool, true, false, Some, None, List, [], ◌∷◌, length, drop, get_or, nat_lt, if◌then◌else◌, arith, rules, add-one, drop-cons}
use Rattle.std.proofs.lemmas.Bool.Decides.{nat_tests}
use Rattle.std.proofs.lemmas.Fmt.{decimal_nonempty, first_decimal, decimal_digit, digits_decimal, digits_value-decimal, decimal-digits_value, decimal_injective}
use Rattle.std.proofs.lemmas.Slice.Eq.{bytes_eq-Decides}
use Rattle.std.proofs.lemmas.Str.Parse.{IsNumeralModel, numerals_by_fold, numerals_by_value, tells_all_ascii_digits}
use Rattle.std.specs.Fmt.{decimal, signed_decimal}
use Rattle.std.specs.Str.{all_ascii_digits, bytes_eq}
use Rattle.std.specs.Str.Parse.{digits_value}
use Rattle.named_words.specs.Numbers.{below_zero, fits, from_zero, number_of, value_of}

abbrev pub read_on : ℕ → List ℕ → ℕ
read_on n [] = n
read_on n (c ∷ cs) = read_on (10 * n + (c - 48)) cs

pub own : IsNumeralModel (λ ds. all_ascii_digits ds ≡ true) (read_on 0)
own = numerals_by_fold _ (search rules) read_on (search rules)

rises : (n : ℕ) (ds : List ℕ) → n ≤ read_on n ds
rises n [] = omega arith
rises n (c ∷ cs) = omega (arith, rises (10 * n + (c - 48)) cs)

pub not_empty : (text : List ℕ) → length text ≡ 0 → (n : ℕ) → n ≤ 2 ^ 63 → text ≢ decimal n
not_empty text none n small is = omega (arith, decimal_nonempty n (omega (arith, small)), ap length is)

pub not_zero : (text : List ℕ) → 1 < length text → get_or text 0 0 ≡ 48 → (n : ℕ) → n ≤ 2 ^ 63 → text ≢ decimal n
not_zero text long zero_first zero small is = omega (arith, ap length (decimal_digit 0 (omega arith)), ap length is)
not_zero text long zero_first (suc n) small is = omega (arith, first_decimal (suc n) (omega arith) (omega (arith, small)), ap (λ (l : List ℕ). get_or l 0 0) is)

pub not_digits : (text : List ℕ) → all_ascii_digits text ≡ false → (n : ℕ) → n ≤ 2 ^ 63 → text ≢ decimal n
not_digits text other n small is = let digits = digits_decimal own n (omega (arith, small)) in cc (digits, ap all_ascii_digits is)

pub not_small : (text rest : List ℕ) (value : ℕ) → read_on value rest ≡ read_on 0 text → 2 ^ 63 < value → (n : ℕ) → n ≤ 2 ^ 63 → text ≢ decimal n
not_small text rest value so_far big n small is = omega (arith, rises value rest, so_far, ap (read_on 0) is, digits_value-decimal own n (omega (arith, small)), small, big)

pub is_number : (text : List ℕ) (value : ℕ) → all_ascii_digits text ≡ true → read_on 0 text ≡ value → 0 < length text → (get_or text 0 0 ≡ 48 → length text ≡ 1) → value ≤ 2 ^ 63 → text ≡ decimal value
is_number text value digits is some first small = sym (decimal-digits_value own text digits some first (omega (arith, is, small))) ∙ ap decimal is

pub one_digit : (text : List ℕ) (value i : ℕ) → i < length text → read_on (10 * value + (get_or text i 0 - 48)) (drop (i + 1) text) ≡ read_on value (drop i text)
one_digit text value i within = rw (add-one, drop-cons text i 0 within) refl

-- what std reads in digits
by_value : IsNumeralModel (λ ds. all_ascii_digits ds ≡ true) (digits_value 10)
by_value = numerals_by_value _ tells_all_ascii_digits

digits_only : (text : List ℕ) → all_ascii_digits text ≡ true → value_of text ≡ pos (digits_value 10 text)
digits_only [] digits = refl
digits_only (c ∷ rest) digits =
    let other : (c == 45) ≡ false = grind (arith, nat_tests, digits) in
    ap (λ b. if b then neg_ℤ (pos (digits_value 10 rest)) else pos (digits_value 10 (c ∷ rest))) other

-- a number is read as it is written
pub value_written : (z : ℤ) → fits z ≡ true → value_of (signed_decimal z) ≡ z
value_written (pos n) small =
    let few : n < 2 ^ 64 = grind (arith, nat_tests, small) in
    digits_only (decimal n) (digits_decimal by_value n few) ∙ ap pos (digits_value-decimal by_value n few)
value_written (negsuc n) small = ap (λ m. neg_ℤ (pos m)) (digits_value-decimal by_value (suc n) (grind (arith, nat_tests, small)))

chosen : (z : ℤ) (text : List ℕ) → fits z ≡ true → bytes_eq text (signed_decimal z) ≡ true → (if fits z && bytes_eq text (signed_decimal z) then Some z else None) ≡ Some z
chosen z text fit same = rw (fit, same) refl

-- a text that is written so is this number
pub number_is : (text : List ℕ) (z : ℤ) → fits z ≡ true → text ≡ signed_decimal z → number_of text ≡ Some z
number_is text z fit is =
    let value : value_of text ≡ z = ap value_of is ∙ value_written z fit in
    ap (λ (y : ℤ). if fits y && bytes_eq text (signed_decimal y) then Some y else None) value ∙ chosen z text fit ((bytes_eq-Decides text (signed_decimal z)).1 is)

refused : (z : ℤ) (text : List ℕ) → (fits z ≡ true → text ≡ signed_decimal z → ⊥) → (a b : Bool) → fits z ≡ a → bytes_eq text (signed_decimal z) ≡ b → (if a && b then Some z else None) ≡ None
refused z text none true true fit same = absurd (none fit ((bytes_eq-Decides text (signed_decimal z)).0 same))
refused z text none true false fit same = refl
refused z text none false b fit same = refl

-- a text that no number is written as is none
pub number_none : (text : List ℕ) → ((z : ℤ) → fits z ≡ true → text ≡ signed_decimal z → ⊥) → number_of text ≡ None
number_none text none = refused (value_of text) text (none (value_of text)) (fits (value_of text)) (bytes_eq text (signed_decimal (value_of text))) refl refl

-- the first byte of a number that is not below 0 is a digit
first_digit : (ds : List ℕ) → all_ascii_digits ds ≡ true → 0 < length ds → get_or ds 0 0 ≢ 45
first_digit [] digits some = absurd (omega (arith, some))
first_digit (c ∷ rest) digits some = λ is. absurd (grind (arith, nat_tests, digits, is))

digit_leads : (n : ℕ) → n < 2 ^ 64 → get_or (decimal n) 0 0 ≢ 45
digit_leads n small = first_digit (decimal n) (digits_decimal own n small) (decimal_nonempty n small)

-- below 2 ^ 63
few : (n : ℕ) → nat_lt n (2 ^ 63) ≡ true → n < 2 ^ 63
few n fit = grind (arith, nat_tests, fit)

-- no number is written with no byte
pub empty_none : (text : List ℕ) → length text ≡ 0 → number_of text ≡ None
empty_none text none = number_none text (λ z. elim z as (λ y. fits y ≡ true → text ≡ signed_decimal y → ⊥) [
  | pos n ↦ λ fit is. omega (arith, none, ap length is, decimal_nonempty n (omega (arith, few n fit)))
  | negsuc n ↦ λ fit is. omega (arith, none, ap length is)
])

module _ (text rest : List ℕ) (is : text ≡ 45 ∷ rest) where
  lead : get_or text 0 0 ≡ 45
  lead = ap (λ (l : List ℕ). get_or l 0 0) is

  -- behind a minus stands no number
  pub minus_none : ((n : ℕ) → n ≤ 2 ^ 63 → rest ≢ decimal n) → number_of text ≡ None
  minus_none none = number_none text (λ z. elim z as (λ y. fits y ≡ true → text ≡ signed_decimal y → ⊥) [
    | pos n ↦ λ fit same. digit_leads n (omega (arith, few n fit)) (sym (ap (λ (l : List ℕ). get_or l 0 0) same) ∙ lead)
    | negsuc n ↦ λ fit same. none (suc n) (omega (arith, few n fit)) (ap (drop 1) (sym is ∙ same))
  ])

  -- behind a minus stands this one
  pub minus_is : (m : ℕ) → rest ≡ decimal m → m ≤ 2 ^ 63 → below_zero m ≡ number_of text
  minus_is zero says small = sym (number_none text (λ z. elim z as (λ y. fits y ≡ true → text ≡ signed_decimal y → ⊥) [
    | pos n ↦ λ fit same. digit_leads n (omega (arith, few n fit)) (sym (ap (λ (l : List ℕ). get_or l 0 0) same) ∙ lead)
    | negsuc n ↦ λ fit same. omega (arith, decimal_injective 0 (suc n) (omega arith) (omega (arith, few n fit)) (sym says ∙ ap (drop 1) (sym is ∙ same)))
  ]))
  minus_is (suc m) says small = sym (number_is text (negsuc m) (grind (arith, nat_tests, small)) (is ∙ ap (λ (l : List ℕ). 45 ∷ l) says))

-- where no minus stands in front
pub plain_none : (text : List ℕ) → get_or text 0 0 ≢ 45 → ((n : ℕ) → n ≤ 2 ^ 63 → text ≢ decimal n) → number_of text ≡ None
plain_none text other none = number_none text (λ z. elim z as (λ y. fits y ≡ true → text ≡ signed_decimal y → ⊥) [
  | pos n ↦ λ fit same. none n (omega (arith, few n fit)) same
  | negsuc n ↦ λ fit same. other (ap (λ (l : List ℕ). get_or l 0 0) same)
])

great_none : (text : List ℕ) (m : ℕ) → text ≡ decimal m → m ≡ 2 ^ 63 → number_of text ≡ None
great_none text m says great = number_none text (λ z. elim z as (λ y. fits y ≡ true → text ≡ signed_decimal y → ⊥) [
  | pos n ↦ λ fit same. omega (arith, great, few n fit, decimal_injective m n (omega (arith, great)) (omega (arith, few n fit)) (sym says ∙ same))
  | negsuc n ↦ λ fit same. digit_leads m (omega (arith, great)) (ap (λ (l : List ℕ). get_or l 0 0) (sym says ∙ same))
])

by_greatest : (text : List ℕ) (m : ℕ) → text ≡ decimal m → m ≤ 2 ^ 63 → (b : Bool) → (m == 2 ^ 63) ≡ b → (if b then None else Some (pos m)) ≡ number_of text
by_greatest text m says small true great = sym (great_none text m says (grind (arith, nat_tests, great)))
by_greatest text m says small false less = sym (number_is text (pos m) (grind (arith, nat_tests, less, small)) says)

-- a number without a minus
pub plain_is : (text : List ℕ) (m : ℕ) → text ≡ decimal m → m ≤ 2 ^ 63 → from_zero m ≡ number_of text
plain_is text m says small = by_greatest text m says small (m == 2 ^ 63) refl
