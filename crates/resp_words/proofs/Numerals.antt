-- Numbers in digits.
use Rattle.std.proofs.Common.{◌≡◌, ◌≢◌, ◌∙◌, refl, sym, ap, ◌+◌, ◌-◌, ◌*◌, ◌^◌, ◌≤◌, ◌<◌, ℕ, zero, suc, List, [], ◌∷◌, ◌++◌, length, drop, get_or, arith, rules, add-one, drop-cons, length-append}
use Rattle.std.proofs.lemmas.Str.Parse.{IsNumeralModel, numerals_by_fold}
use Rattle.std.proofs.lemmas.Fmt.{decimal_nonempty, first_decimal, decimal_digit, digits_decimal, digits_value-decimal, decimal-digits_value}
use Rattle.std.specs.Fmt.{decimal}
use Rattle.resp_words.specs.Runs.{AllPass, is_digit}

abbrev pub read_on : ℕ → List ℕ → ℕ
read_on n [] = n
read_on n (c ∷ cs) = read_on (10 * n + (c - 48)) cs

pub own : IsNumeralModel (AllPass is_digit) (read_on 0)
own = numerals_by_fold _ (search rules) read_on (search rules)

pub digits_pass : (n : ℕ) → n < 2 ^ 32 → AllPass is_digit (decimal n)
digits_pass n small = digits_decimal own n (omega (arith, small))

rises : (n : ℕ) (ds : List ℕ) → n ≤ read_on n ds
rises n [] = omega arith
rises n (c ∷ cs) = omega (arith, rises (10 * n + (c - 48)) cs)

read_on_append : (n : ℕ) (ds es : List ℕ) → read_on n (ds ++ es) ≡ read_on (read_on n ds) es
read_on_append n [] es = refl
read_on_append n (c ∷ cs) es = read_on_append (10 * n + (c - 48)) cs es

pub not_empty : (text : List ℕ) → length text ≡ 0 → (n : ℕ) → n < 2 ^ 32 → text ≢ decimal n
not_empty text none n small is = omega (arith, decimal_nonempty n (omega (arith, small)), ap length is)

pub not_zero : (text : List ℕ) → 1 < length text → get_or text 0 0 ≡ 48 → (n : ℕ) → n < 2 ^ 32 → text ≢ decimal n
not_zero text long zero_first zero small is = omega (arith, ap length (decimal_digit 0 (omega arith)), ap length is)
not_zero text long zero_first (suc n) small is = omega (arith, first_decimal (suc n) (omega arith) (omega (arith, small)), ap (λ (l : List ℕ). get_or l 0 0) is)

pub not_small : (text rest : List ℕ) (value most : ℕ) → read_on value rest ≡ read_on 0 text → most < value → most < 2 ^ 32 → (n : ℕ) → n ≤ most → text ≢ decimal n
not_small text rest value most so_far big low n small is = omega (arith, rises value rest, so_far, ap (read_on 0) is, digits_value-decimal own n (omega (arith, small, low)))

pub is_number : (text : List ℕ) (value : ℕ) → AllPass is_digit text → read_on 0 text ≡ value → 0 < length text → (get_or text 0 0 ≡ 48 → length text ≡ 1) → value < 2 ^ 32 → text ≡ decimal value
is_number text value digits is some first small = sym (decimal-digits_value own text digits some first (omega (arith, is, small))) ∙ ap decimal is

pub one_digit : (text : List ℕ) (value i : ℕ) → i < length text → read_on (10 * value + (get_or text i 0 - 48)) (drop (i + 1) text) ≡ read_on value (drop i text)
one_digit text value i within = rw (add-one, drop-cons text i 0 within) refl

lone_zero : (digits more : List ℕ) (n : ℕ) → n < 2 ^ 32 → 0 < length digits → decimal n ≡ digits ++ more → get_or digits 0 0 ≡ 48 → length digits ≡ 1
lone_zero [] more n small some is first = absurd (omega (arith, some))
lone_zero (d ∷ digits) more zero small some is first = omega (arith, ap length is, ap length (decimal_digit 0 (omega arith)), length-append digits more)
lone_zero (d ∷ digits) more (suc n) small some is first =
    let head : get_or (decimal (suc n)) 0 0 ≡ d = ap (λ (l : List ℕ). get_or l 0 0) is in
    absurd (omega (arith, first_decimal (suc n) (omega arith) (omega (arith, small)), head, first))

-- digits in front of a number's are a number's, which is no greater
pub front_is_number : (digits more : List ℕ) (n : ℕ) → n < 2 ^ 32 → AllPass is_digit digits → 0 < length digits → decimal n ≡ digits ++ more → (m : ℕ) × (m ≤ n) × (digits ≡ decimal m)
front_is_number digits more n small passes some is =
    let value : read_on (read_on 0 digits) more ≡ n = sym (read_on_append 0 digits more) ∙ ap (read_on 0) (sym is) ∙ digits_value-decimal own n (omega (arith, small)) in
    let low : read_on 0 digits ≤ n = omega (arith, rises (read_on 0 digits) more, value) in
    (read_on 0 digits, low, sym (decimal-digits_value own digits passes some (lone_zero digits more n small some is) (omega (arith, low, small))))
