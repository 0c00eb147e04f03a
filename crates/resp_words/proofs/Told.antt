-- Replies one after the other.
use Rattle.std.proofs.Common.{◌≡◌, ◌∙◌, refl, sym, ap, subst, ◌^◌, ◌<◌, ◌==◌, not, Bool, ℕ, suc, ℤ, List, [], ◌∷◌, ◌++◌, Some, None, length, drop, get_or, arith, append_assoc}
use Rattle.std.proofs.lemmas.Bool.{both_ways}
use Rattle.std.proofs.lemmas.Bool.Decides.{nat_tests}
use Rattle.std.proofs.lemmas.Fmt.{decimal_injective, digits_decimal, signed_decimal_injective}
use Rattle.std.specs.Fmt.{decimal, signed_decimal}
use lib.IntN.{pos, negsuc}
use lib.Signed.{mag}
use Rattle.resp_words.specs.Commands.{ended}
use Rattle.resp_words.specs.Replies.{IsSmall, Said, status, error, integer, value, array, body_of, heard, in_line, line_of, mark_of, reply_bytes}
use Rattle.resp_words.specs.Runs.{AllPass, is_digit}
use Rattle.resp_words.proofs.Bulks.{ended_cancel}
use Rattle.resp_words.proofs.Numerals.{digits_pass, own}
use Rattle.resp_words.proofs.Runs.{runs_same}

-- no byte ends the line
abbrev in_the_line : ℕ → Bool
in_the_line byte = not (byte == 13)

in_line_stays : (text : List ℕ) → AllPass in_the_line (in_line text)
in_line_stays [] = tt
in_line_stays (b ∷ text) = (grind (arith, nat_tests), in_line_stays text)

digits_stay : (digits : List ℕ) → AllPass is_digit digits → AllPass in_the_line digits
digits_stay [] passes = tt
digits_stay (d ∷ digits) passes = (let digit = passes.0 in grind (arith, nat_tests), digits_stay digits passes.1)

number_stays : (number : ℤ) → mag number < 2 ^ 63 → AllPass in_the_line (signed_decimal number)
number_stays (pos n) small = digits_stay (decimal n) (digits_decimal own n (omega (arith, small)))
number_stays (negsuc n) small = (refl, digits_stay (decimal (suc n)) (digits_decimal own (suc n) (omega (arith, small))))

line_stays : (a : Said) → IsSmall a → AllPass in_the_line (line_of a)
line_stays (status text) small = in_line_stays text
line_stays (error text) small = in_line_stays text
line_stays (integer number) small = number_stays number small
line_stays (value (Some bytes)) small = digits_stay (decimal (length bytes)) (digits_pass (length bytes) small)
line_stays (value None) small = (refl, (refl, tt))
line_stays (array (Some count)) small = digits_stay (decimal count) (digits_pass count small)
line_stays (array None) small = (refl, (refl, tt))

-- a number has no sign
no_sign : (n : ℕ) (digits : List ℕ) → n < 2 ^ 32 → 45 ∷ digits ≡ decimal n → ⊥
no_sign n digits small same =
    let passes : AllPass is_digit (45 ∷ digits) = subst (λ (l : List ℕ). AllPass is_digit l) (sym same) (digits_pass n small) in
    both_ways (is_digit 45) refl passes.0

-- two replies with the same mark and the same line
told : (s t : Said) (x y : List ℕ) → IsSmall s → IsSmall t → mark_of s ≡ mark_of t → line_of s ≡ line_of t → body_of s ++ x ≡ body_of t ++ y → (heard s ≡ heard t) × (x ≡ y)
told (status s) (status t) x y small_s small_t marks lines rest = (ap status lines, rest)
told (error s) (error t) x y small_s small_t marks lines rest = (ap error lines, rest)
told (integer s) (integer t) x y small_s small_t marks lines rest = (ap integer (signed_decimal_injective s t small_s small_t lines), rest)
told (value None) (value None) x y small_s small_t marks lines rest = (refl, rest)
told (value None) (value (Some t)) x y small_s small_t marks lines rest = absurd (no_sign (length t) (49 ∷ []) small_t lines)
told (value (Some s)) (value None) x y small_s small_t marks lines rest = absurd (no_sign (length s) (49 ∷ []) small_s (sym lines))
told (value (Some s)) (value (Some t)) x y small_s small_t marks lines rest =
    let both = ended_cancel s t x y (decimal_injective (length s) (length t) (omega (arith, small_s)) (omega (arith, small_t)) lines) rest in
    (ap (λ (l : List ℕ). value (Some l)) both.0, both.1)
told (array None) (array None) x y small_s small_t marks lines rest = (refl, rest)
told (array None) (array (Some t)) x y small_s small_t marks lines rest = absurd (no_sign t (49 ∷ []) small_t lines)
told (array (Some s)) (array None) x y small_s small_t marks lines rest = absurd (no_sign s (49 ∷ []) small_s (sym lines))
told (array (Some s)) (array (Some t)) x y small_s small_t marks lines rest = (ap (λ (n : ℕ). array (Some n)) (decimal_injective s t (omega (arith, small_s)) (omega (arith, small_t)) lines), rest)
told (status s) (error t) x y small_s small_t marks lines rest = absurd (omega (arith, marks))
told (status s) (integer t) x y small_s small_t marks lines rest = absurd (omega (arith, marks))
told (status s) (value t) x y small_s small_t marks lines rest = absurd (omega (arith, marks))
told (status s) (array t) x y small_s small_t marks lines rest = absurd (omega (arith, marks))
told (error s) (status t) x y small_s small_t marks lines rest = absurd (omega (arith, marks))
told (error s) (integer t) x y small_s small_t marks lines rest = absurd (omega (arith, marks))
told (error s) (value t) x y small_s small_t marks lines rest = absurd (omega (arith, marks))
told (error s) (array t) x y small_s small_t marks lines rest = absurd (omega (arith, marks))
told (integer s) (status t) x y small_s small_t marks lines rest = absurd (omega (arith, marks))
told (integer s) (error t) x y small_s small_t marks lines rest = absurd (omega (arith, marks))
told (integer s) (value t) x y small_s small_t marks lines rest = absurd (omega (arith, marks))
told (integer s) (array t) x y small_s small_t marks lines rest = absurd (omega (arith, marks))
told (value s) (status t) x y small_s small_t marks lines rest = absurd (omega (arith, marks))
told (value s) (error t) x y small_s small_t marks lines rest = absurd (omega (arith, marks))
told (value s) (integer t) x y small_s small_t marks lines rest = absurd (omega (arith, marks))
told (value s) (array t) x y small_s small_t marks lines rest = absurd (omega (arith, marks))
told (array s) (status t) x y small_s small_t marks lines rest = absurd (omega (arith, marks))
told (array s) (error t) x y small_s small_t marks lines rest = absurd (omega (arith, marks))
told (array s) (integer t) x y small_s small_t marks lines rest = absurd (omega (arith, marks))
told (array s) (value t) x y small_s small_t marks lines rest = absurd (omega (arith, marks))

-- bytes begin with one reply
pub reply_cancel : (a b : Said) (x y : List ℕ) → IsSmall a → IsSmall b → reply_bytes a ++ x ≡ reply_bytes b ++ y → (heard a ≡ heard b) × (x ≡ y)
reply_cancel a b x y small_a small_b same =
    let behind : (s : Said) (z : List ℕ) → (ended (line_of s) ++ body_of s) ++ z ≡ line_of s ++ 13 ∷ 10 ∷ (body_of s ++ z) =
    λ s z. append_assoc (ended (line_of s)) (body_of s) z ∙ append_assoc (line_of s) (13 ∷ 10 ∷ []) (body_of s ++ z) in
    let lines = runs_same in_the_line (line_of a) (line_of b) (13 ∷ 10 ∷ (body_of a ++ x)) (13 ∷ 10 ∷ (body_of b ++ y)) (line_stays a small_a) (line_stays b small_b) refl refl
    (sym (behind a x) ∙ ap (λ (l : List ℕ). drop 1 l) same ∙ behind b y) in
    told a b x y small_a small_b (ap (λ (l : List ℕ). get_or l 0 0) same) lines.0 (ap (λ (l : List ℕ). drop 2 l) lines.1)
