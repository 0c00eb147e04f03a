-- A number and the end of its line.
use Rattle.std.proofs.Common.{◌≡◌, ◌≢◌, ◌∙◌, refl, sym, ap, ◌^◌, ◌≤◌, ◌<◌, ℕ, List, [], ◌∷◌, ◌++◌, length, drop, arith, append_assoc, length-append}
use Rattle.std.proofs.lemmas.Fmt.{decimal_injective, decimal_nonempty}
use Rattle.std.specs.Fmt.{decimal}
use Rattle.resp_words.specs.Commands.{IsLineEnd, IsNumberLine, ended}
use Rattle.resp_words.specs.Reading.{Begins, IsBad, IsFront, IsRead}
use Rattle.resp_words.specs.Runs.{AllPass, IsCut, StopsAt, is_digit}
use Rattle.resp_words.proofs.Ends.{ends_so, some_behind}
use Rattle.resp_words.proofs.Numerals.{digits_pass, front_is_number}
use Rattle.resp_words.proofs.Runs.{run_goes_on, runs_same, stops_append}

-- bytes begin with one such line
pub number_cancel : (m n : ℕ) (x y : List ℕ) → m < 2 ^ 32 → n < 2 ^ 32 → ended (decimal m) ++ x ≡ ended (decimal n) ++ y → (m ≡ n) × (x ≡ y)
number_cancel m n x y small_m small_n same =
    let both = runs_same is_digit (decimal m) (decimal n) (13 ∷ 10 ∷ x) (13 ∷ 10 ∷ y) (digits_pass m small_m) (digits_pass n small_n) refl refl
    (sym (append_assoc (decimal m) (13 ∷ 10 ∷ []) x) ∙ same ∙ append_assoc (decimal n) (13 ∷ 10 ∷ []) y) in
    (decimal_injective m n (omega (arith, small_m)) (omega (arith, small_n)) both.0, ap (λ (l : List ℕ). drop 2 l) both.1)

-- what bytes that begin with such a line are
pub number_stands : (most : ℕ) (bytes : List ℕ) (it : Begins (IsNumberLine most) bytes) → decimal it.meaning ++ 13 ∷ 10 ∷ it.later ≡ bytes
number_stands most bytes it = sym (it.is ∙ ap (λ (l : List ℕ). l ++ it.later) it.means.is ∙ append_assoc (decimal it.meaning) (13 ∷ 10 ∷ []) it.later)

pub number_none : (most : ℕ) (bytes : List ℕ) → length bytes ≡ 0 → IsFront (IsNumberLine most) bytes
number_none most [] none = record {
  none = λ it. omega (arith, ap length (number_stands most [] it), length-append (decimal it.meaning) (13 ∷ 10 ∷ it.later));
  later = ended (decimal 0);
  meaning = 0;
  means = record { is = refl; small = omega arith };
}
number_none most (b ∷ bytes) none = absurd (omega (arith, none))

not_digits : (digits rest : List ℕ) (n most : ℕ) (y : List ℕ) → n ≤ most → most < 2 ^ 32 → AllPass is_digit digits → StopsAt is_digit rest → 0 < length (digits ++ rest) → (later : List ℕ)
    → ((m : ℕ) → m ≤ most → digits ≢ decimal m) → decimal n ++ 13 ∷ y ≡ digits ++ (rest ++ later) → ⊥
not_digits [] rest n most y small low passes stops some later none same =
    let both = runs_same is_digit (decimal n) [] (13 ∷ y) (rest ++ later) (digits_pass n (omega (arith, small, low))) tt refl (stops_append is_digit rest later some stops) same in
    omega (arith, ap length both.0, decimal_nonempty n (omega (arith, small, low)))
not_digits (d ∷ digits) rest n most y small low passes stops some later none same =
    let longer = run_goes_on is_digit (d ∷ digits) (decimal n) (rest ++ later) y 13 passes refl (sym same) in
    let front = front_is_number (d ∷ digits) longer.0 n (omega (arith, small, low)) passes (omega arith) longer.1 in
    none front.0 (omega (arith, front.1, small)) front.2

-- the digits in front are no number that may stand there
pub number_not : (most : ℕ) (bytes digits rest : List ℕ) → most < 2 ^ 32 → IsCut is_digit bytes digits rest → 0 < length bytes → ((m : ℕ) → m ≤ most → digits ≢ decimal m) → IsBad (IsNumberLine most) bytes
number_not most bytes digits rest low cut some none later it =
    not_digits digits rest it.meaning most (10 ∷ it.later) it.means.small low cut.passes cut.stops (omega (arith, some, ap length cut.is)) later none
    (number_stands most (bytes ++ later) it ∙ ap (λ (l : List ℕ). l ++ later) cut.is ∙ append_assoc digits rest later)

-- what follows them may be the end of a line
pub number_front : (most n : ℕ) (bytes digits rest : List ℕ) → most < 2 ^ 32 → IsCut is_digit bytes digits rest → digits ≡ decimal n → n ≤ most → IsFront IsLineEnd rest → IsFront (IsNumberLine most) bytes
number_front most n bytes digits rest low cut is small front = record {
  none = λ it.
      let both = runs_same is_digit (decimal it.meaning) digits (13 ∷ 10 ∷ it.later) rest (digits_pass it.meaning (omega (arith, it.means.small, low))) cut.passes refl cut.stops
      (number_stands most bytes it ∙ cut.is) in
      front.none (ends_so rest it.later (sym both.1));
  later = front.later;
  meaning = n;
  means = record {
    is = ap (λ (l : List ℕ). l ++ front.later) cut.is ∙ append_assoc digits rest front.later ∙ ap (λ (l : List ℕ). digits ++ l) front.means ∙ ap ended is;
    small = small;
  };
}

-- and is none
pub number_bad : (most : ℕ) (bytes digits rest : List ℕ) → most < 2 ^ 32 → IsCut is_digit bytes digits rest → IsBad IsLineEnd rest → IsBad (IsNumberLine most) bytes
number_bad most bytes digits rest low cut bad later it =
    let both = runs_same is_digit (decimal it.meaning) digits (13 ∷ 10 ∷ it.later) (rest ++ later) (digits_pass it.meaning (omega (arith, it.means.small, low))) cut.passes refl
    (stops_append is_digit rest later (some_behind rest bad) cut.stops)
    (number_stands most (bytes ++ later) it ∙ ap (λ (l : List ℕ). l ++ later) cut.is ∙ append_assoc digits rest later) in
    bad later (ends_so (rest ++ later) it.later (sym both.1))

pub number_read : (most n : ℕ) (bytes digits rest behind : List ℕ) → IsCut is_digit bytes digits rest → digits ≡ decimal n → n ≤ most → IsRead IsLineEnd rest tt behind → IsRead (IsNumberLine most) bytes n behind
number_read most n bytes digits rest behind cut is small read = record {
  text = ended (decimal n);
  means = record { is = refl; small = small };
  is = cut.is ∙ ap (λ (l : List ℕ). l ++ rest) is ∙ ap (λ (l : List ℕ). decimal n ++ l) (read.is ∙ ap (λ (l : List ℕ). l ++ behind) read.means) ∙ sym (append_assoc (decimal n) (13 ∷ 10 ∷ []) behind);
}
