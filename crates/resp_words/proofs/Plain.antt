-- Commands in one line.
use Rattle.std.proofs.Common.{◌≡◌, ◌∙◌, refl, sym, ap, subst, ◌≤◌, ◌<◌, ◌⊎◌, inl, inr, not, true, false, ℕ, List, [], ◌∷◌, ◌++◌, length, get_or, arith, append_assoc, length-append}
use Rattle.std.proofs.lemmas.Bool.{cases_Bool, not-true}
use Rattle.std.proofs.lemmas.List.{append-nil, get_or_append_left, nil_from_length}
use Rattle.resp_words.specs.Commands.{BeginsOtherwise, IsCommand}
use Rattle.resp_words.specs.Lines.{AreWords, IsFirstWord, IsPlainLine}
use Rattle.resp_words.specs.Reading.{Begins, IsBad, IsFront, IsRead}
use Rattle.resp_words.specs.Runs.{AllPass, IsCut, StopsAt, is_blank, is_plain, is_solid}
use Rattle.resp_words.specs.declared.limits.Limits.{Limits}
use Rattle.resp_words.proofs.Runs.{run_goes_on, runs_same, stops_append}

blanks_stop : (line : List ℕ) → AllPass is_blank line → StopsAt is_solid line
blanks_stop [] passes = tt
blanks_stop (b ∷ line) passes = ap not passes.0

word_stops : (word rest : List ℕ) → 0 < length word → AllPass is_solid word → StopsAt is_blank (word ++ rest)
word_stops [] rest some solid = absurd (omega (arith, some))
word_stops (b ∷ word) rest some solid = not-true (is_blank b) solid.0

-- a byte of a word more in front of a line, whose first word follows this gap
solid_more : (b : ℕ) (line word rest : List ℕ) (words : List (List ℕ)) (gap : List ℕ) → is_solid b ≡ true → line ≡ gap ++ (word ++ rest) → AllPass is_blank gap → IsFirstWord line word rest → AreWords rest words
    → (others : List (List ℕ)) × AreWords (b ∷ line) others
solid_more b line word rest words [] other is blank first more = (
  (b ∷ word) ∷ words,
  (rest, record { gap = []; is = ap (λ (l : List ℕ). b ∷ l) is; blank = tt; some = omega arith; solid = (other, first.solid); stops = first.stops }, more),
)
solid_more b line word rest words (g ∷ gap) other is blank first more = (
  (b ∷ []) ∷ word ∷ words,
  (
    line,
    record { gap = []; is = refl; blank = tt; some = omega arith; solid = (other, tt); stops = subst (λ (l : List ℕ). StopsAt is_solid l) (sym is) (ap not blank.0) },
    (rest, first, more),
  ),
)

byte_more : (b : ℕ) (line : List ℕ) (words : List (List ℕ)) → (is_blank b ≡ true) ⊎ (is_blank b ≡ false) → AreWords line words → (others : List (List ℕ)) × AreWords (b ∷ line) others
byte_more b line [] (inl blank) are = ([], (blank, are))
byte_more b line (word ∷ words) (inl blank) are = (
  word ∷ words,
  (
    are.0,
    record { gap = b ∷ are.1.gap; is = ap (λ (l : List ℕ). b ∷ l) are.1.is; blank = (blank, are.1.blank); some = are.1.some; solid = are.1.solid; stops = are.1.stops },
    are.2,
  ),
)
byte_more b line [] (inr other) are = (
  (b ∷ []) ∷ [],
  (line, record { gap = []; is = refl; blank = tt; some = omega arith; solid = (ap not other, tt); stops = blanks_stop line are }, are),
)
byte_more b line (word ∷ words) (inr other) are = solid_more b line word are.0 words are.1.gap (ap not other) are.1.is are.1.blank are.1 are.2

-- each line has words
pub words_exist : (line : List ℕ) → (words : List (List ℕ)) × AreWords line words
words_exist [] = ([], tt)
words_exist (b ∷ line) = let rest = words_exist line in byte_more b line rest.0 (cases_Bool (is_blank b)) rest.1

no_word : (line gap word rest : List ℕ) → AllPass is_blank line → line ≡ gap ++ (word ++ rest) → AllPass is_blank gap → 0 < length word → AllPass is_solid word → ⊥
no_word line gap word rest passes is blank some solid =
    let both = runs_same is_blank line gap [] (word ++ rest) passes blank tt (word_stops word rest some solid) (append-nil line ∙ is) in
    omega (arith, some, ap length both.1, length-append word rest)

-- and no others
pub words_same : (x y : List ℕ) (vs ws : List (List ℕ)) → x ≡ y → AreWords x vs → AreWords y ws → vs ≡ ws
words_same x y [] [] same p q = refl
words_same x y [] (w ∷ ws) same p q = absurd (no_word x q.1.gap w q.0 p (same ∙ q.1.is) q.1.blank q.1.some q.1.solid)
words_same x y (v ∷ vs) [] same p q = absurd (no_word y p.1.gap v p.0 q (sym same ∙ p.1.is) p.1.blank p.1.some p.1.solid)
words_same x y (v ∷ vs) (w ∷ ws) same p q =
    let gaps = runs_same is_blank p.1.gap q.1.gap (v ++ p.0) (w ++ q.0) p.1.blank q.1.blank (word_stops v p.0 p.1.some p.1.solid) (word_stops w q.0 q.1.some q.1.solid)
    (sym p.1.is ∙ same ∙ q.1.is) in
    let words = runs_same is_solid v w p.0 q.0 p.1.solid q.1.solid p.1.stops q.1.stops gaps.1 in
    let rest = words_same p.0 q.0 vs ws words.1 p.2 q.2 in
    (λ i. words.0 i ∷ rest i)

-- what bytes that begin with a line are
pub plain_stands : (most : ℕ) (bytes : List ℕ) (it : Begins (IsPlainLine most) bytes) → it.meaning ++ 10 ∷ it.later ≡ bytes
plain_stands most bytes it = sym (it.is ∙ ap (λ (l : List ℕ). l ++ it.later) it.means.is ∙ append_assoc it.meaning (10 ∷ []) it.later)

with_later : (bytes line rest later : List ℕ) → bytes ≡ line ++ rest → bytes ++ later ≡ line ++ (rest ++ later)
with_later bytes line rest later is = ap (λ (l : List ℕ). l ++ later) is ∙ append_assoc line rest later

pub plain_long : (most : ℕ) (bytes line rest : List ℕ) → IsCut is_plain bytes line rest → most ≤ length line → IsBad (IsPlainLine most) bytes
plain_long most bytes line rest cut long later it =
    let longer = run_goes_on is_plain line it.meaning (rest ++ later) it.later 10 cut.passes refl (sym (plain_stands most (bytes ++ later) it ∙ with_later bytes line rest later cut.is)) in
    omega (arith, long, ap length longer.1, length-append line longer.0, it.means.short, ap length it.means.is, length-append it.meaning (10 ∷ []))

pub plain_front : (most : ℕ) (bytes line rest : List ℕ) → IsCut is_plain bytes line rest → length line < most → length rest ≡ 0 → IsFront (IsPlainLine most) bytes
plain_front most bytes line rest cut short none =
    let all : bytes ≡ line = cut.is ∙ ap (λ (l : List ℕ). line ++ l) (nil_from_length rest none) ∙ append-nil line in
    record {
      none = λ it.
          let both = runs_same is_plain it.meaning line (10 ∷ it.later) rest it.means.plain cut.passes refl cut.stops (plain_stands most bytes it ∙ cut.is) in
          omega (arith, none, ap length both.1);
      later = 10 ∷ [];
      meaning = line;
      means = record { is = ap (λ (l : List ℕ). l ++ 10 ∷ []) all; plain = cut.passes; short = omega (arith, short, ap length all, length-append bytes (10 ∷ [])) };
    }

pub plain_bad : (most end : ℕ) (bytes line rest behind : List ℕ) → IsCut is_plain bytes line rest → rest ≡ end ∷ behind → (end ≡ 10 → ⊥) → IsBad (IsPlainLine most) bytes
plain_bad most end bytes line rest behind cut stands other later it =
    let some : 0 < length rest = omega (arith, ap length stands) in
    let both = runs_same is_plain it.meaning line (10 ∷ it.later) (rest ++ later) it.means.plain cut.passes refl (stops_append is_plain rest later some cut.stops)
    (plain_stands most (bytes ++ later) it ∙ with_later bytes line rest later cut.is) in
    other (sym (ap (λ (l : List ℕ). get_or l 0 0) (both.1 ∙ ap (λ (l : List ℕ). l ++ later) stands)))

pub plain_read : (most : ℕ) (bytes line rest behind : List ℕ) → IsCut is_plain bytes line rest → length line < most → rest ≡ 10 ∷ behind → IsRead (IsPlainLine most) bytes line behind
plain_read most bytes line rest behind cut short stands = record {
  text = line ++ 10 ∷ [];
  means = record { is = refl; plain = cut.passes; short = omega (arith, short, length-append line (10 ∷ [])) };
  is = cut.is ∙ ap (λ (l : List ℕ). line ++ l) stands ∙ sym (append_assoc line (10 ∷ []) behind);
}

line_begins : (limits : Limits) (bytes : List ℕ) → (get_or bytes 0 0 ≡ 42 → ⊥) → Begins (IsCommand limits) bytes → Begins (IsPlainLine limits.line) bytes
line_begins limits bytes other it = elim it.means [
  | inl array ↦ absurd (other (ap (λ (l : List ℕ). get_or l 0 0) (it.is ∙ ap (λ (l : List ℕ). l ++ it.later) array.is)))
  | inr line ↦ record { text = it.text; meaning = line.line; later = it.later; means = line.is; is = it.is }
]

line_other : (bytes line later : List ℕ) → (get_or bytes 0 0 ≡ 42 → ⊥) → bytes ≡ line ++ later → BeginsOtherwise line
line_other bytes [] later other is = tt
line_other bytes (b ∷ line) later other is = λ star. other (ap (λ (l : List ℕ). get_or l 0 0) is ∙ star)

other_later : (bytes later : List ℕ) → 0 < length bytes → (get_or bytes 0 0 ≡ 42 → ⊥) → get_or (bytes ++ later) 0 0 ≡ 42 → ⊥
other_later bytes later some other star = other (sym (get_or_append_left bytes later 0 0 some) ∙ star)

pub line_front : (limits : Limits) (bytes : List ℕ) → 0 < length bytes → (get_or bytes 0 0 ≡ 42 → ⊥) → IsFront (IsPlainLine limits.line) bytes → IsFront (IsCommand limits) bytes
line_front limits bytes some other front =
    let words = words_exist front.meaning in
    record {
      none = λ it. front.none (line_begins limits bytes other it);
      later = front.later;
      meaning = words.0;
      means = inr (record {
        line = front.meaning;
        is = front.means;
        other = line_other (bytes ++ front.later) front.meaning (10 ∷ []) (other_later bytes front.later some other) front.means.is;
        parts = words.1;
      });
    }

pub line_bad : (limits : Limits) (bytes : List ℕ) → 0 < length bytes → (get_or bytes 0 0 ≡ 42 → ⊥) → IsBad (IsPlainLine limits.line) bytes → IsBad (IsCommand limits) bytes
line_bad limits bytes some other bad later it = bad later (line_begins limits (bytes ++ later) (other_later bytes later some other) it)

pub line_read : (limits : Limits) (bytes line rest : List ℕ) (words : List (List ℕ)) → (get_or bytes 0 0 ≡ 42 → ⊥) → IsRead (IsPlainLine limits.line) bytes line rest → AreWords line words → IsRead (IsCommand limits) bytes words rest
line_read limits bytes line rest words other read parts = record {
  text = read.text;
  means = inr (record {
    line = line;
    is = read.means;
    other = line_other bytes line (10 ∷ rest) other (read.is ∙ ap (λ (l : List ℕ). l ++ rest) read.means.is ∙ append_assoc line (10 ∷ []) rest);
    parts = parts;
  });
  is = read.is;
}
