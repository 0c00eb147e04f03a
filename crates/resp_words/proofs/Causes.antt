-- Bytes are bad for one cause.
use Rattle.std.proofs.Common.{◌≡◌, ◌≢◌, ◌∙◌, refl, sym, ap, subst, ◌^◌, ◌<◌, ◌≤◌, false, ℕ, List, [], ◌∷◌, ◌++◌, length, drop, get_or, arith, append_assoc, length-append}
use Rattle.std.proofs.lemmas.List.{append-nil}
use Rattle.std.specs.Fmt.{decimal}
use Rattle.std.specs.List.{AllByRecursion, flat_map}
use Rattle.resp_words.specs.Commands.{BeginsOtherwise, HasCause, IsBulk, IsInArray, IsInLine, IsNumberLine, IsShort, bulk, ended}
use Rattle.resp_words.specs.Reading.{Begins, IsBad}
use Rattle.resp_words.specs.Runs.{is_plain}
use Rattle.resp_words.specs.declared.limits.Limits.{Limits}
use Rattle.resp_words.specs.declared.protocol_error.ProtocolError.{ProtocolError}
use Rattle.resp_words.specs.declared.protocol_error.ProtocolError.TheVariants.{BadCount, NoDollar, BadLength, LongLine, BadByte}
use Rattle.resp_words.proofs.Bulks.{bulk_cancel, no_dollar}
use Rattle.resp_words.proofs.Numbers.{number_cancel}
use Rattle.resp_words.proofs.Runs.{run_goes_on}

no_word_stands : (most : ℕ) (word rest bytes : List ℕ) → IsShort most word → bytes ≡ bulk word ++ rest → IsBad (IsBulk most) bytes → ⊥
no_word_stands most word rest bytes short is bad =
    bad [] (record { text = bulk word; meaning = word; later = rest; means = record { is = refl; short = short }; is = append-nil bytes ∙ is })

-- the words before what is bad are the same
same_place : (most : ℕ) (vs ws : List (List ℕ)) (x y : List ℕ) → most < 2 ^ 32 → AllByRecursion (IsShort most) vs → AllByRecursion (IsShort most) ws → IsBad (IsBulk most) x → IsBad (IsBulk most) y
    → flat_map bulk vs ++ x ≡ flat_map bulk ws ++ y → x ≡ y
same_place most [] [] x y low p q bad_x bad_y same = same
same_place most [] (w ∷ ws) x y low p q bad_x bad_y same = absurd (no_word_stands most w (flat_map bulk ws ++ y) x q.0 (same ∙ append_assoc (bulk w) (flat_map bulk ws) y) bad_x)
same_place most (v ∷ vs) [] x y low p q bad_x bad_y same = absurd (no_word_stands most v (flat_map bulk vs ++ x) y p.0 (sym same ∙ append_assoc (bulk v) (flat_map bulk vs) x) bad_y)
same_place most (v ∷ vs) (w ∷ ws) x y low p q bad_x bad_y same =
    let both = bulk_cancel most v w (flat_map bulk vs ++ x) (flat_map bulk ws ++ y) low p.0 q.0 (sym (append_assoc (bulk v) (flat_map bulk vs) x) ∙ same ∙ append_assoc (bulk w) (flat_map bulk ws) y) in
    same_place most vs ws x y low p.1 q.1 bad_x bad_y both.1

in_array_same : (limits : Limits) (bytes x y : List ℕ) → IsInArray limits bytes x → IsInArray limits bytes y → IsBad (IsBulk limits.bytes) x → IsBad (IsBulk limits.bytes) y → x ≡ y
in_array_same limits bytes x y p q bad_x bad_y =
    let behind = number_cancel p.count q.count (flat_map bulk p.words ++ x) (flat_map bulk q.words ++ y) (omega (arith, p.small, limits.small_words)) (omega (arith, q.small, limits.small_words))
    (ap (λ (l : List ℕ). drop 1 l) (sym p.is ∙ q.is)) in
    same_place limits.bytes p.words q.words x y limits.small_bytes p.short q.short bad_x bad_y behind.1

bad_first : (most got : ℕ) (rest : List ℕ) → got ≢ 36 → IsBad (IsBulk most) (got ∷ rest)
bad_first most got rest other = no_dollar most got (got ∷ rest) rest refl other

-- a count stands where none is bad
count_stands : (limits : Limits) (bytes rest behind : List ℕ) → bytes ≡ 42 ∷ rest → IsBad (IsNumberLine limits.words) rest → IsInArray limits bytes behind → ⊥
count_stands limits bytes rest behind is bad it = bad [] (record {
  text = ended (decimal it.count);
  meaning = it.count;
  later = flat_map bulk it.words ++ behind;
  means = record { is = refl; small = it.small };
  is = append-nil rest ∙ ap (λ (l : List ℕ). drop 1 l) (sym is ∙ it.is);
})

star_or_not : (bytes rest : List ℕ) → bytes ≡ 42 ∷ rest → BeginsOtherwise bytes → ⊥
star_or_not [] rest is other = omega (arith, ap length is)
star_or_not (b ∷ bytes) rest is other = other (ap (λ (l : List ℕ). get_or l 0 0) is)

array_first : (limits : Limits) (bytes behind : List ℕ) → IsInArray limits bytes behind → bytes ≡ 42 ∷ drop 1 bytes
array_first limits bytes behind it = it.is ∙ ap (λ (l : List ℕ). 42 ∷ l) (sym (ap (λ (l : List ℕ). drop 1 l) it.is))

long_or_bad : (limits : Limits) (bytes line rest before behind : List ℕ) (byte : ℕ) → IsInLine bytes line rest → limits.line ≤ length line → IsInLine bytes before (byte ∷ behind) → is_plain byte ≡ false → length before < limits.line → ⊥
long_or_bad limits bytes line rest before behind byte p long q stop short =
    let more = run_goes_on is_plain line before rest behind byte p.plain stop (sym p.is ∙ q.is) in
    omega (arith, long, short, ap length more.1, length-append line more.0)

pub one_cause : (limits : Limits) (bytes : List ℕ) (e f : ProtocolError) → HasCause limits bytes e → HasCause limits bytes f → e ≡ f
one_cause limits bytes BadCount BadCount p q = refl
one_cause limits bytes BadCount (NoDollar g) p q = absurd (count_stands limits bytes p.0 (g ∷ q.0) p.1 p.2 q.1)
one_cause limits bytes BadCount BadLength p q = absurd (count_stands limits bytes p.0 (36 ∷ q.0) p.1 p.2 q.1)
one_cause limits bytes (NoDollar g) BadCount p q = absurd (count_stands limits bytes q.0 (g ∷ p.0) q.1 q.2 p.1)
one_cause limits bytes (NoDollar g) (NoDollar h) p q =
    let same = in_array_same limits bytes (g ∷ p.0) (h ∷ q.0) p.1 q.1 (bad_first limits.bytes g p.0 p.2) (bad_first limits.bytes h q.0 q.2) in
    ap NoDollar (ap (λ (l : List ℕ). get_or l 0 0) same)
one_cause limits bytes (NoDollar g) BadLength p q = absurd (p.2 (ap (λ (l : List ℕ). get_or l 0 0) (in_array_same limits bytes (g ∷ p.0) (36 ∷ q.0) p.1 q.1 (bad_first limits.bytes g p.0 p.2) q.2)))
one_cause limits bytes BadLength BadCount p q = absurd (count_stands limits bytes q.0 (36 ∷ p.0) q.1 q.2 p.1)
one_cause limits bytes BadLength (NoDollar h) p q = absurd (q.2 (ap (λ (l : List ℕ). get_or l 0 0) (in_array_same limits bytes (h ∷ q.0) (36 ∷ p.0) q.1 p.1 (bad_first limits.bytes h q.0 q.2) p.2)))
one_cause limits bytes BadLength BadLength p q = refl
one_cause limits bytes LongLine LongLine p q = refl
one_cause limits bytes LongLine BadByte p q = absurd (long_or_bad limits bytes p.0 p.1 q.0 q.2 q.1 p.2 p.3 q.3 q.5 q.6)
one_cause limits bytes BadByte LongLine p q = absurd (long_or_bad limits bytes q.0 q.1 p.0 p.2 p.1 q.2 q.3 p.3 p.5 p.6)
one_cause limits bytes BadByte BadByte p q = refl
one_cause limits bytes BadCount LongLine p q = absurd (star_or_not bytes p.0 p.1 q.2.other)
one_cause limits bytes BadCount BadByte p q = absurd (star_or_not bytes p.0 p.1 q.3.other)
one_cause limits bytes (NoDollar g) LongLine p q = absurd (star_or_not bytes (drop 1 bytes) (array_first limits bytes (g ∷ p.0) p.1) q.2.other)
one_cause limits bytes (NoDollar g) BadByte p q = absurd (star_or_not bytes (drop 1 bytes) (array_first limits bytes (g ∷ p.0) p.1) q.3.other)
one_cause limits bytes BadLength LongLine p q = absurd (star_or_not bytes (drop 1 bytes) (array_first limits bytes (36 ∷ p.0) p.1) q.2.other)
one_cause limits bytes BadLength BadByte p q = absurd (star_or_not bytes (drop 1 bytes) (array_first limits bytes (36 ∷ p.0) p.1) q.3.other)
one_cause limits bytes LongLine BadCount p q = absurd (star_or_not bytes q.0 q.1 p.2.other)
one_cause limits bytes BadByte BadCount p q = absurd (star_or_not bytes q.0 q.1 p.3.other)
one_cause limits bytes LongLine (NoDollar g) p q = absurd (star_or_not bytes (drop 1 bytes) (array_first limits bytes (g ∷ q.0) q.1) p.2.other)
one_cause limits bytes BadByte (NoDollar g) p q = absurd (star_or_not bytes (drop 1 bytes) (array_first limits bytes (g ∷ q.0) q.1) p.3.other)
one_cause limits bytes LongLine BadLength p q = absurd (star_or_not bytes (drop 1 bytes) (array_first limits bytes (36 ∷ q.0) q.1) p.2.other)
one_cause limits bytes BadByte BadLength p q = absurd (star_or_not bytes (drop 1 bytes) (array_first limits bytes (36 ∷ q.0) q.1) p.3.other)
