-- Words in the array form.
use Rattle.std.proofs.Common.{◌≡◌, ◌∙◌, refl, sym, ap, ◌+◌, ◌-◌, ◌^◌, ◌≤◌, ◌<◌, ℕ, zero, suc, List, [], ◌∷◌, ◌++◌, length, drop, take, get_or, replicate, arith, append_assoc, length-append}
use Rattle.std.proofs.Math.Seq.{drop-append_seam, take-append_seam}
use Rattle.std.proofs.lemmas.List.{append-nil, length-replicate}
use Rattle.std.specs.Fmt.{decimal}
use Rattle.std.specs.List.{AllByRecursion, flat_map}
use Rattle.resp_words.specs.Commands.{AreBulks, IsBulk, IsEnded, IsLineEnd, IsNumberLine, IsShort, bulk, ended}
use Rattle.resp_words.specs.Reading.{Begins, IsBad, IsFront, IsRead}
use Rattle.resp_words.proofs.Ends.{ends_so}
use Rattle.resp_words.proofs.Leading.{Carries, Leads}
use Rattle.resp_words.proofs.Numbers.{number_cancel}

-- texts of one length, each with the end of its line
pub ended_cancel : (v w x y : List ℕ) → length v ≡ length w → ended v ++ x ≡ ended w ++ y → (v ≡ w) × (x ≡ y)
ended_cancel v w x y long same =
    let whole : v ++ 13 ∷ 10 ∷ x ≡ w ++ 13 ∷ 10 ∷ y = sym (append_assoc v (13 ∷ 10 ∷ []) x) ∙ same ∙ append_assoc w (13 ∷ 10 ∷ []) y in
    let first : v ≡ w = sym (take-append_seam v (13 ∷ 10 ∷ x)) ∙ (λ i. take (long i) (whole i)) ∙ take-append_seam w (13 ∷ 10 ∷ y) in
    let rest : 13 ∷ 10 ∷ x ≡ 13 ∷ 10 ∷ y = sym (drop-append_seam v (13 ∷ 10 ∷ x)) ∙ (λ i. drop (long i) (whole i)) ∙ drop-append_seam w (13 ∷ 10 ∷ y) in
    (first, ap (λ (l : List ℕ). drop 2 l) rest)

-- bytes begin with one word
pub bulk_cancel : (most : ℕ) (v w x y : List ℕ) → most < 2 ^ 32 → IsShort most v → IsShort most w → bulk v ++ x ≡ bulk w ++ y → (v ≡ w) × (x ≡ y)
bulk_cancel most v w x y low short_v short_w same =
    let behind : ended (decimal (length v)) ++ (ended v ++ x) ≡ ended (decimal (length w)) ++ (ended w ++ y) =
    sym (append_assoc (ended (decimal (length v))) (ended v) x) ∙ ap (λ (l : List ℕ). drop 1 l) same ∙ append_assoc (ended (decimal (length w))) (ended w) y in
    let both = number_cancel (length v) (length w) (ended v ++ x) (ended w ++ y) (omega (arith, short_v, low)) (omega (arith, short_w, low)) behind in
    ended_cancel v w x y both.0 both.1

-- fewer bytes than a text has
pub few_front : (count : ℕ) (bytes : List ℕ) → length bytes < count → IsFront (IsEnded count) bytes
few_front count bytes few =
    let zero_byte : ℕ = 0 in
    record {
      none = λ it. omega (arith, few, it.means.long, ap length it.is, ap length it.means.is, length-append it.text it.later, length-append it.meaning (13 ∷ 10 ∷ []));
      later = replicate (count - length bytes) zero_byte ++ 13 ∷ 10 ∷ [];
      meaning = bytes ++ replicate (count - length bytes) zero_byte;
      means = record {
        is = sym (append_assoc bytes (replicate (count - length bytes) zero_byte) (13 ∷ 10 ∷ []));
        long = omega (arith, few, length-append bytes (replicate (count - length bytes) zero_byte), length-replicate (count - length bytes) zero_byte);
      };
    }

-- behind a text stands the end of its line
pub text_leads : (count : ℕ) (word : List ℕ) → length word ≡ count → Leads word (IsEnded count) IsLineEnd
text_leads count word long = record {
  on = λ bytes it.
      let whole : word ++ bytes ≡ it.meaning ++ 13 ∷ 10 ∷ it.later = it.is ∙ ap (λ (l : List ℕ). l ++ it.later) it.means.is ∙ append_assoc it.meaning (13 ∷ 10 ∷ []) it.later in
      let lengths : length word ≡ length it.meaning = long ∙ sym it.means.long in
      ends_so bytes it.later (sym (drop-append_seam word bytes) ∙ (λ i. drop (lengths i) (whole i)) ∙ drop-append_seam it.meaning (13 ∷ 10 ∷ it.later));
  ends = λ text nothing is. ([], word, record { is = ap (λ (l : List ℕ). word ++ l) (append-nil text ∙ is); long = long });
}

pub text_read : (count : ℕ) (word bytes behind rest : List ℕ) → length word ≡ count → bytes ≡ word ++ behind → IsRead IsLineEnd behind tt rest → IsRead (IsEnded count) bytes word rest
text_read count word bytes behind rest long is read = record {
  text = ended word;
  means = record { is = refl; long = long };
  is = is ∙ ap (λ (l : List ℕ). word ++ l) (read.is ∙ ap (λ (l : List ℕ). l ++ rest) read.means) ∙ sym (append_assoc word (13 ∷ 10 ∷ []) rest);
}

-- what bytes that begin with a word are
pub bulk_stands : (most : ℕ) (bytes : List ℕ) (it : Begins (IsBulk most) bytes) → bulk it.meaning ++ it.later ≡ bytes
bulk_stands most bytes it = sym (it.is ∙ ap (λ (l : List ℕ). l ++ it.later) it.means.is)

pub bulk_none : (most : ℕ) (bytes : List ℕ) → length bytes ≡ 0 → IsFront (IsBulk most) bytes
bulk_none most [] none = record {
  none = λ it. omega (arith, ap length (bulk_stands most [] it));
  later = bulk [];
  meaning = [];
  means = record { is = refl; short = omega arith };
}
bulk_none most (b ∷ bytes) none = absurd (omega (arith, none))

pub no_dollar : (most first : ℕ) (bytes rest : List ℕ) → bytes ≡ first ∷ rest → (first ≡ 36 → ⊥) → IsBad (IsBulk most) bytes
no_dollar most first bytes rest is other later it =
    other (sym (ap (λ (l : List ℕ). get_or l 0 0) (bulk_stands most (bytes ++ later) it ∙ ap (λ (l : List ℕ). l ++ later) is)))

-- behind the dollar sign stands a length
pub dollar_leads : (most : ℕ) → Leads (36 ∷ []) (IsBulk most) (IsNumberLine most)
dollar_leads most = record {
  on = λ bytes it. record {
    text = ended (decimal (length it.meaning));
    meaning = length it.meaning;
    later = ended it.meaning ++ it.later;
    means = record { is = refl; small = it.means.short };
    is = sym (ap (λ (l : List ℕ). drop 1 l) (bulk_stands most (36 ∷ bytes) it)) ∙ append_assoc (ended (decimal (length it.meaning))) (ended it.meaning) it.later;
  };
  ends = λ text n means.
      let zero_byte : ℕ = 0 in
      let word : List ℕ = replicate n zero_byte in (
        ended word,
        word,
        record {
          is = ap (λ (l : List ℕ). 36 ∷ (l ++ ended word)) (means.is ∙ ap (λ (k : ℕ). ended (decimal k)) (sym (length-replicate n zero_byte)));
          short = omega (arith, means.small, length-replicate n zero_byte);
        },
      );
}

-- and behind the length so many bytes
pub length_carries : (most n : ℕ) → most < 2 ^ 32 → n ≤ most → Carries (36 ∷ ended (decimal n)) (IsBulk most) (IsEnded n)
length_carries most n low small = record {
  on = λ bytes it.
      let behind : ended (decimal n) ++ bytes ≡ ended (decimal (length it.meaning)) ++ (ended it.meaning ++ it.later) =
      sym (ap (λ (l : List ℕ). drop 1 l) (bulk_stands most (36 ∷ (ended (decimal n) ++ bytes)) it)) ∙ append_assoc (ended (decimal (length it.meaning))) (ended it.meaning) it.later in
      let both = number_cancel n (length it.meaning) bytes (ended it.meaning ++ it.later) (omega (arith, small, low)) (omega (arith, it.means.short, low)) behind in
      record { text = ended it.meaning; meaning = it.meaning; later = it.later; means = record { is = refl; long = sym both.0 }; is = both.1 };
  same = λ text word means. record {
    is = ap (λ (l : List ℕ). 36 ∷ (ended (decimal n) ++ l)) means.is ∙ ap (λ (k : ℕ). 36 ∷ (ended (decimal k) ++ ended word)) (sym means.long);
    short = omega (arith, means.long, small);
  };
}

pub bulks_append : (ws : List (List ℕ)) (others : List (List ℕ)) → flat_map bulk (ws ++ others) ≡ flat_map bulk ws ++ flat_map bulk others
bulks_append [] others = refl
bulks_append (w ∷ ws) others = ap (λ (l : List ℕ). bulk w ++ l) (bulks_append ws others) ∙ sym (append_assoc (bulk w) (flat_map bulk ws) (flat_map bulk others))

pub short_append : (most : ℕ) (ws others : List (List ℕ)) → AllByRecursion (IsShort most) ws → AllByRecursion (IsShort most) others → AllByRecursion (IsShort most) (ws ++ others)
short_append most [] others p q = q
short_append most (w ∷ ws) others p q = (p.0, short_append most ws others p.1 q)

pub empty_words : (most n : ℕ) → AllByRecursion (IsShort most) (replicate n [])
empty_words most zero = tt
empty_words most (suc n) = (omega arith, empty_words most n)

-- behind the first words of an array stands the next one
next_stands : (most : ℕ) (ws cs : List (List ℕ)) (bytes later : List ℕ) → most < 2 ^ 32 → AllByRecursion (IsShort most) ws → AllByRecursion (IsShort most) cs → length ws < length cs
    → flat_map bulk ws ++ bytes ≡ flat_map bulk cs ++ later → Begins (IsBulk most) bytes
next_stands most ws [] bytes later low p q fewer same = absurd (omega (arith, fewer))
next_stands most [] (c ∷ cs) bytes later low p q fewer same = record {
  text = bulk c;
  meaning = c;
  later = flat_map bulk cs ++ later;
  means = record { is = refl; short = q.0 };
  is = same ∙ append_assoc (bulk c) (flat_map bulk cs) later;
}
next_stands most (w ∷ ws) (c ∷ cs) bytes later low p q fewer same =
    let both = bulk_cancel most w c (flat_map bulk ws ++ bytes) (flat_map bulk cs ++ later) low p.0 q.0
    (sym (append_assoc (bulk w) (flat_map bulk ws) bytes) ∙ same ∙ append_assoc (bulk c) (flat_map bulk cs) later) in
    next_stands most ws cs bytes later low p.1 q.1 (omega (arith, fewer)) both.1

pub bulks_lead : (count most : ℕ) (ws : List (List ℕ)) → most < 2 ^ 32 → AllByRecursion (IsShort most) ws → length ws < count → Leads (flat_map bulk ws) (AreBulks count most) (IsBulk most)
bulks_lead count most ws low short fewer =
    let left : ℕ = count - (length ws + 1) in
    let nothing : List ℕ = [] in
    let others : List (List ℕ) = replicate left nothing in
    record {
      on = λ bytes it. next_stands most ws it.meaning bytes it.later low short it.means.short (omega (arith, fewer, it.means.all)) (it.is ∙ ap (λ (l : List ℕ). l ++ it.later) it.means.is);
      ends = λ text word means. (
        flat_map bulk others,
        ws ++ word ∷ others,
        record {
          is = ap (λ (l : List ℕ). flat_map bulk ws ++ (l ++ flat_map bulk others)) means.is ∙ sym (bulks_append ws (word ∷ others));
          all = omega (arith, fewer, length-append ws (word ∷ others), length-replicate left nothing);
          short = short_append most ws (word ∷ others) short (means.short, empty_words most left);
        },
      );
    }

-- one word more
pub one_more : (ws : List (List ℕ)) (word bytes rest behind : List ℕ) (most : ℕ) → bytes ≡ flat_map bulk ws ++ rest → IsRead (IsBulk most) rest word behind → bytes ≡ flat_map bulk (ws ++ word ∷ []) ++ behind
one_more ws word bytes rest behind most is read =
    let one : flat_map bulk (word ∷ []) ≡ bulk word = append-nil (bulk word) in
    is ∙ ap (λ (l : List ℕ). flat_map bulk ws ++ l) (read.is ∙ ap (λ (l : List ℕ). l ++ behind) (read.means.is ∙ sym one)) ∙ sym (append_assoc (flat_map bulk ws) (flat_map bulk (word ∷ [])) behind)
    ∙ ap (λ (l : List ℕ). l ++ behind) (sym (bulks_append ws (word ∷ [])))

pub length_behind : (most n : ℕ) (bytes rest behind : List ℕ) → bytes ≡ 36 ∷ rest → IsRead (IsNumberLine most) rest n behind → bytes ≡ (36 ∷ ended (decimal n)) ++ behind
length_behind most n bytes rest behind is read = is ∙ ap (λ (l : List ℕ). 36 ∷ l) (read.is ∙ ap (λ (l : List ℕ). l ++ behind) read.means.is)
