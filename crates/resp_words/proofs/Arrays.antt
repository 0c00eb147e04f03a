-- Commands in the array form.
use Rattle.std.proofs.Common.{◌≡◌, ◌∙◌, refl, sym, ap, ◌≤◌, inl, inr, ℕ, List, [], ◌∷◌, ◌++◌, length, drop, get_or, replicate, arith, append_assoc, length-append}
use Rattle.std.proofs.lemmas.List.{length-replicate}
use Rattle.std.specs.Fmt.{decimal}
use Rattle.std.specs.List.{flat_map}
use Rattle.resp_words.specs.Commands.{AreBulks, BeginsOtherwise, IsArray, IsCommand, IsNumberLine, bulk, command_bytes, ended}
use Rattle.resp_words.specs.Reading.{Begins, IsFront, IsRead}
use Rattle.resp_words.specs.declared.limits.Limits.{Limits}
use Rattle.resp_words.proofs.Bulks.{empty_words}
use Rattle.resp_words.proofs.Leading.{Carries, Leads}
use Rattle.resp_words.proofs.Numbers.{number_cancel}

-- no line begins with a star
pub no_star : (line later bytes : List ℕ) → BeginsOtherwise line → 42 ∷ bytes ≡ (line ++ 10 ∷ []) ++ later → ⊥
no_star [] later bytes other same = omega (arith, ap (λ (l : List ℕ). get_or l 0 0) same)
no_star (b ∷ line) later bytes other same = other (sym (ap (λ (l : List ℕ). get_or l 0 0) same))

-- so a command that does is in the array form
pub is_array : (limits : Limits) (bytes text later : List ℕ) (words : List (List ℕ)) → 42 ∷ bytes ≡ text ++ later → IsCommand limits text words → IsArray limits text words
is_array limits bytes text later words is means = elim means [
  | inl array ↦ array
  | inr line ↦ absurd (no_star line.line later bytes line.other (is ∙ ap (λ (l : List ℕ). l ++ later) line.is.is))
]

-- what bytes behind a star are, where they go on as a command
record Behind (limits : Limits) (bytes : List ℕ) : Type 0 where
  pub words : List (List ℕ)
  pub later : List ℕ
  pub array : IsArray limits (command_bytes words) words
  pub is : bytes ≡ ended (decimal (length words)) ++ (flat_map bulk words ++ later)

behind_star : (limits : Limits) (bytes : List ℕ) → Begins (IsCommand limits) (42 ∷ bytes) → Behind limits bytes
behind_star limits bytes it =
    let array = is_array limits bytes it.text it.later it.meaning it.is it.means in
    record {
      words = it.meaning;
      later = it.later;
      array = record { is = refl; within = array.within };
      is = ap (λ (l : List ℕ). drop 1 l) (it.is ∙ ap (λ (l : List ℕ). l ++ it.later) array.is) ∙ append_assoc (ended (decimal (length it.meaning))) (flat_map bulk it.meaning) it.later;
    }

-- behind the star stands a count
pub star_leads : (limits : Limits) → Leads (42 ∷ []) (IsCommand limits) (IsNumberLine limits.words)
star_leads limits = record {
  on = λ bytes it.
      let behind = behind_star limits bytes it in
      record {
        text = ended (decimal (length behind.words));
        meaning = length behind.words;
        later = flat_map bulk behind.words ++ behind.later;
        means = record { is = refl; small = behind.array.within.count };
        is = behind.is;
      };
  ends = λ text n means.
      let nothing : List ℕ = [] in
      let words : List (List ℕ) = replicate n nothing in (
        flat_map bulk words,
        words,
        inl (record {
          is = ap (λ (l : List ℕ). 42 ∷ (l ++ flat_map bulk words)) (means.is ∙ ap (λ (k : ℕ). ended (decimal k)) (sym (length-replicate n nothing)));
          within = record { count = omega (arith, means.small, length-replicate n nothing); short = empty_words limits.bytes n };
        }),
      );
}

-- and behind the count so many words
pub count_carries : (limits : Limits) (n : ℕ) → n ≤ limits.words → Carries (42 ∷ ended (decimal n)) (IsCommand limits) (AreBulks n limits.bytes)
count_carries limits n small = record {
  on = λ bytes it.
      let behind = behind_star limits (ended (decimal n) ++ bytes) it in
      let both = number_cancel n (length behind.words) bytes (flat_map bulk behind.words ++ behind.later) (omega (arith, small, limits.small_words)) (omega (arith, behind.array.within.count, limits.small_words)) behind.is in
      record {
        text = flat_map bulk behind.words;
        meaning = behind.words;
        later = behind.later;
        means = record { is = refl; all = sym both.0; short = behind.array.within.short };
        is = both.1;
      };
  same = λ text words means. inl (record {
    is = ap (λ (l : List ℕ). 42 ∷ (ended (decimal n) ++ l)) means.is ∙ ap (λ (k : ℕ). 42 ∷ (ended (decimal k) ++ flat_map bulk words)) (sym means.all);
    within = record { count = omega (arith, means.all, small); short = means.short };
  });
}

pub count_behind : (most n : ℕ) (bytes behind : List ℕ) → IsRead (IsNumberLine most) bytes n behind → 42 ∷ bytes ≡ (42 ∷ ended (decimal n)) ++ behind
count_behind most n bytes behind read = ap (λ (l : List ℕ). 42 ∷ l) (read.is ∙ ap (λ (l : List ℕ). l ++ behind) read.means.is)

pub command_none : (limits : Limits) (bytes : List ℕ) → length bytes ≡ 0 → IsFront (IsCommand limits) bytes
command_none limits [] none = record {
  none = λ it. elim it.means [
    | inl array ↦ omega (arith, ap length (it.is ∙ ap (λ (l : List ℕ). l ++ it.later) array.is))
    | inr line ↦ omega (arith, ap length it.is, ap length line.is.is, length-append it.text it.later, length-append line.line (10 ∷ []))
  ];
  later = command_bytes [];
  meaning = [];
  means = inl (record { is = refl; within = record { count = omega arith; short = tt } });
}
command_none limits (b ∷ bytes) none = absurd (omega (arith, none))
