-- The end of a line.
use Rattle.std.proofs.Common.{◌≡◌, ◌<◌, ◌∙◌, ap, refl, ℕ, List, [], ◌∷◌, ◌++◌, length, get_or, arith}
use Rattle.resp_words.specs.Commands.{IsLineEnd}
use Rattle.resp_words.specs.Reading.{Begins, IsBad, IsFront}

-- what bytes that begin with the end of a line are
pub end_stands : (bytes : List ℕ) → (begins : Begins IsLineEnd bytes) → bytes ≡ 13 ∷ 10 ∷ begins.later
end_stands bytes begins = begins.is ∙ ap (λ (l : List ℕ). l ++ begins.later) begins.means

pub ends_so : (bytes later : List ℕ) → bytes ≡ 13 ∷ 10 ∷ later → Begins IsLineEnd bytes
ends_so bytes later is = record { text = 13 ∷ 10 ∷ []; meaning = tt; later = later; means = refl; is = is }

pub end_front_none : (bytes : List ℕ) → length bytes ≡ 0 → IsFront IsLineEnd bytes
end_front_none [] none = record { none = λ begins. omega (arith, ap length (end_stands [] begins)); later = 13 ∷ 10 ∷ []; meaning = tt; means = refl }
end_front_none (b ∷ bytes) none = absurd (omega (arith, none))

pub end_front_one : (bytes : List ℕ) → length bytes ≡ 1 → get_or bytes 0 0 ≡ 13 → IsFront IsLineEnd bytes
end_front_one [] one first = absurd (omega (arith, one))
end_front_one (b ∷ []) one first = record {
  none = λ begins. omega (arith, ap length (end_stands (b ∷ []) begins));
  later = 10 ∷ [];
  meaning = tt;
  means = ap (λ (x : ℕ). x ∷ 10 ∷ []) first;
}
end_front_one (b ∷ c ∷ bytes) one first = absurd (omega (arith, one))

-- some bytes that are not the end of a line
pub some_behind : (bytes : List ℕ) → IsBad IsLineEnd bytes → 0 < length bytes
some_behind [] bad = absurd (bad (13 ∷ 10 ∷ []) (ends_so (13 ∷ 10 ∷ []) [] refl))
some_behind (b ∷ bytes) bad = omega arith
