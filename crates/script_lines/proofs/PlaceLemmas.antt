-- The first place of a byte.
use Rattle.std.proofs.Common.{◌≡◌, ◌+◌, ◌≤◌, ◌<◌, ◌++◌, Some, None, List, ℕ, [], ◌∷◌, suc, length, take, drop, refl, sym, ◌∙◌, ap, subst, arith, Bool, true, false, inl, inr, position, ◌==◌, cond, add-one}
use Rattle.std.proofs.lemmas.Bool.Decides.{nat_tests}
use Rattle.std.proofs.lemmas.Bool.{cases_eq}
use Rattle.std.proofs.lemmas.List.{take_all}
use Rattle.std.specs.List.{position_or_len}
use Rattle.script_lines.specs.Reading.{IsPlain}

-- how many bytes stand before the first such byte
abbrev pub place_of : ℕ → List ℕ → ℕ
place_of mark bytes = position_or_len (λ b. b == mark) bytes

pub not_here : (mark b : ℕ) (bytes : List ℕ) → (b == mark) ≡ false → place_of mark (b ∷ bytes) ≡ suc (place_of mark bytes)
not_here mark b bytes is = grind (arith, nat_tests, is)

pub is_here : (mark b : ℕ) (bytes : List ℕ) → (b == mark) ≡ true → place_of mark (b ∷ bytes) ≡ 0
is_here mark b bytes is = grind (arith, nat_tests, is)

at_mark : (mark : ℕ) (text : List ℕ) (i : ℕ) → place_of mark text ≡ i → i < length text → text ≡ take i text ++ mark ∷ drop (suc i) text
at_mark mark [] i is within = absurd (omega arith)
at_mark mark (b ∷ text) i is within = elim (cases_eq b mark) [
  | inl here ↦ let zero_is : 0 ≡ i = sym (is_here mark b text (grind (arith, nat_tests, here))) ∙ is in
      subst (λ (k : ℕ). b ∷ text ≡ take k (b ∷ text) ++ mark ∷ drop (suc k) (b ∷ text)) zero_is (ap (λ (x : ℕ). x ∷ text) here)
  | inr other ↦ let next : suc (place_of mark text) ≡ i = sym (not_here mark b text (grind (arith, nat_tests, other))) ∙ is in
      subst (λ (k : ℕ). b ∷ text ≡ take k (b ∷ text) ++ mark ∷ drop (suc k) (b ∷ text)) next (ap (λ (l : List ℕ). b ∷ l) (at_mark mark text _ refl (omega (arith, next))))
]

pub split_some : (b : Bool) (n i : ℕ) → (cond b (Some n) None) ≡ Some i → (n ≡ i) × (b ≡ true)
split_some true n i is = (cc, refl)
split_some false n i is = absurd cc

pub split_none : (b : Bool) (n : ℕ) → (cond b (Some n) None) ≡ None → b ≡ false
split_none true n is = absurd cc
split_none false n is = refl

some_place : (mark : ℕ) (text : List ℕ) (i : ℕ) → position (λ b. b == mark) text ≡ Some i → (place_of mark text ≡ i) × (i < length text)
some_place mark text i is = let both = split_some _ _ _ is in (both.0, grind (arith, nat_tests, both.0, both.1))

-- the text has the byte there
pub split_at : (mark : ℕ) (text : List ℕ) (i : ℕ) → position (λ b. b == mark) text ≡ Some i → text ≡ take i text ++ mark ∷ drop (i + 1) text
split_at mark text i is = let place = some_place mark text i is in rw add-one (at_mark mark text i place.0 place.1)

plain_before : (text : List ℕ) → IsPlain (take (place_of 10 text) text)
plain_before [] = tt
plain_before (b ∷ text) = elim (cases_eq b 10) [
  | inl here ↦ subst (λ (k : ℕ). IsPlain (take k (b ∷ text))) (sym (is_here 10 b text (grind (arith, nat_tests, here)))) tt
  | inr other ↦ subst (λ (k : ℕ). IsPlain (take k (b ∷ text))) (sym (not_here 10 b text (grind (arith, nat_tests, other)))) (other, plain_before text)
]

-- before the first newline there is none
pub plain_front : (text : List ℕ) (i : ℕ) → position (λ b. b == 10) text ≡ Some i → IsPlain (take i text)
plain_front text i is = subst (λ (k : ℕ). IsPlain (take k text)) (some_place 10 text i is).0 (plain_before text)

pub plain_all : (text : List ℕ) → position (λ b. b == 10) text ≡ None → IsPlain text
plain_all text is =
    let past : length text ≤ place_of 10 text = let none = split_none _ _ is in grind (arith, nat_tests, none) in
    subst IsPlain (take_all (place_of 10 text) text past) (plain_before text)
