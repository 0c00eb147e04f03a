-- What comes back of a slice of a whole list.
use Rattle.std.proofs.Common.{◌≡◌, ◌∙◌, ap, ℕ, zero, suc, ◌≤◌, List, [], ◌∷◌, ◌++◌, take, drop, append-nil, length, refl, arith}
use Rattle.std.proofs.lemmas.List.{take_all}

drop-past : {X : Type 0} (n : ℕ) (xs : List X) → length xs ≤ n → drop n xs ≡ []
drop-past zero [] le = refl
drop-past (suc n) [] le = refl
drop-past zero (x ∷ xs) le = absurd (omega (arith, le))
drop-past (suc n) (x ∷ xs) le = drop-past n xs (omega (arith, le))

-- a slice of all of a list that is written whole
pub back-is : {X : Type 0} (old new : List X) (n : ℕ) → length new ≡ length old → n ≡ length old → take n (new ++ drop (length new) old) ≡ new
back-is {X} old new n same e =
    ap (λ (ys : List X). take n (new ++ ys)) (drop-past (length new) old (omega (arith, same)))
    ∙ ap (λ (ys : List X). take n ys) (append-nil new)
    ∙ take_all n new (omega (arith, same, e))
