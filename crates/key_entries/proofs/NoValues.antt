-- One empty value for each object.
use Rattle.std.proofs.Common.{◌≡◌, ◌<◌, ℕ, zero, suc, ◌+◌, List, [], ◌∷◌, ◌++◌, length, take, map, refl, ap, ◌∙◌, arith}

abbrev empties : List ℕ → List (List ℕ)
empties objects = map (λ x. []) objects

empties_step : (objects : List ℕ) (i : ℕ) → i < length objects → empties (take i objects) ++ [] ∷ [] ≡ empties (take (suc i) objects)
empties_step [] i within = absurd (omega arith)
empties_step (x ∷ objects) zero within = refl
empties_step (x ∷ objects) (suc i) within = ap (λ (l : List (List ℕ)). [] ∷ l) (empties_step objects i (omega (arith, within)))

-- one empty value more
pub empties_more : (objects : List ℕ) (i : ℕ) → i < length objects → map (λ (x : ℕ). []) (take i objects) ++ [] ∷ [] ≡ empties (take (i + 1) objects)
empties_more objects i within =
    let next : suc i ≡ i + 1 = omega arith in
    empties_step objects i within ∙ ap (λ (n : ℕ). empties (take n objects)) next
