-- Rising objects without the one at a place are all that differ from it.
use Rattle.std.proofs.Common.{◌≡◌, ◌∙◌, sym, ap, ℕ, zero, suc, ◌<◌, List, [], ◌∷◌, length, remove, get_or, refl, arith}
use Rattle.std.specs.Prelude.{◌==◌, not}
use Rattle.std.specs.List.Sorted.{IsStrictlyIncreasing}
use Rattle.std.proofs.lemmas.Bool.{eq-eqb, ne_eqb, not_from_true, not_from_false, cond-true, cond-false}
use Rattle.std.proofs.lemmas.List.Kept.{AllPairs-from_increasing}
use Rattle.identity_writes.specs.Plan.{without}

all_stay : (x : ℕ) (ys : List ℕ) → ((k : ℕ) → k < length ys → x < get_or ys k x) → without x ys ≡ ys
all_stay x [] above = refl
all_stay x (y ∷ ys) above =
    let here = above 0 (omega arith) in
    cond-true (not (y == x)) (y ∷ without x ys) (without x ys) (not_from_false (y == x) (ne_eqb y x (λ same. absurd (omega (arith, here, same)))))
    ∙ ap (λ (l : List ℕ). y ∷ l) (all_stay x ys (λ k lt. above (suc k) (omega (arith, lt))))

others_of : (ys : List ℕ) (place x : ℕ) → ((i j : ℕ) → i < j → j < length ys → get_or ys i x < get_or ys j x) → place < length ys → x ≡ get_or ys place x → remove ys place ≡ without x ys
others_of [] place x rising lt here = absurd (omega (arith, lt))
others_of (y ∷ ys) zero x rising lt here =
    sym (cond-false (not (y == x)) (y ∷ without x ys) (without x ys) (not_from_true (y == x) (eq-eqb y x (sym here)))
    ∙ all_stay x ys (λ k low. let up = rising 0 (suc k) (omega arith) (omega (arith, low)) in omega (arith, up, here)))
others_of (y ∷ ys) (suc place) x rising lt here =
    let up = rising 0 (suc place) (omega arith) lt in
    ap (λ (l : List ℕ). y ∷ l) (others_of ys place x (λ i j low high. rising (suc i) (suc j) (omega (arith, low)) (omega (arith, high))) (omega (arith, lt)) here)
    ∙ sym (cond-true (not (y == x)) (y ∷ without x ys) (without x ys) (not_from_false (y == x) (ne_eqb y x (λ same. absurd (omega (arith, up, here, same))))))

pub others_are : (objects : List ℕ) (place x : ℕ) → IsStrictlyIncreasing objects → place < length objects → x ≡ get_or objects place x → remove objects place ≡ without x objects
others_are objects place x rising lt here = others_of objects place x (λ i j low high. AllPairs-from_increasing objects rising i j x low high) lt here
