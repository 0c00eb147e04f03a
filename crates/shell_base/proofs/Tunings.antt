-- The marks that a tuning gives are those of its budget.
use Rattle.std.proofs.Common.{◌≡◌, ℕ, zero, suc, ◌+◌, ◌<◌, arith}
use Rattle.std.specs.Prelude.{◌/◌, ◌^◌, max, min}
use Rattle.std.proofs.lemmas.Nat.{div_below}
use Rattle.explain_core.specs.declared.marks.Marks.{Marks}

-- no more objects than 2 ^ 26 have so many bytes together
usual_fits : (cap : ℕ) → 2 ^ 26 / cap < 2 ^ 26 + 1
usual_fits zero = omega arith
usual_fits (suc c) = div_below (2 ^ 26) (suc c) (2 ^ 26 + 1) (omega arith) (omega arith)

pub usual_marks : (cap : ℕ)
    → ◌≡◌ {A = Marks} (record { dirty = min (max 64 (2 ^ 26 / cap)) (2 ^ 26); waiting = 2 ^ 28; most = max (min (max 64 (2 ^ 26 / cap)) (2 ^ 26)) 64 })
    (record { dirty = max 64 (2 ^ 26 / cap); waiting = 2 ^ 28; most = max 64 (max 64 (2 ^ 26 / cap)) })
usual_marks cap =
    let fits = usual_fits cap in
    let dirty : min (max 64 (2 ^ 26 / cap)) (2 ^ 26) ≡ max 64 (2 ^ 26 / cap) = omega (arith, fits) in
    let most : max (min (max 64 (2 ^ 26 / cap)) (2 ^ 26)) 64 ≡ max 64 (max 64 (2 ^ 26 / cap)) = omega (arith, fits) in
    λ i. record { dirty = dirty i; waiting = 2 ^ 28; most = most i }

pub least_marks : (cap : ℕ)
    → ◌≡◌ {A = Marks} (record { dirty = min (max 1 (2 ^ 20 / cap)) 1024; waiting = 1024; most = max (min (max 1 (2 ^ 20 / cap)) 1024) 64 })
    (record { dirty = max 1 (min 1024 (2 ^ 20 / cap)); waiting = 1024; most = max 64 (max 1 (min 1024 (2 ^ 20 / cap))) })
least_marks cap =
    let dirty : min (max 1 (2 ^ 20 / cap)) 1024 ≡ max 1 (min 1024 (2 ^ 20 / cap)) = omega arith in
    let most : max (min (max 1 (2 ^ 20 / cap)) 1024) 64 ≡ max 64 (max 1 (min 1024 (2 ^ 20 / cap))) = omega arith in
    λ i. record { dirty = dirty i; waiting = 1024; most = most i }
