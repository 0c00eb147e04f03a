-- Numbers in bytes.
use Rattle.std.proofs.Common.{◌≡◌, ◌<◌, ◌≤◌, ◌+◌, ℕ, zero, suc, List, get_or, refl, arith}
use Rattle.byteorder.specs.Endian.{little_from}

-- a number is made of the bytes at its places
pub number_same : (i n : ℕ) (xs ys : List ℕ) → ((k : ℕ) → i ≤ k → k < i + n → get_or xs k 0 ≡ get_or ys k 0) → little_from i n xs ≡ little_from i n ys
number_same i zero xs ys same = refl
number_same i (suc n) xs ys same =
    let here = same i (omega arith) (omega arith) in
    let rest = number_same (suc i) n xs ys (λ k low high. same k (omega arith) (omega arith)) in
    omega (arith, here, rest)
