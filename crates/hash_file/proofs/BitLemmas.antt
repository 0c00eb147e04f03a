-- The low bits of numbers.
use Rattle.std.proofs.Common.{◌≡◌, ◌≤◌, ◌<◌, ℕ, zero, suc, ◌/◌, ◌%◌, ◌^◌, ◌==◌, refl, sym, ap, ◌∙◌, arith, inl, inr, true≢false}
use Rattle.std.proofs.Math.Nat.{mod-lt, mod-eq_of_lt, pow-succ'}
use Rattle.hash_ops.specs.Hash.{has_bit}
use Rattle.hash_ops.specs.RenameLaws.{below_or_not}

pub power_some : (g : ℕ) → 0 < 2 ^ g
power_some zero = omega arith
power_some (suc g) = omega (arith, pow-succ' 2 g, power_some g)

-- of one bit more
low_step : (p n : ℕ) → p < 6 → n % 2 ^ suc p % 2 ^ p ≡ n % 2 ^ p
low_step zero n few = omega arith
low_step (suc zero) n few = omega arith
low_step (suc (suc zero)) n few = omega arith
low_step (suc (suc (suc zero))) n few = omega arith
low_step (suc (suc (suc (suc zero)))) n few = omega arith
low_step (suc (suc (suc (suc (suc zero))))) n few = omega arith
low_step (suc (suc (suc (suc (suc (suc p)))))) n few = absurd (omega (arith, few))

-- of more bits
pub low_of_low : (p g n : ℕ) → p ≤ g → g ≤ 6 → n % 2 ^ g % 2 ^ p ≡ n % 2 ^ p
low_of_low zero zero n below few = omega arith
low_of_low (suc p) zero n below few = absurd (omega (arith, below))
low_of_low p (suc g) n below few =
    elim (below_or_not p (suc g)) [
      | inl less ↦
          sym (low_of_low p g (n % 2 ^ suc g) (omega (arith, less)) (omega (arith, few))) ∙ ap (λ (k : ℕ). k % 2 ^ p) (low_step g n (omega (arith, few)))
          ∙ low_of_low p g n (omega (arith, less)) (omega (arith, few))
      | inr more ↦
          let same : suc g ≡ p = omega (arith, below, more) in
          ap (λ (k : ℕ). n % 2 ^ suc g % 2 ^ k) (sym same) ∙ mod-eq_of_lt (mod-lt n (power_some (suc g))) ∙ ap (λ (k : ℕ). n % 2 ^ k) same
    ]

-- what the low bits tell of one bit fewer, and of the last bit
pub bits_tell : (p i j : ℕ) → p < 6 → j % 2 ^ suc p ≡ i % 2 ^ suc p → (j % 2 ^ p ≡ i % 2 ^ p) × (j / 2 ^ p % 2 ≡ i / 2 ^ p % 2)
bits_tell zero i j few same = (omega (arith, same), omega (arith, same))
bits_tell (suc zero) i j few same = (omega (arith, same), omega (arith, same))
bits_tell (suc (suc zero)) i j few same = (omega (arith, same), omega (arith, same))
bits_tell (suc (suc (suc zero))) i j few same = (omega (arith, same), omega (arith, same))
bits_tell (suc (suc (suc (suc zero)))) i j few same = (omega (arith, same), omega (arith, same))
bits_tell (suc (suc (suc (suc (suc zero))))) i j few same = (omega (arith, same), omega (arith, same))
bits_tell (suc (suc (suc (suc (suc (suc p)))))) i j few same = absurd (omega (arith, few))

pub bits_make : (p i j : ℕ) → p < 6 → j % 2 ^ p ≡ i % 2 ^ p → j / 2 ^ p % 2 ≡ i / 2 ^ p % 2 → j % 2 ^ suc p ≡ i % 2 ^ suc p
bits_make zero i j few low last = omega (arith, low, last)
bits_make (suc zero) i j few low last = omega (arith, low, last)
bits_make (suc (suc zero)) i j few low last = omega (arith, low, last)
bits_make (suc (suc (suc zero))) i j few low last = omega (arith, low, last)
bits_make (suc (suc (suc (suc zero)))) i j few low last = omega (arith, low, last)
bits_make (suc (suc (suc (suc (suc zero))))) i j few low last = omega (arith, low, last)
bits_make (suc (suc (suc (suc (suc (suc p)))))) i j few low last = absurd (omega (arith, few))

same_bit : (a b : ℕ) → a < 2 → b < 2 → (a == 1) ≡ (b == 1) → a ≡ b
same_bit zero zero x y e = refl
same_bit zero (suc zero) x y e = absurd (true≢false (sym e))
same_bit (suc zero) zero x y e = absurd (true≢false e)
same_bit (suc zero) (suc zero) x y e = refl
same_bit (suc (suc a)) b x y e = absurd (omega (arith, x))
same_bit zero (suc (suc b)) x y e = absurd (omega (arith, y))
same_bit (suc zero) (suc (suc b)) x y e = absurd (omega (arith, y))

-- a bit tells the number that it stands for
pub bit_tells : (p i j : ℕ) → has_bit p j ≡ has_bit p i → j / 2 ^ p % 2 ≡ i / 2 ^ p % 2
bit_tells p i j same =
    let two : 0 < 2 = omega arith in
    same_bit (j / 2 ^ p % 2) (i / 2 ^ p % 2) (mod-lt (j / 2 ^ p) two) (mod-lt (i / 2 ^ p) two) same

-- the low bits have the bits of the number
pub bit_of_low : (p g n : ℕ) → p < g → g ≤ 6 → has_bit p (n % 2 ^ g) ≡ has_bit p n
bit_of_low p g n below few =
    ap (λ (k : ℕ). k == 1) (bits_tell p n (n % 2 ^ g) (omega (arith, below, few)) (low_of_low (suc p) g n (omega (arith, below)) few)).1
