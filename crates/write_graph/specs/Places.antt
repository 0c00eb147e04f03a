-- Where an LSN stands in a list.
use Rattle.std.specs.Prelude.{◌≡◌, ℕ, zero, suc, ◌<◌, ◌≤◌, ◌==◌, if◌then◌else◌, List, [], ◌∷◌, length, slice_index}

-- the first place of x, which is the length of the list if it does not have x
abbrev pub place_in : ℕ → List ℕ → ℕ
place_in x [] = zero
place_in x (y ∷ objects) = if x == y then zero else suc (place_in x objects)

-- no LSN is less than one before it
abbrev pub NeverFall : List ℕ → Type 0
NeverFall ns = (i j : ℕ) → i ≤ j → j < length ns → slice_index ns i ≤ slice_index ns j

-- where a slot has the LSN n and all later LSNs are greater, it is this one
abbrev pub IsSlotOfLsn : List ℕ → ℕ → ℕ → Type 0
IsSlotOfLsn ns n slot = (i : ℕ) → i < length ns → slice_index ns i ≡ n → ((j : ℕ) → i < j → j < length ns → n < slice_index ns j) → slot ≡ i
