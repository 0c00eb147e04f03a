-- How many marks each row has.
use Rattle.std.specs.Prelude.{◌≡◌, ℕ, zero, suc, ◌*◌, ◌/◌, ◌≤◌, ◌==◌, ◌&&◌, Bool, if◌then◌else◌, List, [], ◌∷◌, length, slice_index_or}

-- how many marks the row has, where the first of the list is that of the number s
abbrev pub row_count : ℕ → List Bool → ℕ → ℕ
row_count s [] row = zero
row_count s (m ∷ marks) row = if m && (s / 64 == row) then suc (row_count (suc s) marks row) else row_count (suc s) marks row

-- each row has so many marks as are counted of it
pub record AreCounted (marks : List Bool) (counts : List ℕ) : Type 0 where
  pub each : (row : ℕ) → slice_index_or counts row 0 ≡ row_count 0 marks row
  pub size : length marks ≤ 64 * length counts
