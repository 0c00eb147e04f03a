-- A set of numbers below an end, in the order in which they came.
use Rattle.std.specs.Prelude.{◌≡◌, ℕ, ◌<◌, ◌≤◌, ◌++◌, ◌⊎◌, ◌↔◌, IsTrue, List, length, nat_eq, slice_index}
use Rattle.std.specs.List.{IsDistinct}
use Rattle.oper_core.specs.State.{is_among}

-- what contracts see: the numbers, below what they are, and how much higher that may rise without memory
pub record Members : Type 0 where
  pub members : List ℕ
  pub end : ℕ
  pub room : ℕ

-- each number stands where its place says, and none twice
pub record ArePlaced (members place : List ℕ) : Type 0 where
  pub below : (i : ℕ) → i < length members → slice_index members i < length place
  pub at : (i : ℕ) → i < length members → slice_index place (slice_index members i) ≡ i
  pub distinct : IsDistinct nat_eq members

-- the number is a member too, and those that were stand where they stood
pub record IsWith (old : Members) (n : ℕ) (new : Members) : Type 0 where
  pub there : (k : ℕ) → IsTrue (is_among k new.members) ↔ (IsTrue (is_among k old.members) ⊎ (k ≡ n))
  pub kept : (more : List ℕ) × (new.members ≡ old.members ++ more)
  pub end : new.end ≡ old.end
  pub room : old.room ≤ new.room
