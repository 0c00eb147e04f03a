-- Which object is kept.
use Rattle.std.specs.Prelude.{◌≡◌, ◌<◌, ◌≤◌, ◌==◌, ℕ, not, List, Option, None, Some, All, length, slice_get, slice_index}
use Rattle.std.specs.List.{filter}

-- the objects that are not x
abbrev pub without : ℕ → List ℕ → List ℕ
without x objects = filter (λ y. not (y == x)) objects

-- the objects without the one that is kept, if one is
abbrev pub but_kept : Option ℕ → List ℕ → List ℕ
but_kept None objects = objects
but_kept (Some x) objects = without x objects

-- x is one of the objects that are not copied yet, which are those from a number on; no value of such a one is longer than
-- that of x, and no such object with a value as long has a lesser number
pub record IsKeptBeside (copied : ℕ) (objects lengths : List ℕ) (x : ℕ) : Type 0 where
  pub place : ℕ
  pub here : slice_get objects place ≡ Some x
  pub late : copied ≤ x
  pub longest : (other : ℕ) → other < length objects → copied ≤ slice_index objects other
      → slice_index lengths other ≤ slice_index lengths place
  pub least : (other : ℕ) → other < length objects → copied ≤ slice_index objects other
      → slice_index lengths other ≡ slice_index lengths place → x ≤ slice_index objects other

-- no length is greater than that at the place, and each before it is less
pub record IsFirstLongest (lengths : List ℕ) (place : ℕ) : Type 0 where
  pub there : place < length lengths
  pub longest : All (λ n. n ≤ slice_index lengths place) lengths
  pub first : (k : ℕ) → k < place → slice_index lengths k < slice_index lengths place
