-- Which of the numbers below an end are members, in levels of rows of 64.
use Rattle.std.specs.Prelude.{◌≡◌, ℕ, zero, suc, ◌+◌, ◌*◌, ◌/◌, ◌^◌, ◌<◌, ◌≤◌, ◌↔◌, Bool, false, IsTrue, IsFalse, if◌then◌else◌, List, [], ◌∷◌, length, Option, MatchOption, slice_index_or}
use Rattle.std.specs.List.Sorted.{IsStrictlyIncreasing}
use Rattle.oper_core.specs.State.{is_among}

-- what contracts see: whether each number is a member, and for how many more numbers there is memory
pub record Marks : Type 0 where
  pub marks : List Bool
  pub room : ℕ

-- the number has a mark
abbrev pub mark_at : List Bool → ℕ → Bool
mark_at marks n = slice_index_or marks n false

-- no number below this one has a mark
pub record IsBelowMarks (n : ℕ) (marks : List Bool) : Type 0 where
  pub none : (k : ℕ) → k < n → IsFalse (mark_at marks k)
  pub small : n ≤ 2 ^ 32

-- how many marks there are
abbrev pub count_marks : List Bool → ℕ
count_marks [] = zero
count_marks (m ∷ marks) = if m then suc (count_marks marks) else count_marks marks

-- the list rises, and it has exactly the numbers with the property
pub record AreListed (P : ℕ → Type 0) (xs : List ℕ) : Type 0 where
  pub rising : IsStrictlyIncreasing xs
  pub exactly : (k : ℕ) → IsTrue (is_among k xs) ↔ P k

-- so many numbers have the property
abbrev pub IsCount : (ℕ → Type 0) → ℕ → Type 0
IsCount P count = (xs : List ℕ) × AreListed P xs × (count ≡ length xs)

-- i is the first mark at or above `from`
pub record IsFirst (marks : List Bool) (from i : ℕ) : Type 0 where
  pub here : IsTrue (mark_at marks i)
  pub above : from ≤ i
  pub least : (k : ℕ) → from ≤ k → k < i → IsFalse (mark_at marks k)

-- the first mark at or above `from`, if there is one
abbrev pub IsNext : List Bool → ℕ → Option ℕ → Type 0
IsNext marks from r = MatchOption r ((i : ℕ) → from ≤ i → IsFalse (mark_at marks i)) (λ i. IsFirst marks from i)

-- the first mark at or above `from` and below the end, if there is one
abbrev pub IsFirstBelow : List Bool → ℕ → ℕ → Option ℕ → Type 0
IsFirstBelow marks from end r = MatchOption r ((i : ℕ) → from ≤ i → i < end → IsFalse (mark_at marks i)) (λ i. IsFirst marks from i × (i < end))

-- the row has no mark
abbrev pub IsEmptyRow : List Bool → ℕ → Type 0
IsEmptyRow marks row = (i : ℕ) → i / 64 ≡ row → IsFalse (mark_at marks i)

-- the first row, at or above `from`, that has a mark
pub record IsFirstRow (marks : List Bool) (from row : ℕ) : Type 0 where
  pub here : (i : ℕ) × (i / 64 ≡ row) × IsTrue (mark_at marks i)
  pub above : from ≤ row
  pub least : (i : ℕ) → from ≤ i / 64 → i / 64 < row → IsFalse (mark_at marks i)

-- the first row, at or above `from`, that has a mark, if there is one
abbrev pub IsNextRow : List Bool → ℕ → Option ℕ → Type 0
IsNextRow marks from r = MatchOption r ((i : ℕ) → from ≤ i / 64 → IsFalse (mark_at marks i)) (λ row. IsFirstRow marks from row)

-- above each row stands whether it has a mark
pub record AreSums (low high : List Bool) : Type 0 where
  pub there : (i : ℕ) → IsTrue (mark_at low i) → IsTrue (mark_at high (i / 64))
  pub only : (row : ℕ) → IsTrue (mark_at high row) → (i : ℕ) × (i / 64 ≡ row) × IsTrue (mark_at low i)
  pub size : length low ≤ 64 * length high

-- each level sums up the one below
pub record AreLevels (low mid high top : List Bool) : Type 0 where
  pub mids : AreSums low mid
  pub highs : AreSums mid high
  pub tops : AreSums high top

-- no number has lost or got a mark, and there are enough rows
pub record IsGrown (entries : ℕ) (old new : List Bool) : Type 0 where
  pub same : (i : ℕ) → mark_at new i ≡ mark_at old i
  pub enough : entries ≤ 64 * length new
  pub few : length new ≤ length old + 1
