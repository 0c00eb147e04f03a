-- The way to a leaf, where the span of its keys is carried along, and how reads go on from there.
use Rattle.std.specs.Prelude.{◌≡◌, ◌≤◌, ℕ, suc, Option, None, Some, Result, Ok, Err, List, []}
use Rattle.oper_core.specs.State.{State}
use Rattle.page_ops.specs.Page.{Cell}
use Rattle.page_map.specs.Map.{Span}
use Rattle.page_map.specs.Ranges.{and_count, and_then, back_from, count_from, from_end, range_from, stop, stop_from}
use Rattle.map_client.specs.Answers.{MapErr, told}

-- the way that a choice of cells leads comes to an object of the range, so many levels above the leaf, with this span
pub record IsOnWay (lo hi : ℕ) (s : State) (choose : List ℕ → Option ℕ) (level x : ℕ) (span : Span) : Type 0 where
  pub goes_on : stop lo hi s choose ≡ stop_from lo hi s choose level x span
  pub within : x ≤ hi

-- what is read before the beginning of a leaf, where there is more to read
abbrev pub before : (Span → Result (List Cell) ℕ) → Span → Option (List ℕ) → Result (List Cell) ℕ
before on span None = Ok []
before on span (Some begin) = on (record { from = span.from; to = Some begin })

module _ (lo hi : ℕ) (s : State) (span : Span) where
  -- A count from the beginning of a span on, over however many leaves, is that of one leaf, and goes on at the key where the next
  -- leaf begins, if there is one.
  abbrev pub CountGoesOn : ℕ → Option (List ℕ) → Type 0
  CountGoesOn count next = (n : ℕ) → count_from lo hi s (suc n) span ≡ and_count count (from_end 0 (count_from lo hi s n) span next)

  -- or it meets a bad object first
  abbrev pub CountIsBad : MapErr → Type 0
  CountIsBad e = (n : ℕ) → told (count_from lo hi s (suc n) span) ≡ Err e

  -- A range goes on in the same way: pairs so far and at most so many more become those with the pairs of one leaf and at most so
  -- many behind it.
  abbrev pub RangeGoesOn : List Cell → ℕ → List Cell → ℕ → Option (List ℕ) → Type 0
  RangeGoesOn so_far most pairs left next = (n : ℕ) → and_then (Ok so_far) (range_from lo hi s (suc n) most span) ≡ and_then (Ok pairs) (from_end [] (range_from lo hi s n left) span next)

  abbrev pub RangeIsBad : ℕ → MapErr → Type 0
  RangeIsBad most e = (n : ℕ) → told (range_from lo hi s (suc n) most span) ≡ Err e

  -- and so does one back, before the beginning of the leaf
  abbrev pub BackGoesOn : List Cell → ℕ → List Cell → ℕ → Option (List ℕ) → Type 0
  BackGoesOn so_far most pairs left begin = (n : ℕ) → and_then (Ok so_far) (back_from lo hi s (suc n) most span) ≡ and_then (Ok pairs) (before (back_from lo hi s n left) span begin)

  abbrev pub BackIsBad : ℕ → MapErr → Type 0
  BackIsBad most e = (n : ℕ) → told (back_from lo hi s (suc n) most span) ≡ Err e
