-- Ranges of a map, read leaf by leaf: the way to a key, or to the end of a span, leads to a leaf, and where the keys of that leaf
-- end, or begin, the next one is looked for.
use Rattle.std.specs.Prelude.{ℕ, zero, suc, ◌+◌, ◌-◌, ◌&&◌, Option, None, Some, Result, Ok, Err, List, [], ◌++◌, reverse, nat_lt, if◌then◌else◌, option_and_then}
use Rattle.oper_core.specs.State.{State}
use Rattle.page_ops.specs.Page.{Cell}
use Rattle.page_ops.specs.Reading.{level_in, under}
use Rattle.page_map.specs.Map.{Span, all_keys, bytes_at, is_below}
use Rattle.page_map.specs.Steps.{Places, Step, cells_at, first_places, last_below, last_places, places_in, span_of_step, step_in}
use Rattle.page_map.specs.Walk.{is_on}

-- a leaf, and the span of its keys
pub record Stop : Type 0 where
  pub object : ℕ
  pub span : Span

-- the last cell whose key is not above a key
abbrev pub under_key : List ℕ → List ℕ → Option ℕ
under_key key bytes = under bytes key

-- what is read in an object, or the object, where a cell that is asked does not fit
abbrev pub or_bad : {A : Type 0} → ℕ → Option A → Result A ℕ
or_bad x None = Err x
or_bad x (Some found) = Ok found

-- these pairs, and then the others
abbrev pub and_then : Result (List Cell) ℕ → Result (List Cell) ℕ → Result (List Cell) ℕ
and_then (Err bad) others = Err bad
and_then (Ok pairs) (Err bad) = Err bad
and_then (Ok pairs) (Ok others) = Ok (pairs ++ others)

abbrev pub and_count : ℕ → Result ℕ ℕ → Result ℕ ℕ
and_count n (Err bad) = Err bad
and_count n (Ok others) = Ok (n + others)

-- what is read from the end of a leaf on, where there is one
abbrev pub from_end : {A : Type 0} → A → (Span → Result A ℕ) → Span → Option (List ℕ) → Result A ℕ
from_end none on span None = Ok none
from_end none on span (Some end) = on (record { from = end; to = span.to })

-- the way goes on at a child, or the page is bad
abbrev pub at_step : (ℕ → Span → Result Stop ℕ) → ℕ → Span → Option Step → Result Stop ℕ
at_step on x span None = Err x
at_step on x span (Some step) = on step.object (span_of_step span.to step)

abbrev pub falling : Result (List Cell) ℕ → Result (List Cell) ℕ
falling (Err bad) = Err bad
falling (Ok pairs) = Ok (reverse pairs)

module _ (lo hi : ℕ) (s : State) where
  -- the leaf to which a choice of cells leads, from an object on a level with a span
  abbrev pub stop_from : (List ℕ → Option ℕ) → ℕ → ℕ → Span → Result Stop ℕ
  stop_from choose zero x span = if is_on 0 (bytes_at lo s x) then Ok (record { object = x; span = span }) else Err x
  stop_from choose (suc level) x span =
      if is_on (suc level) (bytes_at lo s x)
      then at_step (stop_from choose level) x span (option_and_then (step_in lo hi (bytes_at lo s x) span.to) (choose (bytes_at lo s x)))
      else Err x

  abbrev pub stop : (List ℕ → Option ℕ) → Result Stop ℕ
  stop choose = stop_from choose (level_in (bytes_at lo s lo)) lo all_keys

  -- where the pairs of a span stand in a leaf, and the pairs at some places
  abbrev pub places_at : Span → Stop → Result Places ℕ
  places_at span leaf = or_bad leaf.object (places_in (bytes_at lo s leaf.object) span leaf.span.to)

  abbrev pub pairs_at : Stop → Places → Result (List Cell) ℕ
  pairs_at leaf places = or_bad leaf.object (cells_at (bytes_at lo s leaf.object) places)

  -- the first of them, and then those behind the leaf
  abbrev pub range_on : (ℕ → Span → Result (List Cell) ℕ) → ℕ → Span → Stop → Result Places ℕ → Result (List Cell) ℕ
  range_on on most span leaf (Err bad) = Err bad
  range_on on most span leaf (Ok places) = and_then (pairs_at leaf (first_places most places)) (from_end [] (on (most - places.count)) span leaf.span.to)

  abbrev pub range_at : (ℕ → Span → Result (List Cell) ℕ) → ℕ → Span → Result Stop ℕ → Result (List Cell) ℕ
  range_at on most span (Err bad) = Err bad
  range_at on most span (Ok leaf) = range_on on most span leaf (places_at span leaf)

  -- the last of them, falling, and then those before the leaf
  abbrev pub back_on : (ℕ → Span → Result (List Cell) ℕ) → ℕ → Span → Stop → Result Places ℕ → Result (List Cell) ℕ
  back_on on most span leaf (Err bad) = Err bad
  back_on on most span leaf (Ok places) =
      and_then (falling (pairs_at leaf (last_places most places))) (on (most - places.count) (record { from = span.from; to = Some leaf.span.from }))

  abbrev pub back_at : (ℕ → Span → Result (List Cell) ℕ) → ℕ → Span → Result Stop ℕ → Result (List Cell) ℕ
  back_at on most span (Err bad) = Err bad
  back_at on most span (Ok leaf) = back_on on most span leaf (places_at span leaf)

  -- how many they are, and then those behind the leaf
  abbrev pub count_on : (Span → Result ℕ ℕ) → Span → Stop → Result Places ℕ → Result ℕ ℕ
  count_on on span leaf (Err bad) = Err bad
  count_on on span leaf (Ok places) = and_count places.count (from_end 0 on span leaf.span.to)

  abbrev pub count_at : (Span → Result ℕ ℕ) → Span → Result Stop ℕ → Result ℕ ℕ
  count_at on span (Err bad) = Err bad
  count_at on span (Ok leaf) = count_on on span leaf (places_at span leaf)

  -- the pairs of a span, at most so many, over at most n leaves: from its beginning on, and from its end back
  abbrev pub range_from : ℕ → ℕ → Span → Result (List Cell) ℕ
  range_from zero most span = Ok []
  range_from (suc n) most span = if nat_lt 0 most && is_below span.from span.to then range_at (range_from n) most span (stop (under_key span.from)) else Ok []

  abbrev pub back_from : ℕ → ℕ → Span → Result (List Cell) ℕ
  back_from zero most span = Ok []
  back_from (suc n) most span = if nat_lt 0 most && is_below span.from span.to then back_at (back_from n) most span (stop (last_below span.to)) else Ok []

  -- how many there are
  abbrev pub count_from : ℕ → Span → Result ℕ ℕ
  count_from zero span = Ok 0
  count_from (suc n) span = if is_below span.from span.to then count_at (count_from n) span (stop (under_key span.from)) else Ok 0

  -- there are no more leaves than objects in the range
  abbrev pub range_answer : Span → ℕ → Result (List Cell) ℕ
  range_answer span most = range_from (suc hi - lo) most span

  abbrev pub back_answer : Span → ℕ → Result (List Cell) ℕ
  back_answer span most = back_from (suc hi - lo) most span

  abbrev pub count_answer : Span → Result ℕ ℕ
  count_answer span = count_from (suc hi - lo) span
