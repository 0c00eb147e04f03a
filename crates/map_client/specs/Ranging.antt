-- What calls on ranges of keys read in one page, and what they answer.
use Rattle.std.specs.Prelude.{◌≡◌, ◌⊎◌, ℕ, ◌-◌, Option, None, Result, Err, List, [], ◌++◌, reverse, nat_lt, if◌then◌else◌, option_and_then, option_map}
use Rattle.oper_core.specs.State.{State}
use Rattle.oper_core.specs.declared.bounds.Bounds.{Bounds}
use Rattle.page_ops.specs.Page.{Cell}
use Rattle.page_map.specs.Map.{Span}
use Rattle.page_map.specs.Ranges.{back_answer, count_answer, range_answer}
use Rattle.page_map.specs.Reads.{above, prefix_span}
use Rattle.page_map.specs.Steps.{Places, Step, cells_at, first_places, last_places, places_in, step_below, step_in, step_under}
use Rattle.page_map.specs.Walk.{is_on}
use Rattle.range_calls.specs.declared.call_err.CallErr.TheVariants.{Refused, Memory as OutOfMemory}
use Rattle.map_client.specs.Answers.{MapErr, bad_map, told}
use Rattle.map_client.specs.declared.call_refusal.CallRefusal.TheVariants.{NoObject}
use Rattle.map_client.specs.declared.order.Order.{Order}
use Rattle.map_client.specs.declared.order.Order.TheVariants.{Rising, Falling}

-- the step down from a page of this level to the child that a choice of cells leads to
abbrev pub step_by : ℕ → ℕ → (List ℕ → Option ℕ) → ℕ → List ℕ → Option (List ℕ) → Option Step
step_by lo hi choose level bytes to = if is_on level bytes then option_and_then (step_in lo hi bytes to) (choose bytes) else None

-- to the child under which a key stands, and to the last one that begins below an end
abbrev pub step_on : ℕ → ℕ → ℕ → List ℕ → Option (List ℕ) → List ℕ → Option Step
step_on lo hi level bytes to key = if is_on level bytes then step_under lo hi bytes to key else None

abbrev pub below_on : ℕ → ℕ → ℕ → List ℕ → Option (List ℕ) → Option (List ℕ) → Option Step
below_on lo hi level bytes to end = if is_on level bytes then step_below lo hi bytes to end else None

-- how many pairs of a leaf stand in a span, and below the end of its own
abbrev pub count_of : Places → ℕ
count_of places = places.count

abbrev pub count_on : List ℕ → Span → Option (List ℕ) → Option ℕ
count_on bytes span end = if is_on 0 bytes then option_map count_of (places_in bytes span end) else None

-- where the pairs of a span stand in a leaf
abbrev pub places_on : List ℕ → Span → Option (List ℕ) → Option Places
places_on bytes span end = if is_on 0 bytes then places_in bytes span end else None

-- the first of them by rising key, or the last ones by falling key, at most so many
abbrev pub cells_by : Order → List ℕ → ℕ → Places → Option (List Cell)
cells_by Rising bytes most places = cells_at bytes (first_places most places)
cells_by Falling bytes most places = option_map reverse (cells_at bytes (last_places most places))

-- why they are not all read: memory ran out, or the object is bad, which means this
abbrev pub Fails : ℕ → Type 0 → MapErr → Type 0
Fails object Bad e = (e ≡ OutOfMemory) ⊎ (Bad × (e ≡ bad_map object))

-- these behind others, and how many more may follow
abbrev pub behind : List Cell → Option (List Cell) → Option (List Cell)
behind others cells = option_map (λ read. others ++ read) cells

abbrev pub with_left : List Cell → ℕ → List Cell → List Cell × ℕ
with_left others left cells = (others ++ cells, left)

abbrev pub cells_behind : Order → List ℕ → List Cell → ℕ → Places → Option (List Cell × ℕ)
cells_behind order bytes others most places = option_map (with_left others (most - places.count)) (cells_by order bytes most places)

abbrev pub pairs_on : Order → List ℕ → Span → Option (List ℕ) → List Cell → ℕ → Option (List Cell × ℕ)
pairs_on order bytes span end others most = option_and_then (cells_behind order bytes others most) (places_on bytes span end)

-- what a count answers in a store of these bounds
abbrev pub count_told : Bounds → ℕ → ℕ → State → Span → Result ℕ MapErr
count_told b lo hi s span = if nat_lt hi b.objects then told (count_answer lo hi s span) else Err (Refused NoObject)

-- what a range answers there, and one back
abbrev pub range_told : Bounds → ℕ → ℕ → State → Span → ℕ → Result (List Cell) MapErr
range_told b lo hi s span most = if nat_lt hi b.objects then told (range_answer lo hi s span most) else Err (Refused NoObject)

abbrev pub back_told : Bounds → ℕ → ℕ → State → Span → ℕ → Result (List Cell) MapErr
back_told b lo hi s span most = if nat_lt hi b.objects then told (back_answer lo hi s span most) else Err (Refused NoObject)

-- the first pairs whose keys begin with some bytes
abbrev pub prefix_told : Bounds → ℕ → ℕ → State → List ℕ → ℕ → Result (List Cell) MapErr
prefix_told b lo hi s bytes most = range_told b lo hi s (prefix_span bytes) most

-- the first pair above a key, and the last one below an end
abbrev pub next_told : Bounds → ℕ → ℕ → State → List ℕ → Result (List Cell) MapErr
next_told b lo hi s key = range_told b lo hi s (above key) 1

abbrev pub prev_told : Bounds → ℕ → ℕ → State → Option (List ℕ) → Result (List Cell) MapErr
prev_told b lo hi s end = back_told b lo hi s (record { from = []; to = end }) 1
