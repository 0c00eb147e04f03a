-- What is read in one page where the span of its keys is carried along: the step down to a child and its span, and which cells of a
-- leaf stand in a span. It is said of all bytes: nothing is read where a cell that is asked does not fit.
use Rattle.std.specs.Prelude.{ℕ, zero, suc, ◌+◌, ◌-◌, ◌==◌, Bool, Option, None, Some, List, [], ◌∷◌, is_some, min, if◌then◌else◌, option_and_then, option_map}
use Rattle.page_ops.specs.Page.{Cell}
use Rattle.page_ops.specs.Reading.{beside_of, count_in, has_cell, key_of, seek, under}
use Rattle.page_map.specs.Map.{Span, is_below}
use Rattle.page_map.specs.Walk.{child_in}
use Rattle.page_map.specs.declared.beside.Beside.{Beside}
use Rattle.page_map.specs.declared.beside.Beside.TheVariants.{Next, Before, Only}
use Rattle.page_map.specs.declared.step.Step.{Step as StepOfCode}

-- of two ends of spans the one that is met first
abbrev pub sooner : Option (List ℕ) → Option (List ℕ) → Option (List ℕ)
sooner None end = end
sooner (Some key) end = if is_below key end then Some key else end

-- how many cells, from the front, have keys below an end
abbrev pub front_in : List ℕ → Option (List ℕ) → Option ℕ
front_in bytes None = Some (count_in bytes)
front_in bytes (Some end) = seek bytes end

abbrev pub one_before : ℕ → Option ℕ
one_before zero = None
one_before (suc i) = Some i

-- the last cell whose key is below an end
abbrev pub last_below : Option (List ℕ) → List ℕ → Option ℕ
last_below end bytes = option_and_then one_before (front_in bytes end)

-- A step down: the place of a cell, its child, the least key that the child may have, and the next key, where the child's span
-- ends there. Else it ends with that of the page.
pub record Step : Type 0 where
  pub place : ℕ
  pub object : ℕ
  pub from : List ℕ
  pub end : Option (List ℕ)

-- the next key, where there is one below the end of the page's span
abbrev pub next_end : List ℕ → Option (List ℕ) → ℕ → Option (Option (List ℕ))
next_end bytes to i =
    if suc i == count_in bytes then Some None
    else (if has_cell bytes (suc i) then Some (if is_below (key_of bytes (suc i)) to then Some (key_of bytes (suc i)) else None) else None)

abbrev pub step_to : List ℕ → ℕ → ℕ → Option (List ℕ) → Step
step_to bytes i child end = record { place = i; object = child; from = key_of bytes i; end = end }

-- the span of the child, in a page whose span has this end
abbrev pub ended : Option (List ℕ) → Option (List ℕ) → Option (List ℕ)
ended to None = to
ended to (Some key) = Some key

abbrev pub span_of_step : Option (List ℕ) → Step → Span
span_of_step to step = record { from = step.from; to = ended to step.end }

module _ (lo hi : ℕ) (bytes : List ℕ) where
  -- the child beside that of a cell: the next one, where it is within the span, or else the one before it
  abbrev pub before_in : ℕ → Option Beside
  before_in zero = Some Only
  before_in (suc i) = option_map Before (child_in lo hi bytes i)

  abbrev pub beside_in : ℕ → Bool → Option Beside
  beside_in i has_next = if has_next then option_map Next (child_in lo hi bytes (suc i)) else before_in i

module _ (lo hi : ℕ) (bytes : List ℕ) (to : Option (List ℕ)) where
  -- the step to the child of a cell, in a page whose span has this end
  abbrev pub step_in : ℕ → Option Step
  step_in i = option_and_then (λ child. option_map (step_to bytes i child) (next_end bytes to i)) (child_in lo hi bytes i)

  -- to the child under which a key stands, and to the last one that begins below an end
  abbrev pub step_under : List ℕ → Option Step
  step_under key = option_and_then step_in (under bytes key)

  abbrev pub step_below : Option (List ℕ) → Option Step
  step_below end = option_and_then step_in (last_below end bytes)

  -- a child with the one beside it
  abbrev pub with_beside : Step → Option (Step × Beside)
  with_beside step = option_map (λ beside. (step, beside)) (beside_in lo hi bytes step.place (is_some step.end))

  abbrev pub both_under : List ℕ → Option (Step × Beside)
  both_under key = option_and_then with_beside (step_under key)

-- the one child of a page, where it has one
abbrev pub only_child : ℕ → ℕ → List ℕ → Option (Option ℕ)
only_child lo hi bytes = if count_in bytes == 1 then option_map Some (child_in lo hi bytes 0) else Some None

-- a step as the code has it
abbrev pub step_seen : StepOfCode → Step
step_seen step = record { place = step.place; object = step.object; from = step.from.now; end = option_map (λ end. end.now) step.end }

-- cells of a page, one behind the other: the place of the first, and how many they are
pub record Places : Type 0 where
  pub first : ℕ
  pub count : ℕ

-- the cells of a leaf whose keys stand in a span and below the end of its own
abbrev pub places_to : ℕ → ℕ → Places
places_to first behind = record { first = first; count = behind - first }

abbrev pub places_in : List ℕ → Span → Option (List ℕ) → Option Places
places_in bytes span end = option_and_then (λ first. option_map (places_to first) (front_in bytes (sooner span.to end))) (seek bytes span.from)

-- the first of them and the last ones, at most so many
abbrev pub first_places : ℕ → Places → Places
first_places most places = record { first = places.first; count = min most places.count }

abbrev pub last_places : ℕ → Places → Places
last_places most places = record { first = places.first + (places.count - most); count = min most places.count }

-- so many cells from one on, as they read
abbrev pub cells_from : List ℕ → ℕ → ℕ → Option (List Cell)
cells_from bytes i zero = Some []
cells_from bytes i (suc n) = if has_cell bytes i then option_map (λ cells. (key_of bytes i, beside_of bytes i) ∷ cells) (cells_from bytes (suc i) n) else None

abbrev pub cells_at : List ℕ → Places → Option (List Cell)
cells_at bytes places = cells_from bytes places.first places.count
