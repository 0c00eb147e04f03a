-- What tidying reads in one page, and what it does then.
use Rattle.std.specs.Prelude.{⊤, ◌≤◌, ℕ, Option, None, Some, Result, Ok, Err, List, map, option_map, if◌then◌else◌}
use Rattle.oper_core.specs.State.{State}
use Rattle.page_ops.specs.Reading.{count_in, opens}
use Rattle.page_ops.specs.declared.page_op.PageOp.{PageOp}
use Rattle.op_codec.specs.AllOps.{page}
use Rattle.page_map.specs.Deletes.{before_takes, front_at, gives_way, root_takes, when_empty}
use Rattle.page_map.specs.Steps.{Step, both_under, front_in, only_child, step_seen}
use Rattle.page_map.specs.Walk.{is_on}
use Rattle.page_map.specs.declared.beside.Beside.{Beside}
use Rattle.page_map.specs.declared.beside.Beside.TheVariants.{Next, Before, Only}
use Rattle.page_map.specs.declared.step.Step.{Step as StepOfCode}
use Rattle.range_calls.specs.Store.{Command}
use Rattle.map_client.specs.Answers.{MapErr, bad_map}

-- commands on pages as those of the store, as a call finds them
abbrev pub stored : Result (List PageOp) ℕ → Result (List Command) MapErr
stored (Ok ops) = Ok (map page ops)
stored (Err bad) = Err (bad_map bad)

-- the leaf of a key under the page above it, and the child beside it, as the code has them
abbrev pub both_seen : StepOfCode × Beside → Step × Beside
both_seen (step, beside) = (step_seen step, beside)

-- what is read in the page above
abbrev pub both_on : ℕ → ℕ → List ℕ → Option (List ℕ) → List ℕ → Option (Step × Beside)
both_on lo hi bytes to key = if is_on 1 bytes then both_under lo hi bytes to key else None

-- how many cells of a leaf are within a span
abbrev pub front_on : List ℕ → Option (List ℕ) → Option ℕ
front_on bytes to = if is_on 0 bytes then front_in bytes to else None

-- the commands by which the leaf of a place takes that of the next one, too
abbrev pub takes_on : ℕ → ℕ → ℕ → ℕ → List ℕ → List ℕ → Option (List PageOp)
takes_on above place stays goes bytes end = option_map (before_takes above place stays goes bytes) (front_on bytes (Some end))

-- the one child of a root, and how that goes
abbrev pub only_child_of : ℕ → ℕ → List ℕ → Option (Option ℕ)
only_child_of lo hi bytes = if opens bytes then only_child lo hi bytes else None

abbrev pub taken_on : ℕ → ℕ → ℕ → List ℕ → Option (List PageOp)
taken_on level root child bytes = if is_on level bytes then Some (root_takes root child (count_in bytes)) else None

-- a leaf at a place of the page above it, from a key on
abbrev pub leaf_at : ℕ → ℕ → List ℕ → Step
leaf_at place object from = record { place = place; object = object; from = from; end = None }

-- what is done to it, with this span, and beside such a child
abbrev pub leaf_turn : ℕ → ℕ → State → ℕ → ℕ → ℕ → List ℕ → Option (List ℕ) → Beside → Result (List PageOp) ℕ
leaf_turn lo hi s above place object from to beside = when_empty object (gives_way lo hi s above (leaf_at place object from) beside) (front_at lo hi s to object)

-- the child before a leaf stands in the range
abbrev pub StandsIn : ℕ → Beside → Type 0
StandsIn hi Only = ⊤
StandsIn hi (Next other) = ⊤
StandsIn hi (Before other) = other ≤ hi
