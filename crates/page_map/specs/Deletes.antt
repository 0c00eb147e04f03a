-- What a delete does: the command that takes the key out, and then those that tidy the way to it: a leaf that has no cells left gives
-- way to the one beside it in its page, and a root with one child becomes it.
use Rattle.std.specs.Prelude.{◌≡◌, ◌⊎◌, ⊤, ℕ, zero, suc, ◌+◌, ◌*◌, ◌-◌, ◌<◌, ◌≤◌, Option, None, Some, Result, Ok, Err, List, [], ◌∷◌, ◌++◌, length, take, nat_lt, if◌then◌else◌, option_map}
use Rattle.std.specs.FinMap.{get, remove}
use Rattle.oper_core.specs.State.{State}
use Rattle.oper_core.specs.Meaning.{after}
use Rattle.oper_core.specs.declared.bounds.Bounds.{Bounds}
use Rattle.call_plans.specs.Laws.{AllAccepted, after_all}
use Rattle.call_plans.specs.Plan.{Plan, refused_by, with_command}
use Rattle.page_ops.specs.Reading.{count_in, level_in}
use Rattle.page_ops.specs.Operation.{page_meaning}
use Rattle.page_ops.specs.declared.page_op.PageOp.{PageOp}
use Rattle.page_ops.specs.declared.page_op.PageOp.TheVariants.{Part, Keep, Turn, Free}
use Rattle.page_map.specs.Map.{Tree, Each, bytes_at, content_of}
use Rattle.page_map.specs.Plan.{delete_command}
use Rattle.page_map.specs.Ranges.{or_bad}
use Rattle.page_map.specs.Sets.{IsKept}
use Rattle.page_map.specs.Steps.{Step, both_under, ended, front_in, only_child, step_under}
use Rattle.page_map.specs.Walk.{is_on}
use Rattle.page_map.specs.declared.beside.Beside.{Beside}
use Rattle.page_map.specs.declared.beside.Beside.TheVariants.{Next, Before, Only}
use Rattle.page_map.specs.declared.refusal.MapRefusal.{MapRefusal}
use Rattle.page_map.specs.declared.refusal.MapRefusal.TheVariants.{BadMap, NoKey}

-- the commands of a turn, as code has them: two at most
abbrev pub listed : PageOp × Option PageOp → List PageOp
listed (op, None) = op ∷ []
listed (op, Some other) = op ∷ other ∷ []

-- of two leaves beside each other in a page, one takes the place of both, and the other goes
abbrev pub takes_both : ℕ → ℕ → ℕ → ℕ → List PageOp
takes_both q i stays goes = Turn q i 2 stays ∷ Free goes ∷ []

-- The leaf of a place, of these bytes, takes that of the next one, too; but first the cells behind so many go, which are past its
-- span.
abbrev pub before_takes : ℕ → ℕ → ℕ → ℕ → List ℕ → ℕ → List PageOp
before_takes q i stays goes bytes count = if nat_lt count (count_in bytes) then Keep stays count ∷ [] else takes_both q i stays goes

-- the one child of a root goes, since the root takes its cells
abbrev pub root_takes : ℕ → ℕ → ℕ → List PageOp
root_takes lo child count = Part lo child 0 count ∷ Free child ∷ []

-- where a leaf has no cells in its span something is done, else nothing
abbrev pub when_empty : ℕ → Result (List PageOp) ℕ → Option ℕ → Result (List PageOp) ℕ
when_empty x way None = Err x
when_empty x way (Some zero) = way
when_empty x way (Some (suc n)) = Ok []

-- the way to the page above the leaf of a key goes on at a child
abbrev pub on_way : (ℕ → Option (List ℕ) → Result (List PageOp) ℕ) → ℕ → Option (List ℕ) → Option Step → Result (List PageOp) ℕ
on_way on x to None = Err x
on_way on x to (Some step) = on step.object (ended to step.end)

module _ (lo hi : ℕ) (s : State) where
  -- how many cells of a leaf are within a span with this end
  abbrev pub front_at : Option (List ℕ) → ℕ → Option ℕ
  front_at to x = if is_on 0 (bytes_at lo s x) then front_in (bytes_at lo s x) to else None

  -- an empty leaf gives way to the one beside it; an only child stays
  abbrev pub gives_way : ℕ → Step → Beside → Result (List PageOp) ℕ
  gives_way q leaf Only = Ok []
  gives_way q leaf (Next other) = Ok (takes_both q leaf.place other leaf.object)
  gives_way q leaf (Before other) = or_bad other (option_map (before_takes q (leaf.place - 1) other leaf.object (bytes_at lo s other)) (front_at (Some leaf.from) other))

  abbrev pub leaf_goes : ℕ → Option (List ℕ) → Option (Step × Beside) → Result (List PageOp) ℕ
  leaf_goes q to None = Err q
  leaf_goes q to (Some (leaf, beside)) = when_empty leaf.object (gives_way q leaf beside) (front_at (ended to leaf.end) leaf.object)

  -- from an object on a level, with the end of its span
  abbrev pub tidy_from : List ℕ → ℕ → ℕ → Option (List ℕ) → Result (List PageOp) ℕ
  tidy_from key zero x to = if is_on 0 (bytes_at lo s x) then Ok [] else Err x
  tidy_from key (suc zero) x to = if is_on 1 (bytes_at lo s x) then leaf_goes x to (both_under lo hi (bytes_at lo s x) to key) else Err x
  tidy_from key (suc (suc level)) x to =
      if is_on (suc (suc level)) (bytes_at lo s x) then on_way (tidy_from key (suc level)) x to (step_under lo hi (bytes_at lo s x) to key) else Err x

  -- a root with one child becomes it
  abbrev pub child_goes : ℕ → Option (Option ℕ) → Result (List PageOp) ℕ
  child_goes level None = Err lo
  child_goes level (Some None) = Ok []
  child_goes level (Some (Some child)) = if is_on level (bytes_at lo s child) then Ok (root_takes lo child (count_in (bytes_at lo s child))) else Err child

  abbrev pub root_goes : ℕ → Result (List PageOp) ℕ
  root_goes zero = Ok []
  root_goes (suc level) = child_goes level (only_child lo hi (bytes_at lo s lo))

  abbrev pub else_root : ℕ → Result (List PageOp) ℕ → Result (List PageOp) ℕ
  else_root level (Err bad) = Err bad
  else_root level (Ok []) = root_goes level
  else_root level (Ok (op ∷ ops)) = Ok (op ∷ ops)

  -- what is tidied next, or the first object that does not fit
  abbrev pub tidy_turn : List ℕ → Result (List PageOp) ℕ
  tidy_turn key = else_root (level_in (bytes_at lo s lo)) (tidy_from key (level_in (bytes_at lo s lo)) lo None)

-- the commands of a turn, and then those of the turns behind it; where nothing is left to tidy they have none
abbrev pub by_tidying : (List PageOp → Plan PageOp MapRefusal) → Result (List PageOp) ℕ → Plan PageOp MapRefusal
by_tidying rest (Err bad) = refused_by (BadMap bad)
by_tidying rest (Ok ops) = record { commands = ops ++ (rest ops).commands; refusal = (rest ops).refusal }

module _ (b : Bounds) (lo hi : ℕ) where
  -- so many turns, one after the other
  abbrev pub tidied : List ℕ → ℕ → State → Plan PageOp MapRefusal
  tidied key zero s = record { commands = []; refusal = None }
  tidied key (suc n) s = by_tidying (λ ops. tidied key n (after_all (page_meaning b) s ops)) (tidy_turn lo hi s key)

  -- a leaf goes in two turns, and then the root on each level may
  abbrev pub tidy_plan : List ℕ → State → Plan PageOp MapRefusal
  tidy_plan key s = tidied key (level_in (bytes_at lo s lo) + 2) s

  abbrev pub delete_by : List ℕ → State → Result (Option PageOp) ℕ → Plan PageOp MapRefusal
  delete_by key s (Err bad) = refused_by (BadMap bad)
  delete_by key s (Ok None) = refused_by NoKey
  delete_by key s (Ok (Some op)) = with_command op (tidy_plan key (after (page_meaning b) s op))

  -- what a delete does
  abbrev pub delete_plan : List ℕ → State → Plan PageOp MapRefusal
  delete_plan key s = delete_by key s (delete_command lo hi s key)

-- no leaf is without cells but an only child
abbrev pub NoneIsEmpty : (level : ℕ) → Tree level → Type 0
NoneIsEmpty zero leaf = ⊤
NoneIsEmpty (suc zero) page = (length page.children ≤ 1) ⊎ Each (λ leaf. 0 < length leaf.cells) page.children
NoneIsEmpty (suc (suc level)) page = Each (NoneIsEmpty (suc level)) page.children

-- a map whose leaves have cells, but for only children and a root
pub record IsFull (b : Bounds) (lo hi : ℕ) (s : State) : Type 0 where
  pub kept : IsKept b lo hi s
  pub full : NoneIsEmpty kept.map.level kept.map.tree

module _ (b : Bounds) (lo hi : ℕ) (s : State) (is : IsKept b lo hi s) where
  -- The commands of a delete are accepted one after the other, and behind each the range is a map: from the first one on, without
  -- the key. It is refused exactly where the map lacks the key, and then there are none. They are so few.
  pub record Deletes (key : List ℕ) (plan : Plan PageOp MapRefusal) : Type 0 where
    pub accepted : AllAccepted (page_meaning b) s plan.commands
    pub kept : (k : ℕ) → IsKept b lo hi (after_all (page_meaning b) s (take k plan.commands))
    pub same : content_of (kept 0).map ≡ content_of is.map
    pub done : plan.refusal ≡ None → (0 < length plan.commands) × ((k : ℕ) → content_of (kept (suc k)).map ≡ remove (content_of is.map) key)
    pub refused : (r : MapRefusal) → plan.refusal ≡ Some r → (r ≡ NoKey) × (get (content_of is.map) key ≡ None) × (plan.commands ≡ [])
    pub few : length plan.commands ≤ 2 * is.map.level + 5
