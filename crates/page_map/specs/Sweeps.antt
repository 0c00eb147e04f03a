-- Objects of a range that hold something and are not reached from its root: calls that were cut short have left them. A sweep frees
-- them.
use Rattle.std.specs.Prelude.{◌≡◌, ℕ, suc, ◌-◌, ◌≤◌, Bool, not, ◌&&◌, None, Result, Ok, Err, List, [], filter, map}
use Rattle.oper_core.specs.State.{State}
use Rattle.oper_core.specs.declared.bounds.Bounds.{Bounds}
use Rattle.call_plans.specs.Free.{is_empty, objects_from}
use Rattle.call_plans.specs.Laws.{after_all}
use Rattle.call_plans.specs.Plan.{Plan, refused_by}
use Rattle.page_ops.specs.Operation.{page_meaning}
use Rattle.page_ops.specs.declared.page_op.PageOp.{PageOp}
use Rattle.page_ops.specs.declared.page_op.PageOp.TheVariants.{Free}
use Rattle.page_map.specs.Checks.{Met, check, is_new}
use Rattle.page_map.specs.Map.{Range, IsMap, content_of, objects_in, times}
use Rattle.page_map.specs.Sets.{IsKept, Keeps}
use Rattle.page_map.specs.declared.refusal.MapRefusal.{MapRefusal}
use Rattle.page_map.specs.declared.refusal.MapRefusal.TheVariants.{BadMap}

module _ (range : Range) where
  -- an object of the range that was not met, and its bytes: it is left over where it has any
  abbrev pub is_left : List ℕ → ℕ → List ℕ → Bool
  is_left met x bytes = is_new range met x && not (is_empty bytes)

  -- what is left over behind the root
  abbrev pub left_over : List ℕ → State → List ℕ
  left_over met s = filter (λ x. is_left met x (s x)) (objects_from (suc range.lo) (range.hi - range.lo))

  abbrev pub sweep_behind : State → Result Met ℕ → Plan PageOp MapRefusal
  sweep_behind s (Err bad) = refused_by (BadMap bad)
  sweep_behind s (Ok met) = record { commands = map (λ x. Free x) (left_over met.objects s); refusal = None }

  -- what a sweep does
  abbrev pub sweep_plan : State → Plan PageOp MapRefusal
  sweep_plan s = sweep_behind s (check range s)

-- every object of the range that is not reached is empty
abbrev pub IsSwept : {lo hi : ℕ} → {s : State} → IsMap lo hi s → Type 0
IsSwept {lo} {hi} {s} is = (x : ℕ) → lo ≤ x → x ≤ hi → times x (objects_in is.level is.tree) ≡ 0 → s x ≡ []

-- The commands of a sweep are accepted one after the other and keep what the map holds, and behind them nothing is left over.
pub record Sweeps (b : Bounds) (lo hi : ℕ) (s : State) (is : IsKept b lo hi s) (plan : Plan PageOp MapRefusal) : Type 0 where
  pub whole : plan.refusal ≡ None
  pub keeps : Keeps b lo hi s is plan.commands
  pub kept : IsKept b lo hi (after_all (page_meaning b) s plan.commands)
  pub content : content_of kept.map ≡ content_of is.map
  pub swept : IsSwept kept.map
