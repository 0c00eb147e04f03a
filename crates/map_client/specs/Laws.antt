-- What the calls do to a map.
use Rattle.std.specs.Prelude.{◌≡◌, ℕ, ◌+◌, ◌*◌, true, None, Ok, Err, List, ◌++◌, is_some, map, take, if◌then◌else◌, option_map}
use Rattle.std.specs.FinMap.{get, remove}
use Rattle.oper_core.specs.State.{State}
use Rattle.oper_core.specs.Meaning.{Accepts}
use Rattle.oper_core.specs.declared.bounds.Bounds.{Bounds}
use Rattle.formats.specs.Objects.{bounds_of}
use Rattle.formats.specs.declared.params.Params.{Params}
use Rattle.call_plans.specs.Laws.{after_all}
use Rattle.call_plans.specs.Plan.{Plan}
use Rattle.op_codec.specs.AllOps.{page}
use Rattle.page_ops.specs.Operation.{page_meaning}
use Rattle.page_ops.specs.declared.page_op.PageOp.{PageOp}
use Rattle.page_map.specs.Deletes.{Deletes, delete_plan, tidy_plan}
use Rattle.page_map.specs.Map.{IsMap, content_of}
use Rattle.page_map.specs.Plan.{Makes}
use Rattle.page_map.specs.Sets.{IsKept, Keeps, Sets, set_plan}
use Rattle.page_map.specs.Sweeps.{Sweeps, sweep_plan}
use Rattle.page_map.specs.declared.refusal.MapRefusal.{MapRefusal}
use Rattle.page_map.specs.declared.refusal.MapRefusal.TheVariants.{NoKey}
use Rattle.range_calls.specs.Store.{Command, state_of}
use Rattle.range_calls.specs.declared.call_err.CallErr.TheVariants.{Refused}
use Rattle.map_client.specs.Answers.{MapErr}
use Rattle.map_client.specs.Changing.{delete_comes, delete_due, set_comes, sweep_comes, tidy_comes}
use Rattle.map_client.specs.declared.call_refusal.CallRefusal.TheVariants.{Map}

module _ (b : Bounds) (lo hi : ℕ) (s : State) (is : IsMap lo hi s) where
  -- the command that takes a key out is refused exactly where the map lacks the key; else it is accepted, and makes the map without it
  pub record TakesOut (key : List ℕ) : Type 0 where
    pub op : PageOp
    pub due : delete_due b lo hi s key ≡ (if is_some (get (content_of is) key) then Ok op else Err (Map NoKey))
    pub accepted : is_some (get (content_of is) key) ≡ true → Accepts (page_meaning b) s op
    pub made : is_some (get (content_of is) key) ≡ true → Makes b lo hi s is (λ m. remove m key) op

module _ (p : Params) (commands : List Command) (lo hi : ℕ) (is : IsKept (bounds_of p) lo hi (state_of p commands)) (key value : List ℕ) where
  abbrev pub plan : Plan PageOp MapRefusal
  plan = set_plan (bounds_of p) lo hi key value (state_of p commands)

  -- Its commands are those of its plan, and all of them are accepted: the range is a map at each moment, with the old content before
  -- the last command, and with the pair behind it; or the set is refused by its cause, and the range keeps its content.
  pub record SetActs : Type 0 where
    pub acts : Sets (bounds_of p) lo hi (state_of p commands) is key value plan (6 * is.map.level + 7)
    pub comes : set_comes lo hi key value p commands ≡ record { commands = map page plan.commands; refusal = option_map Refused (option_map Map plan.refusal) }
    pub moments : (k : ℕ) → state_of p (commands ++ take k (set_comes lo hi key value p commands).commands) ≡ after_all (page_meaning (bounds_of p)) (state_of p commands) (take k plan.commands)

module _ (p : Params) (commands : List Command) (lo hi : ℕ) (is : IsKept (bounds_of p) lo hi (state_of p commands)) (key : List ℕ) where
  abbrev pub deletion : Plan PageOp MapRefusal
  deletion = delete_plan (bounds_of p) lo hi key (state_of p commands)

  -- Its commands are those of its plan, and all of them are accepted: the range is a map at each moment, with the old content before
  -- the first command, and without the key behind it; or the delete is refused, exactly where the map lacks the key.
  pub record DeleteActs : Type 0 where
    pub acts : Deletes (bounds_of p) lo hi (state_of p commands) is key deletion
    pub comes : delete_comes lo hi key p commands ≡ record { commands = map page deletion.commands; refusal = option_map Refused (option_map Map deletion.refusal) }
    pub moments : (k : ℕ) → state_of p (commands ++ take k (delete_comes lo hi key p commands).commands) ≡ after_all (page_meaning (bounds_of p)) (state_of p commands) (take k deletion.commands)

-- Commands that keep what a map holds: all of a plan's are accepted, and the range is a map with the old content at each moment.
pub record KeepsAll (p : Params) (commands : List Command) (lo hi : ℕ) (is : IsKept (bounds_of p) lo hi (state_of p commands)) (planned : Plan PageOp MapRefusal) (comes : Plan Command MapErr) : Type 0 where
  pub keeps : Keeps (bounds_of p) lo hi (state_of p commands) is planned.commands
  pub comes_is : comes ≡ record { commands = map page planned.commands; refusal = None }
  pub moments : (k : ℕ) → state_of p (commands ++ take k comes.commands) ≡ after_all (page_meaning (bounds_of p)) (state_of p commands) (take k planned.commands)

module _ (p : Params) (commands : List Command) (lo hi : ℕ) (is : IsKept (bounds_of p) lo hi (state_of p commands)) where
  -- so do those that tidy the way to a key
  abbrev pub TidyActs : List ℕ → Type 0
  TidyActs key = KeepsAll p commands lo hi is (tidy_plan (bounds_of p) lo hi key (state_of p commands)) (tidy_comes lo hi key p commands)

  abbrev pub swept : Plan PageOp MapRefusal
  swept = sweep_plan (record { lo = lo; hi = hi }) (state_of p commands)

  -- and those of a sweep, behind which nothing is left over
  pub record SweepActs : Type 0 where
    pub acts : Sweeps (bounds_of p) lo hi (state_of p commands) is swept
    pub keeps_all : KeepsAll p commands lo hi is swept (sweep_comes lo hi p commands)
