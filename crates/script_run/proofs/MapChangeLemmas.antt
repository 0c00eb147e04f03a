-- A change of a map makes some commands where its answer is ok.
use Rattle.std.proofs.Common.{◌≡◌, refl, ◌<◌, ◌+◌, ◌*◌, ◌-◌, arith, ℕ, zero, suc, Bool, true, false, List, [], ◌∷◌, Option, Some, None, Result, Ok, Err}
use Rattle.std.specs.Prelude.{⊤, map, nat_le, nat_lt, option_map, if◌then◌else◌}
use Rattle.call_plans.specs.Free.{free_from}
use Rattle.call_plans.specs.Laws.{after_all}
use Rattle.call_plans.specs.Plan.{Plan}
use Rattle.formats.specs.Objects.{bounds_of}
use Rattle.formats.specs.declared.params.Params.{Params}
use Rattle.oper_core.specs.Meaning.{refusal_of}
use Rattle.oper_core.specs.State.{State}
use Rattle.oper_core.specs.declared.bounds.Bounds.{Bounds}
use Rattle.oper_core.specs.declared.refusal.Refusal.{Refusal}
use Rattle.oper_core.specs.declared.refusal.Refusal.TheVariants as refusals
use Rattle.op_codec.specs.AllOps.{page}
use Rattle.page_map.specs.Map.{bytes_at}
use Rattle.page_map.specs.Deletes.{delete_by, delete_plan}
use Rattle.page_map.specs.Plan.{delete_command, set_at}
use Rattle.page_map.specs.Sets.{Turn, by_turn, child_split, cut_turn, does, due_in, ends, is_pair, length_with, put_turn, refuses, room_of, root_split, set_by, set_from, set_plan, set_turn}
use Rattle.page_map.specs.Splits.{Due as CutDue, Split, asks, fits, granted}
use Rattle.page_map.specs.Walk.{walk}
use Rattle.page_map.specs.declared.refusal.MapRefusal.{MapRefusal}
use Rattle.page_map.specs.declared.refusal.MapRefusal.TheVariants.{BadMap, TooLong, MapFull, NoKey}
use Rattle.page_ops.specs.Operation.{page_meaning}
use Rattle.page_ops.specs.Reading.{level_in, seek}
use Rattle.page_ops.specs.declared.page_op.PageOp.{PageOp}
use Rattle.page_ops.specs.declared.page_op.PageOp.TheVariants.{Part, Keep, Root}
use Rattle.range_calls.specs.Rounds.{if_accepted, tried, tried_all}
use Rattle.range_calls.specs.Store.{meaning_in, state_of}
use Rattle.range_calls.specs.declared.call_err.CallErr.TheVariants as call_errors
use Rattle.map_client.specs.Answers.{MapErr}
use Rattle.map_client.specs.Changing.{closed_by, in_store, made_unless}
use Rattle.map_client.specs.declared.call_refusal.CallRefusal.{CallRefusal}
use Rattle.map_client.specs.declared.call_refusal.CallRefusal.TheVariants.{NoObject, NoPages, Map}
use Rattle.script_lines.specs.Replies.{ok, refused}
use Rattle.script_lines.specs.declared.line.MapChange.{MapChange}
use Rattle.script_lines.specs.declared.line.MapChange.TheVariants.{Set, Delete}
use Rattle.shell_base.specs.Store.{Command}
use Rattle.script_run.specs.Made.{change_comes, change_made, change_reply, made, map_made, map_reply}

-- where the answer is ok, there are some commands
abbrev HasSome : Plan Command MapErr → Type 0
HasSome plan = change_reply plan.refusal ≡ ok → plan.commands ≡ [] → ⊥

not_ok : (why : CallRefusal) → map_reply why ≡ ok → ⊥
not_ok NoObject is = cc is
not_ok NoPages is = cc is
not_ok (Map (BadMap object)) is = cc is
not_ok (Map TooLong) is = cc is
not_ok (Map MapFull) is = cc is
not_ok (Map NoKey) is = cc is

-- a plan that is not refused has some commands
abbrev IsPlanned : Plan PageOp MapRefusal → Type 0
IsPlanned plan = plan.refusal ≡ None → plan.commands ≡ [] → ⊥

-- a turn of a set does something
abbrev IsBusy : Turn → Type 0
IsBusy (does []) = ⊥
IsBusy turn = ⊤

busy_child : (w : Split) (q i : ℕ) (free : List ℕ) → IsBusy (child_split w q i free)
busy_child w q i [] = tt
busy_child w q i (new ∷ free) = tt

busy_root : (w : Split) (free : List ℕ) → IsBusy (root_split w free)
busy_root w [] = tt
busy_root w (one ∷ []) = tt
busy_root w (left ∷ right ∷ free) = by_level (nat_lt w.level 255)
  where
    by_level : (b : Bool) → IsBusy (if b then does (Part left w.object 0 w.place ∷ Part right w.object w.place w.count ∷ Root w.object (suc w.level) left w.key right ∷ []) else refuses MapFull)
    by_level true = tt
    by_level false = tt

busy_cut : (lo : ℕ) (free : List ℕ) (due : Result CutDue ℕ) → IsBusy (cut_turn lo free due)
busy_cut lo free (Err bad) = tt
busy_cut lo free (Ok fits) = tt
busy_cut lo free (Ok (asks w)) = busy_root w free
busy_cut lo free (Ok (granted w q i)) = by_past w.has_past
  where
    by_past : (b : Bool) → IsBusy (if b then does (Keep w.object w.count ∷ []) else child_split w q i free)
    by_past true = tt
    by_past false = busy_child w q i free

busy_put : (b : Bounds) (lo hi : ℕ) (key value : List ℕ) (s : State) (x : ℕ) (place : Option ℕ) → IsBusy (put_turn b lo hi key value s x place)
busy_put b lo hi key value s x None = tt
busy_put b lo hi key value s x (Some i) = by_room (nat_le (length_with (bytes_at lo s x) key value i) (room_of b.cap))
  where
    by_room : (roomy : Bool) → IsBusy (if roomy then ends (set_at x (bytes_at lo s x) key value i) else cut_turn lo (free_from s (suc lo) (hi - lo)) (due_in b lo hi key value s))
    by_room true = tt
    by_room false = busy_cut lo (free_from s (suc lo) (hi - lo)) (due_in b lo hi key value s)

busy_set : (b : Bounds) (lo hi : ℕ) (key value : List ℕ) (s : State) → IsBusy (set_turn b lo hi key value s)
busy_set b lo hi key value s = by_pair (is_pair (room_of b.cap) (key, value))
  where
    by_way : (way : Result ℕ ℕ) → IsBusy (set_by b lo hi key value s way)
    by_way (Err bad) = tt
    by_way (Ok x) = busy_put b lo hi key value s x (seek (bytes_at lo s x) key)

    by_pair : (short : Bool) → IsBusy (if short then set_by b lo hi key value s (walk lo hi s key) else refuses TooLong)
    by_pair true = by_way (walk lo hi s key)
    by_pair false = tt

planned_turn : (b : Bounds) (lo hi : ℕ) (rest : List PageOp → Plan PageOp MapRefusal) (turn : Turn) → IsBusy turn → IsPlanned (by_turn b lo hi rest turn)
planned_turn b lo hi rest (does []) busy = absurd busy
planned_turn b lo hi rest (does (op ∷ ops)) busy = λ is none. cc none
planned_turn b lo hi rest (ends op) busy = λ is none. cc none
planned_turn b lo hi rest (refuses why) busy = λ is none. cc is

planned_set : (b : Bounds) (lo hi : ℕ) (key value : List ℕ) (n : ℕ) (s : State) → 0 < n → IsPlanned (set_from b lo hi key value n s)
planned_set b lo hi key value zero s some = absurd (omega (arith, some))
planned_set b lo hi key value (suc n) s some =
    planned_turn b lo hi (λ ops. set_from b lo hi key value n (after_all (page_meaning b) s ops)) (set_turn b lo hi key value s) (busy_set b lo hi key value s)

-- so has a delete
planned_delete : (b : Bounds) (lo hi : ℕ) (key : List ℕ) (s : State) (command : Result (Option PageOp) ℕ) → IsPlanned (delete_by b lo hi key s command)
planned_delete b lo hi key s (Err bad) = λ is none. cc is
planned_delete b lo hi key s (Ok None) = λ is none. cc is
planned_delete b lo hi key s (Ok (Some op)) = λ is none. cc none

-- what comes of a plan, in which the engine may refuse a command
some_tried : (p : Params) (s : State) (plan : Plan PageOp MapRefusal) → IsPlanned plan → HasSome (tried p s (in_store plan))
some_tried p s plan planned = of_commands plan.commands plan.refusal planned
  where
    by_refusal : (op : Command) (rest : Plan Command MapErr) (r : Option Refusal) → HasSome (if_accepted p op rest r)
    by_refusal op rest None = λ is none. cc none
    by_refusal op rest (Some why) = λ is none. cc is

    of_end : (refusal : Option MapRefusal) → (refusal ≡ None → ⊥) → change_reply (option_map call_errors.Refused (option_map Map refusal)) ≡ ok → ⊥
    of_end None other = λ is. other refl
    of_end (Some why) other = λ is. not_ok (Map why) is

    of_commands : (ops : List PageOp) (refusal : Option MapRefusal) → (refusal ≡ None → ops ≡ [] → ⊥) → HasSome (tried_all p s (map page ops) (option_map call_errors.Refused (option_map Map refusal)))
    of_commands [] refusal here = λ is none. of_end refusal (λ e. here e refl) is
    of_commands (op ∷ ops) refusal here = by_refusal (page op) _ (refusal_of (meaning_in p) s (page op))

some_made : (closed : Option CallRefusal) (p : Params) (s : State) (plan : Plan PageOp MapRefusal) → IsPlanned plan → HasSome (made_unless closed (tried p s (in_store plan)))
some_made None p s plan planned = some_tried p s plan planned
some_made (Some why) p s plan planned = λ is none. not_ok why is

some_change : (lo hi : ℕ) (change : MapChange) (p : Params) (commands : List Command) → HasSome (change_comes lo hi change p commands)
some_change lo hi (Set key bytes) p commands =
    let s = state_of p commands in
    some_made (closed_by (bounds_of p) hi) p s (set_plan (bounds_of p) lo hi key bytes s) (planned_set (bounds_of p) lo hi key bytes (2 * level_in (bytes_at lo s lo) + 3) s (omega arith))
some_change lo hi (Delete key) p commands =
    let s = state_of p commands in
    some_made (closed_by (bounds_of p) hi) p s (delete_plan (bounds_of p) lo hi key s) (planned_delete (bounds_of p) lo hi key s (delete_command lo hi s key))

pub some_map : (lo hi : ℕ) (change : MapChange) (p : Params) (commands : List Command) → (map_made lo hi change p commands).reply ≡ ok → (map_made lo hi change p commands).ops ≡ [] → ⊥
some_map lo hi change p commands = by_order (nat_le lo hi)
  where
    by_order : (b : Bool) → (if b then change_made (change_comes lo hi change p commands) else made [] (refused refusals.NoObject)).reply ≡ ok
        → (if b then change_made (change_comes lo hi change p commands) else made [] (refused refusals.NoObject)).ops ≡ [] → ⊥
    by_order true = some_change lo hi change p commands
    by_order false = λ is none. cc is
