-- What the plain map makes of a line that asks for commands, or for pairs of a tree, a hash file or a map.
use Rattle.std.specs.Prelude.{◌≡◌, ◌++◌, ◌&&◌, ℕ, zero, suc, map, nat_le, nat_lt, if◌then◌else◌, List, [], ◌∷◌, take, Option, None, Some, Result, Ok, Err}
use Rattle.execution.specs.declared.exec_err.ExecErr.TheVariants as exec_errors
use Rattle.oper_core.specs.State.{State}
use Rattle.oper_core.specs.declared.bounds.Bounds.{Bounds}
use Rattle.oper_core.specs.declared.refusal.Refusal.{Refusal}
use Rattle.oper_core.specs.declared.refusal.Refusal.TheVariants as refusals
use Rattle.formats.specs.Objects.{bounds_of}
use Rattle.formats.specs.declared.params.Params.{Params}
use Rattle.app_steps.specs.Steps.{program_step, step_of, steps, steps_accepted}
use Rattle.logical_btree.specs.Walk.{Pair}
use Rattle.logical_btree.specs.Plan.{TreePlan, delete_plan, get_answer, insert_plan, range_answer}
use Rattle.tree_client.specs.Answers.{made_of}
use Rattle.op_codec.specs.AllOps.{hash}
use Rattle.call_plans.specs.Plan as of_calls
use Rattle.map_client.specs.Answers.{MapErr}
use Rattle.map_client.specs.Changing.{delete_comes, set_comes}
use Rattle.map_client.specs.declared.call_refusal.CallRefusal.{CallRefusal}
use Rattle.map_client.specs.declared.call_refusal.CallRefusal.TheVariants as map_refusals
use Rattle.page_map.specs.Map.{Span}
use Rattle.page_map.specs.Ranges as of_maps
use Rattle.page_map.specs.Reads.{above}
use Rattle.page_map.specs.Walk as ways
use Rattle.page_map.specs.declared.refusal.MapRefusal.TheVariants as map_causes
use Rattle.range_calls.specs.Answers as of_ranges
use Rattle.range_calls.specs.declared.call_err.CallErr.TheVariants as call_errors
use Rattle.hash_file.specs.Plan.{HashPlan}
use Rattle.hash_file.specs.Plan as of_hash
use Rattle.hash_file.specs.declared.refusal.HashRefusal.{HashRefusal}
use Rattle.hash_file.specs.declared.refusal.HashRefusal.TheVariants as hash_refusals
use Rattle.script_lines.specs.declared.denial.Denial.TheVariants as denials
use Rattle.logical_btree.specs.declared.refusal.TreeRefusal.{TreeRefusal}
use Rattle.logical_btree.specs.declared.refusal.TreeRefusal.TheVariants.{NoObject, BadTree, TreeFull, NoKey}
use Rattle.script_lines.specs.Grammar.{Request, AsksFor}
use Rattle.script_lines.specs.declared.line.Line.TheVariants.{Run as run, Make, Ask}
use Rattle.script_lines.specs.declared.line.Making.TheVariants.{AppRun as arun, ProgramRun as prun, TreeInsert as tinsert, TreeDelete as tdelete, HashPut as hset, HashDelete as hdel, Map as change_map}
use Rattle.script_lines.specs.declared.line.MapChange.{MapChange}
use Rattle.script_lines.specs.declared.line.MapChange.TheVariants.{Set as mset, Delete as mdel}
use Rattle.script_lines.specs.declared.line.MapQuestion.{MapQuestion}
use Rattle.script_lines.specs.declared.line.MapQuestion.TheVariants.{Get as mget, Range as mrange, Back as mback, Count as mcount, Next as mnext, Prev as mprev}
use Rattle.script_lines.specs.declared.line.Question.TheVariants.{TreeGet as tget, TreeRange as trange, HashGet as hget, Map as ask_map}
use Rattle.script_lines.specs.Replies.{Reply, ok, value, ran, pairs_reply, refused, bad_tree, tree_full, denied, absent, counted}
use Rattle.shell_base.specs.Store.{Command, refusal_after, state_of}

-- commands, one after the other, and the answer where the log takes all of them
pub record Made : Type 0 where
  pub ops : List Command
  pub reply : Reply

abbrev pub made : List Command → Reply → Made
made ops reply = record { ops = ops; reply = reply }

-- a command, unless it is refused
abbrev pub one_unless : Command → Option Refusal → Made
one_unless op None = made (op ∷ []) ok
one_unless op (Some why) = made [] (refused why)

abbrev pub one_made : Params → List Command → Command → Made
one_made p commands op = one_unless op (refusal_after p commands op)

-- so many of at most n steps were done, where the first is not refused, or in a way that ends a run
abbrev pub run_reply : ℕ → ℕ → Option Refusal → Reply
run_reply zero k refusal = ran k
run_reply (suc n) k None = ran k
run_reply (suc n) k (Some refusals.Halted) = ran k
run_reply (suc n) k (Some refusals.NoInput) = ran k
run_reply (suc n) k (Some refusals.TooLarge) = ran k
run_reply (suc n) k (Some why) = refused why

-- as many of this step of an application as are accepted one after the other, at most n
abbrev pub run_made : Params → List Command → Command → ℕ → Made
run_made p commands step n = made (steps p commands step n) (run_reply n (steps_accepted p commands step n) (refusal_after p commands step))

-- why a call on a tree is refused
abbrev pub tree_reply : TreeRefusal → Reply
tree_reply NoObject = refused refusals.NoObject
tree_reply (BadTree object) = bad_tree
tree_reply (TreeFull need free) = tree_full
tree_reply NoKey = refused refusals.NoKey

abbrev pub end_reply : Option TreeRefusal → Reply
end_reply None = ok
end_reply (Some why) = tree_reply why

-- a plan's own answer, or, where it has commands and a value has no room for a node, that none of them is accepted
abbrev pub plan_reply : {O : Type 0} → ℕ → List O → Reply → Reply
plan_reply cap [] planned = planned
plan_reply cap (op ∷ ops) planned = if nat_le 1024 cap then planned else refused refusals.TooLarge

-- the commands of a call on a tree, and its own refusal at their end, if it is refused
abbrev pub plan_made : Params → TreePlan → Made
plan_made p plan = made (made_of p.cap plan.commands) (plan_reply p.cap plan.commands (end_reply plan.refusal))

-- the commands of a call on a range of objects, and its own refusal at their end, if it is refused
abbrev pub call_end : {R : Type 0} → (R → Reply) → Option R → Reply
call_end reply None = ok
call_end reply (Some why) = reply why

abbrev pub call_made : {O R : Type 0} → (O → Command) → (R → Reply) → Params → of_calls.Plan O R → Made
call_made command reply p plan = made (of_ranges.made_of p.cap (map command plan.commands)) (plan_reply p.cap plan.commands (call_end reply plan.refusal))

-- why a call on a hash file is refused
abbrev pub hash_reply : HashRefusal → Reply
hash_reply hash_refusals.NoObject = refused refusals.NoObject
hash_reply (hash_refusals.BadHash object) = denied denials.BadHash
hash_reply (hash_refusals.HashFull object) = denied denials.HashFull
hash_reply (hash_refusals.NoRoom free) = denied denials.NoRoom
hash_reply hash_refusals.NoKey = refused refusals.NoKey

abbrev pub hash_made : Params → HashPlan → Made
hash_made p plan = call_made hash hash_reply p plan

-- why a call on a map is refused
abbrev pub map_reply : CallRefusal → Reply
map_reply map_refusals.NoObject = refused refusals.NoObject
map_reply map_refusals.NoPages = refused refusals.NoPages
map_reply (map_refusals.Map (map_causes.BadMap object)) = denied denials.BadMap
map_reply (map_refusals.Map map_causes.TooLong) = denied denials.TooLong
map_reply (map_refusals.Map map_causes.MapFull) = denied denials.MapFull
map_reply (map_refusals.Map map_causes.NoKey) = refused refusals.NoKey

-- how a change of a map ends: it is done, or refused by the map or by the engine
abbrev pub change_reply : Option MapErr → Reply
change_reply (Some (call_errors.Refused why)) = map_reply why
change_reply (Some (call_errors.Exec (exec_errors.Refused why))) = refused why
change_reply error = ok

-- what a change comes to
abbrev pub change_comes : ℕ → ℕ → MapChange → Params → List Command → of_calls.Plan Command MapErr
change_comes lo hi (mset key bytes) p commands = set_comes lo hi key bytes p commands
change_comes lo hi (mdel key) p commands = delete_comes lo hi key p commands

abbrev pub change_made : of_calls.Plan Command MapErr → Made
change_made plan = made plan.commands (change_reply plan.refusal)

-- the same of a range whose last object may be below its first one, which is none
abbrev pub map_made : ℕ → ℕ → MapChange → Params → List Command → Made
map_made lo hi change p commands = if nat_le lo hi then change_made (change_comes lo hi change p commands) else made [] (refused refusals.NoObject)

-- what a request for commands makes after these
abbrev pub made_by : Params → List Command → Request → Option Made
made_by p commands (run op) = Some (one_made p commands op)
made_by p commands (Make (arun app n)) = Some (run_made p commands (step_of app) n)
made_by p commands (Make (prun app code n)) = Some (run_made p commands (program_step app code) n)
made_by p commands (Make (tinsert lo hi key bytes)) = Some (plan_made p (insert_plan (bounds_of p) lo hi (state_of p commands) key bytes))
made_by p commands (Make (tdelete lo hi key)) = Some (plan_made p (delete_plan (bounds_of p) lo hi (state_of p commands) key))
made_by p commands (Make (hset lo hi key bytes)) = Some (hash_made p (of_hash.put_plan (bounds_of p) lo hi (state_of p commands) key bytes))
made_by p commands (Make (hdel lo hi key)) = Some (hash_made p (of_hash.delete_plan (bounds_of p) lo hi (state_of p commands) key))
made_by p commands (Make (change_map lo hi change)) = Some (map_made lo hi change p commands)
made_by p commands request = None

-- After the commands the line asks for these commands, and has this answer where the log takes all of them.
pub record AsksMade (p : Params) (commands : List Command) (line : List ℕ) (it : Made) : Type 0 where
  pub request : Request
  pub asks : AsksFor line request
  pub makes : made_by p commands request ≡ Some it

-- these are some first commands of those that the line asks for
pub record IsFront (p : Params) (commands : List Command) (line : List ℕ) (front : List Command) : Type 0 where
  pub it : Made
  pub asks : AsksMade p commands line it
  pub count : ℕ
  pub first : front ≡ take count it.ops

-- after these commands the line asks for one more
pub record AsksBehind (p : Params) (commands : List Command) (line : List ℕ) (front : List Command) (op : Command) : Type 0 where
  pub it : Made
  pub asks : AsksMade p commands line it
  pub rest : List Command
  pub next : it.ops ≡ front ++ op ∷ rest

-- the value of a key, or no bytes where it is not there
abbrev pub found_reply : Result (Option (List ℕ)) TreeRefusal → Reply
found_reply (Ok None) = value []
found_reply (Ok (Some bytes)) = value bytes
found_reply (Err why) = tree_reply why

abbrev pub range_reply : Result (List Pair) TreeRefusal → Reply
range_reply (Ok found) = pairs_reply found
range_reply (Err why) = tree_reply why

abbrev pub hash_found : Result (Option (List ℕ)) HashRefusal → Reply
hash_found (Ok None) = value []
hash_found (Ok (Some bytes)) = value bytes
hash_found (Err why) = hash_reply why

-- what is read of a map, in a store that has its objects
abbrev pub of_map : {A : Type 0} → Result A ℕ → Result A CallRefusal
of_map (Ok found) = Ok found
of_map (Err bad) = Err (map_refusals.Map (map_causes.BadMap bad))

abbrev pub map_read : {A : Type 0} → Bounds → ℕ → ℕ → Result A ℕ → Result A CallRefusal
map_read b lo hi found = if nat_le lo hi && nat_lt hi b.objects then of_map found else Err map_refusals.NoObject

abbrev pub read_reply : {A : Type 0} → (A → Reply) → Result A CallRefusal → Reply
read_reply reply (Ok found) = reply found
read_reply reply (Err why) = map_reply why

-- the value of a key, if it is there
abbrev pub value_reply : Option (List ℕ) → Reply
value_reply None = absent
value_reply (Some bytes) = value bytes

-- the keys from one up to another; no bytes are the end of the map
abbrev pub end_of : List ℕ → Option (List ℕ)
end_of [] = None
end_of (byte ∷ key) = Some (byte ∷ key)

abbrev pub keys_from : List ℕ → List ℕ → Span
keys_from from to = record { from = from; to = end_of to }

-- the answer to a question to a map
abbrev pub map_found : Bounds → ℕ → ℕ → State → MapQuestion → Reply
map_found b lo hi s (mget key) = read_reply value_reply (map_read b lo hi (ways.get_answer lo hi s key))
map_found b lo hi s (mrange from to limit) = read_reply pairs_reply (map_read b lo hi (of_maps.range_answer lo hi s (keys_from from to) limit))
map_found b lo hi s (mback from to limit) = read_reply pairs_reply (map_read b lo hi (of_maps.back_answer lo hi s (keys_from from to) limit))
map_found b lo hi s (mcount from to) = read_reply counted (map_read b lo hi (of_maps.count_answer lo hi s (keys_from from to)))
map_found b lo hi s (mnext key) = read_reply pairs_reply (map_read b lo hi (of_maps.range_answer lo hi s (above key) 1))
map_found b lo hi s (mprev key) = read_reply pairs_reply (map_read b lo hi (of_maps.back_answer lo hi s (keys_from [] key) 1))

-- the answer to a request for pairs of a tree, a hash file or a map
abbrev pub tree_answer : Params → State → Request → Option Reply
tree_answer p s (Ask (tget lo hi key)) = Some (found_reply (get_answer (bounds_of p) lo hi s key))
tree_answer p s (Ask (trange lo hi from to)) = Some (range_reply (range_answer (bounds_of p) lo hi s from to))
tree_answer p s (Ask (hget lo hi key)) = Some (hash_found (of_hash.get_answer (bounds_of p) lo hi s key))
tree_answer p s (Ask (ask_map lo hi question)) = Some (map_found (bounds_of p) lo hi s question)
tree_answer p s request = None

-- After the commands the line asks for pairs of a tree, a hash file or a map, and this is the answer.
pub record AsksTree (p : Params) (commands : List Command) (line : List ℕ) (reply : Reply) : Type 0 where
  pub request : Request
  pub asks : AsksFor line request
  pub answers : tree_answer p (state_of p commands) request ≡ Some reply
