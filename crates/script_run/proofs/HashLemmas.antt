-- The plans of a hash file, and how its calls are answered.
use Rattle.std.proofs.Common.{◌≡◌, ◌∙◌, ap, sym, refl, ℕ, Bool, true, false, List, [], ◌∷◌, Option, Some, None, Result, Ok, Err}
use Rattle.std.specs.Prelude.{◌&&◌, nat_le, nat_lt, if◌then◌else◌, map}
use Rattle.std.proofs.lemmas.Bool.{cond_both}
use Rattle.oper_core.specs.Meaning.{after}
use Rattle.oper_core.specs.State.{State}
use Rattle.oper_core.specs.declared.bounds.Bounds.{Bounds}
use Rattle.oper_core.specs.declared.refusal.Refusal.TheVariants as refusals
use Rattle.formats.specs.declared.params.Params.{Params}
use Rattle.op_codec.specs.AllOps.{hash}
use Rattle.key_entries.specs.Pairs.{has}
use Rattle.call_plans.specs.Plan.{goes_on, ends, refuses, one_command, plan_from, plan_next, refused_by}
use Rattle.hash_ops.specs.Operation.{hash_meaning}
use Rattle.hash_ops.specs.declared.hash_op.HashOp.{HashOp}
use Rattle.hash_ops.specs.declared.hash_op.HashOp.TheVariants.{Delete}
use Rattle.hash_file.specs.Find.{Met, Range, unused, bad, found, find_bucket}
use Rattle.hash_file.specs.Plan.{HashNext, HashPlan, delete_on, delete_plan, is_there, put_next, put_plan}
use Rattle.hash_file.specs.declared.refusal.HashRefusal.{HashRefusal}
use Rattle.hash_file.specs.declared.refusal.HashRefusal.TheVariants.{NoObject, BadHash, HashFull, NoRoom, NoKey}
use Rattle.range_calls.specs.Answers.{made_of, told}
use Rattle.script_lines.specs.Replies.{ok, refused, reply_of}
use Rattle.shell_base.specs.Store.{Command}
use Rattle.script_run.specs.Found.{hash_answer}
use Rattle.script_run.specs.Made.{call_end, hash_found, hash_made, hash_reply, plan_reply}

-- a refusal's answer says its reply
pub hash_agree : (why : HashRefusal) → hash_reply why ≡ reply_of (hash_answer why)
hash_agree NoObject = refl
hash_agree (BadHash object) = refl
hash_agree (HashFull object) = refl
hash_agree (NoRoom free) = refl
hash_agree NoKey = refl

-- the range that was made, if it is one
abbrev range_in : ℕ → ℕ → Range
range_in low high = record { lo = low; hi = high }

abbrev range_of : ℕ → ℕ → Option Range
range_of low high = if nat_lt low high then Some (range_in low high) else None

pub file_is : (low high : ℕ) (t : Range) → Some t ≡ range_of low high → t ≡ range_in low high
file_is low high t = by_order (nat_lt low high)
  where
    by_order : (b : Bool) → Some t ≡ (if b then Some (range_in low high) else None) → t ≡ range_in low high
    by_order true is = cc is
    by_order false is = cc is

pub no_file : (low high : ℕ) → None ≡ range_of low high → nat_lt low high ≡ false
no_file low high = by_order (nat_lt low high)
  where
    by_order : (b : Bool) → None ≡ (if b then Some (range_in low high) else None) → b ≡ false
    by_order true is = cc is
    by_order false is = refl

-- where there is none a call is refused
pub nowhere : {X : Type 0} (b : Bounds) (low high : ℕ) (there none : X) → nat_lt low high ≡ false → (if is_there b low high then there else none) ≡ none
nowhere b low high there none is = ap (λ (t : Bool). if t && nat_lt high b.objects then there else none) is

-- a plan that is not refused has some commands
abbrev IsPlanned : HashPlan → Type 0
IsPlanned plan = plan.refusal ≡ None → plan.commands ≡ [] → ⊥

planned_next : (rest : HashOp → HashPlan) (next : HashNext) → IsPlanned (plan_next rest next)
planned_next rest (goes_on op) is none = cc none
planned_next rest (ends op) is none = cc none
planned_next rest (refuses why) is none = cc is

planned_if : (b : Bool) (one other : HashPlan) → IsPlanned one → IsPlanned other → IsPlanned (if b then one else other)
planned_if true one other here there = here
planned_if false one other here there = there

planned_delete : (key : List ℕ) (met : Met) → IsPlanned (delete_on key met)
planned_delete key unused is none = cc is
planned_delete key (bad x) is none = cc is
planned_delete key (found x b) is none = planned_if (has key b.pairs.items) (one_command (Delete x key)) (refused_by NoKey) (λ is none. cc none) (λ is none. cc is) is none

pub planned_put_all : (b : Bounds) (lo hi : ℕ) (s : State) (key value : List ℕ) → IsPlanned (put_plan b lo hi s key value)
planned_put_all b lo hi s key value =
    planned_if (is_there b lo hi) (plan_from (hash_meaning b) (put_next b lo hi key value) 7 s) (refused_by NoObject)
    (planned_next (λ op. plan_from (hash_meaning b) (put_next b lo hi key value) 6 (after (hash_meaning b) s op)) (put_next b lo hi key value s)) (λ is none. cc is)

pub planned_delete_all : (b : Bounds) (lo hi : ℕ) (s : State) (key : List ℕ) → IsPlanned (delete_plan b lo hi s key)
planned_delete_all b lo hi s key = planned_if (is_there b lo hi) (delete_on key (find_bucket lo hi s key)) (refused_by NoObject) (planned_delete key (find_bucket lo hi s key)) (λ is none. cc is)

some_end : (refusal : Option HashRefusal) → call_end hash_reply refusal ≡ ok → refusal ≡ None
some_end None is = refl
some_end (Some NoObject) is = cc is
some_end (Some (BadHash object)) is = cc is
some_end (Some (HashFull object)) is = cc is
some_end (Some (NoRoom free)) is = cc is
some_end (Some NoKey) is = cc is

-- where its answer is ok it makes some
pub some_hash : (p : Params) (plan : HashPlan) → IsPlanned plan → (hash_made p plan).reply ≡ ok → (hash_made p plan).ops ≡ [] → ⊥
some_hash p plan planned = of_commands plan.commands plan.refusal planned
  where
    of_commands : (ops : List HashOp) (refusal : Option HashRefusal) → (refusal ≡ None → ops ≡ [] → ⊥) → plan_reply p.cap ops (call_end hash_reply refusal) ≡ ok → made_of p.cap (map hash ops) ≡ [] → ⊥
    of_commands [] refusal here = λ is none. here (some_end refusal is) refl
    of_commands (op ∷ ops) refusal here = λ is none.
        cond_both (nat_le 1024 p.cap) (map hash (op ∷ ops)) [] (λ (l : List Command). l ≡ [] → (if nat_le 1024 p.cap then call_end hash_reply refusal else refused refusals.TooLarge) ≡ ok → ⊥)
        (λ wide empty answer. cc empty)
        (λ small empty answer. let so : refused refusals.TooLarge ≡ ok = sym (ap (λ (b : Bool). if b then call_end hash_reply refusal else refused refusals.TooLarge) small) ∙ answer in cc so)
        none is

-- what a hash file tells
pub found_so : (answer : Result (Option (List ℕ)) HashRefusal) (value : Option (List ℕ)) → Ok value ≡ told answer → hash_found answer ≡ hash_found (Ok value)
found_so (Ok other) value is = ap (λ (v : Option (List ℕ)). hash_found (Ok v)) (let same : other ≡ value = cc is in same)
found_so (Err why) value is = cc is
