-- What the calls of a hash file stand for: the commands that each makes of a state, and its answer.
use Rattle.std.specs.Prelude.{ℕ, suc, ◌-◌, ◌==◌, Bool, ◌&&◌, ◌||◌, Option, None, Result, Ok, Err, List, [], ◌∷◌, length, nat_lt, if◌then◌else◌}
use Rattle.std.specs.FinMap.Entries.{find}
use Rattle.oper_core.specs.State.{State}
use Rattle.oper_core.specs.declared.bounds.Bounds.{Bounds}
use Rattle.key_entries.specs.Entries.{byte_order}
use Rattle.key_entries.specs.Pairs.{has}
use Rattle.call_plans.specs.Free.{free_from}
use Rattle.call_plans.specs.Plan.{Next, goes_on, ends, refuses, Plan, refused_by, one_command, plan_from}
use Rattle.hash_ops.specs.Operation.{hash_meaning}
use Rattle.hash_ops.specs.declared.bucket.Bucket.{Bucket}
use Rattle.hash_ops.specs.declared.hash_op.HashOp.{HashOp}
use Rattle.hash_ops.specs.declared.hash_op.HashOp.TheVariants.{Init, Put, Delete, Split}
use Rattle.hash_file.specs.Find.{Met, unused, bad, found, find_bucket}
use Rattle.hash_file.specs.declared.refusal.HashRefusal.{HashRefusal}
use Rattle.hash_file.specs.declared.refusal.HashRefusal.TheVariants.{NoObject, BadHash, HashFull, NoRoom, NoKey}

abbrev pub HashNext : Type 0
HashNext = Next HashOp HashRefusal

abbrev pub HashPlan : Type 0
HashPlan = Plan HashOp HashRefusal

-- the command that takes the least free object
abbrev pub with_free : (ℕ → HashOp) → List ℕ → HashNext
with_free make [] = refuses (NoRoom 0)
with_free make (x ∷ free) = goes_on (make x)

-- a bucket has room for the pair where the key is there, or fewer than seven others
abbrev pub has_room : List ℕ → Bucket → Bool
has_room key b = has key b.pairs.items || nat_lt (length b.pairs.items) 7

-- what comes next in a put: the beginning of the file or a split, each with the least free object, or the put that ends it
abbrev pub put_on : ℕ → List ℕ → List ℕ → List ℕ → Met → HashNext
put_on lo key value free unused = with_free (λ x. Init lo x) free
put_on lo key value free (bad x) = refuses (BadHash x)
put_on lo key value free (found x b) =
    if has_room key b then ends (Put x key value) else (if b.depth == 6 then refuses (HashFull x) else with_free (λ new. Split lo x new) free)

abbrev pub delete_on : List ℕ → Met → HashPlan
delete_on key unused = refused_by NoKey
delete_on key (bad x) = refused_by (BadHash x)
delete_on key (found x b) = if has key b.pairs.items then one_command (Delete x key) else refused_by NoKey

abbrev pub get_on : List ℕ → Met → Result (Option (List ℕ)) HashRefusal
get_on key unused = Ok None
get_on key (bad x) = Err (BadHash x)
get_on key (found x b) = Ok (find byte_order key b.pairs.items)

module _ (b : Bounds) (lo hi : ℕ) where
  abbrev pub put_next : List ℕ → List ℕ → State → HashNext
  put_next key value s = put_on lo key value (free_from s (suc lo) (hi - lo)) (find_bucket lo hi s key)

  -- the range has an object behind the directory, and ends within the store
  abbrev pub is_there : Bool
  is_there = nat_lt lo hi && nat_lt hi b.objects

  abbrev pub where_there : HashPlan → HashPlan
  where_there plan = if is_there then plan else refused_by NoObject

  -- Each split makes the key's bucket deeper by one, to 6 at most. So there are at most six, and then a put or a refusal.
  abbrev pub put_plan : State → List ℕ → List ℕ → HashPlan
  put_plan s key value = where_there (plan_from (hash_meaning b) (put_next key value) 7 s)

  abbrev pub delete_plan : State → List ℕ → HashPlan
  delete_plan s key = where_there (delete_on key (find_bucket lo hi s key))

  abbrev pub get_answer : State → List ℕ → Result (Option (List ℕ)) HashRefusal
  get_answer s key = if is_there then get_on key (find_bucket lo hi s key) else Err NoObject
