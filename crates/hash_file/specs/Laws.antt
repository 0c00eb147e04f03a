-- What the calls of a hash file do to the map that it stands for.
use Rattle.std.specs.Prelude.{◌≡◌, ⊤, IsTrue, ℕ, ◌-◌, ◌<◌, ◌≤◌, suc, Ok, List, length}
use Rattle.std.specs.FinMap.{FinMap, get, insert, remove}
use Rattle.oper_core.specs.State.{State}
use Rattle.oper_core.specs.Meaning.{IsSmall, after}
use Rattle.oper_core.specs.declared.bounds.Bounds.{Bounds}
use Rattle.key_entries.specs.Entries.{byte_order}
use Rattle.call_plans.specs.Free.{free_from}
use Rattle.call_plans.specs.Laws.{Acts}
use Rattle.hash_ops.specs.Operation.{hash_meaning}
use Rattle.hash_ops.specs.declared.hash_op.HashOp.{HashOp}
use Rattle.hash_file.specs.File.{IsHash, content_of}
use Rattle.hash_file.specs.Plan.{HashPlan, is_there, put_plan, delete_plan, get_answer}
use Rattle.hash_file.specs.declared.refusal.HashRefusal.{HashRefusal}
use Rattle.hash_file.specs.declared.refusal.HashRefusal.TheVariants.{NoObject, BadHash, HashFull, NoRoom, NoKey}

-- the numbers of the bounds fit their type, the range is there, and a value has room for a whole directory or bucket
pub record IsRange (b : Bounds) (lo hi : ℕ) : Type 0 where
  pub small : IsSmall b
  pub there : IsTrue (is_there b lo hi)
  pub wide : 1024 ≤ b.cap

-- the file can't grow: no object is free, or a bucket can be no deeper
abbrev pub IsFull : HashRefusal → Type 0
IsFull (HashFull x) = ⊤
IsFull (NoRoom free) = free ≡ 0
IsFull NoObject = ⊥
IsFull (BadHash x) = ⊥
IsFull NoKey = ⊥

module _ (b : Bounds) (lo hi : ℕ) (s : State) where
  -- the beginning of a file, or a split, leaves a hash file with the same content, and fewer objects free
  pub record GrowthKeeps (op : HashOp) : Type 0 where
    pub file : IsHash lo hi (after (hash_meaning b) s op)
    pub content : content_of lo (after (hash_meaning b) s op) ≡ content_of lo s
    pub taken : length (free_from (after (hash_meaning b) s op) (suc lo) (hi - lo)) < length (free_from s (suc lo) (hi - lo))

  abbrev pub CallActs : (FinMap byte_order (List ℕ) → FinMap byte_order (List ℕ)) → HashPlan → Type 0
  CallActs change plan = Acts (hash_meaning b) (IsHash lo hi) (content_of lo) s change plan

  abbrev pub PutActs : List ℕ → List ℕ → Type 0
  PutActs key value = CallActs (λ m. insert m key value) (put_plan b lo hi s key value)

  abbrev pub DeleteActs : List ℕ → Type 0
  DeleteActs key = CallActs (λ m. remove m key) (delete_plan b lo hi s key)

  abbrev pub GetTells : List ℕ → Type 0
  GetTells key = get_answer b lo hi s key ≡ Ok (get (content_of lo s) key)
