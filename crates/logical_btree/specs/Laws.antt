-- What the calls of a tree do to the map that it stands for.
use Rattle.std.specs.Prelude.{◌≡◌, IsTrue, ℕ, ◌≤◌, ◌<◌, Some, Ok, List, length, filter}
use Rattle.std.specs.FinMap.{FinMap, get, insert, remove, entries}
use Rattle.oper_core.specs.State.{State}
use Rattle.oper_core.specs.Meaning.{IsSmall, after}
use Rattle.oper_core.specs.declared.bounds.Bounds.{Bounds}
use Rattle.key_entries.specs.Entries.{byte_order}
use Rattle.call_plans.specs.Laws.{Acts}
use Rattle.btree_ops.specs.Operation.{node_meaning}
use Rattle.btree_ops.specs.declared.node_op.NodeOp.{NodeOp}
use Rattle.logical_btree.specs.Walk.{is_within}
use Rattle.logical_btree.specs.Tree.{IsTree, content_of}
use Rattle.logical_btree.specs.Plan.{TreePlan, free_in, is_there, insert_plan, delete_plan, get_answer, range_answer}
use Rattle.logical_btree.specs.declared.refusal.TreeRefusal.{TreeRefusal}
use Rattle.logical_btree.specs.declared.refusal.TreeRefusal.TheVariants.{NoObject, BadTree, TreeFull, NoKey}

-- the numbers of the bounds fit their type, the range is there, and a value has room for a whole node
pub record IsRange (b : Bounds) (lo hi : ℕ) : Type 0 where
  pub small : IsSmall b
  pub there : IsTrue (is_there b lo hi)
  pub wide : 1024 ≤ b.cap

-- fewer objects are free than a split needs
abbrev pub IsTreeFull : TreeRefusal → Type 0
IsTreeFull (TreeFull need free) = free < need
IsTreeFull NoObject = ⊥
IsTreeFull (BadTree object) = ⊥
IsTreeFull NoKey = ⊥

module _ (b : Bounds) where
  -- a split leaves a tree with the same content, and fewer objects free
  pub record SplitKeeps (lo hi : ℕ) (s : State) (op : NodeOp) : Type 0 where
    pub tree : IsTree lo hi (after (node_meaning b) s op)
    pub content : content_of lo hi (after (node_meaning b) s op) ≡ content_of lo hi s
    pub taken : length (free_in (after (node_meaning b) s op) lo hi) < length (free_in s lo hi)

  abbrev pub MapOf : Type 0
  MapOf = FinMap byte_order (List ℕ)

  abbrev pub CallActs : ℕ → ℕ → State → (MapOf → MapOf) → TreePlan → Type 0
  CallActs lo hi s change plan = Acts (node_meaning b) (IsTree lo hi) (content_of lo hi) s change plan

  abbrev pub InsertActs : ℕ → ℕ → State → List ℕ → List ℕ → Type 0
  InsertActs lo hi s key value = CallActs lo hi s (λ m. insert m key value) (insert_plan b lo hi s key value)

  abbrev pub DeleteActs : ℕ → ℕ → State → List ℕ → Type 0
  DeleteActs lo hi s key = CallActs lo hi s (λ m. remove m key) (delete_plan b lo hi s key)

  abbrev pub GetTells : ℕ → ℕ → State → List ℕ → Type 0
  GetTells lo hi s key = get_answer b lo hi s key ≡ Ok (get (content_of lo hi s) key)

  abbrev pub RangeTells : ℕ → ℕ → State → List ℕ → List ℕ → Type 0
  RangeTells lo hi s from to = range_answer b lo hi s from to ≡ Ok (filter (λ e. is_within e.0 (record { from = from; to = Some to })) (entries (content_of lo hi s)))
