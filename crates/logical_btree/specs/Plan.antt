-- What the calls of a tree stand for: the commands that each makes of a state, and its answer.
use Rattle.std.specs.Prelude.{ℕ, suc, ◌==◌, Bool, Option, None, Some, Result, Ok, Err, List, [], ◌∷◌, ◌++◌, length, nat_lt, nat_le, if◌then◌else◌, ◌&&◌}
use Rattle.std.specs.FinMap.Entries.{find}
use Rattle.oper_core.specs.State.{State}
use Rattle.oper_core.specs.declared.bounds.Bounds.{Bounds}
use Rattle.key_entries.specs.Entries.{byte_order}
use Rattle.btree_ops.specs.Node.{leaf}
use Rattle.key_entries.specs.Pairs.{has}
use Rattle.call_plans.specs.Free.{free_from}
use Rattle.call_plans.specs.Plan.{Next, goes_on, ends, refuses, Plan, refused_by, one_command, plan_from}
use Rattle.btree_ops.specs.Operation.{node_meaning}
use Rattle.btree_ops.specs.declared.node.Node.{Node}
use Rattle.btree_ops.specs.declared.node.Node.TheVariants.{Leaf, Inner}
use Rattle.btree_ops.specs.declared.node_op.NodeOp.{NodeOp}
use Rattle.btree_ops.specs.declared.node_op.NodeOp.TheVariants.{Put, Delete, SplitChild, SplitRoot}
use Rattle.logical_btree.specs.Walk.{Pair, Met, Way, walk, scan, size}
use Rattle.logical_btree.specs.declared.refusal.TreeRefusal.{TreeRefusal}
use Rattle.logical_btree.specs.declared.refusal.TreeRefusal.TheVariants.{NoObject, BadTree, TreeFull, NoKey}

-- a node of 7 keys
abbrev pub is_full : Node → Bool
is_full (Leaf pairs) = length pairs.items == 7
is_full (Inner first branches) = length branches.items == 7

abbrev pub steps_of : Way → List Met
steps_of way = way.inner ++ record { object = way.object; node = leaf way.pairs } ∷ []

-- the first full node on the way, and the node above it, where there is one
pub record Full : Type 0 where
  pub parent : Option ℕ
  pub child : ℕ

abbrev pub first_full : Option ℕ → List Met → Option Full
first_full parent [] = None
first_full parent (m ∷ rest) = if is_full m.node then Some (record { parent = parent; child = m.object }) else first_full (Some m.object) rest

-- the free objects of the range
abbrev pub free_in : State → ℕ → ℕ → List ℕ
free_in s lo hi = free_from s lo (size lo hi)

-- what comes next in an insert: a split, or the put that ends it, or a refusal
abbrev pub TreeNext : Type 0
TreeNext = Next NodeOp TreeRefusal

abbrev pub TreePlan : Type 0
TreePlan = Plan NodeOp TreeRefusal

-- the root is split with the two least free objects, another node with the least free one
abbrev pub split_root_with : ℕ → List ℕ → TreeNext
split_root_with root (left ∷ right ∷ free) = goes_on (SplitRoot root left right)
split_root_with root (one ∷ []) = refuses (TreeFull 2 1)
split_root_with root [] = refuses (TreeFull 2 0)

abbrev pub split_child_with : ℕ → ℕ → List ℕ → TreeNext
split_child_with parent child (new ∷ free) = goes_on (SplitChild parent child new)
split_child_with parent child [] = refuses (TreeFull 1 0)

abbrev pub split_with : List ℕ → ℕ → Option ℕ → TreeNext
split_with free child None = split_root_with child free
split_with free child (Some parent) = split_child_with parent child free

abbrev pub next_with : NodeOp → List ℕ → Option Full → TreeNext
next_with put free None = ends put
next_with put free (Some full) = split_with free full.child full.parent

abbrev pub next_on : List ℕ → List ℕ → List ℕ → Result Way ℕ → TreeNext
next_on key value free (Err bad) = refuses (BadTree bad)
next_on key value free (Ok way) =
    if has key way.pairs then ends (Put way.object key value) else next_with (Put way.object key value) free (first_full None (steps_of way))

abbrev pub delete_on : List ℕ → Result Way ℕ → TreePlan
delete_on key (Err bad) = refused_by (BadTree bad)
delete_on key (Ok way) = if has key way.pairs then one_command (Delete way.object key) else refused_by NoKey

abbrev pub get_on : List ℕ → Result Way ℕ → Result (Option (List ℕ)) TreeRefusal
get_on key (Err bad) = Err (BadTree bad)
get_on key (Ok way) = Ok (find byte_order key way.pairs)

abbrev pub range_on : Result (List Pair) ℕ → Result (List Pair) TreeRefusal
range_on (Err bad) = Err (BadTree bad)
range_on (Ok pairs) = Ok pairs

module _ (b : Bounds) (lo hi : ℕ) where
  abbrev pub insert_next : State → List ℕ → List ℕ → TreeNext
  insert_next s key value = next_on key value (free_in s lo hi) (walk lo hi s key)

  -- an insert of at most n splits: each takes a free object, so there are never more than objects of the range
  abbrev pub insert_from : List ℕ → List ℕ → ℕ → State → TreePlan
  insert_from key value n s = plan_from (node_meaning b) (λ s. insert_next s key value) n s

  abbrev pub is_there : Bool
  is_there = nat_le lo hi && nat_lt hi b.objects

  abbrev pub where_there : TreePlan → TreePlan
  where_there plan = if is_there then plan else refused_by NoObject

  abbrev pub insert_plan : State → List ℕ → List ℕ → TreePlan
  insert_plan s key value = where_there (insert_from key value (suc (size lo hi)) s)

  abbrev pub delete_plan : State → List ℕ → TreePlan
  delete_plan s key = where_there (delete_on key (walk lo hi s key))

  abbrev pub get_answer : State → List ℕ → Result (Option (List ℕ)) TreeRefusal
  get_answer s key = if is_there then get_on key (walk lo hi s key) else Err NoObject

  abbrev pub range_answer : State → List ℕ → List ℕ → Result (List Pair) TreeRefusal
  range_answer s from to = if is_there then range_on (scan lo hi s (record { from = from; to = Some to })) else Err NoObject
