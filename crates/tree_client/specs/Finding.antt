-- What a call finds on its way.
use Rattle.std.specs.Prelude.{ℕ, Bool, Option, None, Some, Result, Ok, Err, if◌then◌else◌}
use Rattle.btree_ops.specs.declared.node.Node.{Node}
use Rattle.btree_ops.specs.declared.node.Node.TheVariants.{Leaf, Inner}
use Rattle.btree_ops.specs.declared.node_op.NodeOp.{NodeOp}
use Rattle.logical_btree.specs.Walk.{Way}
use Rattle.logical_btree.specs.Plan.{Full, TreeNext, first_full, is_full, steps_of}
use Rattle.call_plans.specs.Plan.{goes_on, ends, refuses}
use Rattle.range_calls.specs.declared.call_err.CallErr.TheVariants.{Refused}
use Rattle.tree_client.specs.Answers.{TreeErr, bad_tree}
use Rattle.tree_client.specs.declared.walking.WayEnd.{WayEnd}

-- the node of an object, or the object as a bad one
abbrev pub node_answer : ℕ → Option Node → Result Node TreeErr
node_answer object None = Err (bad_tree object)
node_answer object (Some node) = Ok node

-- the first of two, if there is one
abbrev pub first_of : {A : Type 0} → Option A → Option A → Option A
first_of None other = other
first_of (Some a) other = Some a

-- a node as the first full one, if it is full
abbrev pub full_at : Option ℕ → ℕ → Bool → Option Full
full_at parent object full = if full then Some (record { parent = parent; child = object }) else None

abbrev pub full_here : Option ℕ → ℕ → Node → Option Full
full_here parent object node = full_at parent object (is_full node)

-- where a way ends, after a full node that was seen before, and under a node, if there was one
abbrev pub way_end : Option Full → Option ℕ → Result Way ℕ → Result WayEnd TreeErr
way_end seen parent (Err bad) = Err (bad_tree bad)
way_end seen parent (Ok way) = Ok (record { leaf = way.object; pairs = record { items = way.pairs }; full = first_of seen (first_full parent (steps_of way)) })

-- where a way ends at an object that is no inner node
abbrev pub leaf_end : Option Full → Option ℕ → ℕ → Option Node → Result WayEnd TreeErr
leaf_end seen parent object None = Err (bad_tree object)
leaf_end seen parent object (Some (Inner first branches)) = Err (bad_tree object)
leaf_end seen parent object (Some (Leaf pairs)) = Ok (record { leaf = object; pairs = pairs; full = first_of seen (full_here parent object (Leaf pairs)) })

-- the split that comes next, or why there is none
abbrev pub split_answer : TreeNext → Result NodeOp TreeErr
split_answer (goes_on op) = Ok op
split_answer (ends op) = Ok op
split_answer (refuses refusal) = Err (Refused refusal)
