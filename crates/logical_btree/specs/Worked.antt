-- Small trees, and ranges that are none.
use Rattle.std.specs.Prelude.{ℕ, zero, suc, ◌+◌, ◌==◌, nat_le, if◌then◌else◌, List, [], ◌∷◌, ◌++◌, map, false}
use Rattle.oper_core.specs.State.{State}
use Rattle.oper_core.specs.Meaning.{state_after}
use Rattle.oper_core.specs.declared.bounds.Bounds.{Bounds}
use Rattle.btree_ops.specs.Operation.{node_meaning}
use Rattle.btree_ops.specs.declared.node_op.NodeOp.{NodeOp}
use Rattle.btree_ops.specs.declared.node_op.NodeOp.TheVariants.{Put, SplitRoot}
use Rattle.logical_btree.specs.Walk.{Pair}
use Rattle.logical_btree.specs.Plan.{insert_plan}

abbrev pub bounds : Bounds
bounds = record { objects = 16; cap = 1024; more = false }

-- the keys from 1 on, so many, each with the value that is 160 greater
abbrev pub pairs_from : ℕ → ℕ → List Pair
pairs_from k zero = []
pairs_from k (suc n) = (k ∷ [], (160 + k) ∷ []) ∷ pairs_from (suc k) n

abbrev pub pairs_to : ℕ → List Pair
pairs_to n = pairs_from 1 n

abbrev pub puts_of : List Pair → List NodeOp
puts_of pairs = map (λ p. Put 0 p.0 p.1) pairs

-- the commands of inserts into the objects from 0 on, one after the other
abbrev pub inserted : ℕ → List Pair → List NodeOp → List NodeOp
inserted hi [] done = done
inserted hi (p ∷ pairs) done = inserted hi pairs (done ++ (insert_plan bounds 0 hi (state_after (node_meaning bounds) done) p.0 p.1).commands)

abbrev pub after_inserts : ℕ → State
after_inserts n = state_after (node_meaning bounds) (inserted 7 (pairs_to n) [])

-- seven puts and the split of the root, as commands of their own
abbrev pub split_by_hand : State
split_by_hand = state_after (node_meaning bounds) (puts_of (pairs_to 7) ++ SplitRoot 0 1 2 ∷ [])

-- object 0 holds the byte 9
abbrev pub no_node : State
no_node x = if x == 0 then 9 ∷ [] else []

-- the root has the separator 5 between the children 1, a leaf without pairs, and 2, which is empty
abbrev pub one_separator : State
one_separator x = if x == 0 then 2 ∷ 1 ∷ 1 ∷ 0 ∷ 0 ∷ 0 ∷ 1 ∷ 5 ∷ 2 ∷ 0 ∷ 0 ∷ 0 ∷ [] else (if x == 1 then 1 ∷ 0 ∷ [] else [])

-- the root is its own second child
abbrev pub root_below_itself : State
root_below_itself x = if x == 0 then 2 ∷ 1 ∷ 1 ∷ 0 ∷ 0 ∷ 0 ∷ 1 ∷ 5 ∷ 0 ∷ 0 ∷ 0 ∷ 0 ∷ [] else 1 ∷ 0 ∷ []

-- every object leads to object 1, and so does that one
abbrev pub endless : State
endless x = 2 ∷ 1 ∷ 1 ∷ 0 ∷ 0 ∷ 0 ∷ 1 ∷ 5 ∷ 1 ∷ 0 ∷ 0 ∷ 0 ∷ []

-- one separator, and the child to its right
abbrev branch : ℕ → ℕ → List ℕ
branch key child = 1 ∷ key ∷ child ∷ 0 ∷ 0 ∷ 0 ∷ []

-- a full root over a full leaf, the child 1, and seven leaves without pairs
abbrev pub two_full : State
two_full x =
    if x == 0 then 2 ∷ 7 ∷ 1 ∷ 0 ∷ 0 ∷ 0 ∷ branch 10 2 ++ branch 20 3 ++ branch 30 4 ++ branch 40 5 ++ branch 50 6 ++ branch 60 7 ++ branch 70 8
    else (if x == 1 then 1 ∷ 7 ∷ 1 ∷ 1 ∷ 1 ∷ 1 ∷ 1 ∷ 2 ∷ 1 ∷ 1 ∷ 1 ∷ 3 ∷ 1 ∷ 1 ∷ 1 ∷ 4 ∷ 1 ∷ 1 ∷ 1 ∷ 5 ∷ 1 ∷ 1 ∷ 1 ∷ 6 ∷ 1 ∷ 1 ∷ 1 ∷ 7 ∷ 1 ∷ 1 ∷ []
    else (if nat_le x 8 then 1 ∷ 0 ∷ [] else []))
