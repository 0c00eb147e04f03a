-- What the operations make of nodes, and when they are refused.
use Rattle.std.specs.Prelude.{ℕ, ◌==◌, not, ◌&&◌, Option, None, Some, Result, Ok, Err, List, [], ◌∷◌, length, if◌then◌else◌, option_map, slice_index_or}
use Rattle.std.specs.FinMap.Entries.{put}
use Rattle.oper_core.specs.declared.refusal.Refusal.{Refusal}
use Rattle.oper_core.specs.declared.refusal.Refusal.TheVariants.{NotNode, NoKey, NodeFull}
use Rattle.key_entries.specs.Entries.{byte_order}
use Rattle.key_entries.specs.Pairs.{has, without}
use Rattle.btree_ops.specs.Node.{leaf, inner, node_in}
use Rattle.btree_ops.specs.declared.halves.Halves.{Halves}
use Rattle.btree_ops.specs.declared.made.Made.{Made}
use Rattle.btree_ops.specs.declared.made.Made.TheVariants.{One, Three}
use Rattle.btree_ops.specs.declared.node.Node.{Node}
use Rattle.btree_ops.specs.declared.node.Node.TheVariants.{Leaf, Inner}
use Rattle.btree_ops.specs.declared.node_op.NodeOp.{NodeOp}
use Rattle.btree_ops.specs.declared.node_op.NodeOp.TheVariants.{Put, Delete, SplitChild, SplitRoot}

-- the pairs of a leaf
abbrev pub pairs_of : Option Node → Option (List (List ℕ × List ℕ))
pairs_of (Some (Leaf pairs)) = Some pairs.items
pairs_of (Some (Inner first branches)) = None
pairs_of None = None

-- the pairs of a leaf that may get one more: the empty value is a leaf without pairs here
abbrev pub pairs_to_fill : List ℕ → Option (List (List ℕ × List ℕ))
pairs_to_fill [] = Some []
pairs_to_fill (b ∷ bytes) = pairs_of (node_in (b ∷ bytes))

-- a pair is put into the leaf: a key that is there gets the new value
abbrev pub put_made : List ℕ → List ℕ → Option (List (List ℕ × List ℕ)) → Result Made Refusal
put_made key value None = Err NotNode
put_made key value (Some pairs) =
    if not (has key pairs) && length pairs == 7 then Err NodeFull else Ok (One (leaf (put byte_order key value pairs)))

-- the key's pair leaves the leaf
abbrev pub delete_made : List ℕ → Option (List (List ℕ × List ℕ)) → Result Made Refusal
delete_made key None = Err NotNode
delete_made key (Some pairs) = if has key pairs then Ok (One (leaf (without key pairs))) else Err NoKey

-- A full leaf is cut before its fourth pair, whose key is the separator.
abbrev pub leaf_halves : List (List ℕ × List ℕ) → Option Halves
leaf_halves (a ∷ b ∷ c ∷ d ∷ e ∷ f ∷ g ∷ []) =
    Some (record { left = leaf (a ∷ b ∷ c ∷ []); separator = d.0; right = leaf (d ∷ e ∷ f ∷ g ∷ []) })
leaf_halves others = None

-- A full inner node is cut at its fourth separator, which goes up; the child beside it is the first of the upper half.
abbrev pub inner_halves : ℕ → List (List ℕ × ℕ) → Option Halves
inner_halves first (a ∷ b ∷ c ∷ d ∷ e ∷ f ∷ g ∷ []) =
    Some (record { left = inner first (a ∷ b ∷ c ∷ []); separator = d.0; right = inner d.1 (e ∷ f ∷ g ∷ []) })
inner_halves first others = None

-- the halves of a full node
abbrev pub halves_of : Node → Option Halves
halves_of (Leaf pairs) = leaf_halves pairs.items
halves_of (Inner first branches) = inner_halves first branches.items

abbrev pub halves_in : Option Node → Option Halves
halves_in None = None
halves_in (Some node) = halves_of node

-- the branches with one more directly after the first that leads to the child, if one does
abbrev pub behind_branch : ℕ → List ℕ × ℕ → List (List ℕ × ℕ) → Option (List (List ℕ × ℕ))
behind_branch child new [] = None
behind_branch child new (b ∷ branches) =
    if b.1 == child then Some (b ∷ new ∷ branches) else option_map (λ bs. b ∷ bs) (behind_branch child new branches)

-- the same, where the first child may be it
abbrev pub behind_child : ℕ → List ℕ × ℕ → ℕ → List (List ℕ × ℕ) → Option (List (List ℕ × ℕ))
behind_child child new first branches = if first == child then Some (new ∷ branches) else behind_branch child new branches

-- the upper half becomes the child directly after the one that is split
abbrev pub split_child_with : ℕ → List (List ℕ × ℕ) → Halves → Option (List (List ℕ × ℕ)) → Result Made Refusal
split_child_with first branches halves None = Err NotNode
split_child_with first branches halves (Some more) =
    if length branches == 7 then Err NodeFull else Ok (Three (inner first more) halves.left halves.right)

abbrev pub split_child_made : ℕ → ℕ → Option Node → Option Halves → Result Made Refusal
split_child_made child new (Some (Inner first branches)) (Some halves) =
    split_child_with first branches.items halves (behind_child child (halves.separator, new) first branches.items)
split_child_made child new parent halves = Err NotNode

-- the root becomes an inner node over its two halves
abbrev pub split_root_made : ℕ → ℕ → Option Halves → Result Made Refusal
split_root_made left right None = Err NotNode
split_root_made left right (Some halves) = Ok (Three (inner left ((halves.separator, right) ∷ [])) halves.left halves.right)

-- the new nodes, from the values of the objects that are read
abbrev pub made_by : NodeOp → List (List ℕ) → Result Made Refusal
made_by (Put x key value) values = put_made key value (pairs_to_fill (slice_index_or values 0 []))
made_by (Delete x key) values = delete_made key (pairs_of (node_in (slice_index_or values 0 [])))
made_by (SplitChild parent child new) values =
    split_child_made child new (node_in (slice_index_or values 0 [])) (halves_in (node_in (slice_index_or values 1 [])))
made_by (SplitRoot root left right) values = split_root_made left right (halves_in (node_in (slice_index_or values 0 [])))
