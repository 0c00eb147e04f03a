-- Nodes by their heads.
use Rattle.std.specs.Prelude.{ℕ, Bool, true, false, Option, None, Some, List, ◌∷◌, ◌++◌, take, drop, option_map, option_and_then}
use Rattle.key_entries.specs.Entries.{child_field, entries_in, rising}
use Rattle.key_entries.specs.Spots.{pairs_in}
use Rattle.key_entries.specs.declared.spot.Spot.{Spot}
use Rattle.btree_ops.specs.Node.{leaf, inner}
use Rattle.btree_ops.specs.declared.node.Node.{Node}
use Rattle.btree_ops.specs.declared.node.Node.TheVariants.{Leaf, Inner}

-- the branches that the bytes are: so many, with nothing behind them, whose keys rise
abbrev pub branches_in : ℕ → List ℕ → Option (List (List ℕ × ℕ))
branches_in count bytes = option_and_then rising (entries_in child_field count bytes)

-- the inner node of this first child and of the branches, where the bytes are so many
abbrev pub inner_with : ℕ → ℕ → List ℕ → Option Node
inner_with first count bytes = option_map (inner first) (branches_in count bytes)

-- it is an inner node
abbrev pub is_inner : Option Node → Bool
is_inner None = false
is_inner (Some (Leaf pairs)) = false
is_inner (Some (Inner first branches)) = true

-- the leaf of the pairs, where the bytes are so many
abbrev pub leaf_with : ℕ → List ℕ → Option Node
leaf_with count bytes = option_map leaf (pairs_in count bytes)

-- it is a leaf
abbrev pub is_leaf : Option Node → Bool
is_leaf None = false
is_leaf (Some (Leaf pairs)) = true
is_leaf (Some (Inner first branches)) = false

-- the bytes of a leaf of so many pairs, which are these bytes with others in the spot
abbrev pub leaf_with_pair : ℕ → List ℕ → Spot → List ℕ → List ℕ
leaf_with_pair count bytes spot pair = 1 ∷ count ∷ (take spot.start bytes ++ (pair ++ drop spot.end bytes))
