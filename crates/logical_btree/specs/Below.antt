-- Where a way to a key goes on from a node.
use Rattle.std.specs.Prelude.{ℕ, Option, None, Some, List, ◌∷◌, map, if◌then◌else◌}
use Rattle.std.specs.List.{list_all}
use Rattle.btree_ops.specs.declared.node.Node.{Node}
use Rattle.btree_ops.specs.declared.node.Node.TheVariants.{Leaf, Inner}
use Rattle.logical_btree.specs.Walk.{child_for, is_child}
use Rattle.logical_btree.specs.Plan.{is_full}
use Rattle.logical_btree.specs.declared.below.Below.{Below}

-- the child under which the key stands, and whether the node is full, where it is an inner node
abbrev pub below_in : List ℕ → Option Node → Option Below
below_in key None = None
below_in key (Some (Leaf pairs)) = None
below_in key (Some (Inner first branches)) = Some (record { child = child_for key first branches.items; full = is_full (Inner first branches) })

-- the child under which the key stands, where the branches are there and each child may stand in the range
abbrev pub child_below : ℕ → ℕ → List ℕ → ℕ → Option (List (List ℕ × ℕ)) → Option ℕ
child_below lo hi key first None = None
child_below lo hi key first (Some branches) = if list_all (is_child lo hi) (first ∷ map (λ b. b.1) branches) then Some (child_for key first branches) else None
