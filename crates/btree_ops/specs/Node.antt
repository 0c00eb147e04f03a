-- Nodes of a B-tree, and their bytes.
use Rattle.std.specs.Prelude.{ℕ, ◌^◌, ◌<◌, ◌≤◌, ◌==◌, ◌&&◌, Option, None, List, [], ◌∷◌, ◌++◌, length, drop, nat_le, if◌then◌else◌, option_map, option_and_then}
use Rattle.byteorder.specs.Endian.{little_bytes, little_number}
use Rattle.key_entries.specs.Entries.{short_field, child_field, entries_code, entries_in, rising, AreEntries}
use Rattle.btree_ops.specs.declared.node.Node.{Node}
use Rattle.btree_ops.specs.declared.node.Node.TheVariants.{Leaf, Inner}

-- a leaf of these pairs of a key and a value
abbrev pub leaf : List (List ℕ × List ℕ) → Node
leaf pairs = Leaf (record { items = pairs })

-- an inner node: its first child, and then separators, each with the child to its right
abbrev pub inner : ℕ → List (List ℕ × ℕ) → Node
inner first branches = Inner first (record { items = branches })

-- its bytes: kind, count, and then the pairs, or the first child and the branches
abbrev pub node_code : Node → List ℕ
node_code (Leaf pairs) = 1 ∷ length pairs.items ∷ entries_code short_field pairs.items
node_code (Inner first branches) = 2 ∷ length branches.items ∷ (little_bytes 4 first ++ entries_code child_field branches.items)

-- a leaf has at most 7 pairs, an inner node 1 to 7 separators, and the keys rise
abbrev pub IsNode : Node → Type 0
IsNode (Leaf pairs) = AreEntries short_field pairs.items
IsNode (Inner first branches) = (first < 2 ^ 32) × (1 ≤ length branches.items) × AreEntries child_field branches.items

abbrev pub leaf_in : ℕ → List ℕ → Option Node
leaf_in count body = if nat_le count 7 then option_map leaf (option_and_then rising (entries_in short_field count body)) else None

abbrev pub inner_in : ℕ → List ℕ → Option Node
inner_in count body = if nat_le 1 count && (nat_le count 7 && nat_le 4 (length body)) then option_map (inner (little_number 4 body)) (option_and_then rising (entries_in child_field count (drop 4 body))) else None

-- the node that the bytes are
abbrev pub node_in : List ℕ → Option Node
node_in (kind ∷ count ∷ body) = if kind == 1 then leaf_in count body else (if kind == 2 then inner_in count body else None)
node_in (kind ∷ []) = None
node_in [] = None
