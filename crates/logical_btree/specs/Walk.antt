-- The way from the root of a tree to a leaf, and the pairs of a range of keys, over the values of the objects.
use Rattle.std.specs.Prelude.{ℕ, zero, suc, ◌-◌, ◌==◌, Bool, true, not, ◌&&◌, Option, None, Some, Result, Ok, Err, List, [], ◌∷◌, ◌++◌, map, filter, nat_lt, nat_le, if◌then◌else◌, option_and_then}
use Rattle.std.specs.List.{list_all}
use Rattle.std.specs.Ordering.{is_lt}
use Rattle.std.specs.FinMap.Entries.{find}
use Rattle.oper_core.specs.State.{State}
use Rattle.key_entries.specs.Entries.{byte_order}
use Rattle.btree_ops.specs.Node.{leaf, node_in}
use Rattle.btree_ops.specs.declared.node.Node.{Node}
use Rattle.btree_ops.specs.declared.node.Node.TheVariants.{Leaf, Inner}

-- a key and its value
abbrev pub Pair : Type 0
Pair = List ℕ × List ℕ

-- the node that the root is: an empty one is a leaf without pairs
abbrev pub root_in : List ℕ → Option Node
root_in [] = Some (leaf [])
root_in (b ∷ bytes) = node_in (b ∷ bytes)

-- the objects from one to another, both among them
pub record Range : Type 0 where
  pub lo : ℕ
  pub hi : ℕ

-- the node of an object of this value, where the root is another one or this one
abbrev pub read_as : ℕ → ℕ → List ℕ → Option Node
read_as root x value = if x == root then root_in value else node_in value

-- the objects that a node names
abbrev pub children_of : Node → List ℕ
children_of (Leaf pairs) = []
children_of (Inner first branches) = first ∷ map (λ b. b.1) branches.items

-- the child under which a key stands: a key that is equal to a separator stands to its right
abbrev pub child_for : List ℕ → ℕ → List (List ℕ × ℕ) → ℕ
child_for key first [] = first
child_for key first (b ∷ branches) = if is_lt (byte_order key b.0) then first else child_for key b.1 branches

-- keys from one on, and below another where there is one
pub record Span : Type 0 where
  pub from : List ℕ
  pub to : Option (List ℕ)

abbrev pub is_below : List ℕ → Option (List ℕ) → Bool
is_below key None = true
is_below key (Some end) = is_lt (byte_order key end)

abbrev pub is_within : List ℕ → Span → Bool
is_within key span = not (is_lt (byte_order key span.from)) && is_below key span.to

-- the keys of a span that are below a separator, and those that are not
abbrev pub lower_end : List ℕ → Option (List ℕ) → List ℕ
lower_end key None = key
lower_end key (Some end) = if is_lt (byte_order key end) then key else end

abbrev pub lower_part : Span → List ℕ → Span
lower_part span key = record { from = span.from; to = Some (lower_end key span.to) }

abbrev pub upper_part : Span → List ℕ → Span
upper_part span key = record { from = if is_lt (byte_order span.from key) then key else span.from; to = span.to }

-- an object met on the way, and the node that it holds
pub record Met : Type 0 where
  pub object : ℕ
  pub node : Node

-- the inner nodes on the way, from the root on, and the leaf at its end
pub record Way : Type 0 where
  pub inner : List Met
  pub object : ℕ
  pub pairs : List Pair

abbrev pub with_met : Met → Result Way ℕ → Result Way ℕ
with_met met (Err bad) = Err bad
with_met met (Ok way) = Ok (record { inner = met ∷ way.inner; object = way.object; pairs = way.pairs })

-- the pairs of both, or the object that is met first of the bad ones
abbrev pub both_pairs : Result (List Pair) ℕ → Result (List Pair) ℕ → Result (List Pair) ℕ
both_pairs (Err bad) others = Err bad
both_pairs (Ok pairs) (Err bad) = Err bad
both_pairs (Ok pairs) (Ok others) = Ok (pairs ++ others)

-- what is done at one object, where the rest is done by `on`
abbrev pub walk_at : (ℕ → Result Way ℕ) → List ℕ → ℕ → Option Node → Result Way ℕ
walk_at on key x None = Err x
walk_at on key x (Some (Leaf pairs)) = Ok (record { inner = []; object = x; pairs = pairs.items })
walk_at on key x (Some (Inner first branches)) = with_met (record { object = x; node = Inner first branches }) (on (child_for key first branches.items))

-- a child is gone to only if its span can hold a key that is asked for
abbrev pub scan_child : (ℕ → Span → Result (List Pair) ℕ) → Span → ℕ → Result (List Pair) ℕ
scan_child on span child = if is_below span.from span.to then on child span else Ok []

abbrev pub scan_children : (ℕ → Span → Result (List Pair) ℕ) → Span → ℕ → List (List ℕ × ℕ) → Result (List Pair) ℕ
scan_children on span child [] = scan_child on span child
scan_children on span child (b ∷ branches) = both_pairs (scan_child on (lower_part span b.0) child) (scan_children on (upper_part span b.0) b.1 branches)

abbrev pub scan_at : (ℕ → Span → Result (List Pair) ℕ) → Span → ℕ → Option Node → Result (List Pair) ℕ
scan_at on span x None = Err x
scan_at on span x (Some (Leaf pairs)) = Ok (filter (λ e. is_within e.0 span) pairs.items)
scan_at on span x (Some (Inner first branches)) = scan_children on span first branches.items

-- the value that the way to a key finds
abbrev pub found : List ℕ → Result Way ℕ → Option (List ℕ)
found key (Err bad) = None
found key (Ok way) = find byte_order key way.pairs

module _ (lo hi : ℕ) where
  -- a child stands in the range and is not the root
  abbrev pub is_child : ℕ → Bool
  is_child x = nat_lt lo x && nat_le x hi

  abbrev pub if_sound : Node → Option Node
  if_sound node = if list_all is_child (children_of node) then Some node else None

  -- the node of an object, if the object is not bad
  abbrev pub node_at : State → ℕ → Option Node
  node_at s x = option_and_then if_sound (read_as lo x (s x))

  -- so many objects has the range, and so many a way at most
  abbrev pub size : ℕ
  size = suc hi - lo

  -- the way to a key from an object, over at most n objects, or the first that is bad
  abbrev pub walk_from : State → List ℕ → ℕ → ℕ → Result Way ℕ
  walk_from s key zero x = Err x
  walk_from s key (suc n) x = walk_at (λ y. walk_from s key n y) key x (node_at s x)

  abbrev pub walk : State → List ℕ → Result Way ℕ
  walk s key = walk_from s key size lo

  -- the pairs of a span of keys below an object, over at most n objects of a way, or the first that is bad
  abbrev pub scan_from : State → ℕ → Span → ℕ → Result (List Pair) ℕ
  scan_from s zero span x = Err x
  scan_from s (suc n) span x = scan_at (λ y part. scan_from s n part y) span x (node_at s x)

  abbrev pub scan : State → Span → Result (List Pair) ℕ
  scan s span = scan_from s size span lo

  abbrev pub lookup : State → List ℕ → Option (List ℕ)
  lookup s key = found key (walk s key)
