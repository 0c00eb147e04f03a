-- What is left of a scan, and what it comes to.
use Rattle.std.specs.Prelude.{◌≡◌, ℕ, suc, ◌+◌, ◌*◌, ◌^◌, IsTrue, Some, Result, Ok, Err, List, [], ◌∷◌, length, map, fold}
use Rattle.std.specs.List.{list_all}
use Rattle.oper_core.specs.State.{State}
use Rattle.logical_btree.specs.Walk.{Pair, Span, both_pairs, is_child, scan_child, scan_children, scan_from}
use Rattle.tree_client.specs.declared.part.Part.{Part}
use Rattle.tree_client.specs.Answers.{TreeErr}
use Rattle.tree_client.specs.Answers.{bad_tree}

-- the keys from one on, and below another
abbrev pub span : List ℕ → List ℕ → Span
span from to = record { from = from; to = Some to }

-- the objects that a part names
abbrev pub objects_in : Part → List ℕ
objects_in part = part.child ∷ map (λ b. b.1) part.branches.items

-- a number that falls with each object that is met, whatever the objects hold: a node has at most 8 children
abbrev pub weight_of : Part → ℕ
weight_of part = suc (length part.branches.items) * 9 ^ part.depth

abbrev pub weight : List Part → ℕ
weight [] = 0
weight (part ∷ parts) = weight_of part + weight parts

module _ (lo hi : ℕ) where
  -- all objects of the parts are children
  abbrev pub AreWithin : List Part → Type 0
  AreWithin parts = IsTrue (list_all (λ part. list_all (is_child lo hi) (objects_in part)) parts)

  module _ (s : State) where
    -- what a child comes to, over at most so many objects of a way
    abbrev pub child_scan : ℕ → List ℕ → List ℕ → ℕ → Result (List Pair) ℕ
    child_scan depth from to child = scan_child (λ y keys. scan_from lo hi s depth keys y) (span from to) child

    -- what a part comes to
    abbrev pub part_scan : Part → Result (List Pair) ℕ
    part_scan part = scan_children (λ y keys. scan_from lo hi s part.depth keys y) (span part.from part.to) part.child part.branches.items

    -- what parts come to, of which the last comes first
    abbrev pub stack_scan : List Part → Result (List Pair) ℕ
    stack_scan parts = fold (λ rest part. both_pairs (part_scan part) rest) (Ok []) parts

    -- what is there, after it what comes now, and after that the parts: it is what is there then, and after it the parts
    pub record GoesOn (now : Result (List Pair) ℕ) (parts : List Part) (pairs : List Pair) (after : List Part) (more : List Pair) : Type 0 where
      pub same : both_pairs (Ok pairs) (both_pairs now (stack_scan parts)) ≡ both_pairs (Ok more) (stack_scan after)
      pub within : AreWithin after

-- a scan that meets a bad object, and is refused for it
abbrev pub IsBad : Result (List Pair) ℕ → TreeErr → Type 0
IsBad scan e = (bad : ℕ) × (scan ≡ Err bad) × (e ≡ bad_tree bad)
