-- What the operations on nodes make of bytes.
use Rattle.std.proofs.Common.{◌≡◌, ◌≤◌, ℕ, suc, Bool, true, false, not, ◌&&◌, ◌==◌, cond, Option, None, Some, Ok, Err, List, [], ◌∷◌, ◌++◌, All, length, refl, ap, subst, arith, option_map, slice_index_or}
use Rattle.std.specs.Prelude.{IfOk, IfSome}
use Rattle.std.specs.FinMap.Entries.{put}
use Rattle.std.specs.Ordering.{eq_by_cmp}
use Rattle.std.proofs.lemmas.List.Elements.{All-cons, All-drop, All-head, All-nil, All-tail, All-take}
use Rattle.byteorder.specs.Endian.{little_bytes}
use Rattle.oper_core.specs.declared.bounds.Bounds.{Bounds}
use Rattle.oper_core.specs.declared.refusal.Refusal.TheVariants.{NoKey, NodeFull}
use Rattle.key_entries.specs.Entries.{byte_order, child_field, entries_code, entry_code, short_field}
use Rattle.key_entries.specs.Pairs.{has, without}
use Rattle.key_entries.specs.Short.{short_code}
use Rattle.btree_ops.specs.Effects.{behind_branch, behind_child, delete_made, halves_in, inner_halves, leaf_halves, made_by, pairs_of, pairs_to_fill, put_made, split_child_made, split_child_with, split_root_made}
use Rattle.btree_ops.specs.Node.{IsNode, inner, leaf, node_code, node_in}
use Rattle.btree_ops.specs.NodeLaws.{node_is}
use Rattle.btree_ops.specs.Operation.{bytes_of, node_meaning, objects_of, op_code}
use Rattle.btree_ops.specs.declared.halves.Halves.{Halves}
use Rattle.btree_ops.specs.declared.made.Made.{Made}
use Rattle.btree_ops.specs.declared.made.Made.TheVariants.{One, Three}
use Rattle.btree_ops.specs.declared.node.Node.{Node}
use Rattle.btree_ops.specs.declared.node.Node.TheVariants.{Inner, Leaf}
use Rattle.btree_ops.specs.declared.node_op.NodeOp.{NodeOp}
use Rattle.btree_ops.specs.declared.node_op.NodeOp.TheVariants.{Delete, Put, SplitChild, SplitRoot}
use Rattle.app_program.specs.OneCode.{AreBytes}
use Rattle.app_steps.proofs.ByteLists.{bytes_append, bytes_back, bytes_cons, bytes_drop, bytes_front, each_bytes, number_bytes, one_value, three_values, value_bytes}
use Rattle.app_steps.proofs.EntryBytes.{AreSome, IsEntry, entries_bytes, pairs_kept, pairs_put, roomy_bytes, wider}

-- a node of at most so many entries, each with a code of bytes
abbrev IsOfBytes : ℕ → Node → Type 0
IsOfBytes most (Leaf pairs) = AreSome most short_field pairs.items
IsOfBytes most (Inner first branches) = AreSome most child_field branches.items

code_bytes : (n : Node) → IsOfBytes 8 n → AreBytes (node_code n)
code_bytes (Leaf pairs) is =
    bytes_cons 1 (length pairs.items ∷ entries_code short_field pairs.items) (omega arith)
    (bytes_cons (length pairs.items) (entries_code short_field pairs.items) (omega (arith, is.few)) (entries_bytes short_field pairs.items is))
code_bytes (Inner first branches) is =
    let body : List ℕ = entries_code child_field branches.items in
    bytes_cons 2 (length branches.items ∷ (little_bytes 4 first ++ body)) (omega arith)
    (bytes_cons (length branches.items) (little_bytes 4 first ++ body) (omega (arith, is.few))
    (bytes_append (little_bytes 4 first) body (number_bytes 4 first) (entries_bytes child_field branches.items is)))

wide : (n : Node) → IsOfBytes 7 n → IsOfBytes 8 n
wide (Leaf pairs) is = wider short_field pairs.items is
wide (Inner first branches) is = wider child_field branches.items is

-- what is read of bytes
read_bytes : (n : Node) → IsNode n → AreBytes (node_code n) → IsOfBytes 7 n
read_bytes (Leaf pairs) is are = record { few = is.few; each = each_bytes (entry_code short_field) pairs.items (bytes_drop 2 (node_code (Leaf pairs)) are) }
read_bytes (Inner first branches) is are = record {
  few = is.2.few;
  each = each_bytes (entry_code child_field) branches.items (bytes_back (little_bytes 4 first) (entries_code child_field branches.items) (bytes_drop 2 (node_code (Inner first branches)) are));
}

found : (bytes : List ℕ) (r : Option Node) → AreBytes bytes → node_in bytes ≡ r → IfSome r (IsOfBytes 7)
found bytes None are is = tt
found bytes (Some n) are is = let node = node_is bytes n are is in read_bytes n node.node (subst AreBytes node.split are)

-- ---- what is made

abbrev AreMade : Made → Type 0
AreMade (One n) = IsOfBytes 8 n
AreMade (Three a b c) = IsOfBytes 8 a × IsOfBytes 8 b × IsOfBytes 8 c

made_bytes : (made : Made) → AreMade made → All AreBytes (bytes_of made)
made_bytes (One n) is = one_value (node_code n) (code_bytes n is)
made_bytes (Three a b c) is = three_values (node_code a) (node_code b) (node_code c) (code_bytes a is.0) (code_bytes b is.1) (code_bytes c is.2)

pairs_bytes : (r : Option Node) → IfSome r (IsOfBytes 7) → IfSome (pairs_of r) (AreSome 7 short_field)
pairs_bytes None is = tt
pairs_bytes (Some (Leaf pairs)) is = is
pairs_bytes (Some (Inner first branches)) is = tt

fill_bytes : (value : List ℕ) → AreBytes value → IfSome (pairs_to_fill value) (AreSome 7 short_field)
fill_bytes [] are = record { few = omega arith; each = All-nil (IsEntry short_field) }
fill_bytes (b ∷ bytes) are = pairs_bytes (node_in (b ∷ bytes)) (found (b ∷ bytes) (node_in (b ∷ bytes)) are refl)

put_bytes : (key value : List ℕ) (o : Option (List (List ℕ × List ℕ))) → IsEntry short_field (key, value) → IfSome o (AreSome 7 short_field) → IfOk (put_made key value o) AreMade
put_bytes key value None new are = tt
put_bytes key value (Some pairs) new are = by_test (not (has key pairs) && length pairs == 7) where
  by_test : (b : Bool) → IfOk (cond b (Err NodeFull) (Ok (One (leaf (put byte_order key value pairs))))) AreMade
  by_test true = tt
  by_test false = pairs_put key value pairs new are

delete_bytes : (key : List ℕ) (o : Option (List (List ℕ × List ℕ))) → IfSome o (AreSome 7 short_field) → IfOk (delete_made key o) AreMade
delete_bytes key None are = tt
delete_bytes key (Some pairs) are = by_test (has key pairs) where
  by_test : (b : Bool) → IfOk (cond b (Ok (One (leaf (without key pairs)))) (Err NoKey)) AreMade
  by_test true = pairs_kept (λ e. not (eq_by_cmp byte_order key e.0)) pairs are
  by_test false = tt

-- ---- splits

record AreHalves (h : Halves) : Type 0 where
  left : IsOfBytes 7 h.left
  separator : AreBytes (short_code h.separator)
  right : IsOfBytes 7 h.right

leaf_bytes : (pairs : List (List ℕ × List ℕ)) → AreSome 7 short_field pairs → IfSome (leaf_halves pairs) AreHalves
leaf_bytes (a ∷ b ∷ c ∷ d ∷ e ∷ f ∷ g ∷ []) are =
    let pairs = a ∷ b ∷ c ∷ d ∷ e ∷ f ∷ g ∷ [] in
    let upper : All (IsEntry short_field) (d ∷ e ∷ f ∷ g ∷ []) = All-drop (IsEntry short_field) 3 pairs are.each in
    record {
      left = record { few = omega arith; each = All-take (IsEntry short_field) 3 pairs are.each };
      separator = bytes_front (short_code d.0) (short_code d.1) (All-head (IsEntry short_field) d (e ∷ f ∷ g ∷ []) upper);
      right = record { few = omega arith; each = upper };
    }
leaf_bytes others are = tt

inner_bytes : (first : ℕ) (branches : List (List ℕ × ℕ)) → AreSome 7 child_field branches → IfSome (inner_halves first branches) AreHalves
inner_bytes first (a ∷ b ∷ c ∷ d ∷ e ∷ f ∷ g ∷ []) are =
    let branches = a ∷ b ∷ c ∷ d ∷ e ∷ f ∷ g ∷ [] in
    let upper : All (IsEntry child_field) (d ∷ e ∷ f ∷ g ∷ []) = All-drop (IsEntry child_field) 3 branches are.each in
    record {
      left = record { few = omega arith; each = All-take (IsEntry child_field) 3 branches are.each };
      separator = bytes_front (short_code d.0) (little_bytes 4 d.1) (All-head (IsEntry child_field) d (e ∷ f ∷ g ∷ []) upper);
      right = record { few = omega arith; each = All-tail (IsEntry child_field) d (e ∷ f ∷ g ∷ []) upper };
    }
inner_bytes first others are = tt

halves_bytes : (r : Option Node) → IfSome r (IsOfBytes 7) → IfSome (halves_in r) AreHalves
halves_bytes None is = tt
halves_bytes (Some (Leaf pairs)) is = leaf_bytes pairs.items is
halves_bytes (Some (Inner first branches)) is = inner_bytes first branches.items is

-- one branch more
abbrev IsOneMore : List (List ℕ × ℕ) → List (List ℕ × ℕ) → Type 0
IsOneMore branches more = (length more ≡ suc (length branches)) × All (IsEntry child_field) more

mapped : (b : List ℕ × ℕ) (branches : List (List ℕ × ℕ)) (o : Option (List (List ℕ × ℕ))) → IsEntry child_field b → IfSome o (IsOneMore branches)
    → IfSome (option_map (λ bs. b ∷ bs) o) (IsOneMore (b ∷ branches))
mapped b branches None is more = tt
mapped b branches (Some bs) is more = (ap suc more.0, All-cons (IsEntry child_field) b bs is more.1)

behind_bytes : (child : ℕ) (new : List ℕ × ℕ) (branches : List (List ℕ × ℕ)) → IsEntry child_field new → All (IsEntry child_field) branches
    → IfSome (behind_branch child new branches) (IsOneMore branches)
behind_bytes child new [] is all = tt
behind_bytes child new (b ∷ branches) is all =
    let here = All-head (IsEntry child_field) b branches all in
    let rest = All-tail (IsEntry child_field) b branches all in
    elim (b.1 == child) as (λ t. IfSome (cond t (Some (b ∷ new ∷ branches)) (option_map (λ bs. b ∷ bs) (behind_branch child new branches))) (IsOneMore (b ∷ branches))) [
      | true ↦ (refl, All-cons (IsEntry child_field) b (new ∷ branches) here (All-cons (IsEntry child_field) new branches is rest))
      | false ↦ mapped b branches (behind_branch child new branches) here (behind_bytes child new branches is rest)
    ]

child_bytes : (child first : ℕ) (new : List ℕ × ℕ) (branches : List (List ℕ × ℕ)) → IsEntry child_field new → All (IsEntry child_field) branches
    → IfSome (behind_child child new first branches) (IsOneMore branches)
child_bytes child first new branches is all = by_test (first == child) where
  by_test : (t : Bool) → IfSome (cond t (Some (new ∷ branches)) (behind_branch child new branches)) (IsOneMore branches)
  by_test true = (refl, All-cons (IsEntry child_field) new branches is all)
  by_test false = behind_bytes child new branches is all

split_bytes : (first : ℕ) (branches : List (List ℕ × ℕ)) (halves : Halves) (o : Option (List (List ℕ × ℕ))) → length branches ≤ 7 → AreHalves halves → IfSome o (IsOneMore branches)
    → IfOk (split_child_with first branches halves o) AreMade
split_bytes first branches halves None few are more = tt
split_bytes first branches halves (Some bs) few are more = by_test (length branches == 7) where
  by_test : (t : Bool) → IfOk (cond t (Err NodeFull) (Ok (Three (inner first bs) halves.left halves.right))) AreMade
  by_test true = tt
  by_test false = (record { few = omega (arith, more.0, few); each = more.1 }, wide halves.left are.left, wide halves.right are.right)

split_child_bytes : (child new : ℕ) (parent : Option Node) (halves : Option Halves) → IfSome parent (IsOfBytes 7) → IfSome halves AreHalves
    → IfOk (split_child_made child new parent halves) AreMade
split_child_bytes child new (Some (Inner first branches)) (Some halves) is are =
    let branch : IsEntry child_field (halves.separator, new) = bytes_append (short_code halves.separator) (little_bytes 4 new) are.separator (number_bytes 4 new) in
    split_bytes first branches.items halves (behind_child child (halves.separator, new) first branches.items) is.few are
    (child_bytes child first (halves.separator, new) branches.items branch is.each)
split_child_bytes child new (Some (Inner first branches)) None is are = tt
split_child_bytes child new (Some (Leaf pairs)) (Some halves) is are = tt
split_child_bytes child new (Some (Leaf pairs)) None is are = tt
split_child_bytes child new None (Some halves) is are = tt
split_child_bytes child new None None is are = tt

split_root_bytes : (left right : ℕ) (halves : Option Halves) → IfSome halves AreHalves → IfOk (split_root_made left right halves) AreMade
split_root_bytes left right None are = tt
split_root_bytes left right (Some halves) are =
    let branch : IsEntry child_field (halves.separator, right) = bytes_append (short_code halves.separator) (little_bytes 4 right) are.separator (number_bytes 4 right) in (
      record { few = omega arith; each = All-cons (IsEntry child_field) (halves.separator, right) [] branch (All-nil (IsEntry child_field)) },
      wide halves.left are.left,
      wide halves.right are.right,
    )

outcome_bytes : (op : NodeOp) (values : List (List ℕ)) → AreBytes (op_code op) → All AreBytes values → IfOk (made_by op values) AreMade
outcome_bytes (Put x key value) values code all =
    put_bytes key value (pairs_to_fill (slice_index_or values 0 [])) (bytes_back (little_bytes 4 x) (short_code key ++ short_code value) (bytes_drop 1 (op_code (Put x key value)) code))
    (fill_bytes (slice_index_or values 0 []) (value_bytes 0 values all))
outcome_bytes (Delete x key) values code all =
    delete_bytes key (pairs_of (node_in (slice_index_or values 0 []))) (pairs_bytes (node_in (slice_index_or values 0 [])) (found (slice_index_or values 0 []) (node_in (slice_index_or values 0 [])) (value_bytes 0 values all) refl))
outcome_bytes (SplitChild parent child new) values code all =
    let p : Option Node = node_in (slice_index_or values 0 []) in
    let c : Option Node = node_in (slice_index_or values 1 []) in
    split_child_bytes child new p (halves_in c) (found (slice_index_or values 0 []) p (value_bytes 0 values all) refl) (halves_bytes c (found (slice_index_or values 1 []) c (value_bytes 1 values all) refl))
outcome_bytes (SplitRoot root left right) values code all =
    let r : Option Node = node_in (slice_index_or values 0 []) in
    split_root_bytes left right (halves_in r) (halves_bytes r (found (slice_index_or values 0 []) r (value_bytes 0 values all) refl))

pub node_bytes : (b : Bounds) (op : NodeOp) (values : List (List ℕ)) → AreBytes ((node_meaning b).code op) → All AreBytes values → All AreBytes ((node_meaning b).effect op values)
node_bytes b op values code all = roomy_bytes bytes_of AreMade made_bytes (objects_of op) b.cap (made_by op values) (outcome_bytes op values code all)
