-- A reader of nodes finds exactly the node whose bytes they are.
use Rattle.std.proofs.Common.{◌≡◌, ◌≤◌, ℕ, Bool, true, false, ◌&&◌, if◌then◌else◌, Option, None, Some, List, [], ◌∷◌, ◌++◌, length, drop, sym, ap, ◌∙◌, subst, arith, inl, inr, option_map, option_and_then, length-append, ◌==◌, true≢false}
use Rattle.std.specs.Prelude.{nat_le}
use Rattle.std.proofs.Math.Seq.{drop-append_seam}
use Rattle.std.proofs.lemmas.Bool.{le-leb, leb-true}
use Rattle.std.proofs.lemmas.Bool.Decides.{eqb_tells}
use Rattle.byteorder.specs.Endian.{little_bytes, little_number}
use Rattle.byteorder.specs.Numbers.{little_from-lt}
use Rattle.oper_core.specs.LittleEndian.{length-little_bytes, little_number-little_bytes, little_bytes-front}
use Rattle.key_entries.specs.Entries.{short_field, child_field, entries_code, entries_in, rising}
use Rattle.key_entries.specs.EntryLaws.{AreBytes, bytes_behind, both_true, true_both, if_some, if_true, map_some, short_exact, child_exact}
use Rattle.key_entries.specs.RisingLaws.{rising_found, rising_read, rising_small}
use Rattle.btree_ops.specs.Node.{leaf, inner, node_code, IsNode, leaf_in, inner_in, node_in}
use Rattle.btree_ops.specs.declared.node.Node.{Node}
use Rattle.btree_ops.specs.declared.node.Node.TheVariants.{Leaf, Inner}

-- the bytes of a node are read as that node
pub node_found : (n : Node) → IsNode n → node_in (node_code n) ≡ Some n
node_found (Leaf pairs) is =
    if_true (nat_le (length pairs.items) 7) (option_map leaf (option_and_then rising (entries_in short_field (length pairs.items) (entries_code short_field pairs.items)))) None (le-leb (length pairs.items) 7 is.few)
    ∙ ap (λ (o : Option (List (List ℕ × List ℕ))). option_map leaf o) (rising_found short_field short_exact pairs.items is)
node_found (Inner first branches) is =
    let es : List (List ℕ × ℕ) = branches.items in
    let body : List ℕ = little_bytes 4 first ++ entries_code child_field es in
    let wide : 4 ≤ length body = omega (arith, length-append (little_bytes 4 first) (entries_code child_field es), length-little_bytes 4 first) in
    let number : little_number 4 body ≡ first = little_number-little_bytes 4 first (entries_code child_field es) is.0 in
    let behind : drop 4 body ≡ entries_code child_field es =
    sym (ap (λ (k : ℕ). drop k body) (length-little_bytes 4 first)) ∙ drop-append_seam (little_bytes 4 first) (entries_code child_field es) in
    if_true (nat_le 1 (length es) && (nat_le (length es) 7 && nat_le 4 (length body)))
    (option_map (inner (little_number 4 body)) (option_and_then rising (entries_in child_field (length es) (drop 4 body)))) None
    (true_both _ _ (le-leb 1 (length es) is.1) (true_both _ _ (le-leb (length es) 7 is.2.few) (le-leb 4 (length body) wide)))
    ∙ ap (λ (l : List ℕ). option_map (inner (little_number 4 body)) (option_and_then rising (entries_in child_field (length es) l))) behind
    ∙ ap (λ (o : Option (List (List ℕ × ℕ))). option_map (inner (little_number 4 body)) o) (rising_found child_field child_exact es is.2)
    ∙ ap (λ (x : ℕ). Some (inner x es)) number

-- bytes that are read as a node are its bytes
pub record IsNodeOf (bytes : List ℕ) (n : Node) : Type 0 where
  pub split : bytes ≡ node_code n
  pub node : IsNode n

leaf_is : (count : ℕ) (body : List ℕ) (n : Node) → AreBytes body → leaf_in count body ≡ Some n → IsNodeOf (1 ∷ count ∷ body) n
leaf_is count body n are is =
    let tests = if_some (nat_le count 7) (option_map leaf (option_and_then rising (entries_in short_field count body))) n is in
    let mapped = map_some leaf (option_and_then rising (entries_in short_field count body)) n tests.1 in
    let read = rising_read short_field short_exact count body mapped.0 (leb-true count 7 tests.0) are mapped.1 in
    subst (λ (n : Node). IsNodeOf (1 ∷ count ∷ body) n) mapped.2
    (record { split = ap (λ (k : ℕ). 1 ∷ k ∷ body) (sym read.count) ∙ ap (λ (l : List ℕ). 1 ∷ length mapped.0 ∷ l) read.split; node = read.entries })

inner_is : (count : ℕ) (body : List ℕ) (n : Node) → AreBytes body → inner_in count body ≡ Some n → IsNodeOf (2 ∷ count ∷ body) n
inner_is count body n are is =
    let first : ℕ = little_number 4 body in
    let tests = if_some (nat_le 1 count && (nat_le count 7 && nat_le 4 (length body))) (option_map (inner first) (option_and_then rising (entries_in child_field count (drop 4 body)))) n is in
    let outer = both_true (nat_le 1 count) (nat_le count 7 && nat_le 4 (length body)) tests.0 in
    let last = both_true (nat_le count 7) (nat_le 4 (length body)) outer.1 in
    let mapped = map_some (inner first) (option_and_then rising (entries_in child_field count (drop 4 body))) n tests.1 in
    let read = rising_read child_field child_exact count (drop 4 body) mapped.0 (leb-true count 7 last.0) (bytes_behind 4 body are) mapped.1 in
    let whole : body ≡ little_bytes 4 first ++ entries_code child_field mapped.0 =
    little_bytes-front 4 body (leb-true 4 (length body) last.1) are ∙ ap (λ (l : List ℕ). little_bytes 4 first ++ l) read.split in
    subst (λ (n : Node). IsNodeOf (2 ∷ count ∷ body) n) mapped.2
    (record {
      split = ap (λ (k : ℕ). 2 ∷ k ∷ body) (sym read.count) ∙ ap (λ (l : List ℕ). 2 ∷ length mapped.0 ∷ l) whole;
      node = (little_from-lt 0 4 body are, omega (arith, leb-true 1 count outer.0, read.count), read.entries);
    })

pub node_is : (bytes : List ℕ) (n : Node) → AreBytes bytes → node_in bytes ≡ Some n → IsNodeOf bytes n
node_is [] n are is = cc
node_is (kind ∷ []) n are is = cc
node_is (kind ∷ count ∷ body) n are is =
    let inside : AreBytes body = bytes_behind 2 (kind ∷ count ∷ body) are in
    let other : Option Node = if kind == 2 then inner_in count body else None in
    elim (eqb_tells kind 1) [
      | inl one ↦ subst (λ (k : ℕ). IsNodeOf (k ∷ count ∷ body) n) (sym one.1)
          (leaf_is count body n inside (sym (ap (λ (b : Bool). if b then leaf_in count body else other) one.0) ∙ is))
      | inr not_one ↦
          let rest = if_some (kind == 2) (inner_in count body) n (sym (ap (λ (b : Bool). if b then leaf_in count body else other) not_one.0) ∙ is) in
          elim (eqb_tells kind 2) [
            | inl two ↦ subst (λ (k : ℕ). IsNodeOf (k ∷ count ∷ body) n) (sym two.1) (inner_is count body n inside rest.1)
            | inr not_two ↦ absurd (true≢false (sym rest.0 ∙ not_two.0))
          ]
    ]

-- its bytes are few
leaf_small : (count : ℕ) (body : List ℕ) (n : Node) → leaf_in count body ≡ Some n → length (node_code n) ≤ 468
leaf_small count body n is =
    let tests = if_some (nat_le count 7) (option_map leaf (option_and_then rising (entries_in short_field count body))) n is in
    let mapped = map_some leaf (option_and_then rising (entries_in short_field count body)) n tests.1 in
    let few = leb-true count 7 tests.0 in
    let size = rising_small short_field short_exact count body mapped.0 mapped.1 in
    subst (λ (n : Node). length (node_code n) ≤ 468) mapped.2 (omega (arith, few, size.1))

inner_small : (count : ℕ) (body : List ℕ) (n : Node) → inner_in count body ≡ Some n → length (node_code n) ≤ 468
inner_small count body n is =
    let first : ℕ = little_number 4 body in
    let tests = if_some (nat_le 1 count && (nat_le count 7 && nat_le 4 (length body))) (option_map (inner first) (option_and_then rising (entries_in child_field count (drop 4 body)))) n is in
    let few = leb-true count 7 (both_true (nat_le count 7) (nat_le 4 (length body)) (both_true (nat_le 1 count) (nat_le count 7 && nat_le 4 (length body)) tests.0).1).0 in
    let mapped = map_some (inner first) (option_and_then rising (entries_in child_field count (drop 4 body))) n tests.1 in
    let size = rising_small child_field child_exact count (drop 4 body) mapped.0 mapped.1 in
    subst (λ (n : Node). length (node_code n) ≤ 468) mapped.2 (omega (arith, few, size.1, length-append (little_bytes 4 first) (entries_code child_field mapped.0), length-little_bytes 4 first))

pub node_small : (bytes : List ℕ) (n : Node) → node_in bytes ≡ Some n → length (node_code n) ≤ 468
node_small [] n is = cc
node_small (kind ∷ []) n is = cc
node_small (kind ∷ count ∷ body) n is =
    let other : Option Node = if kind == 2 then inner_in count body else None in
    elim (eqb_tells kind 1) [
      | inl one ↦ leaf_small count body n (sym (ap (λ (b : Bool). if b then leaf_in count body else other) one.0) ∙ is)
      | inr not_one ↦ inner_small count body n (if_some (kind == 2) (inner_in count body) n (sym (ap (λ (b : Bool). if b then leaf_in count body else other) not_one.0) ∙ is)).1
    ]
