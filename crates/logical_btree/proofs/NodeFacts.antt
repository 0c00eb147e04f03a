-- Sound inner nodes are nodes, and codes of sound nodes are held.
use Rattle.std.proofs.Common.{◌≡◌, ◌≤◌, ℕ, ◌==◌, true, false, ◌&&◌, if◌then◌else◌, T, Option, None, Some, List, [], ◌∷◌, All, length, drop, ap, ◌∙◌, subst, arith, option_map, option_and_then}
use Rattle.std.specs.Prelude.{IsTrue, nat_le, nat_lt, ⊤, ◌<◌, ◌^◌, map}
use Rattle.std.specs.List.{list_all}
use Rattle.std.proofs.lemmas.List.Elements.{All-cons, All-nil}
use Rattle.std.proofs.lemmas.Bool.{leb-true, lt-ltb}
use Rattle.std.specs.FinMap.Entries.{is_sorted}
use Rattle.byteorder.specs.Endian.{little_number}
use Rattle.oper_core.specs.State.{State}
use Rattle.key_entries.specs.Short.{is_short}
use Rattle.key_entries.specs.Entries.{byte_order, short_field, child_field, entries_in, rising}
use Rattle.key_entries.specs.EntryLaws.{both_true, if_some, if_true, same_some, and_then_some, map_some}
use Rattle.key_entries.specs.RisingLaws.{rising_known}
use Rattle.btree_ops.specs.Node.{leaf, inner, node_in, leaf_in, inner_in, node_code, IsNode}
use Rattle.btree_ops.specs.NodeLaws.{node_found}
use Rattle.btree_ops.specs.declared.node.Node.{Node}
use Rattle.btree_ops.specs.declared.node.Node.TheVariants.{Leaf, Inner}
use Rattle.logical_btree.specs.Walk.{root_in, children_of, is_child, if_sound, node_at}
use Rattle.logical_btree.proofs.ReachLemmas.{none_some}

abbrev InnerParts : Node → Type 0
InnerParts (Leaf pairs) = ⊤
InnerParts (Inner first branches) = (1 ≤ length branches.items) × (length branches.items ≤ 7) × All (λ e. IsTrue (is_short e.0)) branches.items × T (is_sorted byte_order branches.items)

inner_parts : (count : ℕ) (body : List ℕ) (node : Node) → inner_in count body ≡ Some node → InnerParts node
inner_parts count body node e =
    let tests = if_some (nat_le 1 count && (nat_le count 7 && nat_le 4 (length body))) (option_map (inner (little_number 4 body)) (option_and_then rising (entries_in child_field count (drop 4 body)))) node e in
    let outer = both_true (nat_le 1 count) (nat_le count 7 && nat_le 4 (length body)) tests.0 in
    let last = both_true (nat_le count 7) (nat_le 4 (length body)) outer.1 in
    let mapped = map_some (inner (little_number 4 body)) (option_and_then rising (entries_in child_field count (drop 4 body))) node tests.1 in
    let g = rising_known child_field (λ x. ⊤) (λ bytes x e. tt) count (drop 4 body) mapped.0 mapped.1 in
    subst InnerParts mapped.2 (omega (arith, g.0.count, leb-true 1 count outer.0), omega (arith, g.0.count, leb-true count 7 last.0), g.0.short, g.1)

leaf_parts : (count : ℕ) (body : List ℕ) (node : Node) → leaf_in count body ≡ Some node → InnerParts node
leaf_parts count body node e =
    let tests = if_some (nat_le count 7) (option_map leaf (option_and_then rising (entries_in short_field count body))) node e in
    let mapped = map_some leaf (option_and_then rising (entries_in short_field count body)) node tests.1 in
    subst InnerParts mapped.2 tt

node_parts : (bytes : List ℕ) (node : Node) → node_in bytes ≡ Some node → InnerParts node
node_parts [] node e = absurd (none_some node e)
node_parts (kind ∷ []) node e = absurd (none_some node e)
node_parts (kind ∷ count ∷ body) node e =
    elim (kind == 1) as (λ t. (if t then leaf_in count body else (if kind == 2 then inner_in count body else None)) ≡ Some node → InnerParts node) [
      | true ↦ λ e. leaf_parts count body node e
      | false ↦ λ e. inner_parts count body node (if_some (kind == 2) (inner_in count body) node e).1
    ] e

root_parts : (bytes : List ℕ) (node : Node) → root_in bytes ≡ Some node → InnerParts node
root_parts [] node e = subst InnerParts (same_some (leaf []) node e) tt
root_parts (b ∷ bytes) node e = node_parts (b ∷ bytes) node e

children_fit : (lo hi : ℕ) → hi < 2 ^ 32 → (branches : List (List ℕ × ℕ)) → IsTrue (list_all (is_child lo hi) (map (λ b. b.1) branches)) → All (λ e. IsTrue (nat_lt e.1 (2 ^ 32))) branches
children_fit lo hi small [] sound = All-nil (λ e. IsTrue (nat_lt e.1 (2 ^ 32)))
children_fit lo hi small (b ∷ branches) sound =
    let parts = both_true (is_child lo hi b.1) (list_all (is_child lo hi) (map (λ b. b.1) branches)) sound in
    let below = leb-true b.1 hi (both_true (nat_lt lo b.1) (nat_le b.1 hi) parts.0).1 in
    All-cons (λ e. IsTrue (nat_lt e.1 (2 ^ 32))) b branches (lt-ltb b.1 (2 ^ 32) (omega (arith, below, small))) (children_fit lo hi small branches parts.1)

pub record SoundInner (lo hi : ℕ) (first : ℕ) (branches : List (List ℕ × ℕ)) : Type 0 where
  pub node : IsNode (inner first branches)
  pub sound : IsTrue (list_all (is_child lo hi) (first ∷ map (λ b. b.1) branches))

-- an inner node that is not bad is a node, whatever numbers stand where bytes should
pub inner_node : (lo hi : ℕ) → hi < 2 ^ 32 → (s : State) (x first : ℕ) (branches : List (List ℕ × ℕ)) → node_at lo hi s x ≡ Some (inner first branches) → SoundInner lo hi first branches
inner_node lo hi small s x first branches e =
    let read = and_then_some (if_sound lo hi) (if x == lo then root_in (s x) else node_in (s x)) (inner first branches) e in
    let tests = if_some (list_all (is_child lo hi) (children_of read.0)) (Some read.0) (inner first branches) read.2 in
    let same : read.0 ≡ inner first branches = same_some read.0 (inner first branches) tests.1 in
    let sound : IsTrue (list_all (is_child lo hi) (first ∷ map (λ b. b.1) branches)) = subst (λ (node : Node). IsTrue (list_all (is_child lo hi) (children_of node))) same tests.0 in
    let parts : InnerParts (inner first branches) = subst InnerParts same
    (elim (x == lo) as (λ t. (if t then root_in (s x) else node_in (s x)) ≡ Some read.0 → InnerParts read.0) [
      | true ↦ λ e. root_parts (s x) read.0 e
      | false ↦ λ e. node_parts (s x) read.0 e
    ] read.1) in
    let children = both_true (is_child lo hi first) (list_all (is_child lo hi) (map (λ b. b.1) branches)) sound in
    let below = leb-true first hi (both_true (nat_lt lo first) (nat_le first hi) children.0).1 in
    record {
      node = (omega (arith, below, small), parts.0, record { few = parts.1; short = parts.2; fit = children_fit lo hi small branches children.1; rise = parts.3 });
      sound = sound;
    }

-- an object with the code of a sound inner node holds that node
pub inner_at : (lo hi : ℕ) (t : State) (x first : ℕ) (branches : List (List ℕ × ℕ)) → t x ≡ node_code (inner first branches) → SoundInner lo hi first branches → node_at lo hi t x ≡ Some (inner first branches)
inner_at lo hi t x first branches is good =
    let read : node_in (node_code (inner first branches)) ≡ Some (inner first branches) = node_found (inner first branches) good.node in
    let held : option_and_then (if_sound lo hi) (Some (inner first branches)) ≡ Some (inner first branches) =
    if_true (list_all (is_child lo hi) (first ∷ map (λ b. b.1) branches)) (Some (inner first branches)) None good.sound in
    ap (λ (v : List ℕ). option_and_then (if_sound lo hi) (if x == lo then root_in v else node_in v)) is
    ∙ elim (x == lo) as (λ c. option_and_then (if_sound lo hi) (if c then root_in (node_code (inner first branches)) else node_in (node_code (inner first branches))) ≡ Some (inner first branches)) [
      | true ↦ ap (λ (o : Option Node). option_and_then (if_sound lo hi) o) read ∙ held
      | false ↦ ap (λ (o : Option Node). option_and_then (if_sound lo hi) o) read ∙ held
    ]
