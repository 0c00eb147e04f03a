-- The put that ends an insert, and the delete, as commands.
use Rattle.std.proofs.Common.{◌≡◌, ◌≢◌, ◌⊎◌, inl, inr, ℕ, ◌==◌, Bool, true, false, not, ◌&&◌, ◌||◌, if◌then◌else◌, Option, None, Some, unwrap_or, Result, Ok, Err, List, [], ◌∷◌, length, drop, refl, sym, ap, ◌∙◌, subst, arith, true≢false, option_map, option_and_then, Less, Equal, Greater}
use Rattle.std.specs.Prelude.{IsTrue, nat_le, ⊤}
use Rattle.std.specs.List.{list_all}
use Rattle.std.proofs.lemmas.List.Elements.{All-nil}
use Rattle.std.proofs.lemmas.Bool.{leb-true}
use Rattle.std.proofs.lemmas.Bool.Decides.{eqb_tells}
use Rattle.std.specs.FinMap.{insert}
use Rattle.std.specs.FinMap.Entries.{put, by_order}
use Rattle.byteorder.specs.Endian.{little_number}
use Rattle.oper_core.specs.State.{State, with_values}
use Rattle.oper_core.specs.Meaning.{after}
use Rattle.oper_core.specs.declared.bounds.Bounds.{Bounds}
use Rattle.oper_core.specs.declared.refusal.Refusal.{Refusal}
use Rattle.oper_core.specs.declared.refusal.Refusal.TheVariants.{NodeFull, TooLarge}
use Rattle.key_entries.specs.Short.{is_short}
use Rattle.key_entries.specs.Entries.{byte_order, short_field, child_field, entries_in, rising, AreEntries}
use Rattle.key_entries.specs.EntryLaws.{both_true, true_both, if_some, if_true, and_then_some, map_some}
use Rattle.key_entries.specs.RisingLaws.{pairs_known}
use Rattle.btree_ops.specs.Node.{leaf, inner, node_in, leaf_in, inner_in, node_code, IsNode}
use Rattle.btree_ops.specs.NodeLaws.{node_found}
use Rattle.key_entries.specs.Pairs.{has}
use Rattle.key_entries.specs.Objects.{where_roomy}
use Rattle.btree_ops.specs.Effects.{pairs_of, pairs_to_fill, put_made}
use Rattle.key_entries.specs.Objects.{values_of}
use Rattle.btree_ops.specs.Operation.{node_meaning, bytes_of}
use Rattle.btree_ops.specs.declared.made.Made.{Made}
use Rattle.btree_ops.specs.declared.made.Made.TheVariants.{One}
use Rattle.btree_ops.specs.declared.node.Node.{Node}
use Rattle.btree_ops.specs.declared.node.Node.TheVariants.{Leaf, Inner}
use Rattle.btree_ops.specs.declared.node_op.NodeOp.TheVariants.{Put}
use Rattle.key_entries.specs.PairLaws.{put_updates, put_keeps}
use Rattle.logical_btree.specs.Walk.{Pair, Span, Way, is_within, root_in, children_of, is_child, if_sound, node_at, size, walk}
use Rattle.logical_btree.specs.Tree.{all_within, IsTree, content_of}
use Rattle.logical_btree.proofs.ReachLemmas.{none_some}
use Rattle.logical_btree.proofs.PutLaws.{Rewritten, ends_at_leaf, put_inserts}

-- a leaf that is read is a node, whatever numbers stand where bytes should
abbrev pub LeafIsNode : Node → Type 0
LeafIsNode (Leaf pairs) = AreEntries short_field pairs.items
LeafIsNode (Inner first branches) = ⊤

leaf_good : (count : ℕ) (body : List ℕ) (node : Node) → leaf_in count body ≡ Some node → LeafIsNode node
leaf_good count body node e =
    let tests = if_some (nat_le count 7) (option_map leaf (option_and_then rising (entries_in short_field count body))) node e in
    let mapped = map_some leaf (option_and_then rising (entries_in short_field count body)) node tests.1 in
    subst LeafIsNode mapped.2 (pairs_known count body mapped.0 (leb-true count 7 tests.0) mapped.1)

inner_good : (count : ℕ) (body : List ℕ) (node : Node) → inner_in count body ≡ Some node → LeafIsNode node
inner_good count body node e =
    let tests = if_some (nat_le 1 count && (nat_le count 7 && nat_le 4 (length body))) (option_map (inner (little_number 4 body)) (option_and_then rising (entries_in child_field count (drop 4 body)))) node e in
    let mapped = map_some (inner (little_number 4 body)) (option_and_then rising (entries_in child_field count (drop 4 body))) node tests.1 in
    subst LeafIsNode mapped.2 tt

pub node_good : (bytes : List ℕ) (node : Node) → node_in bytes ≡ Some node → LeafIsNode node
node_good [] node e = absurd (none_some node e)
node_good (kind ∷ []) node e = absurd (none_some node e)
node_good (kind ∷ count ∷ body) node e =
    elim (kind == 1) as (λ t. (if t then leaf_in count body else (if kind == 2 then inner_in count body else None)) ≡ Some node → LeafIsNode node) [
      | true ↦ λ e. leaf_good count body node e
      | false ↦ λ e. inner_good count body node (if_some (kind == 2) (inner_in count body) node e).1
    ] e

-- the leaf of an object, as the operations see its value
pub record Fills (v : List ℕ) (pairs : List Pair) : Type 0 where
  pub fills : pairs_to_fill v ≡ Some pairs
  pub node : IsNode (leaf pairs)

pub pairs_of_leaf : (a b : List Pair) → Some (leaf a) ≡ Some (leaf b) → a ≡ b
pairs_of_leaf a b e = ap (λ (o : Option (List Pair)). unwrap_or o []) (ap pairs_of e)

pub fills_in : (root : Bool) (v : List ℕ) (pairs : List Pair) → (if root then root_in v else node_in v) ≡ Some (leaf pairs) → Fills v pairs
fills_in true [] pairs e =
    subst (Fills []) (pairs_of_leaf [] pairs e)
    (record { fills = refl; node = record { few = omega arith; short = All-nil (λ e. IsTrue (is_short e.0)); fit = All-nil (λ e. IsTrue (is_short e.1)); rise = tt } })
fills_in false [] pairs e = absurd (none_some (leaf pairs) e)
fills_in true (b ∷ bytes) pairs e = record { fills = ap pairs_of e; node = node_good (b ∷ bytes) (leaf pairs) e }
fills_in false (b ∷ bytes) pairs e = record { fills = ap pairs_of e; node = node_good (b ∷ bytes) (leaf pairs) e }

pub at_fills : (lo hi : ℕ) (s : State) (x : ℕ) (pairs : List Pair) → node_at lo hi s x ≡ Some (leaf pairs) → Fills (s x) pairs
at_fills lo hi s x pairs e =
    let read = and_then_some (if_sound lo hi) (if x == lo then root_in (s x) else node_in (s x)) (leaf pairs) e in
    let tests = if_some (list_all (is_child lo hi) (children_of read.0)) (Some read.0) (leaf pairs) read.2 in
    fills_in (x == lo) (s x) pairs (read.1 ∙ tests.1)

-- an object with the code of a leaf holds that leaf
pub leaf_at : (lo hi : ℕ) (t : State) (x : ℕ) (pairs : List Pair) → t x ≡ node_code (leaf pairs) → IsNode (leaf pairs) → node_at lo hi t x ≡ Some (leaf pairs)
leaf_at lo hi t x pairs is node =
    ap (λ (v : List ℕ). option_and_then (if_sound lo hi) (if x == lo then root_in v else node_in v)) is
    ∙ elim (x == lo) as (λ c. option_and_then (if_sound lo hi) (if c then root_in (node_code (leaf pairs)) else node_in (node_code (leaf pairs))) ≡ Some (leaf pairs)) [
      | true ↦ ap (λ (o : Option Node). option_and_then (if_sound lo hi) o) (node_found (leaf pairs) node)
      | false ↦ ap (λ (o : Option Node). option_and_then (if_sound lo hi) o) (node_found (leaf pairs) node)
    ]

-- keys put into a list stay within a span that holds them and the new one
put_within : (key value : List ℕ) (span : Span) (es : List Pair) → IsTrue (all_within span es) → IsTrue (is_within key span) → IsTrue (all_within span (put byte_order key value es))
put_within key value span [] all is = true_both (is_within key span) true is refl
put_within key value span (e ∷ es) all is =
    let both = both_true (is_within e.0 span) (all_within span es) all in
    elim (byte_order key e.0) as (λ o. IsTrue (all_within span (by_order o ((key, value) ∷ e ∷ es) ((e.0, value) ∷ es) (e ∷ put byte_order key value es)))) [
      | Less ↦ true_both (is_within key span) (all_within span (e ∷ es)) is all
      | Equal ↦ all
      | Greater ↦ true_both (is_within e.0 span) (all_within span (put byte_order key value es)) both.0 (put_within key value span es both.1 is)
    ]

module _ (b : Bounds) (lo hi : ℕ) (s : State) (key value : List ℕ) (w : Way) (goes : walk lo hi s key ≡ Ok w) (wide : IsTrue (nat_le 1024 b.cap))
    (short : IsTrue (is_short key)) (fits : IsTrue (is_short value)) (room : IsTrue (has key w.pairs) ⊎ (length w.pairs ≢ 7)) where
  not_full : (h f : Bool) → IsTrue h ⊎ (f ≡ false) → (not h && f) ≡ false
  not_full true f r = refl
  not_full false f (inl e) = absurd (true≢false (sym e))
  not_full false f (inr e) = e

  has_room : IsTrue (has key w.pairs) ⊎ (length w.pairs ≢ 7) → IsTrue (has key w.pairs) ⊎ ((length w.pairs == 7) ≡ false)
  has_room (inl there) = inl there
  has_room (inr other) = elim (eqb_tells (length w.pairs) 7) [ inl same ↦ absurd (other same.1) | inr differs ↦ inr differs.0 ]

  made : where_roomy b.cap (put_made key value (pairs_to_fill (s w.object))) ≡ Ok (One (leaf (put byte_order key value w.pairs)))
  made =
      let at = at_fills lo hi s w.object w.pairs (ends_at_leaf lo hi s key (size lo hi) lo w goes) in
      ap (λ (o : Option (List Pair)). where_roomy b.cap (put_made key value o)) at.fills
      ∙ ap (λ (t : Bool). where_roomy b.cap (if t then Err NodeFull else Ok (One (leaf (put byte_order key value w.pairs))))) (not_full (has key w.pairs) (length w.pairs == 7) (has_room room))
      ∙ if_true (nat_le 1024 b.cap) (Ok (One (leaf (put byte_order key value w.pairs)))) (Err TooLarge) wide

  -- the put at the end of the way is such a rewriting
  pub put_rewrites : Rewritten lo hi s (after (node_meaning b) s (Put w.object key value)) key (Some value) w
  put_rewrites =
      let now : List Pair = put byte_order key value w.pairs in
      let at = at_fills lo hi s w.object w.pairs (ends_at_leaf lo hi s key (size lo hi) lo w goes) in
      let t : State = after (node_meaning b) s (Put w.object key value) in
      let values : t ≡ with_values s (w.object ∷ []) (node_code (leaf now) ∷ []) = ap (λ (r : Result Made Refusal). with_values s (w.object ∷ []) (values_of bytes_of (w.object ∷ []) r)) made in
      let itself : (w.object == w.object) ≡ true = elim (eqb_tells w.object w.object) [ inl same ↦ same.0 | inr other ↦ absurd (other.1 refl) ] in
      let here : t w.object ≡ node_code (leaf now) =
      ap (λ (u : State). u w.object) values
      ∙ ap (λ (c : Bool). if c || false then (if c then node_code (leaf now) else []) else s w.object) itself in
      record {
        now = now;
        becomes = leaf_at lo hi t w.object now here (put_keeps key value w.pairs at.node short fits room);
        others = λ y other. elim (eqb_tells y w.object) [
          | inl same ↦ absurd (other same.1)
          | inr differs ↦
              let same_value : t y ≡ s y = ap (λ (u : State). u y) values ∙ ap (λ (c : Bool). if c || false then (if c then node_code (leaf now) else []) else s y) differs.0 in
              ap (λ (v : List ℕ). option_and_then (if_sound lo hi) (if y == lo then root_in v else node_in v)) same_value
        ];
        update = put_updates key value w.pairs;
        held = λ span all is. put_within key value span w.pairs all is;
      }

  -- the command that ends an insert acts on the content as on a map
  pub put_acts : IsTree lo hi s → IsTree lo hi (after (node_meaning b) s (Put w.object key value))
      × (content_of lo hi (after (node_meaning b) s (Put w.object key value)) ≡ insert (content_of lo hi s) key value)
  put_acts tree = put_inserts lo hi s (after (node_meaning b) s (Put w.object key value)) key value w goes put_rewrites tree
