-- The objects of a way stand in the range, and a way that comes to a leaf passes no node twice in a row.
use Rattle.std.proofs.Common.{◌≡◌, ◌≢◌, ◌≤◌, ◌⊎◌, inl, inr, ℕ, zero, suc, ◌==◌, Bool, true, false, if◌then◌else◌, Option, None, Some, Result, Ok, Err, List, [], ◌∷◌, ◌++◌, map, is_lt, refl, sym, ap, ◌∙◌, subst, arith}
use Rattle.std.specs.Prelude.{IsTrue, nat_lt, nat_le, option_and_then}
use Rattle.std.specs.List.{list_all}
use Rattle.std.proofs.lemmas.Bool.{ltb-true, leb-true}
use Rattle.oper_core.specs.State.{State}
use Rattle.key_entries.specs.Entries.{byte_order}
use Rattle.key_entries.specs.EntryLaws.{both_true, if_some, same_some}
use Rattle.btree_ops.specs.Node.{leaf, inner, node_in}
use Rattle.btree_ops.specs.declared.node.Node.{Node}
use Rattle.btree_ops.specs.declared.node.Node.TheVariants.{Leaf, Inner}
use Rattle.logical_btree.specs.Walk.{Pair, Met, Way, root_in, is_child, if_sound, node_at, size, child_for, walk_at, with_met, walk_from, walk}
use Rattle.logical_btree.specs.Plan.{Full, first_full, is_full, steps_of}
use Rattle.logical_btree.specs.Tree.{times, one_if}
use Rattle.logical_btree.proofs.DepthLemmas.{sound_at}
use Rattle.logical_btree.proofs.GoesLemmas.{objects_of}
use Rattle.logical_btree.proofs.MovedLemmas.{err_ok, same_ok}
use Rattle.logical_btree.proofs.PutLaws.{onward}
use Rattle.logical_btree.proofs.ReachLemmas.{none_some}
use Rattle.key_entries.specs.ValueLaws.{same_test}

-- what holds of all children holds of the one that a key leads to
child_of_all : (p : ℕ → Bool) (key : List ℕ) (first : ℕ) (branches : List (List ℕ × ℕ)) → IsTrue (list_all p (first ∷ map (λ b. b.1) branches)) → IsTrue (p (child_for key first branches))
child_of_all p key first [] all = (both_true (p first) true all).0
child_of_all p key first (b ∷ branches) all =
    let both = both_true (p first) (list_all p (b.1 ∷ map (λ b. b.1) branches)) all in
    elim (is_lt (byte_order key b.0)) as (λ t. IsTrue (p (if t then first else child_for key b.1 branches))) [
      | true ↦ both.0
      | false ↦ child_of_all p key b.1 branches both.1
    ]

module _ (lo hi : ℕ) (s : State) (key : List ℕ) where
  -- the child that is gone to stands in the range, and is not the root
  pub child_range : (x first : ℕ) (branches : List (List ℕ × ℕ)) → node_at lo hi s x ≡ Some (inner first branches)
      → (suc lo ≤ child_for key first branches) × (child_for key first branches ≤ hi)
  child_range x first branches at =
      let child : ℕ = child_for key first branches in
      let both = both_true (nat_lt lo child) (nat_le child hi) (child_of_all (is_child lo hi) key first branches (sound_at lo hi s x first branches at)) in
      (omega (arith, ltb-true lo child both.0), leb-true child hi both.1)

  abbrev LeafRange : Result Way ℕ → Type 0
  LeafRange r = (w : Way) → r ≡ Ok w → (lo ≤ w.object) × (w.object ≤ hi)

  range_at : (go : ℕ → Result Way ℕ) → ((y : ℕ) → (lo ≤ y) × (y ≤ hi) → LeafRange (go y)) → (x : ℕ) → (lo ≤ x) × (x ≤ hi) → (m : Option Node) → node_at lo hi s x ≡ m → LeafRange (walk_at go key x m)
  range_at go rest x range None at w e = absurd (err_ok x w e)
  range_at go rest x range (Some (Leaf pairs)) at w e =
      let eq = same_ok (record { inner = []; object = x; pairs = pairs.items }) w e in
      subst (λ (w : Way). (lo ≤ w.object) × (w.object ≤ hi)) eq range
  range_at go rest x range (Some (Inner first branches)) at w e =
      let on = onward (record { object = x; node = Inner first branches }) (go (child_for key first branches.items)) w e in
      let child = child_range x first branches.items at in
      subst (λ (z : ℕ). (lo ≤ z) × (z ≤ hi)) on.object (rest (child_for key first branches.items) (omega (arith, child.0), child.1) on.way on.is)

  range_from : (n x : ℕ) → (lo ≤ x) × (x ≤ hi) → LeafRange (walk_from lo hi s key n x)
  range_from zero x range = λ w e. absurd (err_ok x w e)
  range_from (suc n) x range = range_at (λ y. walk_from lo hi s key n y) (λ y range. range_from n y range) x range (node_at lo hi s x) refl

  -- the leaf of a way stands in the range
  pub leaf_range : lo ≤ hi → (w : Way) → walk lo hi s key ≡ Ok w → (lo ≤ w.object) × (w.object ≤ hi)
  leaf_range order w e = range_from (size lo hi) lo (omega arith, order) w e

  -- from a node that leads to itself no way comes to a leaf
  pub no_way : (n x first : ℕ) (branches : List (List ℕ × ℕ)) → node_at lo hi s x ≡ Some (inner first branches) → child_for key first branches ≡ x → walk_from lo hi s key n x ≡ Err x
  no_way zero x first branches at loop = refl
  no_way (suc n) x first branches at loop =
      let met : Met = record { object = x; node = inner first branches } in
      ap (λ (o : Option Node). walk_at (λ y. walk_from lo hi s key n y) key x o) at
      ∙ ap (λ (z : ℕ). with_met met (walk_from lo hi s key n z)) loop
      ∙ ap (with_met met) (no_way n x first branches at loop)

  -- an empty root is not full
  pub root_held : (n : ℕ) (w : Way) (full : Full) → walk_from lo hi s key n lo ≡ Ok w → first_full None (steps_of w) ≡ Some full → s lo ≢ []
  root_held zero w full goes e empty = err_ok lo w goes
  root_held (suc n) w full goes e empty =
      let at : node_at lo hi s lo ≡ Some (leaf []) =
      ap (λ (v : List ℕ). option_and_then (if_sound lo hi) (if lo == lo then root_in v else node_in v)) empty
      ∙ ap (λ (c : Bool). option_and_then (if_sound lo hi) (if c then root_in [] else node_in [])) (same_test lo) in
      let same = same_ok (record { inner = []; object = lo; pairs = [] }) w (sym (ap (λ (o : Option Node). walk_at (λ y. walk_from lo hi s key n y) key lo o) at) ∙ goes) in
      none_some full (ap (λ (w : Way). first_full None (steps_of w)) same ∙ e)

same_object : (x y : ℕ) → Some x ≡ Some y → x ≡ y
same_object x y e = same_some x y e

counted : (p x : ℕ) (xs : List ℕ) → x ≡ p → 1 ≤ times p (x ∷ xs)
counted p x xs same = let one : one_if (x == p) ≡ 1 = ap (λ (z : ℕ). one_if (x == z)) (sym same) ∙ ap one_if (same_test x) in omega (arith, one)

-- the node above the first full one stands on the way
parent_among : (above : Option ℕ) (nodes : List Met) (x : ℕ) (pairs : List Pair) (full : Full) (p : ℕ)
    → first_full above (nodes ++ record { object = x; node = leaf pairs } ∷ []) ≡ Some full → full.parent ≡ Some p
    → (above ≡ Some p) ⊎ (1 ≤ times p (map (λ m. m.object) nodes ++ x ∷ []))
parent_among above [] x pairs full p e is =
    let tests = if_some (is_full (leaf pairs)) (Some (record { parent = above; child = x })) full e in
    inl (ap (λ (f : Full). f.parent) (same_some (record { parent = above; child = x }) full tests.1) ∙ is)
parent_among above (m ∷ nodes) x pairs full p e is =
    let rest : Option Full = first_full (Some m.object) (nodes ++ record { object = x; node = leaf pairs } ∷ []) in
    elim (is_full m.node) as (λ t. (if t then Some (record { parent = above; child = m.object }) else rest) ≡ Some full → (above ≡ Some p) ⊎ (1 ≤ times p (m.object ∷ (map (λ m. m.object) nodes ++ x ∷ [])))) [
      | true ↦ λ e. inl (ap (λ (f : Full). f.parent) (same_some (record { parent = above; child = m.object }) full e) ∙ is)
      | false ↦ λ e.
          elim (parent_among (Some m.object) nodes x pairs full p e is) [
            | inl here ↦ inr (counted p m.object (map (λ m. m.object) nodes ++ x ∷ []) (same_object m.object p here))
            | inr there ↦ inr (omega (arith, there))
          ]
    ] e

pub parent_on_way : (w : Way) (full : Full) (p : ℕ) → first_full None (steps_of w) ≡ Some full → full.parent ≡ Some p → 1 ≤ times p (objects_of w)
parent_on_way w full p e is = elim (parent_among None w.inner w.object w.pairs full p e is) [ inl none ↦ absurd (none_some p none) | inr there ↦ there ]
