-- The first full node on a way is the root, or the child that the way takes at an inner node with room.
use Rattle.std.proofs.Common.{◌≡◌, ◌≢◌, ◌≤◌, ◌⊎◌, inl, inr, ℕ, zero, suc, ◌==◌, true, false, if◌then◌else◌, Option, None, Some, Result, Ok, Err, List, [], ◌∷◌, length, refl, sym, ap, ◌∙◌, arith}
use Rattle.key_entries.specs.EntryLaws.{same_some}
use Rattle.oper_core.specs.State.{State}
use Rattle.btree_ops.specs.Node.{inner}
use Rattle.btree_ops.specs.declared.node.Node.{Node}
use Rattle.btree_ops.specs.declared.node.Node.TheVariants.{Leaf, Inner}
use Rattle.logical_btree.specs.Walk.{Way, node_at, size, child_for, walk_at, with_met, walk_from, walk}
use Rattle.logical_btree.specs.Plan.{Full, first_full, is_full, steps_of}
use Rattle.logical_btree.proofs.ReachLemmas.{none_some}
use Rattle.logical_btree.proofs.MovedLemmas.{err_ok, same_ok}
use Rattle.logical_btree.proofs.WayLemmas.{child_range, no_way}

module _ (lo hi : ℕ) (s : State) (key : List ℕ) where
  pub record HeadFull (above : Option ℕ) (x : ℕ) (full : Full) : Type 0 where
    pub parent : full.parent ≡ above
    pub child : full.child ≡ x
    pub node : Node
    pub at : node_at lo hi s x ≡ Some node
    pub full_node : is_full node ≡ true

  pub record Place (full : Full) : Type 0 where
    pub parent : ℕ
    pub is : full.parent ≡ Some parent
    pub first : ℕ
    pub branches : List (List ℕ × ℕ)
    pub node : node_at lo hi s parent ≡ Some (inner first branches)
    pub room : (length branches == 7) ≡ false
    pub taken : child_for key first branches ≡ full.child
    pub child_node : Node
    pub child_at : node_at lo hi s full.child ≡ Some child_node
    pub full_node : is_full child_node ≡ true
    pub range : (lo ≤ parent) × (parent ≤ hi)
    pub apart : parent ≢ full.child

  abbrev Finds : ℕ → Result Way ℕ → Type 0
  Finds x r = (lo ≤ x) × (x ≤ hi) → (above : Option ℕ) (w : Way) (full : Full) → r ≡ Ok w → first_full above (steps_of w) ≡ Some full → HeadFull above x full ⊎ Place full

  head : (x : ℕ) (node : Node) (rest : Option Full) (above : Option ℕ) (full : Full) → node_at lo hi s x ≡ Some node
      → (if is_full node then Some (record { parent = above; child = x }) else rest) ≡ Some full → HeadFull above x full ⊎ ((is_full node ≡ false) × (rest ≡ Some full))
  head x node rest above full at e =
      elim (is_full node) as (λ t. is_full node ≡ t → (if t then Some (record { parent = above; child = x }) else rest) ≡ Some full → HeadFull above x full ⊎ ((t ≡ false) × (rest ≡ Some full))) [
        | true ↦ λ f e.
            let same : ◌≡◌ {A = Full} (record { parent = above; child = x }) full = same_some (record { parent = above; child = x }) full e in
            inl (record { parent = sym (ap (λ (f : Full). f.parent) same); child = sym (ap (λ (f : Full). f.child) same); node = node; at = at; full_node = f })
        | false ↦ λ f e. inr (refl, e)
      ] refl e

  -- a node that leads to itself leads to no leaf
  abbrev EndsLoops : (ℕ → Result Way ℕ) → Type 0
  EndsLoops go = (x first : ℕ) (branches : List (List ℕ × ℕ)) → node_at lo hi s x ≡ Some (inner first branches) → child_for key first branches ≡ x → go x ≡ Err x

  beyond : (go : ℕ → Result Way ℕ) → EndsLoops go → ((y : ℕ) → Finds y (go y)) → (x first : ℕ) (branches : List (List ℕ × ℕ)) → node_at lo hi s x ≡ Some (inner first branches) → (r : Result Way ℕ)
      → go (child_for key first branches) ≡ r → (lo ≤ x) × (x ≤ hi) → (above : Option ℕ) (w : Way) (full : Full) → with_met (record { object = x; node = inner first branches }) r ≡ Ok w
      → first_full above (steps_of w) ≡ Some full → HeadFull above x full ⊎ Place full
  beyond go loops ih x first branches at (Err bad) on range above w full goes e = absurd (err_ok bad w goes)
  beyond go loops ih x first branches at (Ok v) on range above w full goes e =
      let child = child_range lo hi s key x first branches at in
      let same = same_ok (record { inner = record { object = x; node = inner first branches } ∷ v.inner; object = v.object; pairs = v.pairs }) w goes in
      elim (head x (inner first branches) (first_full (Some x) (steps_of v)) above full at (ap (λ (w : Way). first_full above (steps_of w)) same ∙ e)) [
        | inl here ↦ inl here
        | inr rest ↦
            elim (ih (child_for key first branches) (omega (arith, child.0), child.1) (Some x) v full on rest.1) [
              | inl there ↦ inr (record {
                parent = x;
                is = there.parent;
                first = first;
                branches = branches;
                node = at;
                room = rest.0;
                taken = sym there.child;
                child_node = there.node;
                child_at = ap (λ (z : ℕ). node_at lo hi s z) there.child ∙ there.at;
                full_node = there.full_node;
                range = range;
                apart = λ same. err_ok x v (sym (loops x first branches at (sym (same ∙ there.child))) ∙ ap go (same ∙ there.child) ∙ on);
              })
              | inr place ↦ inr place
            ]
      ]

  finds_at : (go : ℕ → Result Way ℕ) → EndsLoops go → ((y : ℕ) → Finds y (go y)) → (x : ℕ) (m : Option Node) → node_at lo hi s x ≡ m → Finds x (walk_at go key x m)
  finds_at go loops ih x None at range above w full goes e = absurd (err_ok x w goes)
  finds_at go loops ih x (Some (Leaf pairs)) at range above w full goes e =
      let same = same_ok (record { inner = []; object = x; pairs = pairs.items }) w goes in
      elim (head x (Leaf pairs) None above full at (ap (λ (w : Way). first_full above (steps_of w)) same ∙ e)) [
        | inl here ↦ inl here
        | inr none ↦ absurd (none_some full none.1)
      ]
  finds_at go loops ih x (Some (Inner first branches)) at range above w full goes e =
      beyond go loops ih x first branches.items at (go (child_for key first branches.items)) refl range above w full goes e

  pub finds_from : (n x : ℕ) → Finds x (walk_from lo hi s key n x)
  finds_from zero x = λ range above w full goes e. absurd (err_ok x w goes)
  finds_from (suc n) x = finds_at (λ y. walk_from lo hi s key n y) (λ x first branches at loop. no_way lo hi s key n x first branches at loop) (λ y. finds_from n y) x (node_at lo hi s x) refl

  pub place_of_full : lo ≤ hi → (w : Way) (full : Full) → walk lo hi s key ≡ Ok w → first_full None (steps_of w) ≡ Some full → HeadFull None lo full ⊎ Place full
  place_of_full order w full goes e = finds_from (size lo hi) lo (omega arith, order) None w full goes e
