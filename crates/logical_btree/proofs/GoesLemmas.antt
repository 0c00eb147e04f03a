-- On a tree every way comes to a leaf, over objects that are reached.
use Rattle.std.proofs.Common.{◌≡◌, ◌≤◌, inl, inr, ℕ, zero, suc, ◌+◌, Bool, true, false, if◌then◌else◌, Option, Some, Result, Ok, Err, List, [], ◌∷◌, ◌++◌, map, is_lt, sym, ap, ◌∙◌, arith}
use Rattle.std.specs.Prelude.{IsTrue}
use Rattle.oper_core.specs.State.{State}
use Rattle.oper_core.specs.declared.bounds.Bounds.{Bounds}
use Rattle.key_entries.specs.Entries.{byte_order}
use Rattle.btree_ops.specs.Node.{inner}
use Rattle.btree_ops.specs.declared.node.Node.{Node}
use Rattle.logical_btree.specs.Walk.{Span, Met, Way, node_at, size, child_for, walk_at, with_met, walk_from, walk, found}
use Rattle.logical_btree.specs.Tree.{Reach, reach_children, reach_from, times, all_keys, IsTree}
use Rattle.logical_btree.specs.Plan.{is_there, get_on}
use Rattle.logical_btree.specs.Laws.{GetTells}
use Rattle.logical_btree.specs.declared.refusal.TreeRefusal.TheVariants.{NoObject}
use Rattle.logical_btree.proofs.ReachLemmas.{none_some, both_are, times_append, at_node}
use Rattle.logical_btree.proofs.FoundLemmas.{content_found}

-- the objects of a way, its leaf among them
abbrev pub objects_of : Way → List ℕ
objects_of way = map (λ m. m.object) way.inner ++ way.object ∷ []

pub record Goes (m : Result Way ℕ) (r : Reach) : Type 0 where
  pub way : Way
  pub is : m ≡ Ok way
  pub reached : (y : ℕ) → times y (objects_of way) ≤ times y r.objects

module _ (key : List ℕ) where
  goes_children : (on : ℕ → Span → Option Reach) (go : ℕ → Result Way ℕ) → ((x : ℕ) (span : Span) (r : Reach) → on x span ≡ Some r → Goes (go x) r)
      → (branches : List (List ℕ × ℕ)) (first : ℕ) (span : Span) (r : Reach) → reach_children on span first branches ≡ Some r → Goes (go (child_for key first branches)) r
  goes_children on go ih [] first span r is = ih first span r is
  goes_children on go ih (b ∷ branches) first span r is =
      let low : Span = record { from = span.from; to = Some b.0 } in
      let high : Span = record { from = b.0; to = span.to } in
      let two = both_are (on first low) (reach_children on high b.1 branches) r is in
      let counts : (y : ℕ) → times y two.left.objects + times y two.right.objects ≡ times y r.objects =
      λ y. let a = ap (λ (r : Reach). times y r.objects) two.all in omega (arith, a, times_append y two.left.objects two.right.objects) in
      elim (is_lt (byte_order key b.0)) as (λ t. Goes (go (if t then first else child_for key b.1 branches)) r) [
        | true ↦ let g = ih first low two.left two.left_is in record { way = g.way; is = g.is; reached = λ y. omega (arith, g.reached y, counts y) }
        | false ↦ let g = goes_children on go ih branches b.1 high two.right two.right_is in record { way = g.way; is = g.is; reached = λ y. omega (arith, g.reached y, counts y) }
      ]

  module _ (lo hi : ℕ) (s : State) where
    pub goes_from : (n x : ℕ) (span : Span) (r : Reach) → reach_from lo hi s n span x ≡ Some r → Goes (walk_from lo hi s key n x) r
    goes_from zero x span r is = absurd (none_some r is)
    goes_from (suc n) x span r is =
        let on : ℕ → Span → Option Reach = λ y part. reach_from lo hi s n part y in
        let go : ℕ → Result Way ℕ = λ y. walk_from lo hi s key n y in
        elim (at_node on span x (node_at lo hi s x) r is) [
          | inl at ↦ record {
            way = record { inner = []; object = x; pairs = at.pairs };
            is = ap (λ (o : Option Node). walk_at go key x o) at.node_is;
            reached = λ y. let a = ap (λ (r : Reach). times y r.objects) at.all in omega (arith, a);
          }
          | inr at ↦
              let g = goes_children on go (λ y part r is. goes_from n y part r is) at.branches at.first span at.below at.children in
              let met : Met = record { object = x; node = inner at.first at.branches } in
              record {
                way = record { inner = met ∷ g.way.inner; object = g.way.object; pairs = g.way.pairs };
                is = ap (λ (o : Option Node). walk_at go key x o) at.node_is ∙ ap (with_met met) g.is;
                reached = λ y. let a = ap (λ (r : Reach). times y r.objects) at.all in omega (arith, a, g.reached y);
              }
        ]

    pub tree_goes : (tree : IsTree lo hi s) → Goes (walk lo hi s key) tree.reached
    tree_goes tree = goes_from (size lo hi) lo all_keys tree.reached tree.is

    -- on a tree a get reports what the map has
    pub get_tells : (b : Bounds) → IsTrue (is_there b lo hi) → IsTree lo hi s → GetTells b lo hi s key
    get_tells b there tree =
        let g = tree_goes tree in
        ap (λ (t : Bool). if t then get_on key (walk lo hi s key) else Err NoObject) there
        ∙ ap (get_on key) g.is
        ∙ ap (λ (o : Option (List ℕ)). Ok o) (sym (ap (found key) g.is) ∙ sym (content_found key lo hi s tree))
