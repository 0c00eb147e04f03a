-- A put and a delete keep the tree, and act on its content as on a map.
use Rattle.std.proofs.Common.{◌≡◌, ◌≢◌, ◌≤◌, inl, inr, ℕ, zero, suc, ◌+◌, ◌==◌, Bool, true, false, if◌then◌else◌, Option, None, Some, Result, Ok, Err, List, [], ◌∷◌, ◌++◌, refl, sym, ap, ◌∙◌, subst, arith, is_lt, true≢false}
use Rattle.std.specs.Prelude.{IsTrue}
use Rattle.std.proofs.lemmas.Bool.Decides.{eqb_tells}
use Rattle.std.specs.Ordering.{eq_by_cmp}
use Rattle.std.specs.FinMap.{get, insert, remove, get-insert, get-remove, same_map, slice_cmp-IsAntisymmetric, nat_cmp-IsAntisymmetric}
use Rattle.std.specs.Cmp.Lexicographic.{nat_list_cmp_total}
use Rattle.oper_core.specs.State.{State}
use Rattle.key_entries.specs.Entries.{byte_order}
use Rattle.btree_ops.specs.Node.{leaf, inner}
use Rattle.key_entries.specs.Pairs.{IsUpdate}
use Rattle.btree_ops.specs.declared.node.Node.{Node}
use Rattle.btree_ops.specs.declared.node.Node.TheVariants.{Leaf, Inner}
use Rattle.logical_btree.specs.Walk.{Pair, Span, Met, Way, is_within, node_at, size, child_for, walk_at, with_met, walk_from, walk}
use Rattle.logical_btree.specs.Tree.{Reach, all_within, reach_children, reach_at, reach_from, times, one_if, all_keys, IsTree, content_of}
use Rattle.logical_btree.proofs.ReachLemmas.{none_some, both_are, both_made, times_append, joined, headed, at_node, leaf_is, leaf_made, inner_made, SameBut, Keeps, keeps_children, keeps_from}
use Rattle.logical_btree.proofs.SpanLemmas.{within_from, within_to, within_made}
use Rattle.logical_btree.proofs.GrownLemmas.{Once}
use Rattle.logical_btree.proofs.FoundLemmas.{content_found}
use Rattle.logical_btree.proofs.MovedLemmas.{err_ok, same_ok, lookup_updates}

abbrev is_leaf : Option Node → Bool
is_leaf None = false
is_leaf (Some (Leaf pairs)) = true
is_leaf (Some (Inner first branches)) = false

pub leaf_not_inner : (a : List Pair) (f : ℕ) (bs : List (List ℕ × ℕ)) → Some (leaf a) ≡ Some (inner f bs) → ⊥
leaf_not_inner a f bs e = true≢false (ap is_leaf e)

-- a way through an inner node goes on at a child
pub record Onward (r : Result Way ℕ) (w : Way) : Type 0 where
  pub way : Way
  pub is : r ≡ Ok way
  pub object : way.object ≡ w.object
  pub pairs : way.pairs ≡ w.pairs

pub onward : (met : Met) (r : Result Way ℕ) (w : Way) → with_met met r ≡ Ok w → Onward r w
onward met (Err bad) w e = absurd (err_ok bad w e)
onward met (Ok v) w e =
    let eq = same_ok (record { inner = met ∷ v.inner; object = v.object; pairs = v.pairs }) w e in
    record { way = v; is = refl; object = ap (λ (w : Way). w.object) eq; pairs = ap (λ (w : Way). w.pairs) eq }

module _ (lo hi : ℕ) (s : State) (key : List ℕ) where
  abbrev EndsAtLeaf : Result Way ℕ → Type 0
  EndsAtLeaf r = (w : Way) → r ≡ Ok w → node_at lo hi s w.object ≡ Some (leaf w.pairs)

  leaf_node : (go : ℕ → Result Way ℕ) → ((y : ℕ) → EndsAtLeaf (go y)) → (x : ℕ) (m : Option Node) → node_at lo hi s x ≡ m → EndsAtLeaf (walk_at go key x m)
  leaf_node go rest x None has w e = absurd (err_ok x w e)
  leaf_node go rest x (Some (Leaf pairs)) has w e =
      let eq = same_ok (record { inner = []; object = x; pairs = pairs.items }) w e in
      subst (λ (w : Way). node_at lo hi s w.object ≡ Some (leaf w.pairs)) eq has
  leaf_node go rest x (Some (Inner first branches)) has w e =
      let on = onward (record { object = x; node = Inner first branches }) (go (child_for key first branches.items)) w e in
      sym (ap (λ (z : ℕ). node_at lo hi s z) on.object) ∙ rest (child_for key first branches.items) on.way on.is ∙ ap (λ (l : List Pair). Some (leaf l)) on.pairs

  pub ends_at_leaf : (n x : ℕ) → EndsAtLeaf (walk_from lo hi s key n x)
  ends_at_leaf zero x = λ w e. absurd (err_ok x w e)
  ends_at_leaf (suc n) x = leaf_node (λ y. walk_from lo hi s key n y) (λ y. ends_at_leaf n y) x (node_at lo hi s x) refl

module _ (lo hi : ℕ) (s t : State) (o : ℕ) (old now : List Pair) (key : List ℕ) (was : node_at lo hi s o ≡ Some (leaf old)) (becomes : node_at lo hi t o ≡ Some (leaf now))
    (same : SameBut lo hi s t o o) (held : (span : Span) → IsTrue (all_within span old) → IsTrue (is_within key span) → IsTrue (all_within span now)) where
  record Replaced (m : Option Reach) (r : Reach) : Type 0 where
    after : Reach
    is : m ≡ Some after
    objects : after.objects ≡ r.objects
    there : 1 ≤ times o r.objects

  abbrev Replaces : (ℕ → Span → Option Reach) → (ℕ → Span → Option Reach) → (ℕ → Result Way ℕ) → Type 0
  Replaces on into go = (x : ℕ) (span : Span) (r : Reach) (w : Way) → on x span ≡ Some r → Once r → IsTrue (is_within key span) → go x ≡ Ok w → w.object ≡ o → Replaced (into x span) r

  replaced_children : (on into : ℕ → Span → Option Reach) (go : ℕ → Result Way ℕ) → Keeps o o on into → Replaces on into go
      → (branches : List (List ℕ × ℕ)) (first : ℕ) (span : Span) (r : Reach) (w : Way) → reach_children on span first branches ≡ Some r → Once r
      → IsTrue (is_within key span) → go (child_for key first branches) ≡ Ok w → w.object ≡ o → Replaced (reach_children into span first branches) r
  replaced_children on into go keeps ih [] first span r w is once inside goes at = ih first span r w is once inside goes at
  replaced_children on into go keeps ih (b ∷ branches) first span r w is once inside goes at =
      let low : Span = record { from = span.from; to = Some b.0 } in
      let high : Span = record { from = b.0; to = span.to } in
      let two = both_are (on first low) (reach_children on high b.1 branches) r is in
      let counts : (y : ℕ) → times y two.left.objects + times y two.right.objects ≡ times y r.objects =
      λ y. let a = ap (λ (r : Reach). times y r.objects) two.all in omega (arith, a, times_append y two.left.objects two.right.objects) in
      elim (is_lt (byte_order key b.0)) as (λ c. is_lt (byte_order key b.0) ≡ c → go (if c then first else child_for key b.1 branches) ≡ Ok w → Replaced (reach_children into span first (b ∷ branches)) r) [
        | true ↦ λ less goes.
            let g = ih first low two.left w two.left_is (λ y. omega (arith, counts y, once y)) (within_made key low (within_from key span inside) less) goes at in
            let none : times o two.right.objects ≡ 0 = omega (arith, counts o, once o, g.there) in
            let right = keeps_children o o on into keeps branches b.1 high two.right two.right_is (none, none) in
            record {
              after = joined g.after two.right;
              is = both_made (into first low) (reach_children into high b.1 branches) g.after two.right g.is right;
              objects = ap (λ (l : List ℕ). l ++ two.right.objects) g.objects ∙ ap (λ (r : Reach). r.objects) two.all;
              there = omega (arith, counts o, g.there);
            }
        | false ↦ λ not_less goes.
            let g = replaced_children on into go keeps ih branches b.1 high two.right w two.right_is (λ y. omega (arith, counts y, once y)) (within_made key high not_less (within_to key span inside)) goes at in
            let none : times o two.left.objects ≡ 0 = omega (arith, counts o, once o, g.there) in
            let left = keeps first low two.left two.left_is (none, none) in
            record {
              after = joined two.left g.after;
              is = both_made (into first low) (reach_children into high b.1 branches) two.left g.after left g.is;
              objects = ap (λ (l : List ℕ). two.left.objects ++ l) g.objects ∙ ap (λ (r : Reach). r.objects) two.all;
              there = omega (arith, counts o, g.there);
            }
      ] refl goes

  itself : (x : ℕ) → one_if (x == x) ≡ 1
  itself x = elim (eqb_tells x x) [ inl same ↦ ap one_if same.0 | inr other ↦ absurd (other.1 refl) ]

  at_leaf : (n : ℕ) (span : Span) (r : Reach) → reach_from lo hi s (suc n) span o ≡ Some r → IsTrue (is_within key span) → Replaced (reach_from lo hi t (suc n) span o) r
  at_leaf n span r is inside =
      let on : ℕ → Span → Option Reach = λ y part. reach_from lo hi s n part y in
      let into : ℕ → Span → Option Reach = λ y part. reach_from lo hi t n part y in
      let at = leaf_is on span o old r (sym (ap (λ (m : Option Node). reach_at on span o m) was) ∙ is) in
      record {
        after = record { objects = o ∷ []; pairs = now };
        is = leaf_made into span o (node_at lo hi t o) now becomes (held span at.within inside);
        objects = ap (λ (r : Reach). r.objects) at.all;
        there = let a = ap (λ (r : Reach). times o r.objects) at.all in omega (arith, a, itself o);
      }

  replaced_from : (n : ℕ) → Replaces (λ x span. reach_from lo hi s n span x) (λ x span. reach_from lo hi t n span x) (λ x. walk_from lo hi s key n x)
  replaced_from zero x span r w is once inside goes at = absurd (none_some r is)
  replaced_from (suc n) x span r w is once inside goes at =
      let on : ℕ → Span → Option Reach = λ y part. reach_from lo hi s n part y in
      let into : ℕ → Span → Option Reach = λ y part. reach_from lo hi t n part y in
      let go : ℕ → Result Way ℕ = λ y. walk_from lo hi s key n y in
      elim (at_node on span x (node_at lo hi s x) r is) [
        | inl node ↦
            let eq = same_ok (record { inner = []; object = x; pairs = node.pairs }) w (sym (ap (λ (m : Option Node). walk_at go key x m) node.node_is) ∙ goes) in
            let here : x ≡ o = ap (λ (w : Way). w.object) eq ∙ at in
            subst (λ (x : ℕ). Replaced (reach_from lo hi t (suc n) span x) r) (sym here)
            (at_leaf n span r (ap (λ (x : ℕ). reach_from lo hi s (suc n) span x) (sym here) ∙ is) inside)
        | inr node ↦
            let counts : (y : ℕ) → one_if (x == y) + times y node.below.objects ≡ times y r.objects = λ y. ap (λ (r : Reach). times y r.objects) node.all in
            let on_way = onward (record { object = x; node = inner node.first node.branches }) (go (child_for key node.first node.branches)) w
            (sym (ap (λ (m : Option Node). walk_at go key x m) node.node_is) ∙ goes) in
            let other : x ≢ o = λ here. leaf_not_inner old node.first node.branches (sym was ∙ ap (λ (z : ℕ). node_at lo hi s z) (sym here) ∙ node.node_is) in
            let g = replaced_children on into go (keeps_from lo hi s t o o same n) (replaced_from n) node.branches node.first span node.below on_way.way node.children
            (λ y. omega (arith, counts y, once y)) inside on_way.is (on_way.object ∙ at) in
            record {
              after = headed x g.after;
              is = inner_made into span x (node_at lo hi t x) node.first node.branches g.after (same x (inner node.first node.branches) other other node.node_is) node.within g.is;
              objects = ap (λ (l : List ℕ). x ∷ l) g.objects ∙ ap (λ (r : Reach). r.objects) node.all;
              there = omega (arith, counts o, g.there);
            }
      ]

-- the state in which the leaf at the end of the way to a key has other pairs
pub record Rewritten (lo hi : ℕ) (s t : State) (key : List ℕ) (value : Option (List ℕ)) (w : Way) : Type 0 where
  pub now : List Pair
  pub becomes : node_at lo hi t w.object ≡ Some (leaf now)
  pub others : (y : ℕ) → y ≢ w.object → node_at lo hi t y ≡ node_at lo hi s y
  pub update : IsUpdate key value w.pairs now
  pub held : (span : Span) → IsTrue (all_within span w.pairs) → IsTrue (is_within key span) → IsTrue (all_within span now)

module _ (lo hi : ℕ) (s t : State) (key : List ℕ) (value : Option (List ℕ)) (w : Way) (goes : walk lo hi s key ≡ Ok w) (new : Rewritten lo hi s t key value w) (tree : IsTree lo hi s) where
  least : (q : List ℕ) → is_lt (byte_order q []) ≡ false
  least [] = refl
  least (b ∷ bytes) = refl

  pub rewrite_keeps : IsTree lo hi t
  rewrite_keeps =
      let was = ends_at_leaf lo hi s key (size lo hi) lo w goes in
      let g = replaced_from lo hi s t w.object w.pairs new.now key was new.becomes (λ y node other again has. new.others y other ∙ has) new.held
      (size lo hi) lo all_keys tree.reached w tree.is tree.once (within_made key all_keys (least key) refl) goes refl in
      record { reached = g.after; is = g.is; once = λ y. let e = ap (λ (l : List ℕ). times y l) g.objects in omega (arith, e, tree.once y) }

  pub rewrite_updates : (q : List ℕ) → get (content_of lo hi t) q ≡ (if eq_by_cmp byte_order q key then value else get (content_of lo hi s) q)
  rewrite_updates q =
      let was = ends_at_leaf lo hi s key (size lo hi) lo w goes in
      content_found q lo hi t rewrite_keeps
      ∙ lookup_updates lo hi s t w.object w.pairs new.now was new.becomes new.others key value new.update w goes refl q
      ∙ ap (λ (o : Option (List ℕ)). if eq_by_cmp byte_order q key then value else o) (sym (content_found q lo hi s tree))

-- a put acts on the content as on a map, and so does a delete
pub put_inserts : (lo hi : ℕ) (s t : State) (key value : List ℕ) (w : Way) → walk lo hi s key ≡ Ok w → Rewritten lo hi s t key (Some value) w → IsTree lo hi s
    → IsTree lo hi t × (content_of lo hi t ≡ insert (content_of lo hi s) key value)
put_inserts lo hi s t key value w goes new tree = (
  rewrite_keeps lo hi s t key (Some value) w goes new tree,
  same_map nat_list_cmp_total (slice_cmp-IsAntisymmetric nat_cmp-IsAntisymmetric) (content_of lo hi t) (insert (content_of lo hi s) key value)
      (λ q. rewrite_updates lo hi s t key (Some value) w goes new tree q ∙ sym (get-insert nat_list_cmp_total (content_of lo hi s) key value q)),
)

pub delete_removes : (lo hi : ℕ) (s t : State) (key : List ℕ) (w : Way) → walk lo hi s key ≡ Ok w → Rewritten lo hi s t key None w → IsTree lo hi s
    → IsTree lo hi t × (content_of lo hi t ≡ remove (content_of lo hi s) key)
delete_removes lo hi s t key w goes new tree = (
  rewrite_keeps lo hi s t key None w goes new tree,
  same_map nat_list_cmp_total (slice_cmp-IsAntisymmetric nat_cmp-IsAntisymmetric) (content_of lo hi t) (remove (content_of lo hi s) key)
      (λ q. rewrite_updates lo hi s t key None w goes new tree q ∙ sym (get-remove nat_list_cmp_total (content_of lo hi s) key q)),
)
