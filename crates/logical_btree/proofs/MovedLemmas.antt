-- One leaf gets other pairs: a put or a delete.
use Rattle.std.proofs.Common.{◌≡◌, ◌≢◌, inl, inr, ℕ, zero, suc, ◌==◌, Bool, true, false, if◌then◌else◌, Option, None, Some, Result, Ok, Err, List, [], ◌∷◌, refl, sym, ap, ◌∙◌, subst, is_eq, Less, Equal, Greater}
use Rattle.std.proofs.lemmas.Bool.Decides.{eqb_tells}
use Rattle.std.specs.Ordering.{eq_by_cmp}
use Rattle.std.specs.FinMap.Entries.{find}
use Rattle.oper_core.specs.State.{State}
use Rattle.key_entries.specs.Entries.{byte_order}
use Rattle.btree_ops.specs.Node.{leaf}
use Rattle.key_entries.specs.Pairs.{IsUpdate}
use Rattle.btree_ops.specs.declared.node.Node.{Node}
use Rattle.btree_ops.specs.declared.node.Node.TheVariants.{Leaf, Inner}
use Rattle.logical_btree.specs.Walk.{Pair, Met, Way, node_at, size, child_for, walk_at, with_met, walk_from, walk, found, lookup}
use Rattle.key_entries.specs.KeyLaws.{same_key}

pub err_ok : {X : Type 0} (bad : ℕ) (x : X) → ◌≡◌ {A = Result X ℕ} (Err bad) (Ok x) → ⊥
err_ok bad x e = cc

pub same_ok : (a b : Way) → ◌≡◌ {A = Result Way ℕ} (Ok a) (Ok b) → a ≡ b
same_ok a b e = ap (λ r. way_or a r) e
  where
    way_or : Way → Result Way ℕ → Way
    way_or d (Ok w) = w
    way_or d (Err bad) = d

-- a way with other pairs at one object
abbrev pub moved : ℕ → List Pair → Result Way ℕ → Result Way ℕ
moved o pairs (Err bad) = Err bad
moved o pairs (Ok w) = Ok (record { inner = w.inner; object = w.object; pairs = if w.object == o then pairs else w.pairs })

module _ (lo hi : ℕ) (s t : State) (o : ℕ) (old now : List Pair) (was : node_at lo hi s o ≡ Some (leaf old)) (is : node_at lo hi t o ≡ Some (leaf now))
    (same : (y : ℕ) → y ≢ o → node_at lo hi t y ≡ node_at lo hi s y) where
  moved_met : (met : Met) (r : Result Way ℕ) → with_met met (moved o now r) ≡ moved o now (with_met met r)
  moved_met met (Err bad) = refl
  moved_met met (Ok w) = refl

  moved_node : (go into : ℕ → Result Way ℕ) → ((y : ℕ) → into y ≡ moved o now (go y)) → (q : List ℕ) (x : ℕ) → (x == o) ≡ false → (m : Option Node)
      → walk_at into q x m ≡ moved o now (walk_at go q x m)
  moved_node go into all q x other None = refl
  moved_node go into all q x other (Some (Leaf pairs)) = λ i. Ok (record { inner = []; object = x; pairs = ap (λ (b : Bool). if b then now else pairs.items) (sym other) i })
  moved_node go into all q x other (Some (Inner first branches)) =
      ap (with_met (record { object = x; node = Inner first branches })) (all (child_for q first branches.items))
      ∙ moved_met (record { object = x; node = Inner first branches }) (go (child_for q first branches.items))

  walk_moved : (q : List ℕ) (n x : ℕ) → walk_from lo hi t q n x ≡ moved o now (walk_from lo hi s q n x)
  walk_moved q zero x = refl
  walk_moved q (suc n) x =
      elim (eqb_tells x o) [
        | inl here ↦
            let there : walk_at (λ y. walk_from lo hi s q n y) q o (node_at lo hi s o) ≡ Ok (record { inner = []; object = o; pairs = old }) = ap (λ (m : Option Node). walk_at (λ y. walk_from lo hi s q n y) q o m) was in
            let after : walk_at (λ y. walk_from lo hi t q n y) q o (node_at lo hi t o) ≡ Ok (record { inner = []; object = o; pairs = now }) = ap (λ (m : Option Node). walk_at (λ y. walk_from lo hi t q n y) q o m) is in
            let itself : (if o == o then now else old) ≡ now = ap (λ (b : Bool). if b then now else old) (subst (λ (z : ℕ). (z == o) ≡ true) here.1 here.0) in
            subst (λ (z : ℕ). walk_from lo hi t q (suc n) z ≡ moved o now (walk_from lo hi s q (suc n) z)) (sym here.1)
            (after ∙ (λ i. Ok (record { inner = []; object = o; pairs = sym itself i })) ∙ ap (moved o now) (sym there))
        | inr other ↦
            ap (λ (m : Option Node). walk_at (λ y. walk_from lo hi t q n y) q x m) (same x other.1) ∙ moved_node (λ y. walk_from lo hi s q n y) (λ y. walk_from lo hi t q n y) (λ y. walk_moved q n y) q x other.0 (node_at lo hi s x)
      ]

  -- a way that ends there has its pairs
  leaf_of : (a b : List Pair) → Some (leaf a) ≡ Some (leaf b) → a ≡ b
  leaf_of a b e = ap pairs_in e
    where
      pairs_in : Option Node → List Pair
      pairs_in None = []
      pairs_in (Some (Leaf pairs)) = pairs.items
      pairs_in (Some (Inner first branches)) = []

  abbrev Ends : Result Way ℕ → Type 0
  Ends r = (w : Way) → r ≡ Ok w → w.object ≡ o → w.pairs ≡ old

  ends_met : (met : Met) (r : Result Way ℕ) → Ends r → Ends (with_met met r)
  ends_met met (Err bad) rest w e at = absurd (err_ok bad w e)
  ends_met met (Ok v) rest w e at =
      let eq = same_ok (record { inner = met ∷ v.inner; object = v.object; pairs = v.pairs }) w e in
      sym (ap (λ (w : Way). w.pairs) eq) ∙ rest v refl (ap (λ (w : Way). w.object) eq ∙ at)

  ends_node : (go : ℕ → Result Way ℕ) → ((y : ℕ) → Ends (go y)) → (q : List ℕ) (x : ℕ) (m : Option Node) → node_at lo hi s x ≡ m → Ends (walk_at go q x m)
  ends_node go rest q x None has w e at = absurd (err_ok x w e)
  ends_node go rest q x (Some (Leaf pairs)) has w e at =
      let eq = same_ok (record { inner = []; object = x; pairs = pairs.items }) w e in
      let here : x ≡ o = ap (λ (w : Way). w.object) eq ∙ at in
      sym (ap (λ (w : Way). w.pairs) eq) ∙ leaf_of pairs.items old (sym has ∙ ap (λ (z : ℕ). node_at lo hi s z) here ∙ was)
  ends_node go rest q x (Some (Inner first branches)) has w e at =
      ends_met (record { object = x; node = Inner first branches }) (go (child_for q first branches.items)) (rest (child_for q first branches.items)) w e at

  ends : (q : List ℕ) (n x : ℕ) → Ends (walk_from lo hi s q n x)
  ends q zero x = λ w e at. absurd (err_ok x w e)
  ends q (suc n) x = ends_node (λ y. walk_from lo hi s q n y) (λ y. ends q n y) q x (node_at lo hi s x) refl

  -- an update of the pairs at the end of the way to a key is one of what all ways find
  module _ (key : List ℕ) (value : Option (List ℕ)) (update : IsUpdate key value old now) (w : Way) (goes : walk lo hi s key ≡ Ok w) (at : w.object ≡ o) where
    by_way : (q : List ℕ) (r : Result Way ℕ) → walk lo hi s q ≡ r → found q (moved o now r) ≡ (if eq_by_cmp byte_order q key then value else found q r)
    by_way q (Err bad) e =
        elim (byte_order q key) as (λ c. byte_order q key ≡ c → None ≡ (if is_eq c then value else None)) [
          | Less ↦ λ c. refl
          | Equal ↦ λ c. absurd (err_ok bad w (sym e ∙ ap (walk lo hi s) (same_key q key c) ∙ goes))
          | Greater ↦ λ c. refl
        ] refl
    by_way q (Ok v) e =
        elim (eqb_tells v.object o) [
          | inl here ↦
              ap (λ (b : Bool). find byte_order q (if b then now else v.pairs)) here.0
              ∙ update q ∙ ap (λ (l : List Pair). if eq_by_cmp byte_order q key then value else find byte_order q l) (sym (ends q (size lo hi) lo v e here.1))
          | inr other ↦
              ap (λ (b : Bool). find byte_order q (if b then now else v.pairs)) other.0
              ∙ elim (byte_order q key) as (λ c. byte_order q key ≡ c → find byte_order q v.pairs ≡ (if is_eq c then value else find byte_order q v.pairs)) [
                | Less ↦ λ c. refl
                | Equal ↦ λ c. absurd (other.1 (ap (λ (w : Way). w.object) (same_ok v w (sym e ∙ ap (walk lo hi s) (same_key q key c) ∙ goes)) ∙ at))
                | Greater ↦ λ c. refl
              ] refl
        ]

    pub lookup_updates : (q : List ℕ) → lookup lo hi t q ≡ (if eq_by_cmp byte_order q key then value else lookup lo hi s q)
    lookup_updates q = ap (found q) (walk_moved q (size lo hi) lo) ∙ by_way q (walk lo hi s q) refl
