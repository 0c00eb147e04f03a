-- How nodes are merged.
use Rattle.std.proofs.Common.{◌≡◌, ◌∙◌, ap, sym, subst, ℕ, ◌<◌, Bool, false, List, [], ◌∷◌, ◌++◌, length, refl, arith, inl, inr}
use Rattle.std.specs.Prelude.{IsTrue, ◌==◌, ◌||◌, ◌⊎◌, if◌then◌else◌, slice_index}
use Rattle.std.proofs.lemmas.Bool.{cases_eq, cases_Bool, or_left, or_from, eq-eqb, ne_eqb, cond-true, cond-false}
use Rattle.oper_core.specs.State.{is_among}
use Rattle.number_lists.specs.Lists.{Lists, list_at, AreAsMany}
use Rattle.graph_nodes.specs.Arcs.{node_at}
use Rattle.graph_nodes.specs.Merge.{IsFiled, IsRelabelled, renamed, gathered, AreMoved, IsAbsorbed, AreMerged}
use Rattle.graph_nodes.proofs.Found.{among-place}

-- the first so many of the slots
pub record IsRelabelling (slots : List ℕ) (one idx : ℕ) (old now : List ℕ) : Type 0 where
  pub done : (k : ℕ) → k < idx → node_at now (slice_index slots k) ≡ one
  pub rest : (i : ℕ) → (node_at now i ≡ node_at old i) ⊎ (IsTrue (is_among i slots) × (node_at now i ≡ one))
  pub size : length now ≡ length old

pub relabel-end : (slots : List ℕ) (one idx : ℕ) (old now : List ℕ) → idx ≡ length slots → IsRelabelling slots one idx old now → IsRelabelled slots one old now
relabel-end slots one idx old now e is = record {
  done = λ i t. let p = among-place i slots t in ap (λ (k : ℕ). node_at now k) (sym p.2) ∙ is.done p.0 (omega (arith, e, p.1));
  rest = λ i none. elim (is.rest i) [ inl s ↦ s | inr s ↦ absurd (none s.0) ];
  size = is.size;
}

renamed-at : (n one m : ℕ) → m ≡ n → renamed n one m ≡ one
renamed-at n one m e = cond-true (m == n) one m (eq-eqb m n e)

renamed-off : (n one m : ℕ) → (m ≡ n → ⊥) → renamed n one m ≡ m
renamed-off n one m ne = cond-false (m == n) one m (ne_eqb m n ne)

pub many-same : (a : Lists) → AreAsMany a a
many-same a = record { lists = refl; items = refl; list_room = refl; item_room = refl }

-- no list is moved
pub moved-none : (one : ℕ) (a : Lists) → AreMoved (gathered [] one) a a
moved-none one a = record { there = λ m k t. t; only = λ m k t. (m, t, refl); same = many-same a }

-- none is merged
pub merged-start : (one : ℕ) (node : List ℕ) (members into : Lists) → IsFiled node members → AreMerged [] one node node members members into into
merged-start one node members into filed = record {
  node = λ i lt. refl;
  size = refl;
  filed = filed;
  members = many-same members;
  into = moved-none one into;
}

skip : (a b : Bool) → a ≡ false → (a || b) ≡ b
skip a b e = ap (λ (x : Bool). x || b) e

one-stays : (n one : ℕ) → renamed n one one ≡ one
one-stays n one = elim (cases_eq one n) [ inl q ↦ renamed-at n one one q | inr ne ↦ renamed-off n one one ne ]

pub many-twice : (a b c : Lists) → AreAsMany a b → AreAsMany b c → AreAsMany a c
many-twice a b c f g = record { lists = g.lists ∙ f.lists; items = g.items ∙ f.items; list_room = g.list_room ∙ f.list_room; item_room = g.item_room ∙ f.item_room }

pub among-push : (k n : ℕ) (xs : List ℕ) → is_among k (xs ++ n ∷ []) ≡ (is_among k xs || (k == n))
among-push k n [] = elim (cases_Bool (k == n)) [ inl e ↦ or_left (k == n) false e ∙ sym e | inr e ↦ or_from (k == n) false e refl ∙ sym e ]
among-push k n (x ∷ xs) = elim (cases_Bool (k == x)) [
  | inl e ↦ or_left (k == x) (is_among k (xs ++ n ∷ [])) e ∙ sym (or_left (is_among k (x ∷ xs)) (k == n) (or_left (k == x) (is_among k xs) e))
  | inr e ↦ skip (k == x) (is_among k (xs ++ n ∷ [])) e ∙ among-push k n xs ∙ ap (λ (b : Bool). b || (k == n)) (sym (skip (k == x) (is_among k xs) e))
]

-- the names after one node more
name-more : (ns : List ℕ) (n one m : ℕ) → renamed n one (gathered ns one m) ≡ gathered (ns ++ n ∷ []) one m
name-more ns n one m =
    let push = among-push m n ns in
    elim (cases_Bool (is_among m ns)) [
      | inl t ↦
          let left : gathered ns one m ≡ one = cond-true (is_among m ns) one m t in
          let right : gathered (ns ++ n ∷ []) one m ≡ one = cond-true (is_among m (ns ++ n ∷ [])) one m (push ∙ or_left (is_among m ns) (m == n) t) in
          ap (λ (k : ℕ). renamed n one k) left ∙ one-stays n one ∙ sym right
      | inr f ↦
          let left : gathered ns one m ≡ m = cond-false (is_among m ns) one m f in
          ap (λ (k : ℕ). renamed n one k) left ∙ ap (λ (b : Bool). if b then one else m) (sym (push ∙ skip (is_among m ns) (m == n) f))
    ]

pub moved-more : (ns : List ℕ) (n one : ℕ) (a b c : Lists) → AreMoved (gathered ns one) a b → AreMoved (renamed n one) b c → AreMoved (gathered (ns ++ n ∷ []) one) a c
moved-more ns n one a b c was is = record {
  there = λ m k t. subst (λ (j : ℕ). IsTrue (is_among k (list_at c.lists j))) (name-more ns n one m) (is.there (gathered ns one m) k (was.there m k t));
  only = λ m k t.
      let r = is.only m k t in
      let s = was.only r.0 k r.1 in
      (s.0, s.1, sym (name-more ns n one s.0) ∙ ap (λ (j : ℕ). renamed n one j) s.2 ∙ r.2);
  same = many-twice a b c was.same is.same;
}

-- one node more is merged
pub merged-on : (ns : List ℕ) (n one : ℕ) (a b c : List ℕ) (ma mb mc ia ib ic : Lists) → AreMerged ns one a b ma mb ia ib → IsAbsorbed n one b c mb mc ib ic → AreMerged (ns ++ n ∷ []) one a c ma mc ia ic
merged-on ns n one a b c ma mb mc ia ib ic was is = record {
  node = λ i lt. is.node i (omega (arith, lt, was.size)) ∙ ap (λ (m : ℕ). renamed n one m) (was.node i lt) ∙ name-more ns n one (node_at a i);
  size = is.size ∙ was.size;
  filed = is.filed;
  members = many-twice ma mb mc was.members is.members;
  into = moved-more ns n one ia ib ic was.into is.into;
}
