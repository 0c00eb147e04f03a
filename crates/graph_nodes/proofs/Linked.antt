-- Cells are put into the lists of the nodes to which their arcs lead.
use Rattle.std.proofs.Common.{◌≡◌, ◌∙◌, ap, sym, subst, ℕ, ◌+◌, ◌/◌, ◌<◌, List, length, arith, inl, inr}
use Rattle.std.specs.Prelude.{IsTrue, ◌==◌, ◌⊎◌, Option, Some, nat_eq, slice_index}
use Rattle.std.specs.List.{IsDistinct}
use Rattle.std.proofs.lemmas.Bool.{cases_eq, or_left, or_right, or_cases, eqb-true, eq-eqb}
use Rattle.oper_core.specs.State.{is_among}
use Rattle.number_lists.specs.Lists.{Lists, list_at, AreAsMany, IsFree, IsPushed}
use Rattle.graph_nodes.specs.Arcs.{arc_at, node_at}
use Rattle.graph_nodes.specs.Levels.{AreLinked, IsLinkable, IsNear}
use Rattle.graph_nodes.proofs.Found.{among-place}
use Rattle.graph_nodes.proofs.Followed.{IsOfEarly}
use Rattle.graph_nodes.proofs.Joined.{many-same, many-twice}
use Rattle.graph_nodes.proofs.Scattered.{apart-places}

-- as many lists and cells are enough
pub linkable-same : (arcs : List (Option ℕ)) (node : List ℕ) (members a b : Lists) → AreAsMany a b → IsLinkable arcs node members a → IsLinkable arcs node members b
linkable-same arcs node members a b same is = record {
  ends = is.ends;
  below = is.below;
  filed = is.filed;
  sizes = record {
    cells = is.sizes.cells;
    small = is.sizes.small;
    member_lists = is.sizes.member_lists;
    member_items = is.sizes.member_items;
    near_lists = same.lists ∙ is.sizes.near_lists;
    near_items = same.items ∙ is.sizes.near_items;
  };
}

-- none of these cells has an arc to a node of its level
pub linked-none : (P : ℕ → Type 0) (arcs : List (Option ℕ)) (node level : List ℕ) (old : Lists) → ((m c : ℕ) → P c → IsNear arcs node level c m → ⊥) → AreLinked P arcs node level old old
linked-none P arcs node level old none = record { there = λ m c p near. absurd (none m c p near); kept = λ m c t. t; only = λ m c t. inl t; same = many-same old }

pub linked-one : (cell n : ℕ) (arcs : List (Option ℕ)) (node level : List ℕ) (old new : Lists) → IsNear arcs node level cell n → IsPushed old n cell new → AreLinked (λ c. c ≡ cell) arcs node level old new
linked-one cell n arcs node level old new near push = record {
  there = λ m c e is.
      let same : Some near.to ≡ Some is.to = sym near.arc ∙ ap (λ (k : ℕ). arc_at arcs k) (sym e) ∙ is.arc in
      let end : near.to ≡ is.to = cc in
      let at : m ≡ n = sym is.end ∙ ap (λ (k : ℕ). node_at node k) (sym end) ∙ near.end in
      subst (λ (k : ℕ). IsTrue (is_among c (list_at new.lists k))) (sym at) (subst (λ (xs : List ℕ). IsTrue (is_among c xs)) (sym push.here) (or_left (c == cell) _ (eq-eqb c cell e)));
  kept = λ m c t. elim (cases_eq m n) [
    | inl q ↦ subst (λ (k : ℕ). IsTrue (is_among c (list_at new.lists k))) (sym q) (subst (λ (xs : List ℕ). IsTrue (is_among c xs)) (sym push.here) (or_right (c == cell) _ (subst (λ (k : ℕ). IsTrue (is_among c (list_at old.lists k))) q t)))
    | inr ne ↦ subst (λ (xs : List ℕ). IsTrue (is_among c xs)) (sym (push.others m ne)) t
  ];
  only = λ m c t. elim (cases_eq m n) [
    | inl q ↦ elim (or_cases (c == cell) (is_among c (list_at old.lists n)) (subst (λ (xs : List ℕ). IsTrue (is_among c xs)) (ap (λ (k : ℕ). list_at new.lists k) q ∙ push.here) t)) [
      | inl e ↦
          let here = eqb-true c cell e in
          inr (here, subst (λ (k : ℕ). IsNear arcs node level k m) (sym here) (subst (λ (k : ℕ). IsNear arcs node level cell k) (sym q) near))
      | inr r ↦ inl (subst (λ (k : ℕ). IsTrue (is_among c (list_at old.lists k))) (sym q) r)
    ]
    | inr ne ↦ inl (subst (λ (xs : List ℕ). IsTrue (is_among c xs)) (push.others m ne) t)
  ];
  same = push.same;
}

-- one after the other
pub linked-twice : (P Q R : ℕ → Type 0) (arcs : List (Option ℕ)) (node level : List ℕ) (a b c : Lists) → ((k : ℕ) → R k → P k ⊎ Q k) → ((k : ℕ) → P k → R k) → ((k : ℕ) → Q k → R k) → AreLinked P arcs node level a b → AreLinked Q arcs node level b c → AreLinked R arcs node level a c
linked-twice P Q R arcs node level a b c split left right f g = record {
  there = λ m k r near. elim (split k r) [ inl p ↦ g.kept m k (f.there m k p near) | inr q ↦ g.there m k q near ];
  kept = λ m k t. g.kept m k (f.kept m k t);
  only = λ m k t. elim (g.only m k t) [
    | inl r ↦ elim (f.only m k r) [ inl o ↦ inl o | inr s ↦ inr (left k s.0, s.1) ]
    | inr s ↦ inr (right k s.0, s.1)
  ];
  same = many-twice a b c f.same g.same;
}

-- the same cells, said otherwise
pub linked-as : (P Q : ℕ → Type 0) (arcs : List (Option ℕ)) (node level : List ℕ) (a b : Lists) → ((c j : ℕ) → Q c → arc_at arcs c ≡ Some j → P c) → ((c : ℕ) → P c → Q c) → AreLinked P arcs node level a b → AreLinked Q arcs node level a b
linked-as P Q arcs node level a b from to is = record {
  there = λ m c q near. is.there m c (from c near.to q near.arc) near;
  kept = is.kept;
  only = λ m c t. elim (is.only m c t) [ inl o ↦ inl o | inr s ↦ inr (to c s.0, s.1) ];
  same = is.same;
}

-- another cell that was in no list is in none
pub linked-free : (P : ℕ → Type 0) (arcs : List (Option ℕ)) (node level : List ℕ) (a b : Lists) (c : ℕ) → AreLinked P arcs node level a b → (P c → ⊥) → IsFree a.lists c → IsFree b.lists c
linked-free P arcs node level a b c is off free m t = elim (is.only m c t) [ inl o ↦ free m o | inr s ↦ off s.0 ]

-- the cells of one more slot are not those of the first so many
pub not-of-early : (slots : List ℕ) (i c : ℕ) → IsDistinct nat_eq slots → i < length slots → c / 8 ≡ slice_index slots i → IsOfEarly slots i c → ⊥
not-of-early slots i c distinct lt at r = apart-places slots r.0 i distinct r.1 lt (r.2 ∙ at)

-- the cells of the first so many nodes
abbrev pub IsOfFirst : List ℕ → List ℕ → ℕ → ℕ → Type 0
IsOfFirst node ns i c = (k : ℕ) × (k < i) × (slice_index ns k ≡ node_at node (c / 8))

pub of-first-split : (node ns : List ℕ) (i n k : ℕ) → n ≡ slice_index ns i → IsOfFirst node ns (i + 1) k → IsOfFirst node ns i k ⊎ (node_at node (k / 8) ≡ n)
of-first-split node ns i n k e r = elim (cases_eq r.0 i) [
  | inl q ↦ inr (sym r.2 ∙ ap (λ (j : ℕ). slice_index ns j) q ∙ sym e)
  | inr ne ↦ inl (r.0, omega (arith, r.1, ne), r.2)
]

pub not-of-first : (node ns : List ℕ) (i c : ℕ) → IsDistinct nat_eq ns → i < length ns → node_at node (c / 8) ≡ slice_index ns i → IsOfFirst node ns i c → ⊥
not-of-first node ns i c distinct lt at r = apart-places ns r.0 i distinct r.1 lt (r.2 ∙ at)

pub of-first-in : (node ns : List ℕ) (i c : ℕ) → i ≡ length ns → IsTrue (is_among (node_at node (c / 8)) ns) → IsOfFirst node ns i c
of-first-in node ns i c e t = let p = among-place (node_at node (c / 8)) ns t in (p.0, omega (arith, p.1, e), p.2)
