-- Cells lose their arcs.
use Rattle.std.proofs.Common.{◌≡◌, ◌≢◌, ◌∙◌, ap, sym, subst, ℕ, ◌+◌, ◌*◌, ◌/◌, ◌<◌, ◌≤◌, List, length, refl, arith, inl, inr}
use Rattle.std.specs.Prelude.{IsTrue, ◌⊎◌, Option, None, Some, IsSome, slice_index, slice_set}
use Rattle.std.proofs.lemmas.Bool.{cases_eq, cases_lt}
use Rattle.std.proofs.lemmas.List.{get_or-set_same, get_or-set_other, length-set}
use Rattle.std.proofs.Math.ListN.{get_or-eq_default}
use Rattle.oper_core.specs.State.{is_among}
use Rattle.number_lists.specs.Lists.{Lists}
use Rattle.graph_nodes.specs.Arcs.{arc_at, node_at, AreEnds}
use Rattle.graph_nodes.specs.Into.{AreInto, IsLive, AreLed, IsSettled, AreCleared}
use Rattle.graph_nodes.proofs.Options.{none-some}
use Rattle.graph_nodes.proofs.Found.{among-place, place-among}
use Rattle.graph_nodes.proofs.Joined.{many-same, many-twice}
use Rattle.graph_nodes.proofs.Settled.{settled-into, settled-fewer}

-- no cell
pub cleared-none : (Gone : ℕ → Type 0) (arcs : List (Option ℕ)) (into : Lists) → ((c : ℕ) → Gone c → arc_at arcs c ≡ None) → AreCleared Gone arcs arcs into into
cleared-none Gone arcs into none = record { done = none; rest = λ c. inl refl; size = refl; fewer = λ m c t. t; same = many-same into }

-- one after the other
pub cleared-twice : (P Q R : ℕ → Type 0) (a b c : List (Option ℕ)) (ia ib ic : Lists) → ((k : ℕ) → R k → P k ⊎ Q k) → ((k : ℕ) → P k → R k) → ((k : ℕ) → Q k → R k) → AreCleared P a b ia ib → AreCleared Q b c ib ic → AreCleared R a c ia ic
cleared-twice P Q R a b c ia ib ic split left right f g = record {
  done = λ k r. elim (split k r) [
    | inl p ↦ elim (g.rest k) [ inl same ↦ same ∙ f.done k p | inr q ↦ g.done k q ]
    | inr q ↦ g.done k q
  ];
  rest = λ k. elim (g.rest k) [
    | inl same ↦ elim (f.rest k) [ inl was ↦ inl (same ∙ was) | inr p ↦ inr (left k p) ]
    | inr q ↦ inr (right k q)
  ];
  size = g.size ∙ f.size;
  fewer = λ m k t. f.fewer m k (g.fewer m k t);
  same = many-twice ia ib ic f.same g.same;
}

-- the same cells, said otherwise
pub cleared-as : (P Q : ℕ → Type 0) (a b : List (Option ℕ)) (ia ib : Lists) → ((k : ℕ) → P k → Q k) → ((k : ℕ) → Q k → P k) → AreCleared P a b ia ib → AreCleared Q a b ia ib
cleared-as P Q a b ia ib to from f = record {
  done = λ k q. f.done k (from k q);
  rest = λ k. elim (f.rest k) [ inl same ↦ inl same | inr p ↦ inr (to k p) ];
  size = f.size;
  fewer = f.fewer;
  same = f.same;
}

-- an arc that is left was there
pub arc-was : (P : ℕ → Type 0) (a b : List (Option ℕ)) (ia ib : Lists) (c j : ℕ) → AreCleared P a b ia ib → arc_at b c ≡ Some j → arc_at a c ≡ Some j
arc-was P a b ia ib c j f arc = elim (f.rest c) [ inl same ↦ sym same ∙ arc | inr p ↦ absurd (none-some j (sym (f.done c p) ∙ arc)) ]

pub ends-left : (P : ℕ → Type 0) (a b : List (Option ℕ)) (ia ib : Lists) (node : List ℕ) → AreEnds a node (length ia.lists) → AreCleared P a b ia ib → AreEnds b node (length ib.lists)
ends-left P a b ia ib node ends f c j arc = let r = ends c j (arc-was P a b ia ib c j f arc) in (r.0, omega (arith, r.1, f.same.lists))

cut-was : (arcs : List (Option ℕ)) (cell c j : ℕ) → arc_at (slice_set arcs cell None) c ≡ Some j → arc_at arcs c ≡ Some j
cut-was arcs cell c j arc = elim (cases_eq c cell) [
  | inl q ↦ elim (cases_lt cell (length arcs)) [
    | inl lt ↦ absurd (none-some j (sym (get_or-set_same arcs cell None None lt) ∙ ap (λ (k : ℕ). arc_at (slice_set arcs cell None) k) (sym q) ∙ arc))
    | inr ge ↦ absurd (none-some j (sym (get_or-eq_default (slice_set arcs cell None) None (omega (arith, ge, q, length-set arcs cell None))) ∙ arc))
  ]
  | inr ne ↦ sym (get_or-set_other arcs cell c None None ne) ∙ arc
]

into-cut : (arcs : List (Option ℕ)) (node : List ℕ) (into : Lists) (cell : ℕ) → AreInto arcs node into → AreInto (slice_set arcs cell None) node into
into-cut arcs node into cell are =
    let cut = slice_set arcs cell None in
    let was : (c j : ℕ) → arc_at cut c ≡ Some j → arc_at arcs c ≡ Some j = λ c j arc. cut-was arcs cell c j arc in
    record {
      there = λ c j arc out. are.there c j (was c j arc) out;
      only = λ m c t. let r = are.only m c t in (omega (arith, r.0, length-set arcs cell None), λ j arc. r.1 j (was c j arc));
    }

-- where the cell had an arc, which is gone, and the list of its end is settled
pub cut-led : (arcs : List (Option ℕ)) (node : List ℕ) (old new : Lists) (cell to : ℕ) → cell < length arcs → arc_at arcs cell ≡ Some to → AreLed arcs node old → IsSettled (slice_set arcs cell None) node (node_at node to) old new → AreLed (slice_set arcs cell None) node new
cut-led arcs node old new cell to lt arc led is =
    let cut = slice_set arcs cell None in
    let n = node_at node to in
    record {
      leads = settled-into cut node n old new (into-cut arcs node old cell led.leads) is;
      live = λ m. elim (cases_eq m n) [
        | inl q ↦ subst (λ (k : ℕ). IsLive cut node k new) (sym q) is.live
        | inr ne ↦ λ c t.
            let same = is.others m ne in
            let d = led.live m c (subst (λ (xs : List ℕ). IsTrue (is_among c xs)) same t) in
            let off : d.0 ≢ cell = λ q. absurd (ne (sym ((led.leads.only m d.0 d.1).1 to (ap (λ (k : ℕ). arc_at arcs k) q ∙ arc)))) in
            let keeps : arc_at cut d.0 ≡ arc_at arcs d.0 = get_or-set_other arcs cell d.0 None None off in
            (d.0, subst (λ (xs : List ℕ). IsTrue (is_among d.0 xs)) (sym same) d.1, (subst (λ (a : Option ℕ). IsSome a) (sym keeps) d.2.0, d.2.1))
      ];
    }

pub cut-cleared : (arcs : List (Option ℕ)) (node : List ℕ) (old new : Lists) (cell n : ℕ) → cell < length arcs → IsSettled (slice_set arcs cell None) node n old new → AreCleared (λ c. c ≡ cell) arcs (slice_set arcs cell None) old new
cut-cleared arcs node old new cell n lt is = record {
  done = λ c q. ap (λ (k : ℕ). arc_at (slice_set arcs cell None) k) q ∙ get_or-set_same arcs cell None None lt;
  rest = λ c. elim (cases_eq c cell) [ inl q ↦ inr q | inr ne ↦ inl (get_or-set_other arcs cell c None None ne) ];
  size = length-set arcs cell None;
  fewer = λ m c t. settled-fewer (slice_set arcs cell None) node n old new m c is t;
  same = is.same;
}

-- of a slot's cells, one more
abbrev pub IsOfFirst : ℕ → ℕ → ℕ → Type 0
IsOfFirst slot i c = (c / 8 ≡ slot) × (c < 8 * slot + i)

pub cell-on : (slot i : ℕ) → i < 8 → (a b c : List (Option ℕ)) (ia ib ic : Lists) → AreCleared (IsOfFirst slot i) a b ia ib → AreCleared (λ k. k ≡ 8 * slot + i) b c ib ic → AreCleared (IsOfFirst slot (i + 1)) a c ia ic
cell-on slot i lt a b c ia ib ic f g = cleared-twice (IsOfFirst slot i) (λ k. k ≡ 8 * slot + i) (IsOfFirst slot (i + 1)) a b c ia ib ic
    (λ k r. elim (cases_eq k (8 * slot + i)) [ inl q ↦ inr q | inr ne ↦ inl (r.0, omega (arith, r.1, ne)) ])
    (λ k p. (p.0, omega (arith, p.1)))
    (λ k q. (omega (arith, q, lt), omega (arith, q)))
    f g

pub cell-none : (slot : ℕ) (a : List (Option ℕ)) (ia : Lists) → AreCleared (IsOfFirst slot 0) a a ia ia
cell-none slot a ia = cleared-none (IsOfFirst slot 0) a ia (λ c r. absurd (omega (arith, r.0, r.1)))

pub cell-all : (slot i : ℕ) (a b : List (Option ℕ)) (ia ib : Lists) → 8 ≤ i → AreCleared (IsOfFirst slot i) a b ia ib → AreCleared (λ c. c / 8 ≡ slot) a b ia ib
cell-all slot i a b ia ib le f = cleared-as (IsOfFirst slot i) (λ c. c / 8 ≡ slot) a b ia ib (λ c r. r.0) (λ c e. (e, omega (arith, e, le))) f

-- of the slots, one more
abbrev pub IsOfSome : List ℕ → ℕ → ℕ → Type 0
IsOfSome slots i c = (k : ℕ) × (k < i) × (c / 8 ≡ slice_index slots k)

pub slot-on : (slots : List ℕ) (i s : ℕ) (a b c : List (Option ℕ)) (ia ib ic : Lists) → s ≡ slice_index slots i → AreCleared (IsOfSome slots i) a b ia ib → AreCleared (λ k. k / 8 ≡ s) b c ib ic → AreCleared (IsOfSome slots (i + 1)) a c ia ic
slot-on slots i s a b c ia ib ic e f g = cleared-twice (IsOfSome slots i) (λ k. k / 8 ≡ s) (IsOfSome slots (i + 1)) a b c ia ib ic
    (λ k r. elim (cases_eq r.0 i) [ inl q ↦ inr (r.2 ∙ ap (λ (j : ℕ). slice_index slots j) q ∙ sym e) | inr ne ↦ inl (r.0, omega (arith, r.1, ne), r.2) ])
    (λ k p. (p.0, omega (arith, p.1), p.2))
    (λ k q. (i, omega arith, q ∙ e))
    f g

pub slot-none : (slots : List ℕ) (a : List (Option ℕ)) (ia : Lists) → AreCleared (IsOfSome slots 0) a a ia ia
slot-none slots a ia = cleared-none (IsOfSome slots 0) a ia (λ c r. absurd (omega (arith, r.1)))

pub slot-all : (slots : List ℕ) (i : ℕ) (a b : List (Option ℕ)) (ia ib : Lists) → i ≡ length slots → AreCleared (IsOfSome slots i) a b ia ib → AreCleared (λ c. IsTrue (is_among (c / 8) slots)) a b ia ib
slot-all slots i a b ia ib e f = cleared-as (IsOfSome slots i) (λ c. IsTrue (is_among (c / 8) slots)) a b ia ib
    (λ c r. subst (λ (k : ℕ). IsTrue (is_among k slots)) (sym r.2) (place-among slots r.0 (omega (arith, r.1, e))))
    (λ c t. let p = among-place (c / 8) slots t in (p.0, omega (arith, p.1, e), sym p.2))
    f
