-- How a search along the arcs goes on, of nodes below a level.
use Rattle.std.proofs.Common.{◌≡◌, ◌∙◌, ap, sym, subst, ℕ, ◌+◌, ◌*◌, ◌/◌, ◌<◌, ◌≤◌, List, [], length, length-append, refl, arith, inl, inr}
use Rattle.std.specs.Prelude.{IsTrue, ◌⊎◌, Option, Some, slice_index}
use Rattle.std.proofs.lemmas.Bool.{cases_eq, both_ways}
use Rattle.oper_core.specs.State.{is_among}
use Rattle.number_lists.specs.Lists.{Lists, list_at}
use Rattle.number_lists.specs.Members.{Members, IsWith}
use Rattle.graph_nodes.specs.Arcs.{arc_at, node_at, AreEnds}
use Rattle.graph_nodes.specs.Merge.{IsFiled}
use Rattle.graph_nodes.specs.Search.{AreKept}
use Rattle.graph_nodes.specs.Levels.{level_at}
use Rattle.graph_nodes.specs.Ahead.{AreAhead, AreFollowed, LeadsTo, IsGoingOn}
use Rattle.graph_nodes.proofs.Found.{kept-twice, kept-none, among-place, among-left, read-left}
use Rattle.graph_nodes.proofs.Read.{arc-slot}

pub followed-none : (P : ℕ → Type 0) (arcs : List (Option ℕ)) (node level : List ℕ) (l : ℕ) (old : Members) → ((c j : ℕ) → P c → arc_at arcs c ≡ Some j → level_at level (node_at node j) < l → ⊥) → AreFollowed P arcs node level l old old
followed-none P arcs node level l old none = record { there = λ c j p arc low. absurd (none c j p arc low); low = λ k t. inl t; same = kept-none old }

still-there : (k : ℕ) (a b : Members) → AreKept a b → IsTrue (is_among k a.members) → IsTrue (is_among k b.members)
still-there k a b is t = subst (λ (xs : List ℕ). IsTrue (is_among k xs)) (sym is.kept.1) (among-left k a.members is.kept.0 t)

-- the one cell's arc leads to a node below the level
pub followed-one : (cell to : ℕ) (arcs : List (Option ℕ)) (node level : List ℕ) (l : ℕ) (old new : Members) → arc_at arcs cell ≡ Some to → level_at level (node_at node to) < l → IsWith old (node_at node to) new → AreFollowed (λ c. c ≡ cell) arcs node level l old new
followed-one cell to arcs node level l old new at low is = record {
  there = λ c j e arc lt.
      let same : Some to ≡ Some j = sym at ∙ ap (λ (k : ℕ). arc_at arcs k) (sym e) ∙ arc in
      let end : to ≡ j = cc in
      (is.there (node_at node j)).1 (inr (ap (λ (k : ℕ). node_at node k) (sym end)));
  low = λ k t. elim ((is.there k).0 t) [ inl o ↦ inl o | inr e ↦ inr (subst (λ (m : ℕ). level_at level m < l) (sym e) low) ];
  same = record { kept = is.kept; end = is.end; room = is.room };
}

pub followed-twice : (P Q R : ℕ → Type 0) (arcs : List (Option ℕ)) (node level : List ℕ) (l : ℕ) (a b c : Members) → ((k : ℕ) → R k → P k ⊎ Q k) → AreFollowed P arcs node level l a b → AreFollowed Q arcs node level l b c → AreFollowed R arcs node level l a c
followed-twice P Q R arcs node level l a b c split f g = record {
  there = λ k j r arc low. elim (split k r) [
    | inl p ↦ still-there (node_at node j) b c g.same (f.there k j p arc low)
    | inr q ↦ g.there k j q arc low
  ];
  low = λ k t. elim (g.low k t) [ inl r ↦ f.low k r | inr s ↦ inr s ];
  same = kept-twice a b c f.same g.same;
}

-- the same arcs, said otherwise
pub followed-as : (P Q : ℕ → Type 0) (arcs : List (Option ℕ)) (node level : List ℕ) (l : ℕ) (a b : Members) → ((c j : ℕ) → Q c → arc_at arcs c ≡ Some j → P c) → AreFollowed P arcs node level l a b → AreFollowed Q arcs node level l a b
followed-as P Q arcs node level l a b from is = record { there = λ c j q arc low. is.there c j (from c j q arc) arc low; low = is.low; same = is.same }

-- the first so many of a slot's cells
abbrev pub IsEarly : ℕ → ℕ → ℕ → Type 0
IsEarly slot i c = (c / 8 ≡ slot) × (c < 8 * slot + i)

pub early-split : (slot i k : ℕ) → IsEarly slot (i + 1) k → IsEarly slot i k ⊎ (k ≡ 8 * slot + i)
early-split slot i k r = elim (cases_eq k (8 * slot + i)) [ inl q ↦ inr q | inr ne ↦ inl (r.0, omega (arith, r.1, ne)) ]

-- the cells of the first so many of the slots
abbrev pub IsOfEarly : List ℕ → ℕ → ℕ → Type 0
IsOfEarly slots i c = (k : ℕ) × (k < i) × (slice_index slots k ≡ c / 8)

pub of-early-split : (slots : List ℕ) (i s k : ℕ) → s ≡ slice_index slots i → IsOfEarly slots (i + 1) k → IsOfEarly slots i k ⊎ (k / 8 ≡ s)
of-early-split slots i s k e r = elim (cases_eq r.0 i) [
  | inl q ↦ inr (sym r.2 ∙ ap (λ (j : ℕ). slice_index slots j) q ∙ sym e)
  | inr ne ↦ inl (r.0, omega (arith, r.1, ne), r.2)
]

pub of-early-in : (slots : List ℕ) (i c : ℕ) → i ≡ length slots → IsTrue (is_among (c / 8) slots) → IsOfEarly slots i c
of-early-in slots i c e t = let p = among-place (c / 8) slots t in (p.0, omega (arith, p.1, e), p.2)

pub going-start : (arcs : List (Option ℕ)) (node level : List ℕ) (l w : ℕ) (none ahead : Members) → none.members ≡ [] → IsWith none w ahead → level_at level w < l → IsGoingOn arcs node level l w 0 ahead.members
going-start arcs node level l w none ahead e is low = record {
  start = (is.there w).1 (inr refl);
  low = λ n t. elim ((is.there n).0 t) [
    | inl r ↦ absurd (both_ways _ refl (subst (λ (xs : List ℕ). IsTrue (is_among n xs)) e r))
    | inr q ↦ subst (λ (k : ℕ). level_at level k < l) (sym q) low
  ];
  closed = λ k q lt. absurd (omega (arith, lt));
  within = omega arith;
}

pub going-on : (arcs : List (Option ℕ)) (node level slots : List ℕ) (members : Lists) (l w next n : ℕ) (old new : Members) → IsFiled node members → length arcs ≡ 8 * length node → slots ≡ list_at members.lists n → IsGoingOn arcs node level l w next old.members → next < length old.members → n ≡ slice_index old.members next →
    AreFollowed (λ c. IsTrue (is_among (c / 8) slots)) arcs node level l old new → IsGoingOn arcs node level l w (next + 1) new.members
going-on arcs node level slots members l w next n old new filed size here was lt e is =
    let more = is.same.kept.0 in
    let grown = is.same.kept.1 in
    let reads : (k : ℕ) → k < length old.members → slice_index new.members k ≡ slice_index old.members k = λ k low. ap (λ (xs : List ℕ). slice_index xs k) grown ∙ read-left old.members more k low in
    record {
      start = still-there w old new is.same was.start;
      low = λ k t. elim (is.low k t) [ inl r ↦ was.low k r | inr low ↦ low ];
      closed = λ k q low leads below. elim (cases_eq k next) [
        | inl same ↦
            let at : slice_index new.members k ≡ n = ap (λ (i : ℕ). slice_index new.members i) same ∙ reads next lt ∙ sym e in
            let in_slots : IsTrue (is_among (leads.0 / 8) slots) = subst (λ (xs : List ℕ). IsTrue (is_among (leads.0 / 8) xs)) (sym here)
            (subst (λ (m : ℕ). IsTrue (is_among (leads.0 / 8) (list_at members.lists m))) (leads.2 ∙ at) (filed.there (leads.0 / 8) (arc-slot arcs leads.0 leads.1 (length node) size leads.3))) in
            subst (λ (m : ℕ). IsTrue (is_among m new.members)) leads.4 (is.there leads.0 leads.1 in_slots leads.3 (subst (λ (m : ℕ). level_at level m < l) (sym leads.4) below))
        | inr other ↦
            let early : k < next = omega (arith, low, other) in
            let at = reads k (omega (arith, early, lt)) in
            still-there q old new is.same (was.closed k q early (subst (λ (m : ℕ). LeadsTo arcs node m q) at leads) below)
      ];
      within = omega (arith, lt, ap length grown, length-append old.members more);
    }

pub going-end : (arcs : List (Option ℕ)) (node level : List ℕ) (l w next : ℕ) (ahead : List ℕ) → length ahead ≤ next → IsGoingOn arcs node level l w next ahead → AreAhead arcs node level l w ahead
going-end arcs node level l w next ahead le is = record {
  start = is.start;
  low = is.low;
  closed = λ m n t leads below.
      let p = among-place m ahead t in
      is.closed p.0 n (omega (arith, p.1, le)) (subst (λ (k : ℕ). LeadsTo arcs node k n) (sym p.2) leads) below;
}

pub ends-to : (arcs : List (Option ℕ)) (node : List ℕ) (a b : ℕ) → b ≡ a → AreEnds arcs node a → AreEnds arcs node b
ends-to arcs node a b e are = subst (λ (n : ℕ). AreEnds arcs node n) (sym e) are
