-- How a search against the arcs goes on.
use Rattle.std.proofs.Common.{◌≡◌, ◌∙◌, ap, sym, subst, ℕ, zero, suc, ◌+◌, ◌<◌, ◌≤◌, List, [], ◌∷◌, ◌++◌, append_assoc, append-nil, length, length-append, refl, arith, inl, inr}
use Rattle.std.specs.Prelude.{IsTrue, ◌==◌, ◌↔◌, ◌⊎◌, Option, slice_index, slice_index_or}
use Rattle.std.proofs.lemmas.Bool.{cases_eq, cases_lt, both_ways, or_left, or_right, or_cases, eqb-true, eq-eqb}
use Rattle.std.proofs.lemmas.List.{get_or_default}
use Rattle.oper_core.specs.State.{is_among}
use Rattle.install_order.specs.Digraph.{Walk}
use Rattle.install_order.specs.Digraph.Walk.{Here, Then}
use Rattle.install_order.specs.MergeLaws.{walk-on}
use Rattle.number_lists.specs.Lists.{Lists}
use Rattle.number_lists.specs.Members.{Members, IsWith}
use Rattle.graph_nodes.specs.Arcs.{node_at, IsStartOf}
use Rattle.graph_nodes.specs.Levels.{level_at}
use Rattle.graph_nodes.specs.Search.{AreKept, IsLookedBack, AreLookedBack, IsBehind, IsExpanded, IsSearching, IsSearched}

pub kept-twice : (a b c : Members) → AreKept a b → AreKept b c → AreKept a c
kept-twice a b c f g = record {
  kept = (f.kept.0 ++ g.kept.0, g.kept.1 ∙ ap (λ (xs : List ℕ). xs ++ g.kept.0) f.kept.1 ∙ append_assoc a.members f.kept.0 g.kept.0);
  end = g.end ∙ f.end;
  room = omega (arith, f.room, g.room);
}

pub kept-none : (a : Members) → AreKept a a
kept-none a = record { kept = ([], sym (append-nil a.members)); end = refl; room = omega arith }

-- the first so many of the cells
pub record AreLookedAt (arcs : List (Option ℕ)) (node cells : List ℕ) (i : ℕ) (old new : Members) : Type 0 where
  pub there : (n : ℕ) → IsTrue (is_among n new.members) ↔ (IsTrue (is_among n old.members) ⊎ ((k : ℕ) × (k < i) × IsStartOf arcs node (slice_index cells k) n))
  pub same : AreKept old new

pub at-more : (arcs : List (Option ℕ)) (node cells : List ℕ) (i c : ℕ) (old now new : Members) → AreLookedAt arcs node cells i old now → c ≡ slice_index cells i → IsLookedBack arcs node c now new → AreLookedAt arcs node cells (i + 1) old new
at-more arcs node cells i c old now new was e is = record {
  there = λ n. (
    (λ t. elim ((is.there n).0 t) [
      | inl r ↦ elim ((was.there n).0 r) [ inl s ↦ inl s | inr s ↦ inr (s.0, omega (arith, s.1), s.2) ]
      | inr start ↦ inr (i, omega arith, subst (λ (k : ℕ). IsStartOf arcs node k n) e start)
    ]),
    (λ s. (is.there n).1 (elim s [
      | inl r ↦ inl ((was.there n).1 (inl r))
      | inr r ↦ elim (cases_lt r.0 i) [
        | inl low ↦ inl ((was.there n).1 (inr (r.0, low, r.2)))
        | inr ge ↦
            let at : r.0 ≡ i = omega (arith, ge, r.1) in
            inr (subst (λ (k : ℕ). IsStartOf arcs node k n) (ap (λ (k : ℕ). slice_index cells k) at ∙ sym e) r.2)
      ]
    ])),
  );
  same = kept-twice old now new was.same is.same;
}

pub among-place : (n : ℕ) (xs : List ℕ) → IsTrue (is_among n xs) → (i : ℕ) × (i < length xs) × (slice_index xs i ≡ n)
among-place n [] there = absurd (both_ways _ refl there)
among-place n (x ∷ xs) there = elim (or_cases (n == x) (is_among n xs) there) [
  | inl e ↦ (zero, omega arith, sym (eqb-true n x e))
  | inr r ↦ let p = among-place n xs r in (suc p.0, omega (arith, p.1), p.2)
]

pub place-among : (xs : List ℕ) (i : ℕ) → i < length xs → IsTrue (is_among (slice_index xs i) xs)
place-among [] i lt = absurd (omega arith)
place-among (x ∷ xs) zero lt = or_left (x == x) _ (eq-eqb x x refl)
place-among (x ∷ xs) (suc i) lt = or_right (slice_index xs i == x) _ (place-among xs i (omega arith))

pub at-all : (arcs : List (Option ℕ)) (node cells : List ℕ) (i : ℕ) (old new : Members) → i ≡ length cells → AreLookedAt arcs node cells i old new → AreLookedBack arcs node cells old new
at-all arcs node cells i old new e is = record {
  there = λ n. (
    (λ t. elim ((is.there n).0 t) [
      | inl r ↦ inl r
      | inr r ↦ inr (slice_index cells r.0, place-among cells r.0 (omega (arith, e, r.1)), r.2)
    ]),
    (λ s. (is.there n).1 (elim s [
      | inl r ↦ inl r
      | inr r ↦ let p = among-place r.0 cells r.1 in inr (p.0, omega (arith, e, p.1), subst (λ (k : ℕ). IsStartOf arcs node k n) (sym p.2) r.2)
    ])),
  );
  same = is.same;
}

pub among-left : (k : ℕ) (xs ys : List ℕ) → IsTrue (is_among k xs) → IsTrue (is_among k (xs ++ ys))
among-left k [] ys t = absurd (both_ways _ refl t)
among-left k (x ∷ xs) ys t = elim (or_cases (k == x) (is_among k xs) t) [ inl e ↦ or_left (k == x) (is_among k (xs ++ ys)) e | inr r ↦ or_right (k == x) (is_among k (xs ++ ys)) (among-left k xs ys r) ]

pub read-left : (xs ys : List ℕ) (i : ℕ) → i < length xs → slice_index (xs ++ ys) i ≡ slice_index xs i
read-left [] ys i lt = absurd (omega arith)
read-left (x ∷ xs) ys zero lt = refl
read-left (x ∷ xs) ys (suc i) lt = read-left xs ys i (omega arith)

pub searching-start : (arcs : List (Option ℕ)) (node : List ℕ) (into : Lists) (v stop : ℕ) (none found : Members) → none.members ≡ [] → IsWith none v found → IsSearching arcs node into v stop 0 found.members
searching-start arcs node into v stop none found e is = record {
  start = (is.there v).1 (inr refl);
  sound = λ m t. elim ((is.there m).0 t) [
    | inl r ↦ absurd (both_ways _ refl (subst (λ (xs : List ℕ). IsTrue (is_among m xs)) e r))
    | inr q ↦ subst (λ (k : ℕ). Walk (IsBehind arcs node into) k v) (sym q) Here
  ];
  closed = λ k m lt. absurd (omega arith);
  within = omega arith;
}

pub searching-on : (arcs : List (Option ℕ)) (node : List ℕ) (into : Lists) (v stop next n : ℕ) (old new : Members) → IsSearching arcs node into v stop next old.members → next < length old.members → n ≡ slice_index old.members next → IsExpanded arcs node into n stop old new →
    IsSearching arcs node into v stop (next + 1) new.members
searching-on arcs node into v stop next n old new was lt e is =
    let more = is.same.kept.0 in
    let grown = is.same.kept.1 in
    let stays : (m : ℕ) → IsTrue (is_among m old.members) → IsTrue (is_among m new.members) = λ m t. subst (λ (xs : List ℕ). IsTrue (is_among m xs)) (sym grown) (among-left m old.members more t) in
    let at_n : IsTrue (is_among n old.members) = subst (λ (k : ℕ). IsTrue (is_among k old.members)) (sym e) (place-among old.members next lt) in
    let reads : (k : ℕ) → k < length old.members → slice_index new.members k ≡ slice_index old.members k = λ k low. ap (λ (xs : List ℕ). slice_index xs k) grown ∙ read-left old.members more k low in
    record {
      start = stays v was.start;
      sound = λ m t. elim (is.sound m t) [
        | inl r ↦ was.sound m r
        | inr behind ↦ walk-on (IsBehind arcs node into) m n v (Then m n Here behind) (was.sound n at_n)
      ];
      closed = λ k m low off behind. elim (cases_eq k next) [
        | inl q ↦
            let here : slice_index new.members k ≡ n = ap (λ (j : ℕ). slice_index new.members j) q ∙ reads next lt ∙ sym e in
            is.closed (λ s. off (here ∙ s)) m (subst (λ (j : ℕ). IsBehind arcs node into m j) here behind)
        | inr ne ↦
            let below : k < next = omega (arith, low) in
            let here : slice_index new.members k ≡ slice_index old.members k = reads k (omega (arith, below, lt)) in
            stays m (was.closed k m below (λ s. off (here ∙ s)) (subst (λ (j : ℕ). IsBehind arcs node into m j) here behind))
      ];
      within = omega (arith, lt, ap length grown, length-append old.members more);
    }

pub searching-end : (arcs : List (Option ℕ)) (node : List ℕ) (into : Lists) (v stop next : ℕ) (found : List ℕ) → length found ≤ next → IsSearching arcs node into v stop next found → IsSearched arcs node into v stop found
searching-end arcs node into v stop next found le is = record {
  start = is.start;
  sound = is.sound;
  closed = λ n m held off behind.
      let p = among-place n found held in
      is.closed p.0 m (omega (arith, p.1, le)) (λ s. off (sym p.2 ∙ s)) (subst (λ (j : ℕ). IsBehind arcs node into m j) (sym p.2) behind);
}

-- what the code reads of a node's level
pub level-read : (level : List ℕ) (m x : ℕ) → m < length level → x ≡ slice_index_or level m x → x ≡ level_at level m
level-read level m x lt e = e ∙ get_or_default level m x 0 lt

-- what the code reads of a slot's node
pub node-read : (node : List ℕ) (i : ℕ) → i < length node → slice_index node i ≡ node_at node i
node-read node i lt = get_or_default node i 0 i lt
