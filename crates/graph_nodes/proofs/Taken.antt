-- How the nodes spread that walks lead to.
use Rattle.std.proofs.Common.{◌≡◌, ◌∙◌, ap, sym, subst, ℕ, ◌+◌, ◌<◌, ◌≤◌, List, [], ◌∷◌, ◌++◌, append-nil, length, length-append, refl, arith, inl, inr}
use Rattle.std.specs.Prelude.{IsTrue, ◌⊎◌, Option, slice_index}
use Rattle.std.proofs.lemmas.Bool.{cases_eq}
use Rattle.oper_core.specs.State.{is_among}
use Rattle.install_order.specs.Digraph.{Walk}
use Rattle.install_order.specs.Digraph.Walk.{Here, Then}
use Rattle.install_order.specs.MergeLaws.{walk-on}
use Rattle.number_lists.specs.Members.{Members}
use Rattle.graph_nodes.specs.Search.{AreKept}
use Rattle.graph_nodes.specs.Spread.{StartsIn, StartAmongIn, IsTakenUp, IsRoundDone}
use Rattle.graph_nodes.proofs.Found.{kept-twice, kept-none, among-left, among-place, place-among}

-- none of the first so many cells
pub none-more : (arcs : List (Option ℕ)) (node cells taken : List ℕ) (i c : ℕ) → ((k : ℕ) → k < i → StartsIn arcs node (slice_index cells k) taken → ⊥) → c ≡ slice_index cells i → (StartsIn arcs node c taken → ⊥) →
    (k : ℕ) → k < i + 1 → StartsIn arcs node (slice_index cells k) taken → ⊥
none-more arcs node cells taken i c below e none k lt start = elim (cases_eq k i) [
  | inl q ↦ none (subst (λ (j : ℕ). StartsIn arcs node j taken) (ap (λ (j : ℕ). slice_index cells j) q ∙ sym e) start)
  | inr ne ↦ below k (omega arith) start
]

pub none-all : (arcs : List (Option ℕ)) (node cells taken : List ℕ) (i : ℕ) → i ≡ length cells → ((k : ℕ) → k < i → StartsIn arcs node (slice_index cells k) taken → ⊥) → StartAmongIn arcs node cells taken → ⊥
none-all arcs node cells taken i e below some =
    let p = among-place some.0 cells some.1 in
    below p.0 (omega (arith, e, p.1)) (subst (λ (c : ℕ). StartsIn arcs node c taken) (sym p.2) some.2)

-- a node that is taken
pub up-there : (Next : ℕ → ℕ → Type 0) (n : ℕ) (old : Members) → IsTrue (is_among n old.members) → IsTakenUp Next n old old
up-there Next n old there = record { sound = λ k t. inl t; closed = λ m t next. there; same = kept-none old }

-- in a round, the found nodes from place i on
pub record IsInRound (Next : ℕ → ℕ → Type 0) (found : List ℕ) (i : ℕ) (old new : Members) : Type 0 where
  pub sound : (k : ℕ) → IsTrue (is_among k new.members) → IsTrue (is_among k old.members) ⊎ (IsTrue (is_among k found) × ((m : ℕ) × IsTrue (is_among m old.members) × Walk Next m k))
  pub closed : length new.members ≡ length old.members → (j m : ℕ) → i ≤ j → j < length found → IsTrue (is_among m old.members) → Next m (slice_index found j) → IsTrue (is_among (slice_index found j) old.members)
  pub same : AreKept old new

pub round-start : (Next : ℕ → ℕ → Type 0) (found : List ℕ) (i : ℕ) (old : Members) → length found ≤ i → IsInRound Next found i old old
round-start Next found i old end = record { sound = λ k t. inl t; closed = λ e j m low lt. absurd (omega (arith, end, low, lt)); same = kept-none old }

-- where a longer list is as long, it has nothing more
empty : (xs : List ℕ) → length xs ≡ 0 → xs ≡ []
empty [] e = refl
empty (x ∷ xs) e = absurd (omega (arith, e))

same-length : (old new : Members) (k : ℕ) → AreKept old new → length new.members ≡ length old.members → IsTrue (is_among k new.members) → IsTrue (is_among k old.members)
same-length old new k is e t =
    let more = is.kept.0 in
    let none : length more ≡ 0 = omega (arith, e, ap length is.kept.1, length-append old.members more) in
    let nothing : more ≡ [] = empty more none in
    subst (λ (xs : List ℕ). IsTrue (is_among k xs)) (is.kept.1 ∙ ap (λ (xs : List ℕ). old.members ++ xs) nothing ∙ append-nil old.members) t

grows : (old new : Members) → AreKept old new → length old.members ≤ length new.members
grows old new is = omega (arith, ap length is.kept.1, length-append old.members is.kept.0)

pub round-on : (Next : ℕ → ℕ → Type 0) (found : List ℕ) (i n : ℕ) (old now new : Members) → IsInRound Next found (i + 1) old now → i < length found → n ≡ slice_index found i → IsTakenUp Next n now new → IsInRound Next found i old new
round-on Next found i n old now new was lt e is =
    let kept = kept-twice old now new was.same is.same in
    let held : IsTrue (is_among n found) = subst (λ (k : ℕ). IsTrue (is_among k found)) (sym e) (place-among found i lt) in
    record {
      sound = λ k t. elim (is.sound k t) [
        | inl r ↦ was.sound k r
        | inr up ↦
            let b = up.1 in
            let step : Walk Next b.0 k = subst (λ (j : ℕ). Walk Next b.0 j) (sym up.0) (Then b.0 n Here b.2) in
            let found_k : IsTrue (is_among k found) = subst (λ (j : ℕ). IsTrue (is_among j found)) (sym up.0) held in
            elim (was.sound b.0 b.1) [
              | inl o ↦ inr (found_k, (b.0, o, step))
              | inr o ↦ inr (found_k, (o.1.0, o.1.1, walk-on Next o.1.0 b.0 k o.1.2 step))
            ]
      ];
      closed = λ same j m low high t behind.
          let g = grows old now was.same in
          let h = grows now new is.same in
          let first : length now.members ≡ length old.members = omega (arith, g, h, same) in
          elim (cases_eq j i) [
            | inl q ↦
                let at : slice_index found j ≡ n = ap (λ (k : ℕ). slice_index found k) q ∙ sym e in
                let in_now : IsTrue (is_among m now.members) = subst (λ (xs : List ℕ). IsTrue (is_among m xs)) (sym was.same.kept.1) (among-left m old.members was.same.kept.0 t) in
                let up = is.closed m in_now (subst (λ (k : ℕ). Next m k) at behind) in
                subst (λ (k : ℕ). IsTrue (is_among k old.members)) (sym at) (same-length old new n kept same up)
            | inr ne ↦ was.closed first j m (omega (arith, low, ne)) high t behind
          ];
      same = kept;
    }

pub round-end : (Next : ℕ → ℕ → Type 0) (found : List ℕ) (old new : Members) → IsInRound Next found 0 old new → IsRoundDone Next found old new
round-end Next found old new is = record {
  sound = is.sound;
  closed = λ same m n t held behind.
      let p = among-place n found held in
      subst (λ (k : ℕ). IsTrue (is_among k old.members)) p.2 (is.closed same p.0 m (omega arith) p.1 t (subst (λ (k : ℕ). Next m k) (sym p.2) behind));
  same = is.same;
}

-- between rounds: what is taken, and that nothing is missing where the last round added nothing
pub record IsSpreading (Next : ℕ → ℕ → Type 0) (w : ℕ) (found : List ℕ) (before : ℕ) (taken : List ℕ) : Type 0 where
  pub start : IsTrue (is_among w taken)
  pub sound : (n : ℕ) → IsTrue (is_among n taken) → (n ≡ w) ⊎ (IsTrue (is_among n found) × Walk Next w n)
  pub closed : length taken ≡ before → (m n : ℕ) → IsTrue (is_among m taken) → IsTrue (is_among n found) → Next m n → IsTrue (is_among n taken)
  pub within : before ≤ length taken

-- what was taken stays
pub kept-among : (k : ℕ) (old new : Members) → AreKept old new → IsTrue (is_among k old.members) → IsTrue (is_among k new.members)
kept-among k old new is t = subst (λ (xs : List ℕ). IsTrue (is_among k xs)) (sym is.kept.1) (among-left k old.members is.kept.0 t)

pub spread-on : (Next : ℕ → ℕ → Type 0) (w : ℕ) (found : List ℕ) (before : ℕ) (old new : Members) → IsSpreading Next w found before old.members → IsRoundDone Next found old new → IsSpreading Next w found (length old.members) new.members
spread-on Next w found before old new was is =
    let stays : (k : ℕ) → IsTrue (is_among k old.members) → IsTrue (is_among k new.members) = λ k t. kept-among k old new is.same t in
    record {
      start = stays w was.start;
      sound = λ n t. elim (is.sound n t) [
        | inl r ↦ was.sound n r
        | inr r ↦ elim (was.sound r.1.0 r.1.1) [
          | inl q ↦ inr (r.0, subst (λ (k : ℕ). Walk Next k n) q r.1.2)
          | inr s ↦ inr (r.0, walk-on Next w r.1.0 n s.1 r.1.2)
        ]
      ];
      closed = λ same m n t held behind. stays n (is.closed same m n (same-length old new m is.same same t) held behind);
      within = grows old new is.same;
    }
