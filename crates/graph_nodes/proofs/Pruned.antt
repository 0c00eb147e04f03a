-- All cells without an arc from another node are dropped from a node's list.
use Rattle.std.proofs.Common.{◌≡◌, ◌∙◌, ap, sym, subst, ℕ, ◌+◌, ◌<◌, List, [], length, refl, arith, inl, inr}
use Rattle.std.specs.Prelude.{IsTrue, ◌==◌, Option, nat_eq, slice_index}
use Rattle.std.specs.List.{IsDistinct}
use Rattle.std.proofs.lemmas.Bool.{cases_eq, both_ways, or_left, or_right, or_cases, eqb-true, eq-eqb}
use Rattle.oper_core.specs.State.{is_among}
use Rattle.number_lists.specs.Lists.{Lists, list_at, IsFree, AreAsMany, OthersStay}
use Rattle.graph_nodes.specs.Arcs.{IsFromOutside}
use Rattle.graph_nodes.specs.Into.{IsPutBack, ArePutBack}
use Rattle.graph_nodes.proofs.Found.{among-place, place-among}
use Rattle.graph_nodes.proofs.Joined.{many-same, many-twice}
use Rattle.graph_nodes.proofs.Scattered.{apart-places}

-- the first so many of the cells are put back, if their arcs come from another node
pub record IsPruning (arcs : List (Option ℕ)) (node : List ℕ) (m : ℕ) (cells : List ℕ) (i : ℕ) (mid now : Lists) : Type 0 where
  pub kept : (k : ℕ) → k < i → IsFromOutside arcs node (slice_index cells k) m → IsTrue (is_among (slice_index cells k) (list_at now.lists m))
  pub only : (c : ℕ) → IsTrue (is_among c (list_at now.lists m)) → IsFromOutside arcs node c m × ((k : ℕ) × (k < i) × (slice_index cells k ≡ c))
  pub others : OthersStay mid m now
  pub same : AreAsMany mid now

pub pruning-start : (arcs : List (Option ℕ)) (node : List ℕ) (m : ℕ) (cells : List ℕ) (old : Lists) → list_at old.lists m ≡ [] → IsPruning arcs node m cells 0 old old
pruning-start arcs node m cells old empty = record {
  kept = λ k lt. absurd (omega (arith, lt));
  only = λ c t. absurd (both_ways _ refl (subst (λ (xs : List ℕ). IsTrue (is_among c xs)) empty t));
  others = λ j ne. refl;
  same = many-same old;
}

-- the next cell is in no list yet
pub pruning-free : (arcs : List (Option ℕ)) (node : List ℕ) (m : ℕ) (cells : List ℕ) (i : ℕ) (old now : Lists) → ((c : ℕ) → IsTrue (is_among c cells) → IsFree old.lists c) → IsDistinct nat_eq cells → IsPruning arcs node m cells i old now → i < length cells → IsFree now.lists (slice_index cells i)
pruning-free arcs node m cells i old now free distinct is lt j t =
    let c = slice_index cells i in
    elim (cases_eq j m) [
      | inl q ↦
          let p = (is.only c (subst (λ (k : ℕ). IsTrue (is_among c (list_at now.lists k))) q t)).1 in
          apart-places cells p.0 i distinct p.1 lt p.2
      | inr ne ↦ free c (place-among cells i lt) j (subst (λ (xs : List ℕ). IsTrue (is_among c xs)) (is.others j ne) t)
    ]

pub pruning-on : (arcs : List (Option ℕ)) (node : List ℕ) (m : ℕ) (cells : List ℕ) (i : ℕ) (mid now new : Lists) → IsPruning arcs node m cells i mid now → IsPutBack arcs node (slice_index cells i) m now new → IsPruning arcs node m cells (i + 1) mid new
pruning-on arcs node m cells i mid now new is put =
    let c = slice_index cells i in
    elim put [
      | inl back ↦
          let out = back.0 in
          let push = back.1 in record {
            kept = λ k lt from. subst (λ (xs : List ℕ). IsTrue (is_among (slice_index cells k) xs)) (sym push.here) (elim (cases_eq k i) [
              | inl q ↦ or_left (slice_index cells k == c) _ (eq-eqb (slice_index cells k) c (ap (λ (j : ℕ). slice_index cells j) q))
              | inr ne ↦ or_right (slice_index cells k == c) _ (is.kept k (omega (arith, lt, ne)) from)
            ]);
            only = λ d t. elim (or_cases (d == c) (is_among d (list_at now.lists m)) (subst (λ (xs : List ℕ). IsTrue (is_among d xs)) push.here t)) [
              | inl q ↦
                  let e = eqb-true d c q in
                  (subst (λ (k : ℕ). IsFromOutside arcs node k m) (sym e) out, (i, omega arith, sym e))
              | inr r ↦ let o = is.only d r in (o.0, (o.1.0, omega (arith, o.1.1), o.1.2))
            ];
            others = λ j ne. push.others j ne ∙ is.others j ne;
            same = many-twice mid now new is.same push.same;
          }
      | inr off ↦ subst (λ (l : Lists). IsPruning arcs node m cells (i + 1) mid l) (sym off.1) (record {
        kept = λ k lt from. elim (cases_eq k i) [
          | inl q ↦ absurd (off.0 (subst (λ (j : ℕ). IsFromOutside arcs node (slice_index cells j) m) q from))
          | inr ne ↦ is.kept k (omega (arith, lt, ne)) from
        ];
        only = λ d t. let o = is.only d t in (o.0, (o.1.0, omega (arith, o.1.1), o.1.2));
        others = is.others;
        same = is.same;
      })
    ]

pub pruning-end : (arcs : List (Option ℕ)) (node : List ℕ) (m : ℕ) (cells : List ℕ) (i : ℕ) (old now : Lists) → i ≡ length cells → IsPruning arcs node m cells i old now → ArePutBack arcs node m cells old now
pruning-end arcs node m cells i old now end is = record {
  kept = λ c t out.
      let p = among-place c cells t in
      subst (λ (k : ℕ). IsTrue (is_among k (list_at now.lists m))) p.2 (is.kept p.0 (omega (arith, p.1, end)) (subst (λ (k : ℕ). IsFromOutside arcs node k m) (sym p.2) out));
  only = λ c t.
      let o = is.only c t in
      (subst (λ (k : ℕ). IsTrue (is_among k cells)) o.1.2 (place-among cells o.1.0 (omega (arith, o.1.1, end))), o.0);
  others = is.others;
  same = is.same;
}
