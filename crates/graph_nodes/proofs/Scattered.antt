-- The slots of a node are held no more, and each becomes a node by itself.
use Rattle.std.proofs.Common.{◌≡◌, ◌≢◌, ◌∙◌, ap, sym, subst, ℕ, ◌+◌, ◌<◌, Bool, false, List, [], ◌∷◌, length, refl, arith, inl, inr}
use Rattle.std.specs.Prelude.{IsTrue, IsFalse, ◌==◌, ◌⊎◌, nat_eq, slice_index, slice_set}
use Rattle.std.specs.List.{IsDistinct}
use Rattle.std.proofs.lemmas.Bool.{cases_eq, cases_Bool, both_ways, or_left, or_cases, eqb-true, eq-eqb}
use Rattle.std.proofs.lemmas.List.{get_or-set_same, get_or-set_other, length-set}
use Rattle.std.proofs.lemmas.Map.Keys.{apart_from_distinct}
use Rattle.oper_core.specs.State.{is_among}
use Rattle.number_lists.specs.Lists.{Lists, list_at, IsFree, AreAsMany, IsCleared, IsPushed}
use Rattle.graph_nodes.specs.Arcs.{node_at, held_at}
use Rattle.graph_nodes.specs.Merge.{IsFiled}
use Rattle.graph_nodes.specs.Kept.{AreOwn}
use Rattle.graph_nodes.specs.Removed.{AreReleased, AreAlone}
use Rattle.graph_nodes.proofs.Found.{among-place, place-among}
use Rattle.graph_nodes.proofs.Joined.{many-twice}

-- the first so many of the slots are held no more
pub record IsReleasing (slots : List ℕ) (idx : ℕ) (old now : List Bool) : Type 0 where
  pub done : (k : ℕ) → k < idx → IsFalse (held_at now (slice_index slots k))
  pub rest : (i : ℕ) → (held_at now i ≡ held_at old i) ⊎ IsTrue (is_among i slots)
  pub size : length now ≡ length old

pub release-end : (slots : List ℕ) (idx : ℕ) (old now : List Bool) → idx ≡ length slots → IsReleasing slots idx old now → AreReleased slots old now
release-end slots idx old now e is = record {
  done = λ i t. let p = among-place i slots t in ap (λ (k : ℕ). held_at now k) (sym p.2) ∙ is.done p.0 (omega (arith, e, p.1));
  rest = λ i none. elim (is.rest i) [ inl s ↦ s | inr s ↦ absurd (none s) ];
  size = is.size;
}

-- the first so many of the slots are said of themselves
pub record IsParting (slots : List ℕ) (idx : ℕ) (old now : List ℕ) : Type 0 where
  pub done : (k : ℕ) → k < idx → node_at now (slice_index slots k) ≡ slice_index slots k
  pub rest : (i : ℕ) → (node_at now i ≡ node_at old i) ⊎ IsTrue (is_among i slots)
  pub size : length now ≡ length old

pub part-on : (slots : List ℕ) (idx m : ℕ) (old now : List ℕ) → IsParting slots idx old now → m ≡ slice_index slots idx → idx < length slots → m < length now → IsParting slots (idx + 1) old (slice_set now m m)
part-on slots idx m old now is e lt below =
    let new = slice_set now m m in
    let at : node_at new m ≡ m = get_or-set_same now m m m below in
    let off : (i : ℕ) → i ≢ m → node_at new i ≡ node_at now i = λ i ne. get_or-set_other now m i m i ne in
    record {
      done = λ k low. elim (cases_eq (slice_index slots k) m) [
        | inl q ↦ ap (λ (i : ℕ). node_at new i) q ∙ at ∙ sym q
        | inr ne ↦ elim (cases_eq k idx) [
          | inl q ↦ absurd (ne (ap (λ (i : ℕ). slice_index slots i) q ∙ sym e))
          | inr other ↦ off (slice_index slots k) ne ∙ is.done k (omega arith)
        ]
      ];
      rest = λ i. elim (cases_eq i m) [
        | inl q ↦ inr (subst (λ (k : ℕ). IsTrue (is_among k slots)) (sym (q ∙ e)) (place-among slots idx lt))
        | inr ne ↦ elim (is.rest i) [ inl s ↦ inl (off i ne ∙ s) | inr s ↦ inr s ]
      ];
      size = length-set now m m ∙ is.size;
    }

pub part-end : (slots : List ℕ) (idx : ℕ) (old now : List ℕ) → idx ≡ length slots → IsParting slots idx old now → AreAlone slots old now
part-end slots idx old now e is = record {
  done = λ i t. let p = among-place i slots t in ap (λ (k : ℕ). node_at now k) (sym p.2) ∙ is.done p.0 (omega (arith, e, p.1)) ∙ p.2;
  rest = λ i none. elim (is.rest i) [ inl s ↦ s | inr s ↦ absurd (none s) ];
  size = is.size;
}

-- the first so many of the slots are alone in lists of their own
pub record IsScattering (slots : List ℕ) (idx : ℕ) (cleared now : Lists) : Type 0 where
  pub done : (k : ℕ) → k < idx → list_at now.lists (slice_index slots k) ≡ slice_index slots k ∷ []
  pub rest : (j : ℕ) → (list_at now.lists j ≡ list_at cleared.lists j) ⊎ ((k : ℕ) × (k < idx) × (slice_index slots k ≡ j))
  pub same : AreAsMany cleared now

pub apart-places : (slots : List ℕ) (i j : ℕ) → IsDistinct nat_eq slots → i < j → j < length slots → slice_index slots i ≡ slice_index slots j → ⊥
apart-places slots i j are lt low e = both_ways _ (apart_from_distinct nat_eq slots i j 0 are lt low) (eq-eqb (slice_index slots i) (slice_index slots j) e)

pub nothing-in : (xs : List ℕ) → ((k : ℕ) → IsTrue (is_among k xs) → ⊥) → xs ≡ []
nothing-in [] none = refl
nothing-in (x ∷ xs) none = absurd (none x (or_left (x == x) (is_among x xs) (eq-eqb x x refl)))

pub one-in : (k x : ℕ) → IsTrue (is_among k (x ∷ [])) → k ≡ x
one-in k x t = elim (or_cases (k == x) false t) [ inl e ↦ eqb-true k x e | inr r ↦ absurd (both_ways _ refl r) ]

-- what is known before the slots of the node n are pushed
pub record AreToPart (node : List ℕ) (n : ℕ) (slots : List ℕ) (old cleared : Lists) : Type 0 where
  pub slots_are : slots ≡ list_at old.lists n
  pub distinct : IsDistinct nat_eq slots
  pub filed : IsFiled node old
  pub own : AreOwn node
  pub clear : IsCleared old n cleared

pub in-node : (node : List ℕ) (n i : ℕ) (slots : List ℕ) (old cleared : Lists) → AreToPart node n slots old cleared → IsTrue (is_among i slots) → (i < length node) × (node_at node i ≡ n)
in-node node n i slots old cleared are t = are.filed.only n i (subst (λ (xs : List ℕ). IsTrue (is_among i xs)) are.slots_are t)

-- the list of a slot of the node is empty once that of the node is
own-empty : (node : List ℕ) (n s : ℕ) (slots : List ℕ) (old cleared : Lists) → AreToPart node n slots old cleared → IsTrue (is_among s slots) → list_at cleared.lists s ≡ []
own-empty node n s slots old cleared are t = elim (cases_eq s n) [
  | inl q ↦ ap (λ (k : ℕ). list_at cleared.lists k) q ∙ are.clear.here
  | inr ne ↦ are.clear.others s ne ∙ nothing-in (list_at old.lists s) (λ k u.
      let at : node_at node k ≡ s = (are.filed.only s k u).1 in
      let self : node_at node s ≡ s = ap (λ (j : ℕ). node_at node j) (sym at) ∙ are.own k ∙ at in
      ne (sym self ∙ (in-node node n s slots old cleared are t).1))
]

pub scatter-free : (node : List ℕ) (n idx s : ℕ) (slots : List ℕ) (old cleared now : Lists) → AreToPart node n slots old cleared → IsScattering slots idx cleared now → idx < length slots → s ≡ slice_index slots idx → IsFree now.lists s
scatter-free node n idx s slots old cleared now are is lt e i t =
    let in_slots : IsTrue (is_among s slots) = subst (λ (k : ℕ). IsTrue (is_among k slots)) (sym e) (place-among slots idx lt) in
    elim (is.rest i) [
      | inl same ↦ are.clear.free s (subst (λ (xs : List ℕ). IsTrue (is_among s xs)) are.slots_are in_slots) i (subst (λ (xs : List ℕ). IsTrue (is_among s xs)) same t)
      | inr k ↦
          let here : list_at now.lists i ≡ slice_index slots k.0 ∷ [] = ap (λ (j : ℕ). list_at now.lists j) (sym k.2) ∙ is.done k.0 k.1 in
          let same : s ≡ slice_index slots k.0 = one-in s (slice_index slots k.0) (subst (λ (xs : List ℕ). IsTrue (is_among s xs)) here t) in
          apart-places slots k.0 idx are.distinct k.1 lt (sym same ∙ e)
    ]

pub scatter-on : (node : List ℕ) (n idx s : ℕ) (slots : List ℕ) (old cleared now new : Lists) → AreToPart node n slots old cleared → IsScattering slots idx cleared now → idx < length slots → s ≡ slice_index slots idx → IsPushed now s s new → IsScattering slots (idx + 1) cleared new
scatter-on node n idx s slots old cleared now new are is lt e push =
    let in_slots : IsTrue (is_among s slots) = subst (λ (k : ℕ). IsTrue (is_among k slots)) (sym e) (place-among slots idx lt) in
    let empty : list_at now.lists s ≡ [] = elim (is.rest s) [
      | inl same ↦ same ∙ own-empty node n s slots old cleared are in_slots
      | inr k ↦ absurd (apart-places slots k.0 idx are.distinct k.1 lt (k.2 ∙ e))
    ] in
    let here : list_at new.lists s ≡ s ∷ [] = push.here ∙ ap (λ (xs : List ℕ). s ∷ xs) empty in
    record {
      done = λ k low. elim (cases_eq k idx) [
        | inl q ↦
            let at : slice_index slots k ≡ s = ap (λ (i : ℕ). slice_index slots i) q ∙ sym e in
            ap (λ (j : ℕ). list_at new.lists j) at ∙ here ∙ ap (λ (j : ℕ). j ∷ []) (sym at)
        | inr ne ↦
            let less : k < idx = omega (arith, low, ne) in
            push.others (slice_index slots k) (λ q. apart-places slots k idx are.distinct less lt (q ∙ e)) ∙ is.done k less
      ];
      rest = λ j. elim (cases_eq j s) [
        | inl q ↦ inr (idx, omega arith, sym e ∙ sym q)
        | inr ne ↦ elim (is.rest j) [ inl same ↦ inl (push.others j ne ∙ same) | inr k ↦ inr (k.0, omega (arith, k.1), k.2) ]
      ];
      same = many-twice cleared now new is.same push.same;
    }

pub scatter-end : (node new : List ℕ) (n idx : ℕ) (slots : List ℕ) (old cleared now : Lists) → AreToPart node n slots old cleared → IsScattering slots idx cleared now → idx ≡ length slots → AreAlone slots node new → IsFiled new now
scatter-end node new n idx slots old cleared now are is e alone = record {
  there = λ i lt.
      let low : i < length node = omega (arith, lt, alone.size) in
      elim (cases_Bool (is_among i slots)) [
        | inl t ↦
            let p = among-place i slots t in
            let here : list_at now.lists i ≡ i ∷ [] = subst (λ (k : ℕ). list_at now.lists k ≡ k ∷ []) p.2 (is.done p.0 (omega (arith, p.1, e))) in
            subst (λ (k : ℕ). IsTrue (is_among i (list_at now.lists k))) (sym (alone.done i t)) (subst (λ (xs : List ℕ). IsTrue (is_among i xs)) (sym here) (or_left (i == i) false (eq-eqb i i refl)))
        | inr f ↦
            let out : IsTrue (is_among i slots) → ⊥ = λ t. both_ways _ f t in
            let m = node_at node i in
            let was = are.filed.there i low in
            let off : m ≡ n → ⊥ = λ q. out (subst (λ (xs : List ℕ). IsTrue (is_among i xs)) (sym are.slots_are) (subst (λ (k : ℕ). IsTrue (is_among i (list_at old.lists k))) q was)) in
            let same : list_at now.lists m ≡ list_at old.lists m = elim (is.rest m) [
              | inl s ↦ s ∙ are.clear.others m off
              | inr k ↦
                  let in_slots : IsTrue (is_among m slots) = subst (λ (j : ℕ). IsTrue (is_among j slots)) k.2 (place-among slots k.0 (omega (arith, k.1, e))) in
                  absurd (off (sym (are.own i) ∙ (in-node node n m slots old cleared are in_slots).1))
            ] in
            subst (λ (k : ℕ). IsTrue (is_among i (list_at now.lists k))) (sym (alone.rest i out)) (subst (λ (xs : List ℕ). IsTrue (is_among i xs)) (sym same) was)
      ];
  only = λ m i t. elim (is.rest m) [
    | inl s ↦ elim (cases_eq m n) [
      | inl q ↦ absurd (both_ways _ refl (subst (λ (xs : List ℕ). IsTrue (is_among i xs)) (s ∙ ap (λ (k : ℕ). list_at cleared.lists k) q ∙ are.clear.here) t))
      | inr ne ↦
          let was = are.filed.only m i (subst (λ (xs : List ℕ). IsTrue (is_among i xs)) (s ∙ are.clear.others m ne) t) in
          let out : IsTrue (is_among i slots) → ⊥ = λ u. ne (sym was.1 ∙ (in-node node n i slots old cleared are u).1) in
          (omega (arith, was.0, alone.size), alone.rest i out ∙ was.1)
    ]
    | inr k ↦
        let here : list_at now.lists m ≡ m ∷ [] = subst (λ (j : ℕ). list_at now.lists j ≡ j ∷ []) k.2 (is.done k.0 k.1) in
        let same : i ≡ m = one-in i m (subst (λ (xs : List ℕ). IsTrue (is_among i xs)) here t) in
        let in_slots : IsTrue (is_among i slots) = subst (λ (j : ℕ). IsTrue (is_among j slots)) (k.2 ∙ sym same) (place-among slots k.0 (omega (arith, k.1, e))) in
        (omega (arith, (in-node node n i slots old cleared are in_slots).0, alone.size), alone.done i in_slots ∙ same)
  ];
}
