-- Chains in one table, when a number is put in front of one of them.
use Rattle.std.proofs.Common.{◌≡◌, ◌≢◌, ◌∙◌, ap, sym, subst, ℕ, zero, suc, ◌+◌, ◌<◌, ◌≤◌, Bool, List, [], ◌∷◌, length, map, get_or, refl, arith, inl, inr}
use Rattle.std.specs.Prelude.{IsTrue, ◌==◌, ◌⊎◌, nat_eq, slice_set, slice_index}
use Rattle.std.specs.List.{IsDistinct, AllByRecursion}
use Rattle.std.proofs.lemmas.Bool.{cases_eq, both_ways, or_left, or_right, or_cases, eqb-true, eq-eqb, false_from_ne_true}
use Rattle.std.proofs.lemmas.List.{map-set, get_or-set_same, get_or-set_other}
use Rattle.std.proofs.lemmas.Map.Keys.{IsDistinct-cons}
use Rattle.std.proofs.lemmas.Map.Steps.{length-le_from_distinct_below}
use Rattle.oper_core.specs.State.{is_among}
use Rattle.number_lists.specs.declared.chains.Chain.{Chain}
use Rattle.number_lists.specs.Lists.{list_at, AreApart, IsFree}
use Rattle.number_lists.specs.Links.{follow}
use Rattle.number_lists.specs.Followed.{chain_list}

-- a chain without x is as it was when the link at x changes
follow-set : (next : List ℕ) (k first x v : ℕ) → (IsTrue (is_among x (follow next k first)) → ⊥) → follow (slice_set next x v) k first ≡ follow next k first
follow-set next zero first x v free = refl
follow-set next (suc k) first x v free =
    let off : first ≢ x = λ e. free (or_left (x == first) _ (eq-eqb x first (sym e))) in
    let same : slice_index (slice_set next x v) first ≡ slice_index next first = get_or-set_other next x first v zero off in
    ap (λ (n : ℕ). first ∷ follow (slice_set next x v) k n) same ∙ ap (λ (ys : List ℕ). first ∷ ys) (follow-set next k (slice_index next first) x v (λ there. free (or_right (x == first) _ there)))

pub list_at-map : (next : List ℕ) (cs : List Chain) (i : ℕ) (d : Chain) → i < length cs → list_at (map (chain_list next) cs) i ≡ chain_list next (get_or cs i d)
list_at-map next [] i d lt = absurd (omega arith)
list_at-map next (c ∷ cs) zero d lt = refl
list_at-map next (c ∷ cs) (suc i) d lt = list_at-map next cs i d (omega arith)

pub length-lists : (next : List ℕ) (cs : List Chain) → length (map (chain_list next) cs) ≡ length cs
length-lists next [] = refl
length-lists next (c ∷ cs) = ap suc (length-lists next cs)

lists-same : (f g : Chain → List ℕ) (cs : List Chain) → ((i : ℕ) (d : Chain) → i < length cs → f (get_or cs i d) ≡ g (get_or cs i d)) → map f cs ≡ map g cs
lists-same f g [] each = refl
lists-same f g (c ∷ cs) each = ap (λ (ys : List ℕ). ys ∷ map f cs) (each zero c (omega arith)) ∙ ap (λ (ys : List (List ℕ)). g c ∷ ys) (lists-same f g cs (λ i d lt. each (suc i) d (omega arith)))

-- where x is in no list, all lists are as they were
lists-kept : (next : List ℕ) (cs : List Chain) (x v : ℕ) → IsFree (map (chain_list next) cs) x → map (chain_list (slice_set next x v)) cs ≡ map (chain_list next) cs
lists-kept next cs x v free = lists-same (chain_list (slice_set next x v)) (chain_list next) cs (λ i d lt.
    let c = get_or cs i d in
    follow-set next c.count c.first x v (λ there. free i (subst (λ (ys : List ℕ). IsTrue (is_among x ys)) (sym (list_at-map next cs i d lt)) there)))

pub lists-pushed : (next : List ℕ) (cs : List Chain) (i x : ℕ) (c : Chain) → i < length cs → x < length next → IsFree (map (chain_list next) cs) x → c ≡ get_or cs i c →
    map (chain_list (slice_set next x c.first)) (slice_set cs i record { first = x; count = c.count + 1 }) ≡ slice_set (map (chain_list next) cs) i (x ∷ list_at (map (chain_list next) cs) i)
lists-pushed next cs i x c lt below free at =
    let linked = slice_set next x c.first in
    let new : Chain = record { first = x; count = c.count + 1 } in
    let one : c.count + 1 ≡ suc c.count = omega arith in
    let here : list_at (map (chain_list next) cs) i ≡ follow next c.count c.first = list_at-map next cs i c lt ∙ ap (chain_list next) (sym at) in
    let out : IsTrue (is_among x (follow next c.count c.first)) → ⊥ = λ there. free i (subst (λ (ys : List ℕ). IsTrue (is_among x ys)) (sym here) there) in
    let front : chain_list linked new ≡ x ∷ list_at (map (chain_list next) cs) i =
    ap (λ (n : ℕ). follow linked n x) one
    ∙ ap (λ (n : ℕ). x ∷ follow linked c.count n) (get_or-set_same next x c.first zero below)
    ∙ ap (λ (ys : List ℕ). x ∷ ys) (follow-set next c.count c.first x c.first out ∙ sym here) in
    map-set (chain_list linked) cs i new ∙ ap (λ (ls : List (List ℕ)). slice_set ls i (chain_list linked new)) (lists-kept next cs x c.first free) ∙ ap (λ (ys : List ℕ). slice_set (map (chain_list next) cs) i ys) front

-- what stands in a list after x was put in front of the list at i
among-set : (lists : List (List ℕ)) (i j x k : ℕ) → IsTrue (is_among k (list_at (slice_set lists i (x ∷ list_at lists i)) j)) → IsTrue (is_among k (list_at lists j)) ⊎ ((j ≡ i) × (k ≡ x))
among-set [] i j x k there = inl there
among-set (ys ∷ lists) zero zero x k there = elim (or_cases (k == x) (is_among k ys) there) [ inl e ↦ inr (refl, eqb-true k x e) | inr r ↦ inl r ]
among-set (ys ∷ lists) zero (suc j) x k there = inl there
among-set (ys ∷ lists) (suc i) zero x k there = inl there
among-set (ys ∷ lists) (suc i) (suc j) x k there = elim (among-set lists i j x k there) [ inl r ↦ inl r | inr r ↦ inr (ap suc r.0, r.1) ]

pub all-apart : (x : ℕ) (ys : List ℕ) → (IsTrue (is_among x ys) → ⊥) → AllByRecursion (λ y. nat_eq x y ≡ Bool.false) ys
all-apart x [] free = tt
all-apart x (y ∷ ys) free = (false_from_ne_true _ (λ e. free (or_left (x == y) _ e)), all-apart x ys (λ there. free (or_right (x == y) _ there)))

distinct-set : (lists : List (List ℕ)) (i j x : ℕ) → ((j : ℕ) → IsDistinct nat_eq (list_at lists j)) → IsFree lists x → IsDistinct nat_eq (list_at (slice_set lists i (x ∷ list_at lists i)) j)
distinct-set [] i j x each free = each j
distinct-set (ys ∷ lists) zero zero x each free = IsDistinct-cons nat_eq x ys (all-apart x ys (free zero)) (each zero)
distinct-set (ys ∷ lists) zero (suc j) x each free = each (suc j)
distinct-set (ys ∷ lists) (suc i) zero x each free = each zero
distinct-set (ys ∷ lists) (suc i) (suc j) x each free = distinct-set lists i j x (λ k. each (suc k)) (λ k. free (suc k))

pub apart-pushed : (lists : List (List ℕ)) (items i x : ℕ) → x < items → IsFree lists x → AreApart lists items → AreApart (slice_set lists i (x ∷ list_at lists i)) items
apart-pushed lists items i x below free are = record {
  distinct = λ j. distinct-set lists i j x are.distinct free;
  apart = λ j l k in_j in_l. elim (among-set lists i j x k in_j) [
    | inl old_j ↦ elim (among-set lists i l x k in_l) [
      | inl old_l ↦ are.apart j l k old_j old_l
      | inr new_l ↦ absurd (free j (subst (λ (m : ℕ). IsTrue (is_among m (list_at lists j))) new_l.1 old_j))
    ]
    | inr new_j ↦ elim (among-set lists i l x k in_l) [
      | inl old_l ↦ absurd (free l (subst (λ (m : ℕ). IsTrue (is_among m (list_at lists l))) new_j.1 old_l))
      | inr new_l ↦ new_j.0 ∙ sym new_l.0
    ]
  ];
  below = λ j k there. elim (among-set lists i j x k there) [ inl old ↦ are.below j k old | inr new ↦ omega (arith, new.1) ];
}

pub length-follow : (next : List ℕ) (k first : ℕ) → length (follow next k first) ≡ k
length-follow next zero first = refl
length-follow next (suc k) first = ap suc (length-follow next k (slice_index next first))

-- a list has no more numbers than there are
pub few : (next : List ℕ) (cs : List Chain) (i : ℕ) (c : Chain) → i < length cs → c ≡ get_or cs i c → AreApart (map (chain_list next) cs) (length next) → c.count ≤ length next
few next cs i c lt at are =
    let here : list_at (map (chain_list next) cs) i ≡ follow next c.count c.first = list_at-map next cs i c lt ∙ ap (chain_list next) (sym at) in
    let all = length-le_from_distinct_below (follow next c.count c.first) (length next)
    (subst (λ (ys : List ℕ). IsDistinct nat_eq ys) here (are.distinct i))
    (λ q there. are.below i q (subst (λ (ys : List ℕ). IsTrue (is_among q ys)) (sym here) there)) in
    omega (arith, all, length-follow next c.count c.first)

pub empty-apart : (items : ℕ) → AreApart [] items
unfolding IsDistinct
empty-apart items = record { distinct = λ i. tt; apart = λ i j k there. absurd (both_ways _ refl there); below = λ i k there. absurd (both_ways _ refl there) }

-- what stands at a place after a list was replaced
pub set-at : (ls : List (List ℕ)) (i j : ℕ) (v : List ℕ) → (list_at (slice_set ls i v) j ≡ list_at ls j) ⊎ ((j ≡ i) × (list_at (slice_set ls i v) j ≡ v))
set-at [] i j v = inl refl
set-at (ys ∷ ls) zero zero v = inr (refl, refl)
set-at (ys ∷ ls) zero (suc j) v = inl refl
set-at (ys ∷ ls) (suc i) zero v = inl refl
set-at (ys ∷ ls) (suc i) (suc j) v = elim (set-at ls i j v) [ inl e ↦ inl e | inr r ↦ inr (ap suc r.0, r.1) ]

pub set-same : (ls : List (List ℕ)) (i : ℕ) (v : List ℕ) → i < length ls → list_at (slice_set ls i v) i ≡ v
set-same [] i v lt = absurd (omega arith)
set-same (ys ∷ ls) zero v lt = refl
set-same (ys ∷ ls) (suc i) v lt = set-same ls i v (omega arith)

pub set-other : (ls : List (List ℕ)) (i j : ℕ) (v : List ℕ) → (j ≡ i → ⊥) → list_at (slice_set ls i v) j ≡ list_at ls j
set-other ls i j v ne = elim (set-at ls i j v) [ inl e ↦ e | inr r ↦ absurd (ne r.0) ]

-- where the list at i loses its first number, no list gets more
among-fewer : (ls : List (List ℕ)) (i j x k : ℕ) (xs : List ℕ) → list_at ls i ≡ x ∷ xs → IsTrue (is_among k (list_at (slice_set ls i xs) j)) → IsTrue (is_among k (list_at ls j))
among-fewer ls i j x k xs e there = elim (set-at ls i j xs) [
  | inl same ↦ subst (λ (ys : List ℕ). IsTrue (is_among k ys)) same there
  | inr r ↦
      let in_xs : IsTrue (is_among k xs) = subst (λ (ys : List ℕ). IsTrue (is_among k ys)) r.1 there in
      subst (λ (m : ℕ). IsTrue (is_among k (list_at ls m))) (sym r.0) (subst (λ (ys : List ℕ). IsTrue (is_among k ys)) (sym e) (or_right (k == x) (is_among k xs) in_xs))
]

none-equal : (x : ℕ) (ys : List ℕ) → AllByRecursion (λ y. nat_eq x y ≡ Bool.false) ys → IsTrue (is_among x ys) → ⊥
none-equal x [] all there = both_ways _ refl there
none-equal x (y ∷ ys) all there = elim (or_cases (x == y) (is_among x ys) there) [ inl e ↦ both_ways _ all.0 e | inr r ↦ none-equal x ys all.1 r ]

pub first-apart : (x : ℕ) (ys : List ℕ) → IsDistinct nat_eq (x ∷ ys) → (IsTrue (is_among x ys) → ⊥) × IsDistinct nat_eq ys
unfolding IsDistinct
first-apart x ys is = (none-equal x ys is.0, is.1)

some-below : (ls : List (List ℕ)) (i x : ℕ) (xs : List ℕ) → list_at ls i ≡ x ∷ xs → i < length ls
some-below [] i x xs e = absurd (cc)
some-below (ys ∷ ls) zero x xs e = omega arith
some-below (ys ∷ ls) (suc i) x xs e = omega (arith, some-below ls i x xs e)

pub apart-popped : (ls : List (List ℕ)) (items i x : ℕ) (xs : List ℕ) → list_at ls i ≡ x ∷ xs → AreApart ls items → AreApart (slice_set ls i xs) items × IsFree (slice_set ls i xs) x
apart-popped ls items i x xs e are =
    let parts = first-apart x xs (subst (λ (ys : List ℕ). IsDistinct nat_eq ys) e (are.distinct i)) in
    let in_i : IsTrue (is_among x (list_at ls i)) = subst (λ (ys : List ℕ). IsTrue (is_among x ys)) (sym e) (or_left (x == x) (is_among x xs) (eq-eqb x x refl)) in (
      record {
        distinct = λ j. elim (set-at ls i j xs) [
          | inl same ↦ subst (λ (ys : List ℕ). IsDistinct nat_eq ys) (sym same) (are.distinct j)
          | inr r ↦ subst (λ (ys : List ℕ). IsDistinct nat_eq ys) (sym r.1) parts.1
        ];
        apart = λ j l k in_j in_l. are.apart j l k (among-fewer ls i j x k xs e in_j) (among-fewer ls i l x k xs e in_l);
        below = λ j k there. are.below j k (among-fewer ls i j x k xs e there);
      },
      (λ j there. elim (set-at ls i j xs) [
        | inl same ↦
            let in_j : IsTrue (is_among x (list_at ls j)) = subst (λ (ys : List ℕ). IsTrue (is_among x ys)) same there in
            elim (cases_eq j i) [
              | inl at ↦ parts.0 (subst (λ (ys : List ℕ). IsTrue (is_among x ys)) (ap (λ (m : ℕ). list_at (slice_set ls i xs) m) at ∙ set-same ls i xs (some-below ls i x xs e)) there)
              | inr ne ↦ ne (are.apart j i x in_j in_i)
            ]
        | inr r ↦ parts.0 (subst (λ (ys : List ℕ). IsTrue (is_among x ys)) r.1 there)
      ]),
    )

-- where the list at i is emptied, no list gets more
among-cleared : (ls : List (List ℕ)) (i j k : ℕ) → IsTrue (is_among k (list_at (slice_set ls i []) j)) → IsTrue (is_among k (list_at ls j)) × (j ≡ i → i < length ls → ⊥)
among-cleared ls i j k there = elim (set-at ls i j []) [
  | inl same ↦ (
    subst (λ (ys : List ℕ). IsTrue (is_among k ys)) same there,
    (λ e lt. both_ways _ refl (subst (λ (ys : List ℕ). IsTrue (is_among k ys)) (ap (λ (m : ℕ). list_at (slice_set ls i []) m) e ∙ set-same ls i [] lt) there)),
  )
  | inr r ↦ absurd (both_ways _ refl (subst (λ (ys : List ℕ). IsTrue (is_among k ys)) r.1 there))
]

none-distinct : IsDistinct nat_eq []
unfolding IsDistinct
none-distinct = tt

pub apart-cleared : (ls : List (List ℕ)) (items i : ℕ) → AreApart ls items → AreApart (slice_set ls i []) items
apart-cleared ls items i are = record {
  distinct = λ j. elim (set-at ls i j []) [
    | inl same ↦ subst (λ (ys : List ℕ). IsDistinct nat_eq ys) (sym same) (are.distinct j)
    | inr r ↦ subst (λ (ys : List ℕ). IsDistinct nat_eq ys) (sym r.1) none-distinct
  ];
  apart = λ j l k in_j in_l. are.apart j l k (among-cleared ls i j k in_j).0 (among-cleared ls i l k in_l).0;
  below = λ j k there. are.below j k (among-cleared ls i j k there).0;
}

pub free-cleared : (ls : List (List ℕ)) (items i k : ℕ) → i < length ls → AreApart ls items → IsTrue (is_among k (list_at ls i)) → IsFree (slice_set ls i []) k
free-cleared ls items i k lt are was j there =
    let r = among-cleared ls i j k there in
    r.1 (are.apart j i k r.0 was) lt
