-- Numbers that stand at places, and the lists of these.
use Rattle.std.proofs.Common.{◌≡◌, ◌∙◌, ap, sym, subst, ℕ, zero, suc, ◌+◌, ◌-◌, ◌<◌, ◌≤◌, ◌⊎◌, List, [], ◌∷◌, ◌++◌, length, length-append, map, refl, arith, inl, inr}
use Rattle.std.specs.Prelude.{IsTrue, IsFalse, ◌==◌, nat_eq, slice_index, slice_set}
use Rattle.std.specs.List.{IsDistinct}
use Rattle.std.proofs.lemmas.Bool.{cases_eq, cases_lt, both_ways, or_left, or_right, or_cases, eqb-true, eq-eqb, false_from_ne_true}
use Rattle.std.proofs.lemmas.List.{get_or-set_same, get_or-set_other, length-map, length-set, get_or_default}
use Rattle.std.proofs.lemmas.Map.Keys.{IsDistinct-cons, IsDistinct-from_apart}
use Rattle.std.proofs.lemmas.Map.Steps.{length-le_from_distinct_below}
use Rattle.oper_core.specs.State.{is_among}
use Rattle.number_lists.specs.Lists.{Lists, list_at, AreAsMany, IsFree, IsPushed, IsPopped, IsEmptied, IsCleared, IsPoured, IsWider, IsLonger, AreAdded}
use Rattle.number_lists.specs.Sparse.{listed, seen, AreStanding, IsStood, IsBegun}
use Rattle.number_lists.proofs.Links.{all-apart, first-apart}
use Rattle.number_lists.proofs.Placed.{among-more, among-place, distinct-push, read-last}

at-map : (f : ℕ → ℕ) (ls : List (List ℕ)) (i : ℕ) → list_at (map (map f) ls) i ≡ map f (list_at ls i)
at-map f [] i = refl
at-map f (xs ∷ ls) zero = refl
at-map f (xs ∷ ls) (suc i) = at-map f ls i

-- what a list shows
pub at-list : (numbers : List ℕ) (ls : List (List ℕ)) (i : ℕ) → list_at (listed numbers ls) i ≡ map (slice_index numbers) (list_at ls (suc i))
at-list numbers [] i = refl
at-list numbers (free ∷ ls) i = at-map (slice_index numbers) ls i

pub length-listed : (numbers : List ℕ) (ls : List (List ℕ)) → length (listed numbers ls) ≡ length ls - 1
length-listed numbers [] = refl
length-listed numbers (free ∷ ls) = omega (arith, length-map ls (map (slice_index numbers)))

pub among-map : (f : ℕ → ℕ) (xs : List ℕ) (k : ℕ) → IsTrue (is_among k xs) → IsTrue (is_among (f k) (map f xs))
among-map f [] k t = absurd (both_ways _ refl t)
among-map f (x ∷ xs) k t = elim (or_cases (k == x) (is_among k xs) t) [
  | inl e ↦ or_left (f k == f x) (is_among (f k) (map f xs)) (eq-eqb (f k) (f x) (ap f (eqb-true k x e)))
  | inr r ↦ or_right (f k == f x) (is_among (f k) (map f xs)) (among-map f xs k r)
]

pub among-unmap : (f : ℕ → ℕ) (xs : List ℕ) (m : ℕ) → IsTrue (is_among m (map f xs)) → (k : ℕ) × IsTrue (is_among k xs) × (f k ≡ m)
among-unmap f [] m t = absurd (both_ways _ refl t)
among-unmap f (x ∷ xs) m t = elim (or_cases (m == f x) (is_among m (map f xs)) t) [
  | inl e ↦ (x, or_left (x == x) (is_among x xs) (eq-eqb x x refl), sym (eqb-true m (f x) e))
  | inr r ↦ let p = among-unmap f xs m r in (p.0, or_right (p.0 == x) (is_among p.0 xs) p.1, p.2)
]

map-same : (f g : ℕ → ℕ) (xs : List ℕ) → ((k : ℕ) → IsTrue (is_among k xs) → f k ≡ g k) → map f xs ≡ map g xs
map-same f g [] same = refl
map-same f g (x ∷ xs) same =
    ap (λ (h : ℕ). h ∷ map f xs) (same x (or_left (x == x) (is_among x xs) (eq-eqb x x refl)))
    ∙ ap (λ (t : List ℕ). g x ∷ t) (map-same f g xs (λ k t. same k (or_right (k == x) (is_among k xs) t)))

-- the first of a list is among it
pub first-below : (ls : List (List ℕ)) (i k : ℕ) (rest : List ℕ) → list_at ls i ≡ k ∷ rest → IsTrue (is_among k (list_at ls i))
first-below ls i k rest e = subst (λ (xs : List ℕ). IsTrue (is_among k xs)) (sym e) (or_left (k == k) (is_among k rest) (eq-eqb k k refl))

-- what is shown among a list stands at one of its places, and the other way round
pub shown : (numbers : List ℕ) (ls : List (List ℕ)) (i k : ℕ) → IsTrue (is_among k (list_at ls (suc i))) → IsTrue (is_among (slice_index numbers k) (list_at (listed numbers ls) i))
shown numbers ls i k t = subst (λ (xs : List ℕ). IsTrue (is_among (slice_index numbers k) xs)) (sym (at-list numbers ls i)) (among-map (slice_index numbers) (list_at ls (suc i)) k t)

pub stands : (numbers : List ℕ) (ls : List (List ℕ)) (i m : ℕ) → IsTrue (is_among m (list_at (listed numbers ls) i)) → (k : ℕ) × IsTrue (is_among k (list_at ls (suc i))) × (slice_index numbers k ≡ m)
stands numbers ls i m t = among-unmap (slice_index numbers) (list_at ls (suc i)) m (subst (λ (xs : List ℕ). IsTrue (is_among m xs)) (at-list numbers ls i) t)

-- a number that is in no list stands at no place in one
pub stands-not : (numbers : List ℕ) (ls : List (List ℕ)) (m : ℕ) → IsFree (listed numbers ls) m → (i k : ℕ) → IsTrue (is_among k (list_at ls (suc i))) → slice_index numbers k ≡ m → ⊥
stands-not numbers ls m free i k t e = free i (subst (λ (n : ℕ). IsTrue (is_among n (list_at (listed numbers ls) i))) e (shown numbers ls i k t))

not-first : (ls : List (List ℕ)) (k i : ℕ) → list_at ls 0 ≡ [] → IsTrue (is_among k (list_at ls i)) → (j : ℕ) × IsTrue (is_among k (list_at ls (suc j)))
not-first ls k zero none t = absurd (both_ways _ refl (subst (λ (xs : List ℕ). IsTrue (is_among k xs)) none t))
not-first ls k (suc i) none t = (i, t)

same-seen : (old new : Lists) (numbers nums : List ℕ) (items room : ℕ) → length new.lists ≡ length old.lists → new.list_room ≡ old.list_room → AreAsMany (seen old numbers items room) (seen new nums items room)
same-seen old new numbers nums items room lists list_room = record {
  lists = omega (arith, length-listed nums new.lists, length-listed numbers old.lists, lists);
  items = refl;
  list_room = omega (arith, lists, list_room);
  item_room = refl;
}

back-to : (old new : Lists) → IsWider old new → (i k : ℕ) → IsTrue (is_among k (list_at new.lists i)) → IsTrue (is_among k (list_at old.lists i))
back-to old new is i k t = subst (λ (xs : List ℕ). IsTrue (is_among k xs)) (is.here i) t

kept-more : (xs : List ℕ) (v k : ℕ) → (k ≡ length xs → ⊥) → slice_index (xs ++ v ∷ []) k ≡ slice_index xs k
kept-more [] v zero ne = absurd (ne refl)
kept-more [] v (suc k) ne = refl
kept-more (x ∷ xs) v zero ne = refl
kept-more (x ∷ xs) v (suc k) ne = kept-more xs v k (λ e. ne (ap suc e))

-- where no place is free, there are fewer places than numbers, if one number stands at none
module _ (places : Lists) (numbers : List ℕ) (items item : ℕ) (are : AreStanding places numbers items) (none : list_at places.lists 0 ≡ []) where
  in-list : (k : ℕ) → k < length numbers → (i : ℕ) × IsTrue (is_among k (list_at places.lists (suc i)))
  in-list k lt = let p = are.placed k lt in not-first places.lists k p.0 none p.1

  distinct : IsDistinct nat_eq numbers
  distinct = IsDistinct-from_apart nat_eq numbers (λ i j d lt below. false_from_ne_true _ (λ t.
      let low : i < length numbers = omega (arith, lt, below) in
      let p = in-list i low in
      let q = in-list j below in
      let e : slice_index numbers i ≡ slice_index numbers j = get_or_default numbers i 0 d low ∙ eqb-true _ _ t ∙ sym (get_or_default numbers j 0 d below) in
      omega (arith, are.once p.0 q.0 i j p.1 q.1 e, lt)))

  pub fewer : item < items → IsFree (listed numbers places.lists) item → length numbers < items
  fewer lt free =
      let out : IsFalse (is_among item numbers) = false_from_ne_true _ (λ t.
      let p = among-place item numbers t in
      let q = in-list p.0 p.1 in
      stands-not numbers places.lists item free q.0 p.0 q.1 p.2) in
      let all = length-le_from_distinct_below (numbers ++ item ∷ []) items (distinct-push numbers item out distinct) (λ q t. elim ((among-more q item numbers).0 t) [
        | inl old ↦
            let p = among-place q numbers old in
            let r = in-list p.0 p.1 in
            omega (arith, are.small r.0 p.0 r.1, p.2)
        | inr e ↦ omega (arith, e, lt)
      ]) in
      omega (arith, all, length-append numbers (item ∷ []))

-- a place that was in no list is put in front of one
module _ (old new : Lists) (list place : ℕ) (free : IsFree old.lists place) (push : IsPushed old list place new) where
  not-place : (i k : ℕ) → IsTrue (is_among k (list_at old.lists i)) → k ≡ place → ⊥
  not-place i k t e = free i (subst (λ (n : ℕ). IsTrue (is_among n (list_at old.lists i))) e t)

  push-was : (i k : ℕ) → IsTrue (is_among k (list_at new.lists i)) → ((k ≡ place) × (i ≡ list)) ⊎ (IsTrue (is_among k (list_at old.lists i)) × (k ≡ place → ⊥))
  push-was i k t = elim (cases_eq i list) [
    | inl e ↦ elim (or_cases (k == place) (is_among k (list_at old.lists list)) (subst (λ (xs : List ℕ). IsTrue (is_among k xs)) push.here (subst (λ (j : ℕ). IsTrue (is_among k (list_at new.lists j))) e t))) [
      | inl q ↦ inl (eqb-true k place q, e)
      | inr r ↦ let m = subst (λ (j : ℕ). IsTrue (is_among k (list_at old.lists j))) (sym e) r in inr (m, not-place i k m)
    ]
    | inr ne ↦ let m = subst (λ (xs : List ℕ). IsTrue (is_among k xs)) (push.others i ne) t in inr (m, not-place i k m)
  ]

  push-is : (i k : ℕ) → IsTrue (is_among k (list_at old.lists i)) → IsTrue (is_among k (list_at new.lists i))
  push-is i k t = elim (cases_eq i list) [
    | inl e ↦
        let m = subst (λ (j : ℕ). IsTrue (is_among k (list_at old.lists j))) e t in
        subst (λ (j : ℕ). IsTrue (is_among k (list_at new.lists j))) (sym e) (subst (λ (xs : List ℕ). IsTrue (is_among k xs)) (sym push.here) (or_right (k == place) (is_among k (list_at old.lists list)) m))
    | inr ne ↦ subst (λ (xs : List ℕ). IsTrue (is_among k xs)) (sym (push.others i ne)) t
  ]

  push-here : (k : ℕ) → k ≡ place → IsTrue (is_among k (list_at new.lists list))
  push-here k e = subst (λ (xs : List ℕ). IsTrue (is_among k xs)) (sym push.here) (or_left (k == place) (is_among k (list_at old.lists list)) (eq-eqb k place e))

module _ (old mid new : Lists) (numbers nums : List ℕ) (items list item place : ℕ) (are : AreStanding old numbers items) (stood : IsStood item place old numbers mid nums) (push : IsPushed mid (suc list) place new) (free : IsFree (listed numbers old.lists) item) where
  mid-old : (i k : ℕ) → IsTrue (is_among k (list_at mid.lists i)) → IsTrue (is_among k (list_at old.lists i))
  mid-old zero k t = stood.only k t
  mid-old (suc i) k t = subst (λ (xs : List ℕ). IsTrue (is_among k xs)) (stood.lists i) t

  old-mid : (i k : ℕ) → (k ≡ place → ⊥) → IsTrue (is_among k (list_at old.lists i)) → IsTrue (is_among k (list_at mid.lists i))
  old-mid zero k ne t = elim (stood.free_places k t) [ inl m ↦ m | inr e ↦ absurd (ne e) ]
  old-mid (suc i) k ne t = subst (λ (xs : List ℕ). IsTrue (is_among k xs)) (sym (stood.lists i)) t

  was : (i k : ℕ) → IsTrue (is_among k (list_at new.lists i)) → ((k ≡ place) × (i ≡ suc list)) ⊎ (IsTrue (is_among k (list_at old.lists i)) × (k ≡ place → ⊥))
  was i k t = elim (push-was mid new (suc list) place stood.free push i k t) [ inl p ↦ inl p | inr m ↦ inr (mid-old i k m.0, m.1) ]

  larger : length numbers ≤ length nums
  larger = elim stood.grown [ inl e ↦ omega (arith, e) | inr g ↦ omega (arith, g.1) ]

  low : (k : ℕ) → k < length nums → (k ≡ place → ⊥) → k < length numbers
  low k lt ne = elim stood.grown [ inl e ↦ omega (arith, e, lt) | inr g ↦ elim (cases_lt k (length numbers)) [ inl under ↦ under | inr ge ↦ absurd (ne (omega (arith, g.1, g.2, lt, ge))) ] ]

  pub pushed-standing : length nums ≤ items → item < items → AreStanding new nums items
  pushed-standing fit small = record {
    below = λ i k t. elim (was i k t) [ inl p ↦ omega (arith, p.0, stood.below) | inr m ↦ omega (arith, are.below i k m.0, larger) ];
    apart = λ i j k t u. elim (was i k t) [
      | inl p ↦ elim (was j k u) [ inl q ↦ p.1 ∙ sym q.1 | inr m ↦ absurd (m.1 p.0) ]
      | inr m ↦ elim (was j k u) [ inl q ↦ absurd (m.1 q.0) | inr n ↦ are.apart i j k m.0 n.0 ]
    ];
    placed = λ k lt. elim (cases_eq k place) [
      | inl e ↦ (suc list, push-here mid new (suc list) place stood.free push k e)
      | inr ne ↦
          let p = are.placed k (low k lt ne) in
          (p.0, push-is mid new (suc list) place stood.free push p.0 k (old-mid p.0 k ne p.1))
    ];
    small = λ i k t. elim (was (suc i) k t) [
      | inl p ↦ omega (arith, ap (slice_index nums) p.0, stood.here, small)
      | inr m ↦ omega (arith, are.small i k m.0, stood.kept k m.1)
    ];
    once = λ i j k l t u e. elim (was (suc i) k t) [
      | inl p ↦ elim (was (suc j) l u) [
        | inl q ↦ p.0 ∙ sym q.0
        | inr m ↦ absurd (stands-not numbers old.lists item free j l m.0 (sym (stood.kept l m.1) ∙ sym e ∙ ap (slice_index nums) p.0 ∙ stood.here))
      ]
      | inr m ↦ elim (was (suc j) l u) [
        | inl q ↦ absurd (stands-not numbers old.lists item free i k m.0 (sym (stood.kept k m.1) ∙ e ∙ ap (slice_index nums) q.0 ∙ stood.here))
        | inr n ↦ are.once i j k l m.0 n.0 (sym (stood.kept k m.1) ∙ e ∙ stood.kept l n.1)
      ]
    ];
    count = push.same.items ∙ stood.count;
    fit = fit;
    few = omega (arith, push.same.lists, stood.size, are.few);
  }

  kept-list : (j : ℕ) → map (slice_index nums) (list_at mid.lists (suc j)) ≡ list_at (listed numbers old.lists) j
  kept-list j =
      map-same (slice_index nums) (slice_index numbers) (list_at mid.lists (suc j)) (λ k t. stood.kept k (not-place mid new (suc list) place stood.free push (suc j) k t))
      ∙ ap (map (slice_index numbers)) (stood.lists j)
      ∙ sym (at-list numbers old.lists j)

  pub pushed-seen : (room : ℕ) → IsPushed (seen old numbers items room) list item (seen new nums items room)
  pushed-seen room = record {
    here = at-list nums new.lists list ∙ ap (map (slice_index nums)) push.here ∙ ap (λ (h : ℕ). h ∷ map (slice_index nums) (list_at mid.lists (suc list))) stood.here ∙ ap (λ (t : List ℕ). item ∷ t) (kept-list list);
    others = λ j ne. at-list nums new.lists j ∙ ap (map (slice_index nums)) (push.others (suc j) (λ e. ne (omega (arith, e)))) ∙ kept-list j;
    same = same-seen old new numbers nums items room (push.same.lists ∙ stood.size) (push.same.list_room ∙ stood.list_room);
  }

module _ (old mid new : Lists) (numbers : List ℕ) (items list place : ℕ) (are : AreStanding old numbers items) (pop : IsPopped old (suc list) place mid) (push : IsPushed mid 0 place new) where
  in-old : IsTrue (is_among place (list_at old.lists (suc list)))
  in-old = subst (λ (xs : List ℕ). IsTrue (is_among place xs)) (sym pop.here) (or_left (place == place) (is_among place (list_at mid.lists (suc list))) (eq-eqb place place refl))

  down : (i k : ℕ) → IsTrue (is_among k (list_at mid.lists i)) → IsTrue (is_among k (list_at old.lists i))
  down i k t = elim (cases_eq i (suc list)) [
    | inl e ↦
        let m = subst (λ (j : ℕ). IsTrue (is_among k (list_at mid.lists j))) e t in
        subst (λ (j : ℕ). IsTrue (is_among k (list_at old.lists j))) (sym e) (subst (λ (xs : List ℕ). IsTrue (is_among k xs)) (sym pop.here) (or_right (k == place) (is_among k (list_at mid.lists (suc list))) m))
    | inr ne ↦ subst (λ (xs : List ℕ). IsTrue (is_among k xs)) (pop.others i ne) t
  ]

  up : (i k : ℕ) → (k ≡ place → ⊥) → IsTrue (is_among k (list_at old.lists i)) → IsTrue (is_among k (list_at mid.lists i))
  up i k off t = elim (cases_eq i (suc list)) [
    | inl e ↦
        let m = subst (λ (xs : List ℕ). IsTrue (is_among k xs)) pop.here (subst (λ (j : ℕ). IsTrue (is_among k (list_at old.lists j))) e t) in
        elim (or_cases (k == place) (is_among k (list_at mid.lists (suc list))) m) [
          | inl q ↦ absurd (off (eqb-true k place q))
          | inr r ↦ subst (λ (j : ℕ). IsTrue (is_among k (list_at mid.lists j))) (sym e) r
        ]
    | inr ne ↦ subst (λ (xs : List ℕ). IsTrue (is_among k xs)) (sym (pop.others i ne)) t
  ]

  left : (i k : ℕ) → IsTrue (is_among k (list_at new.lists i)) → ((k ≡ place) × (i ≡ 0)) ⊎ (IsTrue (is_among k (list_at old.lists i)) × (k ≡ place → ⊥))
  left i k t = elim (push-was mid new 0 place pop.free push i k t) [ inl p ↦ inl p | inr m ↦ inr (down i k m.0, m.1) ]

  -- what is in a list but the first
  left-in : (i k : ℕ) → IsTrue (is_among k (list_at new.lists (suc i))) → IsTrue (is_among k (list_at old.lists (suc i))) × (k ≡ place → ⊥)
  left-in i k t = elim (left (suc i) k t) [ inl p ↦ absurd (omega (arith, p.1)) | inr m ↦ m ]

  pub popped-standing : AreStanding new numbers items
  popped-standing = record {
    below = λ i k t. elim (left i k t) [ inl p ↦ omega (arith, p.0, are.below (suc list) place in-old) | inr m ↦ are.below i k m.0 ];
    apart = λ i j k t u. elim (left i k t) [
      | inl p ↦ elim (left j k u) [ inl q ↦ p.1 ∙ sym q.1 | inr m ↦ absurd (m.1 p.0) ]
      | inr m ↦ elim (left j k u) [ inl q ↦ absurd (m.1 q.0) | inr n ↦ are.apart i j k m.0 n.0 ]
    ];
    placed = λ k lt. elim (cases_eq k place) [
      | inl e ↦ (0, push-here mid new 0 place pop.free push k e)
      | inr ne ↦ let p = are.placed k lt in (p.0, push-is mid new 0 place pop.free push p.0 k (up p.0 k ne p.1))
    ];
    small = λ i k t. are.small i k (left-in i k t).0;
    once = λ i j k l t u e. are.once i j k l (left-in i k t).0 (left-in j l u).0 e;
    count = push.same.items ∙ pop.same.items ∙ are.count;
    fit = are.fit;
    few = omega (arith, push.same.lists, pop.same.lists, are.few);
  }

  behind : (j : ℕ) → list_at new.lists (suc j) ≡ list_at mid.lists (suc j)
  behind j = push.others (suc j) (λ e. omega (arith, e))

  pub popped-seen : (room : ℕ) → IsPopped (seen old numbers items room) list (slice_index numbers place) (seen new numbers items room)
  popped-seen room = record {
    here = at-list numbers old.lists list ∙ ap (map (slice_index numbers)) pop.here ∙ ap (λ (xs : List ℕ). slice_index numbers place ∷ map (slice_index numbers) xs) (sym (behind list)) ∙ ap (λ (t : List ℕ). slice_index numbers place ∷ t) (sym (at-list numbers new.lists list));
    others = λ j ne. at-list numbers new.lists j ∙ ap (map (slice_index numbers)) (behind j ∙ pop.others (suc j) (λ e. ne (omega (arith, e)))) ∙ sym (at-list numbers old.lists j);
    free = λ i t.
        let p = stands numbers new.lists i (slice_index numbers place) t in
        let m = left-in i p.0 p.1 in
        m.1 (are.once i list p.0 place m.0 in-old p.2);
    below = are.small list place in-old;
    same = same-seen old new numbers numbers items room (push.same.lists ∙ pop.same.lists) (push.same.list_room ∙ pop.same.list_room);
  }

-- all places of one list but the first are moved to another one
module _ (old new : Lists) (numbers : List ℕ) (items from to : ℕ) (are : AreStanding old numbers items) (pour : IsPoured old (suc from) to new) where
  gone : (k : ℕ) → IsTrue (is_among k (list_at new.lists (suc from))) → ⊥
  gone k t = both_ways _ refl (subst (λ (xs : List ℕ). IsTrue (is_among k xs)) pour.empty t)

  came : (i k : ℕ) → IsTrue (is_among k (list_at new.lists i)) → IsTrue (is_among k (list_at old.lists i)) ⊎ (IsTrue (is_among k (list_at old.lists (suc from))) × (i ≡ to))
  came i k t = elim (cases_eq i to) [
    | inl e ↦ elim ((pour.here k).0 (subst (λ (j : ℕ). IsTrue (is_among k (list_at new.lists j))) e t)) [
      | inl stay ↦ inl (subst (λ (j : ℕ). IsTrue (is_among k (list_at old.lists j))) (sym e) stay)
      | inr moved ↦ inr (moved, e)
    ]
    | inr ne ↦ elim (cases_eq i (suc from)) [
      | inl e ↦ absurd (gone k (subst (λ (j : ℕ). IsTrue (is_among k (list_at new.lists j))) e t))
      | inr off ↦ inl (subst (λ (xs : List ℕ). IsTrue (is_among k xs)) (pour.others i off ne) t)
    ]
  ]

  goes : (i k : ℕ) → IsTrue (is_among k (list_at old.lists i)) → (j : ℕ) × IsTrue (is_among k (list_at new.lists j))
  goes i k t = elim (cases_eq i (suc from)) [
    | inl e ↦ (to, (pour.here k).1 (inr (subst (λ (j : ℕ). IsTrue (is_among k (list_at old.lists j))) e t)))
    | inr off ↦ elim (cases_eq i to) [
      | inl e ↦ (to, (pour.here k).1 (inl (subst (λ (j : ℕ). IsTrue (is_among k (list_at old.lists j))) e t)))
      | inr ne ↦ (i, subst (λ (xs : List ℕ). IsTrue (is_among k xs)) (sym (pour.others i off ne)) t)
    ]
  ]

  -- where a place of a list but the first was
  before : (i k : ℕ) → IsTrue (is_among k (list_at new.lists (suc i))) → (j : ℕ) × IsTrue (is_among k (list_at old.lists (suc j)))
  before i k t = elim (came (suc i) k t) [ inl stay ↦ (i, stay) | inr m ↦ (from, m.0) ]

  pub poured-standing : AreStanding new numbers items
  poured-standing = record {
    below = λ i k t. elim (came i k t) [ inl stay ↦ are.below i k stay | inr m ↦ are.below (suc from) k m.0 ];
    apart = λ i j k t u. elim (came i k t) [
      | inl stay ↦ elim (came j k u) [
        | inl too ↦ are.apart i j k stay too
        | inr m ↦ absurd (gone k (subst (λ (l : ℕ). IsTrue (is_among k (list_at new.lists l))) (are.apart i (suc from) k stay m.0) t))
      ]
      | inr m ↦ elim (came j k u) [
        | inl stay ↦ absurd (gone k (subst (λ (l : ℕ). IsTrue (is_among k (list_at new.lists l))) (are.apart j (suc from) k stay m.0) u))
        | inr n ↦ m.1 ∙ sym n.1
      ]
    ];
    placed = λ k lt. let p = are.placed k lt in goes p.0 k p.1;
    small = λ i k t. let p = before i k t in are.small p.0 k p.1;
    once = λ i j k l t u e. let p = before i k t in let q = before j l u in are.once p.0 q.0 k l p.1 q.1 e;
    count = pour.same.items ∙ are.count;
    fit = are.fit;
    few = omega (arith, pour.same.lists, are.few);
  }

  emptied-list : list_at (listed numbers new.lists) from ≡ []
  emptied-list = at-list numbers new.lists from ∙ ap (map (slice_index numbers)) pour.empty

  same-list : (j : ℕ) → (j ≡ from → ⊥) → (suc j ≡ to → ⊥) → list_at (listed numbers new.lists) j ≡ list_at (listed numbers old.lists) j
  same-list j off ne = at-list numbers new.lists j ∙ ap (map (slice_index numbers)) (pour.others (suc j) (λ e. off (omega (arith, e))) ne) ∙ sym (at-list numbers old.lists j)

  pub cleared-seen : to ≡ 0 → (room : ℕ) → IsCleared (seen old numbers items room) from (seen new numbers items room)
  cleared-seen zero_is room = record {
    here = emptied-list;
    others = λ j ne. same-list j ne (λ e. omega (arith, e, zero_is));
    free = λ k t i u.
        let p = stands numbers old.lists from k t in
        let q = stands numbers new.lists i k u in
        elim (came (suc i) q.0 q.1) [
          | inl stay ↦
              let same : q.0 ≡ p.0 = are.once i from q.0 p.0 stay p.1 (q.2 ∙ sym p.2) in
              let at = are.apart (suc i) (suc from) q.0 stay (subst (λ (n : ℕ). IsTrue (is_among n (list_at old.lists (suc from)))) (sym same) p.1) in
              gone q.0 (subst (λ (l : ℕ). IsTrue (is_among q.0 (list_at new.lists l))) at q.1)
          | inr m ↦ omega (arith, m.1, zero_is)
        ];
    same = same-seen old new numbers numbers items room pour.same.lists pour.same.list_room;
  }

  pub poured-seen : (into : ℕ) → to ≡ suc into → (room : ℕ) → IsPoured (seen old numbers items room) from into (seen new numbers items room)
  poured-seen into at room = record {
    here = λ k. (
      (λ t.
          let p = stands numbers new.lists into k t in
          elim (came (suc into) p.0 p.1) [
            | inl stay ↦ inl (subst (λ (n : ℕ). IsTrue (is_among n (list_at (listed numbers old.lists) into))) p.2 (shown numbers old.lists into p.0 stay))
            | inr m ↦ inr (subst (λ (n : ℕ). IsTrue (is_among n (list_at (listed numbers old.lists) from))) p.2 (shown numbers old.lists from p.0 m.0))
          ]),
      (λ s. elim s [
        | inl t ↦
            let p = stands numbers old.lists into k t in
            let m = (pour.here p.0).1 (inl (subst (λ (l : ℕ). IsTrue (is_among p.0 (list_at old.lists l))) (sym at) p.1)) in
            subst (λ (n : ℕ). IsTrue (is_among n (list_at (listed numbers new.lists) into))) p.2 (shown numbers new.lists into p.0 (subst (λ (l : ℕ). IsTrue (is_among p.0 (list_at new.lists l))) at m))
        | inr t ↦
            let p = stands numbers old.lists from k t in
            let m = (pour.here p.0).1 (inr p.1) in
            subst (λ (n : ℕ). IsTrue (is_among n (list_at (listed numbers new.lists) into))) p.2 (shown numbers new.lists into p.0 (subst (λ (l : ℕ). IsTrue (is_among p.0 (list_at new.lists l))) at m))
      ]),
    );
    empty = emptied-list;
    others = λ j off ne. same-list j off (λ e. ne (omega (arith, e, at)));
    same = same-seen old new numbers numbers items room pour.same.lists pour.same.list_room;
  }

pub emptied-seen : (old new : Lists) (numbers : List ℕ) (items list room : ℕ) → IsEmptied old (suc list) new → IsEmptied (seen old numbers items room) list (seen new numbers items room)
emptied-seen old new numbers items list room is = record { was = at-list numbers old.lists list ∙ ap (map (slice_index numbers)) is.was; same = ap (λ (w : Lists). seen w numbers items room) is.same }

-- one list more, where there is the first
pub wider-standing : (old new : Lists) (numbers : List ℕ) (items : ℕ) → IsWider old new → length old.lists < 4294967296 → AreStanding old numbers items → AreStanding new numbers items
wider-standing old new numbers items is few are = record {
  below = λ i k t. are.below i k (back-to old new is i k t);
  apart = λ i j k t u. are.apart i j k (back-to old new is i k t) (back-to old new is j k u);
  placed = λ k lt. let p = are.placed k lt in (p.0, subst (λ (xs : List ℕ). IsTrue (is_among k xs)) (sym (is.here p.0)) p.1);
  small = λ i k t. are.small i k (back-to old new is (suc i) k t);
  once = λ i j k l t u. are.once i j k l (back-to old new is (suc i) k t) (back-to old new is (suc j) l u);
  count = is.items ∙ are.count;
  fit = are.fit;
  few = omega (arith, is.lists, few);
}

pub wider-seen : (old mid new : Lists) (numbers : List ℕ) (items room : ℕ) → IsBegun old mid → IsWider mid new → IsWider (seen old numbers items room) (seen new numbers items room)
wider-seen old mid new numbers items room begun is = record {
  here = λ j. at-list numbers new.lists j ∙ ap (map (slice_index numbers)) (is.here (suc j) ∙ begun.here (suc j)) ∙ sym (at-list numbers old.lists j);
  lists = omega (arith, length-listed numbers new.lists, length-listed numbers old.lists, is.lists, begun.size);
  items = refl;
  list_room = omega (arith, is.lists, is.list_room, begun.size, begun.list_room);
  item_room = refl;
}

-- where the first list is made
pub begun-standing : (old new : Lists) (numbers : List ℕ) (items : ℕ) → IsBegun old new → AreStanding old numbers items → AreStanding new numbers items
begun-standing old new numbers items is are =
    let back : (i k : ℕ) → IsTrue (is_among k (list_at new.lists i)) → IsTrue (is_among k (list_at old.lists i)) = λ i k t. subst (λ (xs : List ℕ). IsTrue (is_among k xs)) (is.here i) t in
    record {
      below = λ i k t. are.below i k (back i k t);
      apart = λ i j k t u. are.apart i j k (back i k t) (back j k u);
      placed = λ k lt. let p = are.placed k lt in (p.0, subst (λ (xs : List ℕ). IsTrue (is_among k xs)) (sym (is.here p.0)) p.1);
      small = λ i k t. are.small i k (back (suc i) k t);
      once = λ i j k l t u. are.once i j k l (back (suc i) k t) (back (suc j) l u);
      count = is.items ∙ are.count;
      fit = are.fit;
      few = omega (arith, is.size, are.few);
    }

-- where the room alone has changed
pub same-standing : (old new : Lists) (numbers : List ℕ) (items : ℕ) → new.lists ≡ old.lists → new.items ≡ old.items → AreStanding old numbers items → AreStanding new numbers items
same-standing old new numbers items e f are =
    let back : (i k : ℕ) → IsTrue (is_among k (list_at new.lists i)) → IsTrue (is_among k (list_at old.lists i)) = λ i k t. subst (λ (ls : List (List ℕ)). IsTrue (is_among k (list_at ls i))) e t in
    record {
      below = λ i k t. are.below i k (back i k t);
      apart = λ i j k t u. are.apart i j k (back i k t) (back j k u);
      placed = λ k lt. let p = are.placed k lt in (p.0, subst (λ (ls : List (List ℕ)). IsTrue (is_among k (list_at ls p.0))) (sym e) p.1);
      small = λ i k t. are.small i k (back (suc i) k t);
      once = λ i j k l t u. are.once i j k l (back (suc i) k t) (back (suc j) l u);
      count = f ∙ are.count;
      fit = are.fit;
      few = omega (arith, ap length e, are.few);
    }

-- so many numbers more
pub added-standing : (places : Lists) (numbers : List ℕ) (items count : ℕ) → AreStanding places numbers items → AreStanding places numbers (items + count)
added-standing places numbers items count are = record {
  below = are.below;
  apart = are.apart;
  placed = are.placed;
  small = λ i k t. omega (arith, are.small i k t);
  once = are.once;
  count = are.count;
  fit = omega (arith, are.fit);
  few = are.few;
}

pub added-seen : (places : Lists) (numbers : List ℕ) (items count room less : ℕ) → room ≡ less + count → AreStanding places numbers items → AreAdded count (seen places numbers items room) (seen places numbers (items + count) less)
added-seen places numbers items count room less e are = record {
  here = λ j. refl;
  free = λ k le i t. let p = stands numbers places.lists i k t in omega (arith, are.small i p.0 p.1, p.2, le);
  lists = refl;
  items = refl;
  list_room = refl;
  item_room = omega (arith, e);
}

-- the numbers of a list are distinct
distinct-map : (f : ℕ → ℕ) (xs : List ℕ) → IsDistinct nat_eq xs → ((k l : ℕ) → IsTrue (is_among k xs) → IsTrue (is_among l xs) → f k ≡ f l → k ≡ l) → IsDistinct nat_eq (map f xs)
distinct-map f [] is one = is
distinct-map f (x ∷ xs) is one =
    let here : IsTrue (is_among x (x ∷ xs)) = or_left (x == x) (is_among x xs) (eq-eqb x x refl) in
    let parts = first-apart x xs is in
    IsDistinct-cons nat_eq (f x) (map f xs)
    (all-apart (f x) (map f xs) (λ t.
    let q = among-unmap f xs (f x) t in
    parts.0 (subst (λ (k : ℕ). IsTrue (is_among k xs)) (one q.0 x (or_right (q.0 == x) (is_among q.0 xs) q.1) here q.2) q.1)))
    (distinct-map f xs parts.1 (λ k l t u e. one k l (or_right (k == x) (is_among k xs) t) (or_right (l == x) (is_among l xs) u) e))

pub distinct-list : (places : Lists) (numbers : List ℕ) (items list : ℕ) → AreStanding places numbers items → IsDistinct nat_eq (list_at places.lists (suc list)) → IsDistinct nat_eq (map (slice_index numbers) (list_at places.lists (suc list)))
distinct-list places numbers items list are is = distinct-map (slice_index numbers) (list_at places.lists (suc list)) is (λ k l t u e. are.once list list k l t u e)

-- the first so many numbers of a list are replaced
abbrev pub replaced : (ℕ → ℕ) → List ℕ → ℕ → List ℕ
replaced f [] i = []
replaced f (x ∷ xs) zero = x ∷ xs
replaced f (x ∷ xs) (suc i) = f x ∷ replaced f xs i

pub replaced-none : (f : ℕ → ℕ) (xs : List ℕ) → replaced f xs 0 ≡ xs
replaced-none f [] = refl
replaced-none f (x ∷ xs) = refl

pub replaced-next : (f : ℕ → ℕ) (xs : List ℕ) (i v : ℕ) → i < length xs → v ≡ f (slice_index xs i) → slice_set (replaced f xs i) i v ≡ replaced f xs (suc i)
replaced-next f [] i v lt e = absurd (omega (arith, lt))
replaced-next f (x ∷ xs) zero v lt e = ap (λ (h : ℕ). h ∷ xs) e ∙ ap (λ (t : List ℕ). f x ∷ t) (sym (replaced-none f xs))
replaced-next f (x ∷ xs) (suc i) v lt e = ap (λ (t : List ℕ). f x ∷ t) (replaced-next f xs i v (omega (arith, lt)) e)

pub replaced-read : (f : ℕ → ℕ) (xs : List ℕ) (i : ℕ) → slice_index (replaced f xs i) i ≡ slice_index xs i
replaced-read f [] i = refl
replaced-read f (x ∷ xs) zero = refl
replaced-read f (x ∷ xs) (suc i) = replaced-read f xs i

pub replaced-length : (f : ℕ → ℕ) (xs : List ℕ) (i : ℕ) → length (replaced f xs i) ≡ length xs
replaced-length f [] i = refl
replaced-length f (x ∷ xs) zero = refl
replaced-length f (x ∷ xs) (suc i) = ap suc (replaced-length f xs i)

pub replaced-all : (f : ℕ → ℕ) (xs : List ℕ) (i : ℕ) → length xs ≤ i → replaced f xs i ≡ map f xs
replaced-all f [] i le = refl
replaced-all f (x ∷ xs) zero le = absurd (omega (arith, le))
replaced-all f (x ∷ xs) (suc i) le = ap (λ (t : List ℕ). f x ∷ t) (replaced-all f xs i (omega (arith, le)))

-- a free place is taken
pub stood-free : (old new : Lists) (numbers : List ℕ) (item place : ℕ) → old.items ≡ length numbers → IsPopped old 0 place new → IsStood item place old numbers new (slice_set numbers place item)
stood-free old new numbers item place count pop =
    let low : place < length numbers = omega (arith, pop.below, pop.same.items, count) in
    let size = length-set numbers place item in
    record {
      here = get_or-set_same numbers place item 0 low;
      below = omega (arith, low, size);
      kept = λ k ne. get_or-set_other numbers place k item 0 ne;
      free = pop.free;
      lists = λ i. pop.others (suc i) (λ e. omega (arith, e));
      free_places = λ k t. elim (or_cases (k == place) (is_among k (list_at new.lists 0)) (subst (λ (xs : List ℕ). IsTrue (is_among k xs)) pop.here t)) [ inl q ↦ inr (eqb-true k place q) | inr r ↦ inl r ];
      only = λ k t. subst (λ (xs : List ℕ). IsTrue (is_among k xs)) (sym pop.here) (or_right (k == place) (is_among k (list_at new.lists 0)) t);
      size = pop.same.lists;
      count = pop.same.items ∙ count ∙ sym size;
      grown = inl size;
      list_room = pop.same.list_room;
      room = omega (arith, pop.same.items, pop.same.item_room);
    }

-- a place more is taken, where none is free
pub stood-new : (old mid new : Lists) (numbers : List ℕ) (item place : ℕ) → old.items ≡ length numbers → place ≡ length numbers → IsEmptied old 0 mid → IsLonger mid new → IsStood item place old numbers new (numbers ++ item ∷ [])
stood-new old mid new numbers item place count at is longer =
    let size = length-append numbers (item ∷ []) in
    let same : (i : ℕ) → list_at new.lists i ≡ list_at old.lists i = λ i. longer.here i ∙ ap (λ (w : Lists). list_at w.lists i) is.same in
    record {
      here = ap (slice_index (numbers ++ item ∷ [])) at ∙ read-last numbers item;
      below = omega (arith, at, size);
      kept = λ k ne. kept-more numbers item k (λ e. ne (e ∙ sym at));
      free = subst (λ (k : ℕ). IsFree new.lists k) (ap (λ (w : Lists). w.items) is.same ∙ count ∙ sym at) longer.free;
      lists = λ i. same (suc i);
      free_places = λ k t. inl (subst (λ (xs : List ℕ). IsTrue (is_among k xs)) (sym (same 0)) t);
      only = λ k t. subst (λ (xs : List ℕ). IsTrue (is_among k xs)) (same 0) t;
      size = longer.lists ∙ ap (λ (w : Lists). length w.lists) is.same;
      count = longer.items ∙ ap (λ (w : Lists). w.items + 1) is.same ∙ omega (arith, count, size);
      grown = inr (is.was, size, at);
      list_room = longer.list_room ∙ ap (λ (w : Lists). w.list_room) is.same;
      room = omega (arith, longer.items, longer.item_room, ap (λ (w : Lists). w.items) is.same, ap (λ (w : Lists). w.item_room) is.same);
    }

pub standing-none : (places : Lists) → places.lists ≡ [] → places.items ≡ 0 → AreStanding places [] 0
standing-none places e f =
    let nil : (i k : ℕ) → IsTrue (is_among k (list_at places.lists i)) → ⊥ = λ i k t. both_ways _ refl (subst (λ (ls : List (List ℕ)). IsTrue (is_among k (list_at ls i))) e t) in
    record {
      below = λ i k t. absurd (nil i k t);
      apart = λ i j k t. absurd (nil i k t);
      placed = λ k lt. absurd (omega (arith, lt));
      small = λ i k t. absurd (nil (suc i) k t);
      once = λ i j k l t. absurd (nil (suc i) k t);
      count = f;
      fit = omega arith;
      few = omega (arith, ap length e);
    }
