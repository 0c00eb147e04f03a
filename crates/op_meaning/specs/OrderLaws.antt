-- Records in order are the one sorted permutation of them, and together as long as before.
use Rattle.std.proofs.Common.{◌≡◌, ◌<◌, ◌≤◌, ℕ, zero, suc, ◌+◌, ◌*◌, ◌/◌, Bool, true, false, if◌then◌else◌, List, [], ◌∷◌, ◌++◌, length, map, take, get_or, refl, sym, ap, ◌∙◌, subst, ◌⊎◌, inl, inr, add-one, arith, length-append, length-take}
use Rattle.std.specs.List.{concat, range_with_len, sum_by}
use Rattle.std.specs.List.Sorted.{IsPermutation, IsSorted}
use Rattle.std.specs.Ordering.{is_lt, is_gt, is_eq, ordering_reverse}
use Rattle.std.specs.declared.cmp.Ordering.TheVariants.{Less, Equal, Greater}
use Rattle.std.specs.declared.cmp.Ordering.{Ordering}
use Rattle.std.specs.FinMap.{nat_cmp-IsAntisymmetric, slice_cmp-IsAntisymmetric}
use Rattle.std.proofs.Math.Seq.{take-add}
use Rattle.std.proofs.lemmas.Cmp.{nat_list_cmp_total, tied_itself}
use Rattle.std.proofs.lemmas.List.{append-nil}
use Rattle.std.proofs.lemmas.List.Folds.{concat-append}
use Rattle.std.proofs.lemmas.List.FromFn.{map-range_with_len_more}
use Rattle.std.proofs.lemmas.List.Sorted.{IsPermutation-refl, IsPermutation-trans, IsPermutation-cons, IsPermutation-middle, sum_by-IsPermutation, ranks_by, sorted_far}
use Rattle.std.proofs.lemmas.List.Sums.{sum_by-cons}
use Rattle.op_meaning.specs.Order.{record_at, records, byte_order, placed, in_order}

-- ---- the order

same_bytes : (x y : List ℕ) → byte_order x y ≡ Equal → x ≡ y
same_bytes = slice_cmp-IsAntisymmetric nat_cmp-IsAntisymmetric

equal_or_other : (o : Ordering) → (o ≡ Equal) ⊎ (is_eq o ≡ false)
equal_or_other Less = inr refl
equal_or_other Equal = inl refl
equal_or_other Greater = inr refl

equal_from_neither : (o p : Ordering) → p ≡ ordering_reverse o → is_lt p ≡ false → is_lt o ≡ false → o ≡ Equal
equal_from_neither Less p turned above below = cc
equal_from_neither Equal p turned above below = refl
equal_from_neither Greater p turned above below = cc

-- neither comes before the other
same_from_neither : (x y : List ℕ) → is_lt (byte_order x y) ≡ false → is_lt (byte_order y x) ≡ false → x ≡ y
same_from_neither x y not_before not_behind =
    same_bytes x y (equal_from_neither (byte_order x y) (byte_order y x) (nat_list_cmp_total.antisymm y x) not_behind not_before)

-- ---- sorted lists

-- the first of a sorted list is not above any
least : (r : List ℕ) (rs : List (List ℕ)) (j : ℕ) (d : List ℕ) → IsSorted byte_order (r ∷ rs) → j < length (r ∷ rs)
    → is_lt (byte_order (get_or (r ∷ rs) j d) r) ≡ false
least r rs j d up within = sorted_far (λ x y. is_lt (byte_order x y)) (ranks_by nat_list_cmp_total (λ x. x)) (r ∷ rs) up 0 j d (omega arith) within

sorted_tail : (r : List ℕ) (rs : List (List ℕ)) → IsSorted byte_order (r ∷ rs) → IsSorted byte_order rs
sorted_tail r rs up = λ k d low high.
    let next : suc k + 1 ≡ suc (k + 1) = omega arith in
    subst (λ (j : ℕ). is_lt (byte_order (get_or (r ∷ rs) j d) (get_or rs k d)) ≡ false) next (up (suc k) d (omega arith) (omega arith))

-- no record of the list comes before r, which is asked of its first
abbrev IsBefore : List ℕ → List (List ℕ) → Type 0
IsBefore r rs = (d : List ℕ) → 0 < length rs → is_lt (byte_order (get_or rs 0 d) r) ≡ false

sorted_cons : (r : List ℕ) (rs : List (List ℕ)) → IsBefore r rs → IsSorted byte_order rs → IsSorted byte_order (r ∷ rs)
sorted_cons r rs before up zero d low high = before d (omega arith)
sorted_cons r rs before up (suc k) d low high =
    let next : suc (k + 1) ≡ suc k + 1 = omega arith in
    subst (λ (j : ℕ). is_lt (byte_order (get_or (r ∷ rs) j d) (get_or rs k d)) ≡ false) next (up k d (omega arith) (omega arith))

-- ---- how often a record is in a list

abbrev pub times : List ℕ → List (List ℕ) → ℕ
times v rs = sum_by (λ r. if is_eq (byte_order v r) then 1 else 0) rs

times-cons : (v r : List ℕ) (rs : List (List ℕ)) → times v (r ∷ rs) ≡ (if is_eq (byte_order v r) then 1 else 0) + times v rs
times-cons v r rs = sum_by-cons (λ s. if is_eq (byte_order v s) then 1 else 0) r rs

times_first : (r : List ℕ) (rs : List (List ℕ)) → times r (r ∷ rs) ≡ 1 + times r rs
times_first r rs = times-cons r r rs ∙ ap (λ (o : Ordering). (if is_eq o then 1 else 0) + times r rs) (tied_itself nat_list_cmp_total r)

times_other : (v r : List ℕ) (rs : List (List ℕ)) → is_eq (byte_order v r) ≡ false → times v (r ∷ rs) ≡ times v rs
times_other v r rs other = let none = ap {B = ℕ} (λ (b : Bool). if b then 1 else 0) other in omega (arith, none, times-cons v r rs)

found_at : (v : List ℕ) (rs : List (List ℕ)) → 0 < times v rs → (j : ℕ) × (j < length rs) × (get_or rs j v ≡ v)
found_at v [] some = absurd (omega arith)
found_at v (r ∷ rs) some = elim (equal_or_other (byte_order v r)) [
  | inl e ↦ (0, omega arith, sym (same_bytes v r e))
  | inr other ↦
      let rest = found_at v rs (omega (arith, times_other v r rs other)) in
      (suc rest.0, omega (arith, rest.1), rest.2)
]

-- a record that is in a sorted list is not before its first
not_before : (v r : List ℕ) (rs : List (List ℕ)) → IsSorted byte_order (r ∷ rs) → 0 < times v (r ∷ rs) → is_lt (byte_order v r) ≡ false
not_before v r rs up some =
    let found = found_at v (r ∷ rs) some in
    subst (λ (w : List ℕ). is_lt (byte_order w r) ≡ false) found.2 (least r rs found.0 v up found.1)

-- sorted lists that hold the same records as often are one list
pub only_sorted : (xs ys : List (List ℕ)) → IsSorted byte_order xs → IsSorted byte_order ys → ((v : List ℕ) → times v xs ≡ times v ys) → xs ≡ ys
only_sorted [] [] up also same = refl
only_sorted [] (y ∷ ys) up also same = absurd (omega (arith, same y, times_first y ys))
only_sorted (x ∷ xs) [] up also same = absurd (omega (arith, same x, times_first x xs))
only_sorted (x ∷ xs) (y ∷ ys) up also same =
    let first : x ≡ y =
    same_from_neither x y (not_before x y ys also (omega (arith, same x, times_first x xs))) (not_before y x xs up (omega (arith, same y, times_first y ys))) in
    let rest : xs ≡ ys =
    only_sorted xs ys (sorted_tail x xs up) (sorted_tail y ys also)
    (λ v. let one = ap {B = ℕ} (λ (z : List ℕ). if is_eq (byte_order v z) then 1 else 0) first in omega (arith, one, same v, times-cons v x xs, times-cons v y ys)) in
    λ i. first i ∷ rest i

-- ---- records in order

placed_permutes : (r : List ℕ) (rs : List (List ℕ)) → IsPermutation (r ∷ rs) (placed r rs)
placed_permutes r [] = IsPermutation-refl (r ∷ [])
placed_permutes r (s ∷ rs) =
    let behind = IsPermutation-trans (r ∷ s ∷ rs) (s ∷ r ∷ rs) (s ∷ placed r rs) (IsPermutation-middle (r ∷ []) s rs) (IsPermutation-cons s (r ∷ rs) (placed r rs) (placed_permutes r rs)) in
    elim (is_gt (byte_order r s)) as (λ b. IsPermutation (r ∷ s ∷ rs) (if b then s ∷ placed r rs else r ∷ s ∷ rs)) [ true ↦ behind | false ↦ IsPermutation-refl (r ∷ s ∷ rs) ]

pub in_order_permutes : (rs : List (List ℕ)) → IsPermutation rs (in_order rs)
in_order_permutes [] = IsPermutation-refl []
in_order_permutes (r ∷ rs) =
    IsPermutation-trans (r ∷ rs) (r ∷ in_order rs) (placed r (in_order rs)) (IsPermutation-cons r rs (in_order rs) (in_order_permutes rs)) (placed_permutes r (in_order rs))

before_placed : (s r : List ℕ) (rs : List (List ℕ)) → IsBefore s rs → is_lt (byte_order r s) ≡ false → IsBefore s (placed r rs)
before_placed s r [] before behind = λ d some. behind
before_placed s r (t ∷ rs) before behind =
    elim (is_gt (byte_order r t)) as (λ b. IsBefore s (if b then t ∷ placed r rs else r ∷ t ∷ rs)) [ true ↦ λ d some. before d (omega arith) | false ↦ λ d some. behind ]

gt_or_not : (o : Ordering) → ((is_gt o ≡ true) × (is_lt o ≡ false)) ⊎ ((is_gt o ≡ false) × (is_lt (ordering_reverse o) ≡ false))
gt_or_not Less = inr (refl, refl)
gt_or_not Equal = inr (refl, refl)
gt_or_not Greater = inl (refl, refl)

placed_sorted : (r : List ℕ) (rs : List (List ℕ)) → IsSorted byte_order rs → IsSorted byte_order (placed r rs)
placed_sorted r [] up = sorted_cons r [] (λ d some. absurd (omega arith)) up
placed_sorted r (s ∷ rs) up = elim (gt_or_not (byte_order r s)) [
  | inl gt ↦
      let before : IsBefore s rs = λ d some. least s rs 1 d up (omega arith) in
      subst (λ (b : Bool). IsSorted byte_order (if b then s ∷ placed r rs else r ∷ s ∷ rs)) (sym gt.0)
      (sorted_cons s (placed r rs) (before_placed s r rs before gt.1) (placed_sorted r rs (sorted_tail s rs up)))
  | inr not_gt ↦
      let turned : is_lt (byte_order s r) ≡ false = ap is_lt (nat_list_cmp_total.antisymm s r) ∙ not_gt.1 in
      subst (λ (b : Bool). IsSorted byte_order (if b then s ∷ placed r rs else r ∷ s ∷ rs)) (sym not_gt.0) (sorted_cons r (s ∷ rs) (λ d some. turned) up)
]

pub in_order_sorted : (rs : List (List ℕ)) → IsSorted byte_order (in_order rs)
in_order_sorted [] = λ k d low high. absurd (omega arith)
in_order_sorted (r ∷ rs) = placed_sorted r (in_order rs) (in_order_sorted rs)

pub in_order_only : (rs others : List (List ℕ)) → IsPermutation rs others → IsSorted byte_order others → others ≡ in_order rs
in_order_only rs others permutes up =
    only_sorted others (in_order rs) up (in_order_sorted rs)
    (λ v. let f : List ℕ → ℕ = λ (r : List ℕ). if is_eq (byte_order v r) then 1 else 0 in
    sum_by-IsPermutation f rs others permutes ∙ sym (sum_by-IsPermutation f rs (in_order rs) (in_order_permutes rs)))

-- ---- their length

length-placed : (r : List ℕ) (rs : List (List ℕ)) → length (concat (placed r rs)) ≡ length r + length (concat rs)
length-placed r [] = length-append r []
length-placed r (s ∷ rs) =
    let behind : length (concat (s ∷ placed r rs)) ≡ length r + length (concat (s ∷ rs)) =
    omega (arith, length-append s (concat (placed r rs)), length-append s (concat rs), length-placed r rs) in
    elim (is_gt (byte_order r s)) as (λ b. length (concat (if b then s ∷ placed r rs else r ∷ s ∷ rs)) ≡ length r + length (concat (s ∷ rs))) [ true ↦ behind | false ↦ length-append r (concat (s ∷ rs)) ]

length-in_order : (rs : List (List ℕ)) → length (concat (in_order rs)) ≡ length (concat rs)
length-in_order [] = refl
length-in_order (r ∷ rs) = omega (arith, length-placed r (in_order rs), length-in_order rs, length-append r (concat rs))

concat-records : (w : ℕ) (x : List ℕ) (n : ℕ) → concat (map (record_at w x) (range_with_len 0 n)) ≡ take (n * w) x
concat-records w x zero = let none : 0 ≡ 0 * w = omega arith in ap (λ (k : ℕ). take k x) none
concat-records w x (suc n) =
    let more : n * w + w ≡ suc n * w = omega arith in
    ap (λ (k : ℕ). concat (map (record_at w x) (range_with_len 0 k))) (sym (add-one n))
    ∙ ap concat (map-range_with_len_more (record_at w x) 0 n n (omega arith))
    ∙ concat-append (map (record_at w x) (range_with_len 0 n)) (record_at w x n ∷ [])
    ∙ ap (λ (front : List ℕ). front ++ concat (record_at w x n ∷ [])) (concat-records w x n)
    ∙ ap (λ (behind : List ℕ). take (n * w) x ++ behind) (append-nil (record_at w x n))
    ∙ sym (take-add (n * w) w x)
    ∙ ap (λ (k : ℕ). take k x) more

-- sorted records are no longer than the value
pub length-sorted : (w : ℕ) (x : List ℕ) → length (concat (in_order (records w x))) ≤ length x
length-sorted w x =
    omega (arith, length-in_order (records w x), ap length (concat-records w x (length x / w)), length-take (length x / w * w) x)
