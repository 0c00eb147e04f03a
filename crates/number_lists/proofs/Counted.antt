-- The marks of a row are counted.
use Rattle.std.proofs.Common.{◌≡◌, ◌≢◌, ◌∙◌, ap, sym, ℕ, zero, suc, ◌+◌, ◌*◌, ◌/◌, ◌<◌, ◌≤◌, Bool, true, false, List, [], ◌∷◌, ◌++◌, length, length-append, refl, arith, inl, inr}
use Rattle.std.specs.Prelude.{IsTrue, IsFalse, nat_lt, ◌==◌, ◌&&◌, if◌then◌else◌, slice_index_or, slice_set}
use Rattle.std.proofs.lemmas.Bool.{both_ways, cases_Bool, cases_eq, cases_lt, lt-ltb, eqb-true, eq-eqb, false_from_ne_true}
use Rattle.std.proofs.lemmas.List.{get_or-set_same, get_or-set_other, length-set}
use Rattle.number_lists.specs.Marks.{mark_at}
use Rattle.number_lists.specs.Counts.{row_count, AreCounted}

-- one more under the same test
under : (b : Bool) (x y : ℕ) → x ≡ suc y → (if b then suc x else x) ≡ suc (if b then suc y else y)
under true x y e = ap suc e
under false x y e = e

row-more : (s : ℕ) (xs : List Bool) (n row : ℕ) → n < length xs → IsFalse (mark_at xs n) → (s + n) / 64 ≡ row → row_count s (slice_set xs n true) row ≡ suc (row_count s xs row)
row-more s [] n row lt f e = absurd (omega (arith, lt))
row-more s (true ∷ xs) zero row lt f e = absurd (both_ways true f refl)
row-more s (false ∷ xs) zero row lt f e = ap (λ (b : Bool). if b then suc (row_count (suc s) xs row) else row_count (suc s) xs row) (eq-eqb (s / 64) row (omega (arith, e)))
row-more s (m ∷ xs) (suc n) row lt f e = under (m && (s / 64 == row)) _ _ (row-more (suc s) xs n row (omega (arith, lt)) f (omega (arith, e)))

row-less : (s : ℕ) (xs : List Bool) (n row : ℕ) → IsTrue (mark_at xs n) → (s + n) / 64 ≡ row → row_count s xs row ≡ suc (row_count s (slice_set xs n false) row)
row-less s [] n row t e = absurd (both_ways false refl t)
row-less s (false ∷ xs) zero row t e = absurd (both_ways false refl t)
row-less s (true ∷ xs) zero row t e = ap (λ (b : Bool). if b then suc (row_count (suc s) xs row) else row_count (suc s) xs row) (eq-eqb (s / 64) row (omega (arith, e)))
row-less s (m ∷ xs) (suc n) row t e = under (m && (s / 64 == row)) _ _ (row-less (suc s) xs n row t (omega (arith, e)))

-- a mark in another row is not counted
apart : (m b : Bool) (x : ℕ) → b ≡ false → (if m && b then suc x else x) ≡ x
apart true b x e = ap (λ (c : Bool). if c then suc x else x) e
apart false b x e = refl

row-other : (s : ℕ) (xs : List Bool) (n row : ℕ) (b : Bool) → (s + n) / 64 ≢ row → row_count s (slice_set xs n b) row ≡ row_count s xs row
row-other s [] n row b ne = refl
row-other s (m ∷ xs) zero row b ne =
    let off : (s / 64 == row) ≡ false = false_from_ne_true (s / 64 == row) (λ t. ne (omega (arith, eqb-true (s / 64) row t))) in
    apart b (s / 64 == row) (row_count (suc s) xs row) off ∙ sym (apart m (s / 64 == row) (row_count (suc s) xs row) off)
row-other s (m ∷ xs) (suc n) row b ne =
    ap (λ (k : ℕ). if m && (s / 64 == row) then suc k else k) (row-other (suc s) xs n row b (λ e. ne (omega (arith, e))))

row-push : (s : ℕ) (xs : List Bool) (row : ℕ) → row_count s (xs ++ false ∷ []) row ≡ row_count s xs row
row-push s [] row = refl
row-push s (m ∷ xs) row = ap (λ (k : ℕ). if m && (s / 64 == row) then suc k else k) (row-push (suc s) xs row)

few-step : (b : Bool) (x n : ℕ) → x ≤ n → (if b then suc x else x) ≤ suc n
few-step true x n le = omega (arith, le)
few-step false x n le = omega (arith, le)

row-few : (s : ℕ) (xs : List Bool) (row : ℕ) → row_count s xs row ≤ length xs
row-few s [] row = omega arith
row-few s (m ∷ xs) row = few-step (m && (s / 64 == row)) (row_count (suc s) xs row) (length xs) (row-few (suc s) xs row)

-- the row has a mark
abbrev HasMark : ℕ → List Bool → ℕ → Type 0
HasMark s xs row = (i : ℕ) × ((s + i) / 64 ≡ row) × IsTrue (mark_at xs i)

later : (s : ℕ) (m : Bool) (xs : List Bool) (row : ℕ) → HasMark (suc s) xs row → HasMark s (m ∷ xs) row
later s m xs row p = (suc p.0, omega (arith, p.1), p.2)

row-some : (s : ℕ) (xs : List Bool) (row : ℕ) → 0 < row_count s xs row → HasMark s xs row
row-some s [] row some = absurd (omega (arith, some))
row-some s (false ∷ xs) row some = later s false xs row (row-some (suc s) xs row some)
row-some s (true ∷ xs) row some = elim (cases_Bool (s / 64 == row)) [
  | inl t ↦ (zero, omega (arith, eqb-true (s / 64) row t), refl)
  | inr f ↦
      let e = ap (λ (b : Bool). if b then suc (row_count (suc s) xs row) else row_count (suc s) xs row) f in
      later s true xs row (row-some (suc s) xs row (omega (arith, some, e)))
]

none-left : (b : Bool) (x : ℕ) → (if b then suc x else x) ≡ 0 → x ≡ 0
none-left true x e = omega (arith, e)
none-left false x e = e

row-none : (s : ℕ) (xs : List Bool) (row : ℕ) → row_count s xs row ≡ 0 → (i : ℕ) → (s + i) / 64 ≡ row → IsFalse (mark_at xs i)
row-none s [] row e i at = refl
row-none s (false ∷ xs) row e zero at = refl
row-none s (true ∷ xs) row e zero at =
    let here = ap (λ (b : Bool). if b then suc (row_count (suc s) xs row) else row_count (suc s) xs row) (eq-eqb (s / 64) row (omega (arith, at))) in
    absurd (omega (arith, e, here))
row-none s (m ∷ xs) row e (suc i) at = row-none (suc s) xs row (none-left (m && (s / 64 == row)) (row_count (suc s) xs row) e) i (omega (arith, at))

-- a row without marks
pub zero-push : (counts : List ℕ) (row : ℕ) → slice_index_or (counts ++ 0 ∷ []) row 0 ≡ slice_index_or counts row 0
zero-push [] zero = refl
zero-push [] (suc row) = refl
zero-push (k ∷ counts) zero = refl
zero-push (k ∷ counts) (suc row) = zero-push counts row

from-zero : (n : ℕ) → (0 + n) / 64 ≡ n / 64
from-zero n = omega arith

-- one mark more, and one less
pub counted-more : (xs : List Bool) (counts : List ℕ) (n k : ℕ) → n < length xs → IsFalse (mark_at xs n) → k ≡ slice_index_or counts (n / 64) 0 + 1 → AreCounted xs counts → AreCounted (slice_set xs n true) (slice_set counts (n / 64) k)
counted-more xs counts n k lt f e are = record {
  each = λ row. elim (cases_eq row (n / 64)) [
    | inl q ↦
        let at : n / 64 < length counts = omega (arith, lt, are.size) in
        ap (λ (r : ℕ). slice_index_or (slice_set counts (n / 64) k) r 0) q ∙ get_or-set_same counts (n / 64) k 0 at ∙ omega (arith, e, are.each (n / 64), row-more 0 xs n (n / 64) lt f (from-zero n), ap (row_count 0 (slice_set xs n true)) q)
    | inr ne ↦ get_or-set_other counts (n / 64) row k 0 ne ∙ are.each row ∙ sym (row-other 0 xs n row true (λ q. ne (sym (sym (from-zero n) ∙ q))))
  ];
  size = omega (arith, are.size, length-set xs n true, length-set counts (n / 64) k);
}

pub counted-less : (xs : List Bool) (counts : List ℕ) (n k : ℕ) → n < length xs → IsTrue (mark_at xs n) → slice_index_or counts (n / 64) 0 ≡ k + 1 → AreCounted xs counts → AreCounted (slice_set xs n false) (slice_set counts (n / 64) k)
counted-less xs counts n k lt t e are = record {
  each = λ row. elim (cases_eq row (n / 64)) [
    | inl q ↦
        let at : n / 64 < length counts = omega (arith, lt, are.size) in
        ap (λ (r : ℕ). slice_index_or (slice_set counts (n / 64) k) r 0) q ∙ get_or-set_same counts (n / 64) k 0 at ∙ omega (arith, e, are.each (n / 64), row-less 0 xs n (n / 64) t (from-zero n), ap (row_count 0 (slice_set xs n false)) q)
    | inr ne ↦ get_or-set_other counts (n / 64) row k 0 ne ∙ are.each row ∙ sym (row-other 0 xs n row false (λ q. ne (sym (sym (from-zero n) ∙ q))))
  ];
  size = omega (arith, are.size, length-set xs n false, length-set counts (n / 64) k);
}

-- one number more
pub counted-push : (xs : List Bool) (counts new : List ℕ) → length xs < 64 * length new → ((row : ℕ) → slice_index_or new row 0 ≡ slice_index_or counts row 0) → AreCounted xs counts → AreCounted (xs ++ false ∷ []) new
counted-push xs counts new fit same are = record { each = λ row. same row ∙ are.each row ∙ sym (row-push 0 xs row); size = omega (arith, fit, length-append xs (false ∷ [])) }

pub counted-none : AreCounted [] []
counted-none = record { each = λ row. refl; size = omega arith }

-- a row that has a mark is counted, and one that is not counted has none
pub counted-some : (xs : List Bool) (counts : List ℕ) (row : ℕ) → AreCounted xs counts → 0 < slice_index_or counts row 0 → (i : ℕ) × (i / 64 ≡ row) × IsTrue (mark_at xs i)
counted-some xs counts row are some = let p = row-some 0 xs row (omega (arith, some, are.each row)) in (p.0, omega (arith, p.1), p.2)

pub counted-empty : (xs : List Bool) (counts : List ℕ) (row : ℕ) → AreCounted xs counts → slice_index_or counts row 0 ≡ 0 → (i : ℕ) → i / 64 ≡ row → IsFalse (mark_at xs i)
counted-empty xs counts row are e i at = row-none 0 xs row (sym (are.each row) ∙ e) i (omega (arith, at))

pub counted-few : (xs : List Bool) (counts : List ℕ) (row : ℕ) → AreCounted xs counts → slice_index_or counts row 0 ≤ length xs
counted-few xs counts row are = omega (arith, are.each row, row-few 0 xs row)

pub counted-positive : (xs : List Bool) (counts : List ℕ) (n : ℕ) → IsTrue (mark_at xs n) → AreCounted xs counts → 0 < slice_index_or counts (n / 64) 0
counted-positive xs counts n t are = omega (arith, are.each (n / 64), row-less 0 xs n (n / 64) t (from-zero n))

pub none-counted : (k : ℕ) → IsFalse (nat_lt 0 k) → k ≡ 0
none-counted k f = elim (cases_lt 0 k) [ inl lt ↦ absurd (both_ways _ f (lt-ltb 0 k lt)) | inr ge ↦ omega (arith, ge) ]
