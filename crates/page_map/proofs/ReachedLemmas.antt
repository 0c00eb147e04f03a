-- Marks of objects that were met.
use Rattle.std.proofs.Common.{◌≡◌, ◌≢◌, ℕ, zero, suc, ◌+◌, ◌-◌, ◌^◌, ◌<◌, ◌≤◌, ◌==◌, Bool, true, false, not, ◌&&◌, List, [], ◌∷◌, ◌++◌, length, length-append, replicate, refl, sym, ap, ◌∙◌, arith, true≢false}
use Rattle.std.specs.Prelude.{nat_lt, nat_le, slice_index_or, slice_set}
use Rattle.std.proofs.lemmas.Bool.{eqb-true, eqb-false, le-leb, leb-true, lt-ltb, le-ltb}
use Rattle.std.proofs.lemmas.List.{get_or-set_other, get_or-set_same, length-set}
use Rattle.key_entries.specs.EntryLaws.{both_true}
use Rattle.page_map.specs.Checks.{IsMarked, is_new, marked}
use Rattle.page_map.specs.Map.{Range, one_if, times}
use Rattle.page_map.proofs.MapLemmas.{times_both}

-- one mark more
marked_set : (marks : List Bool) (k : ℕ) → k < length marks → slice_index_or marks k false ≡ false → marked (slice_set marks k true) ≡ suc (marked marks)
marked_set [] k low off = absurd (omega (arith, low))
marked_set (true ∷ marks) zero low off = absurd (true≢false off)
marked_set (false ∷ marks) zero low off = omega arith
marked_set (mark ∷ marks) (suc k) low off = omega (arith, marked_set marks k (omega (arith, low)) off)

marked_few : (marks : List Bool) → marked marks ≤ length marks
marked_few [] = omega arith
marked_few (true ∷ marks) = omega (arith, marked_few marks)
marked_few (false ∷ marks) = omega (arith, marked_few marks)

none_marked : (n : ℕ) → marked (replicate n false) ≡ 0
none_marked zero = refl
none_marked (suc n) = omega (arith, none_marked n)

no_mark : (n k : ℕ) → slice_index_or (replicate n false) k false ≡ false
no_mark zero k = refl
no_mark (suc n) zero = refl
no_mark (suc n) (suc k) = no_mark n k

pub nothing_reached : (range : Range) (marks : List Bool) (n : ℕ) → marks ≡ replicate n false → length marks ≡ n → n ≡ suc (range.hi - range.lo) → n < 2 ^ 33 → IsMarked range marks []
nothing_reached range marks n are size is few = record {
  size = size ∙ is;
  few = omega (arith, size, few);
  each = λ k low. ap (λ (l : List Bool). slice_index_or l k false) are ∙ no_mark n k;
  count = ap marked are ∙ none_marked n;
}

module _ (range : Range) (marks : List Bool) (objects : List ℕ) (is : IsMarked range marks objects) where
  pub reached_few : length objects < 2 ^ 33
  reached_few = omega (arith, is.few, is.count, marked_few marks)

  pub reached_within : length objects ≤ suc (range.hi - range.lo)
  reached_within = omega (arith, is.size, is.count, marked_few marks)

  -- the mark of an object of the range
  module _ (x : ℕ) (low : range.lo ≤ x) (high : x ≤ range.hi) where
    pub place_inside : x - range.lo < length marks
    place_inside = omega (arith, is.size, low, high)

    place_is : range.lo + (x - range.lo) ≡ x
    place_is = omega (arith, low)

    mark_is : slice_index_or marks (x - range.lo) false ≡ nat_lt 0 (times x objects)
    mark_is = is.each (x - range.lo) place_inside ∙ ap (λ (y : ℕ). nat_lt 0 (times y objects)) place_is

    not_marked : not (slice_index_or marks (x - range.lo) false) ≡ (times x objects == 0)
    not_marked =
        ap not mark_is
        ∙ elim (times x objects == 0) as (λ t. (times x objects == 0) ≡ t → not (nat_lt 0 (times x objects)) ≡ t) [
          | true ↦ λ e. ap not (le-ltb 0 (times x objects) (omega (arith, eqb-true (times x objects) 0 e)))
          | false ↦ λ e. ap not (lt-ltb 0 (times x objects) (above (times x objects) e))
        ] refl
      where
        above : (n : ℕ) → (n == 0) ≡ false → 0 < n
        above zero e = absurd (true≢false e)
        above (suc n) e = omega arith

    pub new_told : is_new range objects x ≡ not (slice_index_or marks (x - range.lo) false)
    new_told = (λ k. le-leb range.lo x low k && (le-leb x range.hi high k && (times x objects == 0))) ∙ sym not_marked

  pub below_range : (x : ℕ) → nat_le range.lo x ≡ false → is_new range objects x ≡ false
  below_range x e = ap (λ (t : Bool). t && (nat_le x range.hi && (times x objects == 0))) e

  pub above_range : (x : ℕ) → nat_le range.lo x ≡ true → nat_le x range.hi ≡ false → is_new range objects x ≡ false
  above_range x low e = λ k. low k && (e k && (times x objects == 0))

  -- a new object
  module _ (x : ℕ) (new : is_new range objects x ≡ true) where
    pub new_low : range.lo ≤ x
    new_low = leb-true range.lo x (both_true (nat_le range.lo x) (nat_le x range.hi && (times x objects == 0)) new).0

    pub new_high : x ≤ range.hi
    new_high = leb-true x range.hi (both_true (nat_le x range.hi) (times x objects == 0) (both_true (nat_le range.lo x) (nat_le x range.hi && (times x objects == 0)) new).1).0

    off : slice_index_or marks (x - range.lo) false ≡ false
    off = not_false (slice_index_or marks (x - range.lo) false) (sym (new_told x new_low new_high) ∙ new)
      where
        not_false : (b : Bool) → not b ≡ true → b ≡ false
        not_false true e = absurd (true≢false (sym e))
        not_false false e = refl

    pub marked_more : IsMarked range (slice_set marks (x - range.lo) true) (objects ++ x ∷ [])
    marked_more =
        let place : ℕ = x - range.lo in
        let inside = place_inside x new_low new_high in
        record {
          size = length-set marks place true ∙ is.size;
          few = omega (arith, length-set marks place true, is.few);
          each = λ k low.
              elim (x == range.lo + k) as (λ t. (x == range.lo + k) ≡ t → slice_index_or (slice_set marks place true) k false ≡ nat_lt 0 (times (range.lo + k) (objects ++ x ∷ []))) [
                | true ↦ λ e.
                    let same : place ≡ k = omega (arith, eqb-true x (range.lo + k) e) in
                    let some : 0 < times (range.lo + k) (objects ++ x ∷ []) = omega (arith, times_both (range.lo + k) objects (x ∷ []), ap one_if e) in
                    ap (λ (i : ℕ). slice_index_or (slice_set marks place true) i false) (sym same) ∙ get_or-set_same marks place true false inside
                    ∙ sym (lt-ltb 0 (times (range.lo + k) (objects ++ x ∷ [])) some)
                | false ↦ λ e.
                    let same : times (range.lo + k) (objects ++ x ∷ []) ≡ times (range.lo + k) objects = omega (arith, times_both (range.lo + k) objects (x ∷ []), ap one_if e) in
                    get_or-set_other marks place k true false (λ other. eqb-false x (range.lo + k) e (omega (arith, other, new_low)))
                    ∙ is.each k (omega (arith, low, length-set marks place true)) ∙ ap (λ (n : ℕ). nat_lt 0 n) (sym same)
              ] refl;
          count = omega (arith, marked_set marks place inside off, is.count, length-append objects (x ∷ []));
        }
