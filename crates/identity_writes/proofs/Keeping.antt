-- The object at the first place of the greatest length is the one to keep.
use Rattle.std.proofs.Common.{◌≡◌, ap, ℕ, ◌+◌, ◌-◌, ◌<◌, ◌≤◌, List, length, slice_index, get_or, drop, ◌∙◌, refl, arith, inl, inr}
use Rattle.std.specs.Prelude.{All}
use Rattle.std.specs.List.Sorted.{IsStrictlyIncreasing, IsNonDecreasingBy}
use Rattle.std.proofs.lemmas.Bool.{cases_lt, cases_eq}
use Rattle.std.proofs.lemmas.List.{get_or-drop, length-drop}
use Rattle.std.proofs.lemmas.List.Elements.{All-get_or, All-from_get_or}
use Rattle.std.proofs.lemmas.List.Kept.{AllPairs-from_increasing}
use Rattle.std.proofs.lemmas.List.Sorted.{IsNonDecreasingBy-from_default}
use Rattle.std.proofs.lemmas.Grind.{get_or_default_zero}
use Rattle.std.proofs.lemmas.Option.{slice_get_read}
use Rattle.identity_writes.specs.Plan.{IsKeptBeside, IsFirstLongest}

-- rising LSNs do not fall
pub rises : (objects : List ℕ) → IsStrictlyIncreasing objects → IsNonDecreasingBy (λ x. x) objects
rises objects rising = IsNonDecreasingBy-from_default (λ (x : ℕ). x) objects 0 (λ i j low high. elim (cases_eq i j) [
  | inl same ↦ let e : get_or objects i 0 ≡ get_or objects j 0 = ap (λ (k : ℕ). get_or objects k 0) same in omega (arith, e)
  | inr other ↦ let up = AllPairs-from_increasing objects rising i j 0 (omega (arith, low, other)) high in omega (arith, up)
])

-- in front of a place all objects are copied, and from it on none is; the one at the first place of the greatest length from
-- there on is kept
module _ (objects lengths : List ℕ) (copied first place x : ℕ) (rising : IsStrictlyIncreasing objects) (beside : length lengths ≡ length objects) (within : first ≤ length objects)
    (below : (k : ℕ) → k < first → slice_index objects k < copied) (above : (k : ℕ) → first ≤ k → k < length objects → copied ≤ slice_index objects k)
    (is : IsFirstLongest (drop first lengths) place) (here : x ≡ get_or objects (first + place) x) where
  pub there : first + place < length objects
  there = let low = is.there in let n = length-drop first lengths in omega (arith, low, n, beside, within)

  lsn : x ≡ slice_index objects (first + place)
  lsn = here ∙ get_or_default_zero objects (first + place) x there

  moved : (k : ℕ) → slice_index (drop first lengths) k ≡ slice_index lengths (first + k)
  moved k = get_or-drop first lengths k 0

  behind : (other : ℕ) → other < length objects → copied ≤ slice_index objects other → first ≤ other
  behind other low late = elim (cases_lt other first) [
    | inl early ↦ let out = below other early in absurd (omega (arith, out, late))
    | inr le ↦ le
  ]

  length_at : (other : ℕ) → first ≤ other → slice_index (drop first lengths) (other - first) ≡ slice_index lengths other
  length_at other le = moved (other - first) ∙ ap (λ (k : ℕ). slice_index lengths k) (omega (arith, le))

  longest_at : (other : ℕ) → first ≤ other → other < length objects → slice_index lengths other ≤ slice_index lengths (first + place)
  longest_at other le low =
      let n = length-drop first lengths in
      let at = All-get_or (λ n. n ≤ slice_index (drop first lengths) place) (drop first lengths) (other - first) 0 (omega (arith, n, low, le, beside)) is.longest in
      let from = length_at other le in
      let to = moved place in
      omega (arith, at, from, to)

  least_at : (other : ℕ) → first ≤ other → other < length objects → slice_index lengths other ≡ slice_index lengths (first + place) → x ≤ slice_index objects other
  least_at other le low same = elim (cases_lt other (first + place)) [
    | inl early ↦
        let less = is.first (other - first) (omega (arith, early, le)) in
        let from = length_at other le in
        let to = moved place in
        absurd (omega (arith, less, from, to, same))
    | inr late ↦ elim (cases_eq (first + place) other) [
      | inl q ↦ let e : slice_index objects (first + place) ≡ slice_index objects other = ap (λ (k : ℕ). slice_index objects k) q in omega (arith, lsn, e)
      | inr ne ↦ let up = AllPairs-from_increasing objects rising (first + place) other 0 (omega (arith, late, ne)) low in omega (arith, lsn, up)
    ]
  ]

  pub kept_beside : IsKeptBeside copied objects lengths x
  kept_beside = record {
    place = first + place;
    here = slice_get_read objects (length objects) (first + place) x refl there here;
    late = let low = above (first + place) (omega arith) there in omega (arith, lsn, low);
    longest = λ other low late. longest_at other (behind other low late) low;
    least = λ other low late same. least_at other (behind other low late) low same;
  }

  -- one is left to copy
  pub none_kept : All (λ x. x < copied) objects → ⊥
  none_kept all =
      let low = All-get_or (λ x. x < copied) objects (first + place) 0 there all in
      let high = above (first + place) (omega arith) there in
      omega (arith, low, high)

-- all are copied where none is left from a place on
pub all_copied : (objects : List ℕ) (copied first : ℕ) → length objects ≤ first → ((k : ℕ) → k < first → slice_index objects k < copied) → All (λ x. x < copied) objects
all_copied objects copied first all below = All-from_get_or (λ x. x < copied) objects 0 (λ k low. below k (omega (arith, low, all)))
