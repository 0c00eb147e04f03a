-- Marks and the rows that sum them up.
use Rattle.std.proofs.Common.{◌≡◌, ◌≢◌, ◌∙◌, ap, sym, subst, ℕ, zero, suc, ◌+◌, ◌*◌, ◌/◌, ◌^◌, ◌<◌, ◌≤◌, Bool, true, false, List, [], ◌∷◌, ◌++◌, length, refl, arith, inl, inr}
use Rattle.std.specs.Prelude.{IsTrue, IsFalse, ◌==◌, Option, None, Some, slice_index, slice_set}
use Rattle.std.specs.List.Sorted.{IsStrictlyIncreasing}
use Rattle.std.proofs.lemmas.Bool.{cases_eq, cases_lt, both_ways, or_left, or_right, or_cases, eqb-true, eq-eqb, false_from_ne_true}
use Rattle.std.proofs.lemmas.List.{get_or-set_same, get_or-set_other, length-set}
use Rattle.std.proofs.Math.ListN.{get_or-eq_default}
use Rattle.oper_core.specs.State.{is_among}
use Rattle.number_lists.specs.MarkLaws.{mark-was}
use Rattle.number_lists.specs.Marks.{mark_at, count_marks, IsCount, IsNext, IsFirstBelow, IsEmptyRow, IsNextRow, AreSums, AreLevels, IsBelowMarks, IsGrown}

pub mark-push : (xs : List Bool) (i : ℕ) → mark_at (xs ++ false ∷ []) i ≡ mark_at xs i
mark-push [] zero = refl
mark-push [] (suc i) = refl
mark-push (x ∷ xs) zero = refl
mark-push (x ∷ xs) (suc i) = mark-push xs i

row-below : (n rows low : ℕ) → n < low → low ≤ 64 * rows → n / 64 < rows
row-below n rows low lt le = omega (arith, lt, le)

-- one mark more
pub sums-more : (low high : List Bool) (n : ℕ) → n < length low → AreSums low high → AreSums (slice_set low n true) (slice_set high (n / 64) true)
sums-more low high n lt are =
    let row : n / 64 < length high = row-below n (length high) (length low) lt are.size in
    let up : IsTrue (mark_at (slice_set high (n / 64) true) (n / 64)) = get_or-set_same high (n / 64) true false row in
    let here : IsTrue (mark_at (slice_set low n true) n) = get_or-set_same low n true false lt in
    record {
      there = λ i t. elim (cases_eq (i / 64) (n / 64)) [
        | inl q ↦ subst (λ (k : ℕ). IsTrue (mark_at (slice_set high (n / 64) true) k)) (sym q) up
        | inr ne ↦
            let off : i ≢ n = λ e. ne (ap (λ (k : ℕ). k / 64) e) in
            get_or-set_other high (n / 64) (i / 64) true false ne ∙ are.there i (sym (get_or-set_other low n i true false off) ∙ t)
      ];
      only = λ r t. elim (cases_eq r (n / 64)) [
        | inl q ↦ (n, sym q, here)
        | inr ne ↦
            let i = are.only r (sym (get_or-set_other high (n / 64) r true false ne) ∙ t) in
            let off : i.0 ≢ n = λ e. ne (sym i.1 ∙ ap (λ (k : ℕ). k / 64) e) in
            (i.0, i.1, get_or-set_other low n i.0 true false off ∙ i.2)
      ];
      size = omega (arith, are.size, length-set low n true, length-set high (n / 64) true);
    }

-- one mark less, where its row has others
sums-some : (low high : List Bool) (n : ℕ) → AreSums low high → (i : ℕ) × (i / 64 ≡ n / 64) × IsTrue (mark_at (slice_set low n false) i) → AreSums (slice_set low n false) high
sums-some low high n are other = record {
  there = λ i t. are.there i (mark-was low n i t).1;
  only = λ r t. elim (cases_eq r (n / 64)) [
    | inl q ↦ (other.0, other.1 ∙ sym q, other.2)
    | inr ne ↦
        let i = are.only r t in
        let off : i.0 ≢ n = λ e. ne (sym i.1 ∙ ap (λ (k : ℕ). k / 64) e) in
        (i.0, i.1, get_or-set_other low n i.0 false false off ∙ i.2)
  ];
  size = omega (arith, are.size, length-set low n false);
}

-- one mark less, where its row has no other
sums-none : (low high : List Bool) (n : ℕ) → AreSums low high → IsEmptyRow (slice_set low n false) (n / 64) → AreSums (slice_set low n false) (slice_set high (n / 64) false)
sums-none low high n are none = record {
  there = λ i t.
      let ne : i / 64 ≢ n / 64 = λ e. both_ways _ (none i e) t in
      get_or-set_other high (n / 64) (i / 64) false false ne ∙ are.there i (mark-was low n i t).1;
  only = λ r t.
      let up = mark-was high (n / 64) r t in
      let i = are.only r up.1 in
      let off : i.0 ≢ n = λ e. up.0 (sym i.1 ∙ ap (λ (k : ℕ). k / 64) e) in
      (i.0, i.1, get_or-set_other low n i.0 false false off ∙ i.2);
  size = omega (arith, are.size, length-set low n false, length-set high (n / 64) false);
}

pub levels-more : (low mid high top : List Bool) (n : ℕ) → n < length low → AreLevels low mid high top → AreLevels (slice_set low n true) (slice_set mid (n / 64) true) (slice_set high (n / 64 / 64) true) (slice_set top (n / 64 / 64 / 64) true)
levels-more low mid high top n lt are =
    let row = row-below n (length mid) (length low) lt are.mids.size in
    let block = row-below (n / 64) (length high) (length mid) row are.highs.size in
    record { mids = sums-more low mid n lt are.mids; highs = sums-more mid high (n / 64) row are.highs; tops = sums-more high top (n / 64 / 64) block are.tops }

-- the same levels
pub levels-as : (low a mid b high c top d : List Bool) → a ≡ low → b ≡ mid → c ≡ high → d ≡ top → AreLevels low mid high top → AreLevels a b c d
levels-as low a mid b high c top d e f g h are =
    subst (λ (xs : List Bool). AreLevels xs b c d) (sym e)
    (subst (λ (xs : List Bool). AreLevels low xs c d) (sym f)
    (subst (λ (xs : List Bool). AreLevels low mid xs d) (sym g)
    (subst (λ (xs : List Bool). AreLevels low mid high xs) (sym h) are)))

-- the row of the number has a mark in the new list
abbrev pub HasOthers : List Bool → ℕ → Type 0
HasOthers marks n = (i : ℕ) × (i / 64 ≡ n / 64) × IsTrue (mark_at marks i)

less-some : (low a high : List Bool) (n : ℕ) → AreSums low high → a ≡ slice_set low n false → HasOthers a n → AreSums a high
less-some low a high n are e other = subst (λ (xs : List Bool). AreSums xs high) (sym e) (sums-some low high n are (subst (λ (xs : List Bool). HasOthers xs n) e other))

less-none : (low a high b : List Bool) (n : ℕ) → AreSums low high → a ≡ slice_set low n false → IsEmptyRow a (n / 64) → b ≡ slice_set high (n / 64) false → AreSums a b
less-none low a high b n are e none f =
    subst (λ (xs : List Bool). AreSums a xs) (sym f) (subst (λ (xs : List Bool). AreSums xs (slice_set high (n / 64) false)) (sym e) (sums-none low high n are (subst (λ (xs : List Bool). IsEmptyRow xs (n / 64)) e none)))

pub levels-low : (low a mid high top : List Bool) (n : ℕ) → AreLevels low mid high top → a ≡ slice_set low n false → HasOthers a n → AreLevels a mid high top
levels-low low a mid high top n are e other = record { mids = less-some low a mid n are.mids e other; highs = are.highs; tops = are.tops }

pub levels-mid : (low a mid b high top : List Bool) (n : ℕ) → AreLevels low mid high top → a ≡ slice_set low n false → IsEmptyRow a (n / 64) → b ≡ slice_set mid (n / 64) false → HasOthers b (n / 64) → AreLevels a b high top
levels-mid low a mid b high top n are e none f other = record { mids = less-none low a mid b n are.mids e none f; highs = less-some mid b high (n / 64) are.highs f other; tops = are.tops }

pub levels-high : (low a mid b high c top : List Bool) (n : ℕ) → AreLevels low mid high top → a ≡ slice_set low n false → IsEmptyRow a (n / 64) → b ≡ slice_set mid (n / 64) false → IsEmptyRow b (n / 64 / 64) → c ≡ slice_set high (n / 64 / 64) false → HasOthers c (n / 64 / 64) → AreLevels a b c top
levels-high low a mid b high c top n are e none f nothing g other = record { mids = less-none low a mid b n are.mids e none f; highs = less-none mid b high c (n / 64) are.highs f nothing g; tops = less-some high c top (n / 64 / 64) are.tops g other }

pub levels-top : (low a mid b high c top : List Bool) (n : ℕ) → AreLevels low mid high top → a ≡ slice_set low n false → IsEmptyRow a (n / 64) → b ≡ slice_set mid (n / 64) false → IsEmptyRow b (n / 64 / 64) → c ≡ slice_set high (n / 64 / 64) false → IsEmptyRow c (n / 64 / 64 / 64) →
    AreLevels a b c (slice_set top (n / 64 / 64 / 64) false)
levels-top low a mid b high c top n are e none f nothing g last = record {
  mids = less-none low a mid b n are.mids e none f;
  highs = less-none mid b high c (n / 64) are.highs f nothing g;
  tops = less-none high c top (slice_set top (n / 64 / 64 / 64) false) (n / 64 / 64) are.tops g last refl;
}

-- more rows
sums-grown : (low high a b : List Bool) → AreSums low high → ((i : ℕ) → mark_at a i ≡ mark_at low i) → IsGrown (length a) high b → AreSums a b
sums-grown low high a b are same grown = record {
  there = λ i t. grown.same (i / 64) ∙ are.there i (sym (same i) ∙ t);
  only = λ r t. let i = are.only r (sym (grown.same r) ∙ t) in (i.0, i.1, same i.0 ∙ i.2);
  size = grown.enough;
}

pub levels-grown : (low mid high top a b c d : List Bool) → AreLevels low mid high top → a ≡ low ++ false ∷ [] → IsGrown (length a) mid b → IsGrown (length b) high c → IsGrown (length c) top d → AreLevels a b c d
levels-grown low mid high top a b c d are e grown_b grown_c grown_d = record {
  mids = sums-grown low mid a b are.mids (λ i. ap (λ (xs : List Bool). mark_at xs i) e ∙ mark-push low i) grown_b;
  highs = sums-grown mid high b c are.highs grown_b.same grown_c;
  tops = sums-grown high top c d are.tops grown_c.same grown_d;
}

-- marks are counted
pub count-push : (xs : List Bool) → count_marks (xs ++ false ∷ []) ≡ count_marks xs
count-push [] = refl
count-push (true ∷ xs) = ap suc (count-push xs)
count-push (false ∷ xs) = count-push xs

pub count-more : (xs : List Bool) (n : ℕ) → n < length xs → IsFalse (mark_at xs n) → count_marks (slice_set xs n true) ≡ count_marks xs + 1
count-more [] n lt f = absurd (omega (arith, lt))
count-more (true ∷ xs) zero lt f = absurd (both_ways true f refl)
count-more (false ∷ xs) zero lt f = omega arith
count-more (true ∷ xs) (suc n) lt f = let r = count-more xs n (omega (arith, lt)) f in omega (arith, r)
count-more (false ∷ xs) (suc n) lt f = count-more xs n (omega (arith, lt)) f

pub count-less : (xs : List Bool) (n : ℕ) → IsTrue (mark_at xs n) → count_marks xs ≡ count_marks (slice_set xs n false) + 1
count-less [] n t = absurd (both_ways false refl t)
count-less (true ∷ xs) zero t = omega arith
count-less (false ∷ xs) zero t = absurd (both_ways false refl t)
count-less (true ∷ xs) (suc n) t = let r = count-less xs n t in omega (arith, r)
count-less (false ∷ xs) (suc n) t = count-less xs n t

pub count-few : (xs : List Bool) → count_marks xs ≤ length xs
count-few [] = omega arith
count-few (true ∷ xs) = omega (arith, count-few xs)
count-few (false ∷ xs) = omega (arith, count-few xs)

-- the places of the marks, from a number on
abbrev marked : ℕ → List Bool → List ℕ
marked s [] = []
marked s (true ∷ xs) = s ∷ marked (suc s) xs
marked s (false ∷ xs) = marked (suc s) xs

length-marked : (s : ℕ) (xs : List Bool) → count_marks xs ≡ length (marked s xs)
length-marked s [] = refl
length-marked s (true ∷ xs) = ap suc (length-marked (suc s) xs)
length-marked s (false ∷ xs) = length-marked (suc s) xs

marked-there : (s : ℕ) (xs : List Bool) (n : ℕ) → IsTrue (mark_at xs n) → IsTrue (is_among (s + n) (marked s xs))
marked-there s [] n t = absurd (both_ways false refl t)
marked-there s (true ∷ xs) zero t = or_left (s + zero == s) _ (eq-eqb (s + zero) s (omega arith))
marked-there s (false ∷ xs) zero t = absurd (both_ways false refl t)
marked-there s (true ∷ xs) (suc n) t =
    let e : suc s + n ≡ s + suc n = omega arith in
    or_right (s + suc n == s) _ (subst (λ (k : ℕ). IsTrue (is_among k (marked (suc s) xs))) e (marked-there (suc s) xs n t))
marked-there s (false ∷ xs) (suc n) t =
    let e : suc s + n ≡ s + suc n = omega arith in
    subst (λ (k : ℕ). IsTrue (is_among k (marked (suc s) xs))) e (marked-there (suc s) xs n t)

marked-only : (s : ℕ) (xs : List Bool) (k : ℕ) → IsTrue (is_among k (marked s xs)) → (n : ℕ) × (k ≡ s + n) × IsTrue (mark_at xs n)
marked-only s [] k t = absurd (both_ways false refl t)
marked-only s (true ∷ xs) k t = elim (or_cases (k == s) (is_among k (marked (suc s) xs)) t) [
  | inl e ↦ (zero, omega (arith, eqb-true k s e), refl)
  | inr r ↦ let p = marked-only (suc s) xs k r in (suc p.0, omega (arith, p.1), p.2)
]
marked-only s (false ∷ xs) k t = let p = marked-only (suc s) xs k t in (suc p.0, omega (arith, p.1), p.2)

place-among : (xs : List ℕ) (i : ℕ) → i < length xs → IsTrue (is_among (slice_index xs i) xs)
place-among [] i lt = absurd (omega (arith, lt))
place-among (x ∷ xs) zero lt = or_left (x == x) _ (eq-eqb x x refl)
place-among (x ∷ xs) (suc i) lt = or_right (slice_index xs i == x) _ (place-among xs i (omega (arith, lt)))

-- a number below all others may come first
rising-first : (x : ℕ) (ys : List ℕ) → IsStrictlyIncreasing ys → ((k : ℕ) → IsTrue (is_among k ys) → x < k) → IsStrictlyIncreasing (x ∷ ys)
rising-first x ys is below zero lt =
    let r = below (slice_index ys 0) (place-among ys 0 (omega (arith, lt))) in
    r
rising-first x ys is below (suc k) lt =
    let e : k + 1 + 1 ≡ suc k + 1 = omega arith in
    let f : suc (k + 1) ≡ suc k + 1 = omega arith in
    subst (λ (m : ℕ). slice_index ys k < slice_index (x ∷ ys) m) f (is k (omega (arith, lt)))

marked-rising : (s : ℕ) (xs : List Bool) → IsStrictlyIncreasing (marked s xs)
marked-rising s [] = λ k lt. absurd (omega (arith, lt))
marked-rising s (true ∷ xs) = rising-first s (marked (suc s) xs) (marked-rising (suc s) xs) (λ k t. let p = marked-only (suc s) xs k t in omega (arith, p.1))
marked-rising s (false ∷ xs) = marked-rising (suc s) xs

pub count-listed : (xs : List Bool) (count : ℕ) → count ≡ count_marks xs → IsCount (λ n. IsTrue (mark_at xs n)) count
count-listed xs count e = (
  marked 0 xs,
  record {
    rising = marked-rising 0 xs;
    exactly = λ k. (
      (λ t. let p = marked-only 0 xs k t in subst (λ (n : ℕ). IsTrue (mark_at xs n)) (omega (arith, p.1)) p.2),
      (λ m. let q : 0 + k ≡ k = omega arith in subst (λ (n : ℕ). IsTrue (is_among n (marked 0 xs))) q (marked-there 0 xs k m)),
    );
  },
  e ∙ length-marked 0 xs,
)

-- what is next above is the next row
pub next-row : (low high : List Bool) (q : ℕ) (r : Option ℕ) → AreSums low high → IsNext high q r → IsNextRow low q r
next-row low high q None are none = λ i le. false_from_ne_true _ (λ t. both_ways _ (none (i / 64) le) (are.there i t))
next-row low high q (Some row) are is = record {
  here = are.only row is.here;
  above = is.above;
  least = λ i le lt. false_from_ne_true _ (λ t. both_ways _ (is.least (i / 64) le lt) (are.there i t));
}

-- past the last row there is nothing
pub next-last : (marks : List Bool) (from : ℕ) (r : Option ℕ) → IsFirstBelow marks from (length marks) r → IsNext marks from r
next-last marks from None none = λ i le. elim (cases_lt i (length marks)) [
  | inl lt ↦ none i le lt
  | inr ge ↦ get_or-eq_default marks false ge
]
next-last marks from (Some i) is = is.0

-- below a mark that came, and below all earlier ones, there is none
pub below-more : (marks : List Bool) (old n new : ℕ) → new ≤ old → new ≤ n → IsBelowMarks old marks → IsBelowMarks new (slice_set marks n true)
below-more marks old n new le down is = record {
  none = λ k lt. get_or-set_other marks n k true false (λ e. omega (arith, e, lt, down)) ∙ is.none k (omega (arith, lt, le));
  small = omega (arith, le, is.small);
}

-- below a number there is no mark if there was none but that which went
pub below-less : (marks : List Bool) (n new : ℕ) → n < length marks → new ≤ 2 ^ 32 → ((k : ℕ) → k < new → k ≢ n → IsFalse (mark_at marks k)) → IsBelowMarks new (slice_set marks n false)
below-less marks n new lt small none = record {
  none = λ k under. elim (cases_eq k n) [
    | inl q ↦ subst (λ (i : ℕ). IsFalse (mark_at (slice_set marks n false) i)) (sym q) (get_or-set_same marks n false false lt)
    | inr ne ↦ get_or-set_other marks n k false false ne ∙ none k under ne
  ];
  small = small;
}

-- what is next from a number on is next from an earlier one on, if all between have no mark
pub next-earlier : (marks : List Bool) (from later : ℕ) (r : Option ℕ) → from ≤ later → ((k : ℕ) → from ≤ k → k < later → IsFalse (mark_at marks k)) → IsNext marks later r → IsNext marks from r
next-earlier marks from later None le none is = λ i ge. elim (cases_lt i later) [
  | inl lt ↦ none i ge lt
  | inr up ↦ is i up
]
next-earlier marks from later (Some i) le none is = record {
  here = is.here;
  above = omega (arith, le, is.above);
  least = λ k ge lt. elim (cases_lt k later) [
    | inl under ↦ none k ge under
    | inr up ↦ is.least k up lt
  ];
}
