-- How many bytes there are up to the last one that isn't 0.
use Rattle.std.proofs.Common.{◌≡◌, ◌≢◌, ◌<◌, ◌≤◌, ◌+◌, ◌-◌, ◌^◌, min, ℕ, Bool, true, false, zero, suc, List, [], ◌∷◌, ◌++◌, length, get_or, take, drop, replicate, refl, sym, ap, ◌∙◌, arith, length-drop, length-take, take-append-drop}
use Rattle.std.specs.Prelude.{nat_eq, if◌then◌else◌}
use Rattle.std.proofs.lemmas.Bool.{cond-false, ne_eqb}
use Rattle.std.proofs.lemmas.List.{drop-drop, drop-take, length-take-le, take-take, take_all, take_min, take_more}
use Rattle.disk_model.specs.Disk.{read_of}
use Rattle.disk_model.specs.Padded.{padded}
use Rattle.redo_log.specs.Lines.{used}

-- zeros behind bytes change nothing
pub used_none : (xs ys : List ℕ) → used ys ≡ 0 → used (xs ++ ys) ≡ used xs
used_none [] ys none = none
used_none (x ∷ xs) ys none = ap (λ (k : ℕ). if nat_eq (x + k) 0 then 0 else suc k) (used_none xs ys none)

-- behind others the last byte that isn't 0 stands as far behind
pub used_some : (xs ys : List ℕ) → 0 < used ys → used (xs ++ ys) ≡ length xs + used ys
used_some [] ys some = omega arith
used_some (x ∷ xs) ys some =
    let rest = used_some xs ys some in
    cond-false (nat_eq (x + used (xs ++ ys)) 0) 0 (suc (used (xs ++ ys))) (ne_eqb (x + used (xs ++ ys)) 0 (λ same. absurd (omega (arith, same, rest, some)))) ∙ omega (arith, rest)

pub used_zeros : (n : ℕ) → used (replicate {A = ℕ} n 0) ≡ 0
used_zeros zero = refl
used_zeros (suc n) = ap (λ (k : ℕ). if nat_eq (0 + k) 0 then 0 else suc k) (used_zeros n)

pub used_one : (byte : ℕ) → byte ≢ 0 → used (byte ∷ []) ≡ 1
used_one byte some = cond-false (nat_eq (byte + 0) 0) 0 1 (ne_eqb (byte + 0) 0 (λ same. some (omega (arith, same))))

-- a piece that is filled up has as many as what was read
pub used_padded : (file : List ℕ) (at n : ℕ) → used (padded file at n) ≡ used (read_of file at n)
used_padded file at n = used_none (read_of file at n) (replicate {A = ℕ} (n - length (read_of file at n)) 0) (used_zeros (n - length (read_of file at n)))

take_split : (a b : ℕ) (xs : List ℕ) → take (a + b) xs ≡ take a xs ++ take b (drop a xs)
take_split a b xs = sym (take-append-drop a (take (a + b) xs)) ∙ λ i. take-take a (a + b) xs (omega arith) i ++ drop-take a b xs i

le_if : (b : Bool) (n m : ℕ) → n ≤ m → (if b then 0 else suc n) ≤ suc m
le_if true n m le = omega arith
le_if false n m le = omega (arith, le)

used_within : (xs : List ℕ) → used xs ≤ length xs
used_within [] = omega arith
used_within (x ∷ xs) = le_if (nat_eq (x + used xs) 0) (used xs) (length xs) (used_within xs)

-- one byte more
used_push : (xs : List ℕ) (byte count seen last : ℕ) → count ≡ used xs → seen ≡ length xs + 1 → last ≡ (if nat_eq byte 0 then count else seen) → last ≡ used (xs ++ byte ∷ [])
used_push xs zero count seen last before at last_is = last_is ∙ before ∙ sym (used_none xs (zero ∷ []) refl)
used_push xs (suc b) count seen last before at last_is =
    let one = used_one (suc b) (λ same. absurd (omega (arith, same))) in
    last_is ∙ cond-false (nat_eq (suc b) 0) count seen (ne_eqb (suc b) 0 (λ same. absurd (omega (arith, same))))
    ∙ omega (arith, at, one, used_some xs (suc b ∷ []) (omega (arith, one)))

pub used_next : (xs : List ℕ) (i count seen last : ℕ) → i < length xs → seen ≡ i + 1 → count ≡ used (take i xs) → last ≡ (if nat_eq (get_or xs i 0) 0 then count else seen) → last ≡ used (take (i + 1) xs)
used_next xs i count seen last less seen_is before last_is =
    let long : length (take i xs) ≡ i = length-take-le i xs (omega (arith, less)) in
    used_push (take i xs) (get_or xs i 0) count seen last before (omega (arith, seen_is, long)) last_is ∙ ap used (sym (take_more xs i 0 less))

-- the bytes from one place on up to another, and a piece that was read behind them
module _ (file : List ℕ) (from gone n : ℕ) (within : gone + n ≤ length file - from) (n_is : n ≡ min (length file - from - gone) 65536) where
  abbrev rest : List ℕ
  rest = drop from file

  behind : take n (drop gone rest) ≡ read_of file (from + gone) 65536
  behind =
      let long : min (length file - from - gone) 65536 ≡ min 65536 (length (drop gone rest)) = omega (arith, length-drop gone rest, length-drop from file) in
      ap (λ (k : ℕ). take k (drop gone rest)) (n_is ∙ long) ∙ take_min 65536 (drop gone rest) ∙ ap (λ (l : List ℕ). take 65536 l) (drop-drop gone from file)

  piece_used : used (padded file (from + gone) 65536) ≡ used (take n (drop gone rest))
  piece_used = used_padded file (from + gone) 65536 ∙ ap used (sym behind)

  split : used (take (gone + n) rest) ≡ used (take gone rest ++ take n (drop gone rest))
  split = ap used (take_split gone n rest)

  -- none of the piece's bytes counts, or one does
  left_by : (found : ℕ) → found ≡ used (take n (drop gone rest)) → (left last : ℕ) → gone + n < 2 ^ 64 → left ≡ used (take gone rest) → last ≡ (if nat_eq found 0 then left else min (gone + found) (2 ^ 64 - 1)) → last ≡ used (take (gone + n) rest)
  left_by zero found_is left last small so_far last_is = last_is ∙ so_far ∙ sym (split ∙ used_none (take gone rest) (take n (drop gone rest)) (sym found_is))
  left_by (suc k) found_is left last small so_far last_is =
      let front : length (take gone rest) ≡ gone = length-take-le gone rest (omega (arith, within, length-drop from file)) in
      let some : 0 < used (take n (drop gone rest)) = omega (arith, found_is) in
      let few : used (take n (drop gone rest)) ≤ n = omega (arith, used_within (take n (drop gone rest)), length-take n (drop gone rest)) in
      last_is ∙ cond-false (nat_eq (suc k) 0) left (min (gone + suc k) (2 ^ 64 - 1)) (ne_eqb (suc k) 0 (λ same. absurd (omega (arith, same))))
      ∙ omega (arith, front, found_is, few, small, split, used_some (take gone rest) (take n (drop gone rest)) some)

  pub left_more : (count left last : ℕ) → gone + n < 2 ^ 64 → count ≡ used (padded file (from + gone) 65536) → left ≡ used (take gone rest) → last ≡ (if nat_eq count 0 then left else min (gone + count) (2 ^ 64 - 1)) → last ≡ used (take (gone + n) rest)
  left_more count left last small count_is so_far last_is = left_by count (count_is ∙ piece_used) left last small so_far last_is

-- where all was read
pub left_whole : (file : List ℕ) (from gone left : ℕ) → length file - from ≤ gone → left ≡ used (take gone (drop from file)) → left ≡ used (drop from file)
left_whole file from gone left all so_far = so_far ∙ ap used (take_all gone (drop from file) (omega (arith, all, length-drop from file)))
