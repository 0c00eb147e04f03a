-- What is done of a directory and of a bucket so far, and what is left.
use Rattle.std.proofs.Common.{◌≡◌, ◌<◌, ◌≤◌, ℕ, suc, ◌+◌, Bool, true, false, cond, List, [], ◌∷◌, ◌++◌, length, drop, filter, get_or, refl, sym, ap, ◌∙◌, arith, append_assoc, drop-cons}
use Rattle.byteorder.specs.Endian.{little_number}
use Rattle.hash_ops.specs.Blocks.{numbers_in}
use Rattle.hash_ops.specs.Effects.{renamed, renamed_at}

-- one item more is done
one_more : {E : Type 0} (all front rest after : List E) (x : E) → all ≡ front ++ x ∷ rest → after ≡ front ++ x ∷ [] → all ≡ after ++ rest
one_more all front rest after x is more = is ∙ sym (append_assoc front (x ∷ []) rest) ∙ ap (λ l. l ++ rest) (sym more)

-- the next entry of a directory
pub renamed_next : (place old new : ℕ) (xs front after : List ℕ) (i d : ℕ) → renamed place old new 0 xs ≡ front ++ renamed place old new i (drop i xs) → i < length xs
    → after ≡ front ++ renamed_at place old new i (get_or xs i d) ∷ [] → renamed place old new 0 xs ≡ after ++ renamed place old new (i + 1) (drop (i + 1) xs)
renamed_next place old new xs front after i d so_far within more =
    let next : suc i ≡ i + 1 = omega arith in
    one_more (renamed place old new 0 xs) front (renamed place old new (suc i) (drop (suc i) xs)) after (renamed_at place old new i (get_or xs i d))
    (so_far ∙ ap (λ (l : List ℕ). front ++ renamed place old new i l) (drop-cons xs i d within)) more
    ∙ ap (λ (k : ℕ). after ++ renamed place old new k (drop k xs)) next

-- the next pair of a half, or of the other
module _ {E : Type 0} (p : E → Bool) (all front after xs : List E) (i : ℕ) (d : E) (so_far : all ≡ front ++ filter p (drop i xs)) (within : i < length xs) where
  split_next : (b : Bool) → p (get_or xs i d) ≡ b → all ≡ front ++ cond b (get_or xs i d ∷ filter p (drop (suc i) xs)) (filter p (drop (suc i) xs))
  split_next b is =
      so_far ∙ ap (λ (l : List E). front ++ filter p l) (drop-cons xs i d within)
      ∙ ap (λ (b : Bool). front ++ cond b (get_or xs i d ∷ filter p (drop (suc i) xs)) (filter p (drop (suc i) xs))) is

  pub kept_next : p (get_or xs i d) ≡ true → after ≡ front ++ get_or xs i d ∷ [] → all ≡ after ++ filter p (drop (i + 1) xs)
  kept_next is more =
      let next : suc i ≡ i + 1 = omega arith in
      one_more all front (filter p (drop (suc i) xs)) after (get_or xs i d) (split_next true is) more ∙ ap (λ (k : ℕ). after ++ filter p (drop k xs)) next

  pub left_next : p (get_or xs i d) ≡ false → all ≡ front ++ filter p (drop (i + 1) xs)
  left_next is = let next : suc i ≡ i + 1 = omega arith in split_next false is ∙ ap (λ (k : ℕ). front ++ filter p (drop k xs)) next

-- the next number of a directory's bytes
numbers_front : (rest : List ℕ) → 4 ≤ length rest → numbers_in rest ≡ little_number 4 rest ∷ numbers_in (drop 4 rest)
numbers_front (a ∷ b ∷ c ∷ d ∷ rest) long = refl
numbers_front (a ∷ b ∷ c ∷ []) long = absurd (omega (arith, long))
numbers_front (a ∷ b ∷ []) long = absurd (omega (arith, long))
numbers_front (a ∷ []) long = absurd (omega (arith, long))
numbers_front [] long = absurd (omega (arith, long))

pub numbers_next : (bytes front after rest : List ℕ) (x : ℕ) → numbers_in bytes ≡ front ++ numbers_in rest → 4 ≤ length rest → x ≡ little_number 4 rest
    → after ≡ front ++ x ∷ [] → numbers_in bytes ≡ after ++ numbers_in (drop 4 rest)
numbers_next bytes front after rest x so_far long is more =
    one_more (numbers_in bytes) front (numbers_in (drop 4 rest)) after x
    (so_far ∙ ap (λ (l : List ℕ). front ++ l) (numbers_front rest long) ∙ ap (λ (y : ℕ). front ++ y ∷ numbers_in (drop 4 rest)) (sym is)) more

pub numbers_end : (rest : List ℕ) → length rest < 4 → numbers_in rest ≡ []
numbers_end (a ∷ b ∷ c ∷ d ∷ rest) short = absurd (omega (arith, short))
numbers_end (a ∷ b ∷ c ∷ []) short = refl
numbers_end (a ∷ b ∷ []) short = refl
numbers_end (a ∷ []) short = refl
numbers_end [] short = refl
