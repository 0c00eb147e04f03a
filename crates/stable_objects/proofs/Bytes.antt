-- Bytes at places of a file that was written to, or that is read.
use Rattle.std.proofs.Common.{◌≡◌, ◌<◌, ◌≤◌, ◌+◌, ◌-◌, ℕ, zero, suc, List, [], ◌∷◌, ◌++◌, length, get_or, take, drop, replicate, max, refl, sym, ◌∙◌, ap, arith, append_assoc, length-append, length-take, length-drop}
use Rattle.std.proofs.lemmas.List.{length-replicate, get_or-drop, get_or-take, get_or_append_left, get_or-append_right, take_at, drop_at}
use Rattle.byteorder.specs.Endian.{little_from}
use Rattle.disk_model.specs.Disk.{HoldsAt, Torn, written_over, read_of}
use Rattle.formats.specs.Bytes.{byte_at}

-- zeros after the end are as no bytes
zero_byte : (m j : ℕ) → get_or (replicate {A = ℕ} m 0) j 0 ≡ 0
zero_byte zero j = refl
zero_byte (suc m) zero = refl
zero_byte (suc m) (suc j) = zero_byte m j

pub byte_filled : (bytes : List ℕ) (m j : ℕ) → get_or (bytes ++ replicate {A = ℕ} m 0) j 0 ≡ get_or bytes j 0
byte_filled [] m j = zero_byte m j
byte_filled (b ∷ bytes) m zero = refl
byte_filled (b ∷ bytes) m (suc j) = byte_filled bytes m j

-- a number is made of the bytes at its places
pub number_same : (i n : ℕ) (xs ys : List ℕ) → ((k : ℕ) → i ≤ k → k < i + n → get_or xs k 0 ≡ get_or ys k 0) → little_from i n xs ≡ little_from i n ys
number_same i zero xs ys same = refl
number_same i (suc n) xs ys same =
    let here = same i (omega arith) (omega arith) in
    let rest = number_same (suc i) n xs ys (λ k low high. same k (omega arith) (omega arith)) in
    omega (arith, here, rest)

module _ (at : ℕ) (bytes old : List ℕ) where
  abbrev front : List ℕ
  front = take at old ++ replicate {A = ℕ} (at - length old) 0

  abbrev rest : List ℕ
  rest = drop (at + length bytes) old

  front_long : length front ≡ at
  front_long = omega (arith, length-append (take at old) (replicate {A = ℕ} (at - length old) 0), length-take at old, length-replicate {A = ℕ} (at - length old) 0)

  both_long : length (front ++ bytes) ≡ at + length bytes
  both_long = omega (arith, length-append front bytes, front_long)

  pub written_long : length (written_over at bytes old) ≡ max (length old) (at + length bytes)
  written_long = omega (arith, length-append (front ++ bytes) rest, both_long, length-drop (at + length bytes) old)

  -- a byte before those written stays
  pub byte_before : (j : ℕ) → j < at → byte_at j (written_over at bytes old) ≡ byte_at j old
  byte_before j less =
      get_or_append_left (front ++ bytes) rest 0 j (omega (arith, both_long))
      ∙ get_or_append_left front bytes 0 j (omega (arith, front_long))
      ∙ byte_filled (take at old) (at - length old) j
      ∙ get_or-take at old j 0 less

  -- and so does one after them
  pub byte_after : (j : ℕ) → at + length bytes ≤ j → byte_at j (written_over at bytes old) ≡ byte_at j old
  byte_after j le =
      let split : at + length bytes + (j - (at + length bytes)) ≡ j = omega arith in
      get_or-append_right (front ++ bytes) rest (at + length bytes) j 0 both_long le
      ∙ get_or-drop (at + length bytes) old (j - (at + length bytes)) 0
      ∙ ap (λ (k : ℕ). get_or old k 0) split

  -- what was written is read
  pub written_read : read_of (written_over at bytes old) at (length bytes) ≡ bytes
  written_read =
      ap (λ (l : List ℕ). take (length bytes) (drop at l)) (append_assoc front bytes rest)
      ∙ ap (λ (l : List ℕ). take (length bytes) l) (drop_at front (bytes ++ rest) at front_long)
      ∙ take_at bytes rest (length bytes) refl

-- one byte that was written
pub byte_written : (at b : ℕ) (old : List ℕ) → byte_at at (written_over at (b ∷ []) old) ≡ b
byte_written at b old =
    let new = written_over at (b ∷ []) old in
    let spot : at + 0 ≡ at = omega arith in
    ap (λ (k : ℕ). get_or new k 0) (sym spot) ∙ sym (get_or-drop at new 0 0) ∙ sym (get_or-take 1 (drop at new) 0 0 (omega arith)) ∙ ap (λ (l : List ℕ). get_or l 0 0) (written_read at (b ∷ []) old)

-- the first byte that was written, and what follows it
pub held_first : (b : ℕ) (old new : List ℕ) → HoldsAt 0 (b ∷ []) old new → new ≡ b ∷ drop 1 old
held_first b old new holds =
    let none : 0 - length old ≡ 0 = omega arith in
    holds ∙ ap (λ (k : ℕ). ((take 0 old ++ replicate {A = ℕ} k 0) ++ b ∷ []) ++ drop 1 old) none

pub torn_first : (old new : List ℕ) → 0 < length old → Torn 0 1 old new → new ≡ get_or new 0 0 ∷ drop 1 old
torn_first old [] some torn = absurd (omega (arith, torn.no_shorter))
torn_first old (b ∷ new) some torn = ap (λ (l : List ℕ). b ∷ l) torn.after

-- a byte after the first
pub byte_behind : (b : ℕ) (old : List ℕ) (j : ℕ) → 1 ≤ j → byte_at j (b ∷ drop 1 old) ≡ byte_at j old
byte_behind b old j le =
    let split : 1 + (j - 1) ≡ j = omega arith in
    get_or-append_right (b ∷ []) (drop 1 old) 1 j 0 refl le ∙ get_or-drop 1 old (j - 1) 0 ∙ ap (λ (k : ℕ). get_or old k 0) split
