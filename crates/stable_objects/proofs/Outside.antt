-- A file that agrees with another outside a range: what is read there is the same.
use Rattle.std.proofs.Common.{◌≡◌, ◌⊎◌, inl, inr, ◌<◌, ◌≤◌, ◌+◌, ◌-◌, ℕ, List, ◌++◌, length, get_or, take, drop, min, sym, ◌∙◌, ap, subst, arith, ◌^◌, append_assoc, length-append, length-take, length-drop}
use Rattle.std.proofs.lemmas.List.{get_or-drop, get_or-take, drop_at, drop-drop, take-append-drop}
use Rattle.std.proofs.lemmas.Grind.{same_number_lists}
use Rattle.byteorder.specs.Endian.{little_bytes, little_number}
use Rattle.oper_core.specs.LittleEndian.{length-little_bytes, little_number-little_bytes}
use Rattle.disk_model.specs.Disk.{Torn, HoldsAt}
use Rattle.disk_model.specs.CallLaws.{torn_whole}
use Rattle.formats.specs.Bytes.{byte_at, number_at}
use Rattle.formats.specs.Objects.{lsn_at, length_at}
use Rattle.stable_objects.specs.Replacing.{AgreesOutside, IsFilled}
use Rattle.stable_objects.proofs.Bytes.{number_same, written_long, written_read}

pub torn_agrees : (at n : ℕ) (old new : List ℕ) → Torn at n old new → AgreesOutside at n old new
torn_agrees at n old new torn = record {
  no_shorter = torn.no_shorter;
  before = λ j within less.
      sym (get_or-take (min at (length old)) new j 0 (omega (arith, within, less)))
      ∙ ap (λ (l : List ℕ). get_or l j 0) torn.before
      ∙ get_or-take at old j 0 less;
  behind = torn.after;
}

-- a write that is done
pub held_agrees : (at : ℕ) (bytes old new : List ℕ) → HoldsAt at bytes old new → AgreesOutside at (length bytes) old new
held_agrees at bytes old new holds = torn_agrees at (length bytes) old new (subst (λ (l : List ℕ). Torn at (length bytes) old l) (sym holds) (torn_whole at bytes old))

-- all after the range
pub from_behind : (at n : ℕ) (old new : List ℕ) → AgreesOutside at n old new → (p : ℕ) → at + n ≤ p → drop p new ≡ drop p old
from_behind at n old new agrees p after =
    let split : at + n + (p - (at + n)) ≡ p = omega (arith, after) in
    let moved : (l : List ℕ) → drop (p - (at + n)) (drop (at + n) l) ≡ drop p l = λ l. drop-drop (p - (at + n)) (at + n) l ∙ ap (λ (q : ℕ). drop q l) split in
    sym (moved new) ∙ ap (λ (l : List ℕ). drop (p - (at + n)) l) agrees.behind ∙ moved old

pub agrees_wider : (at n b m : ℕ) (old new : List ℕ) → b ≤ at → at + n ≤ b + m → AgreesOutside at n old new → AgreesOutside b m old new
agrees_wider at n b m old new low high agrees = record {
  no_shorter = agrees.no_shorter;
  before = λ j within less. agrees.before j within (omega (arith, less, low));
  behind = from_behind at n old new agrees (b + m) high;
}

pub agrees_twice : (at n : ℕ) (a b c : List ℕ) → AgreesOutside at n a b → AgreesOutside at n b c → AgreesOutside at n a c
agrees_twice at n a b c first second = record {
  no_shorter = omega (arith, first.no_shorter, second.no_shorter);
  before = λ j within less. second.before j (omega (arith, within, first.no_shorter)) less ∙ first.before j within less;
  behind = second.behind ∙ first.behind;
}

pub agrees_same : (at n : ℕ) (a b : List ℕ) → b ≡ a → AgreesOutside at n a b
agrees_same at n a b same = record {
  no_shorter = omega (arith, ap length same);
  before = λ j within less. ap (λ (l : List ℕ). byte_at j l) same;
  behind = ap (λ (l : List ℕ). drop (at + n) l) same;
}

-- k bytes before the range, which the old file had, or after it
abbrev pub IsBeside : ℕ → ℕ → List ℕ → ℕ → ℕ → Type 0
IsBeside at n old p k = ((p + k ≤ at) × (p + k ≤ length old)) ⊎ (at + n ≤ p)

-- a byte there
pub byte_beside : (at n : ℕ) (old new : List ℕ) → AgreesOutside at n old new → (j : ℕ) → ((j < at) × (j < length old)) ⊎ (at + n ≤ j) → byte_at j new ≡ byte_at j old
byte_beside at n old new agrees j out = elim out [
  | inl before ↦ agrees.before j before.1 before.0
  | inr after ↦
      let same = from_behind at n old new agrees j after in
      let same_place : j + 0 ≡ j = omega arith in
      let first : (l : List ℕ) → get_or (drop j l) 0 0 ≡ get_or l j 0 = λ l. get_or-drop j l 0 0 ∙ ap (λ (k : ℕ). get_or l k 0) same_place in
      sym (first new) ∙ ap (λ (l : List ℕ). get_or l 0 0) same ∙ first old
]

module _ (at n : ℕ) (old new : List ℕ) (agrees : AgreesOutside at n old new) (p k : ℕ) (out : IsBeside at n old p k) where
  byte_same : (j : ℕ) → j < k → get_or (drop p new) j 0 ≡ get_or (drop p old) j 0
  byte_same j less = elim out [
    | inl before ↦ get_or-drop p new j 0 ∙ agrees.before (p + j) (omega (arith, before.1, less)) (omega (arith, before.0, less)) ∙ sym (get_or-drop p old j 0)
    | inr after ↦ ap (λ (l : List ℕ). get_or l j 0) (from_behind at n old new agrees p after)
  ]

  pub read_same : take k (drop p new) ≡ take k (drop p old)
  read_same = elim out [
    | inl before ↦
        same_number_lists (take k (drop p new)) (take k (drop p old))
        (omega (arith, length-take k (drop p new), length-take k (drop p old), length-drop p new, length-drop p old, before.1, agrees.no_shorter))
        (λ j less.
        let below : j < k = omega (arith, less, length-take k (drop p new)) in
        get_or-take k (drop p new) j 0 below ∙ byte_same j below ∙ sym (get_or-take k (drop p old) j 0 below))
    | inr after ↦ ap (λ (l : List ℕ). take k l) (from_behind at n old new agrees p after)
  ]

  pub number_stays : number_at k p new ≡ number_at k p old
  number_stays = number_same 0 k (drop p new) (drop p old) (λ j low high. byte_same j (omega (arith, high)))

-- the head of a slot, and then its value, written after its gate
module _ (place lsn : ℕ) (value file mid new : List ℕ) (small : lsn < 2 ^ 64) (short : length value < 2 ^ 32)
    (first : HoldsAt (place + 1) (little_bytes 8 lsn ++ little_bytes 4 (length value)) file mid) (second : HoldsAt (place + 13) value mid new) where
  abbrev head : List ℕ
  head = little_bytes 8 lsn ++ little_bytes 4 (length value)

  head_long : length head ≡ 12
  head_long = omega (arith, length-append (little_bytes 8 lsn) (little_bytes 4 (length value)), length-little_bytes 8 lsn, length-little_bytes 4 (length value))

  mid_long : place + 13 ≤ length mid
  mid_long = omega (arith, ap length first, written_long (place + 1) head file, head_long)

  abbrev rest : List ℕ
  rest = drop 12 (drop (place + 1) mid)

  front : drop (place + 1) mid ≡ little_bytes 8 lsn ++ (little_bytes 4 (length value) ++ rest)
  front =
      sym (take-append-drop 12 (drop (place + 1) mid))
      ∙ ap (λ (l : List ℕ). l ++ rest) (ap (λ (n : ℕ). take n (drop (place + 1) mid)) (sym head_long) ∙ ap (λ (l : List ℕ). take (length head) (drop (place + 1) l)) first ∙ written_read (place + 1) head file)
      ∙ append_assoc (little_bytes 8 lsn) (little_bytes 4 (length value)) rest

  behind : drop (place + 9) mid ≡ little_bytes 4 (length value) ++ rest
  behind =
      let same : place + 1 + 8 ≡ place + 9 = omega arith in
      ap (λ (n : ℕ). drop n mid) (sym same)
      ∙ sym (drop-drop 8 (place + 1) mid)
      ∙ ap (λ (l : List ℕ). drop 8 l) front
      ∙ drop_at (little_bytes 8 lsn) (little_bytes 4 (length value) ++ rest) 8 (length-little_bytes 8 lsn)

  agrees : AgreesOutside (place + 13) (length value) mid new
  agrees = held_agrees (place + 13) value mid new second

  is_lsn : lsn_at place new ≡ lsn
  is_lsn =
      number_stays (place + 13) (length value) mid new agrees (place + 1) 8 (inl (omega arith, omega (arith, mid_long)))
      ∙ ap (λ (l : List ℕ). little_number 8 l) front
      ∙ little_number-little_bytes 8 lsn (little_bytes 4 (length value) ++ rest) small

  long : length_at place new ≡ length value
  long =
      number_stays (place + 13) (length value) mid new agrees (place + 9) 4 (inl (omega arith, omega (arith, mid_long)))
      ∙ ap (λ (l : List ℕ). little_number 4 l) behind
      ∙ little_number-little_bytes 4 (length value) rest short

  pub filled_by : IsFilled place lsn value new
  filled_by = record {
    is_lsn = is_lsn;
    long = long;
    stands = ap (λ (n : ℕ). take n (drop (place + 13) new)) long ∙ ap (λ (l : List ℕ). take (length value) (drop (place + 13) l)) second ∙ written_read (place + 13) value mid;
    within = omega (arith, ap length second, written_long (place + 13) value mid);
  }

-- what is beside all that a slot is filled with doesn't count for it
pub filled_beside : (at n place lsn : ℕ) (value old new : List ℕ) → (place + 13 + length value ≤ at) ⊎ (at + n ≤ place + 1) → AgreesOutside at n old new → IsFilled place lsn value old → IsFilled place lsn value new
filled_beside at n place lsn value old new apart agrees filled =
    let out : (a k : ℕ) → 1 ≤ a → a + k ≤ 13 + length value → IsBeside at n old (place + a) k = λ a k some short.
    elim apart [ inl before ↦ inl (omega (arith, before, short), omega (arith, short, filled.within)) | inr behind ↦ inr (omega (arith, behind, some)) ] in
    let long = number_stays at n old new agrees (place + 9) 4 (out 9 4 (omega arith) (omega arith)) ∙ filled.long in
    record {
      is_lsn = number_stays at n old new agrees (place + 1) 8 (out 1 8 (omega arith) (omega arith)) ∙ filled.is_lsn;
      long = long;
      stands =
          ap (λ (k : ℕ). take k (drop (place + 13) new)) long
          ∙ read_same at n old new agrees (place + 13) (length value) (out 13 (length value) (omega arith) (omega arith))
          ∙ ap (λ (k : ℕ). take k (drop (place + 13) old)) (sym filled.long)
          ∙ filled.stands;
      within = omega (arith, filled.within, agrees.no_shorter);
    }

-- what stands before a slot, and its gate, don't count either
pub filled_behind : (at n place lsn : ℕ) (value old new : List ℕ) → at + n ≤ place + 1 → AgreesOutside at n old new → IsFilled place lsn value old → IsFilled place lsn value new
filled_behind at n place lsn value old new le agrees filled = filled_beside at n place lsn value old new (inr le) agrees filled

pub filled_stays : (place lsn : ℕ) (value old new : List ℕ) → AgreesOutside place 1 old new → IsFilled place lsn value old → IsFilled place lsn value new
filled_stays place lsn value old new agrees filled = filled_behind place 1 place lsn value old new (omega arith) agrees filled
