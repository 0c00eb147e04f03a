-- Windows of a file, and writes that are laid over them.
use Rattle.std.proofs.Common.{◌≡◌, ◌⊎◌, inl, inr, ◌<◌, ◌≤◌, ◌+◌, ◌-◌, ℕ, zero, suc, List, [], ◌∷◌, ◌++◌, length, get_or, take, drop, replicate, max, min, refl, sym, ◌∙◌, ap, arith, length-append, length-take, length-drop}
use Rattle.std.proofs.lemmas.Bool.{cases_lt}
use Rattle.std.proofs.lemmas.List.{ext_get_or, length-replicate, get_or-drop, get_or-take, get_or_append_left, get_or-append_right, append-nil, drop_all}
use Rattle.disk_model.specs.Disk.{written_over}
use Rattle.disk_model.specs.Padded.{padded, length-padded, get_or-padded}

-- zeros after the end are as no bytes
zero_byte : (m j : ℕ) → get_or (replicate {A = ℕ} m 0) j 0 ≡ 0
zero_byte zero j = refl
zero_byte (suc m) zero = refl
zero_byte (suc m) (suc j) = zero_byte m j

byte_filled : (bytes : List ℕ) (m j : ℕ) → get_or (bytes ++ replicate {A = ℕ} m 0) j 0 ≡ get_or bytes j 0
byte_filled [] m j = zero_byte m j
byte_filled (b ∷ bytes) m zero = refl
byte_filled (b ∷ bytes) m (suc j) = byte_filled bytes m j

-- the bytes of a file that was written to
module _ (at : ℕ) (bytes old : List ℕ) where
  abbrev front : List ℕ
  front = take at old ++ replicate {A = ℕ} (at - length old) 0

  abbrev rest : List ℕ
  rest = drop (at + length bytes) old

  front_long : length front ≡ at
  front_long = omega (arith, length-append (take at old) (replicate {A = ℕ} (at - length old) 0), length-take at old, length-replicate {A = ℕ} (at - length old) 0)

  both_long : length (front ++ bytes) ≡ at + length bytes
  both_long = omega (arith, length-append front bytes, front_long)

  pub over_long : length (written_over at bytes old) ≡ max (length old) (at + length bytes)
  over_long = omega (arith, length-append (front ++ bytes) rest, both_long, length-drop (at + length bytes) old)

  over_before : (k : ℕ) → k < at → get_or (written_over at bytes old) k 0 ≡ get_or old k 0
  over_before k less =
      get_or_append_left (front ++ bytes) rest 0 k (omega (arith, both_long))
      ∙ get_or_append_left front bytes 0 k (omega (arith, front_long))
      ∙ byte_filled (take at old) (at - length old) k
      ∙ get_or-take at old k 0 less

  over_within : (k : ℕ) → at ≤ k → k < at + length bytes → get_or (written_over at bytes old) k 0 ≡ get_or bytes (k - at) 0
  over_within k le less = get_or_append_left (front ++ bytes) rest 0 k (omega (arith, both_long)) ∙ get_or-append_right front bytes at k 0 front_long le

  over_after : (k : ℕ) → at + length bytes ≤ k → get_or (written_over at bytes old) k 0 ≡ get_or old k 0
  over_after k le =
      let split : at + length bytes + (k - (at + length bytes)) ≡ k = omega (arith, le) in
      get_or-append_right (front ++ bytes) rest (at + length bytes) k 0 both_long le
      ∙ get_or-drop (at + length bytes) old (k - (at + length bytes)) 0
      ∙ ap (λ (j : ℕ). get_or old j 0) split

-- a window, and the part of a write that falls into it
module _ (at from first end : ℕ) (bytes old into : List ℕ) (shows : into ≡ padded old from (length into)) (first_is : first ≡ max at from) (end_is : end ≡ min (at + length bytes) (from + length into)) where
  abbrev new_window : List ℕ
  new_window = padded (written_over at bytes old) from (length into)

  shown : (j : ℕ) → j < length into → get_or into j 0 ≡ get_or old (from + j) 0
  shown j less = ap (λ (l : List ℕ). get_or l j 0) shows ∙ get_or-padded old from (length into) j less

  wanted : (j : ℕ) → j < length into → get_or new_window j 0 ≡ get_or (written_over at bytes old) (from + j) 0
  wanted j less = get_or-padded (written_over at bytes old) from (length into) j less

  -- none does
  beside : (k : ℕ) → (k < at) ⊎ (at + length bytes ≤ k) → get_or (written_over at bytes old) k 0 ≡ get_or old k 0
  beside k out = elim out [ inl before ↦ over_before at bytes old k before | inr after ↦ over_after at bytes old k after ]

  out_of : end ≤ first → (j : ℕ) → j < length into → (from + j < at) ⊎ (at + length bytes ≤ from + j)
  out_of none j less = elim (cases_lt (from + j) at) [
    | inl before ↦ inl before
    | inr le ↦ inr (omega (arith, none, less, le, first_is, end_is))
  ]

  pub not_laid : end ≤ first → into ≡ new_window
  not_laid none = ext_get_or 0 into new_window (sym (length-padded (written_over at bytes old) from (length into))) (λ j less. shown j less ∙ sym (wanted j less ∙ beside (from + j) (out_of none j less)))

  -- some does
  module _ (some : first < end) (part new : List ℕ) (part_is : part ≡ take (end - at - (first - at)) (drop (first - at) bytes)) (new_is : new ≡ take (first - from) into ++ part ++ drop (first - from + length part) into) where
    part_long : length part ≡ end - first
    part_long = omega (arith, ap length part_is, length-take (end - at - (first - at)) (drop (first - at) bytes), length-drop (first - at) bytes, some, first_is, end_is)

    abbrev early : List ℕ
    early = take (first - from) into

    early_long : length early ≡ first - from
    early_long = omega (arith, length-take (first - from) into, some, first_is, end_is)

    joined_long : length (early ++ part) ≡ first - from + length part
    joined_long = omega (arith, length-append early part, early_long)

    abbrev late : List ℕ
    late = drop (first - from + length part) into

    new_long : length new ≡ length into
    new_long = omega (arith, ap length new_is, length-append (early ++ part) late, joined_long, length-drop (first - from + length part) into, part_long, some, first_is, end_is)

    same : (j : ℕ) → j < length into → get_or new j 0 ≡ get_or (written_over at bytes old) (from + j) 0
    same j less = ap (λ (l : List ℕ). get_or l j 0) new_is ∙ elim (cases_lt j (first - from)) [
      | inl before ↦
          get_or_append_left (early ++ part) late 0 j (omega (arith, before, joined_long))
          ∙ get_or_append_left early part 0 j (omega (arith, before, early_long))
          ∙ get_or-take (first - from) into j 0 before
          ∙ shown j less
          ∙ sym (over_before at bytes old (from + j) (omega (arith, before, first_is)))
      | inr le ↦ elim (cases_lt j (first - from + length part)) [
        | inl within ↦
            let split : first - at + (j - (first - from)) ≡ from + j - at = omega (arith, le, first_is) in
            get_or_append_left (early ++ part) late 0 j (omega (arith, within, joined_long))
            ∙ get_or-append_right early part (first - from) j 0 early_long le
            ∙ ap (λ (l : List ℕ). get_or l (j - (first - from)) 0) part_is
            ∙ get_or-take (end - at - (first - at)) (drop (first - at) bytes) (j - (first - from)) 0 (omega (arith, within, le, part_long, some, first_is))
            ∙ get_or-drop (first - at) bytes (j - (first - from)) 0
            ∙ ap (λ (i : ℕ). get_or bytes i 0) split
            ∙ sym (over_within at bytes old (from + j) (omega (arith, le, first_is)) (omega (arith, within, le, part_long, some, first_is, end_is)))
        | inr after ↦
            let split : first - from + length part + (j - (first - from + length part)) ≡ j = omega (arith, after) in
            get_or-append_right (early ++ part) late (first - from + length part) j 0 joined_long after
            ∙ get_or-drop (first - from + length part) into (j - (first - from + length part)) 0
            ∙ ap (λ (i : ℕ). get_or into i 0) split
            ∙ shown j less
            ∙ sym (over_after at bytes old (from + j) (omega (arith, after, less, part_long, some, first_is, end_is)))
      ]
    ]

    pub laid : new ≡ new_window
    laid = ext_get_or 0 new new_window (new_long ∙ sym (length-padded (written_over at bytes old) from (length into))) (λ j less.
        let low : j < length into = omega (arith, less, new_long) in
        same j low ∙ sym (wanted j low))

-- a window of zeros is one of a file without bytes
pub zeros_are_none : (from n : ℕ) (into : List ℕ) → into ≡ replicate {A = ℕ} n 0 → into ≡ padded [] from (length into)
zeros_are_none from n into is = ext_get_or 0 into (padded [] from (length into)) (sym (length-padded [] from (length into)))
    (λ j less. ap (λ (l : List ℕ). get_or l j 0) is ∙ zero_byte n j ∙ sym (get_or-padded [] from (length into) j less))

-- what is written over no bytes, from the start
pub over_none : (bytes : List ℕ) → written_over 0 bytes [] ≡ bytes
over_none bytes = ap (λ (l : List ℕ). bytes ++ l) (drop_all (0 + length bytes) [] (omega arith)) ∙ append-nil bytes
