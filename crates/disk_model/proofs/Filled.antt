-- What a crash that fills leaves, offset by offset.
use Rattle.std.proofs.Common.{inl, inr, ◌≡◌, ◌≢◌, ◌⊎◌, ⊎_elim, ℕ, ◌+◌, ◌-◌, ◌≤◌, ◌<◌, List, [], ◌∷◌, ◌++◌, length, take, drop, replicate, get_or, refl, sym, ◌∙◌, ap, subst, arith, length-append, length-take, get_or-take, get_or-drop}
use Rattle.std.proofs.lemmas.List.{get_or_append_left, get_or-append_right, get_or-replicate, length-replicate}
use Rattle.std.proofs.lemmas.Bool.{cases_lt}
use Rattle.disk_model.specs.Disk.{Files, written_over}
use Rattle.disk_model.specs.Moments.{same_file}
use Rattle.disk_model.specs.Call.{Call, Write, Sync, Say}
use Rattle.disk_model.specs.Calls.{DiskState, changed, filled_over, disk_step, disk_after, disk_start}
use Rattle.disk_model.specs.CallLaws.{changed_here, changed_others, length-over}
use Rattle.disk_model.specs.Unsynced.{NoSync, IsUnsynced, IsFilled}
use Rattle.disk_model.specs.declared.machine.FileNo.{FileNo}

abbrev over : ℕ → ℕ → List ℕ → List ℕ → List ℕ
over byte at bytes old = (take at old ++ replicate (at - length old) byte) ++ bytes ++ drop (at + length bytes) old

module _ (byte at : ℕ) (bytes old : List ℕ) where
  abbrev front : List ℕ
  front = take at old ++ replicate (at - length old) byte

  size : length front ≡ at
  size = omega (arith, length-append (take at old) (replicate (at - length old) byte), length-take at old, length-replicate {A = ℕ} (at - length old) byte)

  reach : length (front ++ bytes) ≡ at + length bytes
  reach = omega (arith, length-append front bytes, size)

  from_front : (i : ℕ) → i < at → get_or (over byte at bytes old) i 0 ≡ get_or front i 0
  from_front i lt = get_or_append_left (front ++ bytes) (drop (at + length bytes) old) 0 i (omega (arith, reach, lt)) ∙ get_or_append_left front bytes 0 i (omega (arith, size, lt))

  pub at_front : (i : ℕ) → i < at → i < length old → get_or (over byte at bytes old) i 0 ≡ get_or old i 0
  at_front i lt inside = from_front i lt ∙ get_or_append_left (take at old) (replicate (at - length old) byte) 0 i (omega (arith, length-take at old, lt, inside)) ∙ get_or-take at old i 0 lt

  pub at_gap : (i : ℕ) → i < at → length old ≤ i → get_or (over byte at bytes old) i 0 ≡ byte
  at_gap i lt past =
      let all : length (take at old) ≡ length old = omega (arith, length-take at old, lt, past) in
      from_front i lt ∙ get_or-append_right (take at old) (replicate (at - length old) byte) (length old) i 0 all past
      ∙ get_or-replicate (at - length old) (i - length old) byte 0 (omega (arith, lt, past))

  pub at_range : (i : ℕ) → at ≤ i → i < at + length bytes → get_or (over byte at bytes old) i 0 ≡ get_or bytes (i - at) 0
  at_range i le lt = get_or_append_left (front ++ bytes) (drop (at + length bytes) old) 0 i (omega (arith, reach, lt)) ∙ get_or-append_right front bytes at i 0 size le

  pub at_rest : (i : ℕ) → at + length bytes ≤ i → get_or (over byte at bytes old) i 0 ≡ get_or old i 0
  at_rest i le =
      let place : at + length bytes + (i - (at + length bytes)) ≡ i = omega (arith, le) in
      get_or-append_right (front ++ bytes) (drop (at + length bytes) old) (at + length bytes) i 0 reach le
      ∙ get_or-drop (at + length bytes) old (i - (at + length bytes)) 0 ∙ ap (λ (k : ℕ). get_or old k 0) place

-- with these offsets written since the last sync, besides those past the synced length
record Filling (byte : ℕ) (written : ℕ → Type 0) (synced reads left : List ℕ) : Type 0 where
  grown : length synced ≤ length reads
  size : length left ≡ length reads
  filled : (i : ℕ) → i < length reads → written i ⊎ (length synced ≤ i) → get_or left i 0 ≡ byte
  kept : (i : ℕ) → (written i → ⊥) → i < length synced → get_or left i 0 ≡ get_or reads i 0

same_places : (byte : ℕ) (one two : ℕ → Type 0) (synced reads filled : List ℕ) → ((i : ℕ) → one i → two i) → ((i : ℕ) → two i → one i) → Filling byte one synced reads filled → Filling byte two synced reads filled
same_places byte one two synced reads filled to from f = record {
  grown = f.grown;
  size = f.size;
  filled = λ i lt place. f.filled i lt (⊎_elim (λ w. inl (from i w)) (λ past. inr past) place);
  kept = λ i none lt. f.kept i (λ w. none (to i w)) lt;
}

fills_write : (byte at : ℕ) (bytes : List ℕ) (written : ℕ → Type 0) (synced reads filled : List ℕ) → Filling byte written synced reads filled
    → Filling byte (λ i. written i ⊎ ((at ≤ i) × (i < at + length bytes))) synced (written_over at bytes reads) (filled_over byte at (length bytes) filled)
fills_write byte at bytes written synced reads filled f =
    let puts = replicate (length bytes) byte in
    let n_is : length puts ≡ length bytes = length-replicate (length bytes) byte in
    let is : over byte at puts filled ≡ filled_over byte at (length bytes) filled = ap (λ (k : ℕ). (take at filled ++ replicate (at - length filled) byte) ++ puts ++ drop (at + k) filled) n_is in
    subst (λ (l : List ℕ). Filling byte (λ i. written i ⊎ ((at ≤ i) × (i < at + length bytes))) synced (written_over at bytes reads) l) is (record {
      grown = omega (arith, f.grown, length-over 0 at bytes reads);
      size = omega (arith, length-over byte at puts filled, length-over 0 at bytes reads, n_is, f.size);
      filled = λ i lt place. elim (cases_lt i at) [
        | inl before ↦ elim (cases_lt i (length filled)) [
          | inl inside ↦ at_front byte at puts filled i before inside ∙ f.filled i (omega (arith, inside, f.size))
              (⊎_elim (λ w. ⊎_elim (λ old. inl old) (λ range. absurd (omega (arith, before, range.0))) w) (λ past. inr past) place)
          | inr past ↦ at_gap byte at puts filled i before past
        ]
        | inr le ↦ elim (cases_lt i (at + length bytes)) [
          | inl within ↦ at_range byte at puts filled i le (omega (arith, within, n_is)) ∙ get_or-replicate (length bytes) (i - at) byte 0 (omega (arith, le, within))
          | inr behind ↦ at_rest byte at puts filled i (omega (arith, behind, n_is)) ∙ f.filled i (omega (arith, behind, lt, length-over 0 at bytes reads))
              (⊎_elim (λ w. ⊎_elim (λ old. inl old) (λ range. absurd (omega (arith, behind, range.1))) w) (λ past. inr past) place)
        ]
      ];
      kept = λ i none lt. elim (cases_lt i at) [
        | inl before ↦ at_front byte at puts filled i before (omega (arith, lt, f.grown, f.size)) ∙ f.kept i (λ w. none (inl w)) lt ∙ sym (at_front 0 at bytes reads i before (omega (arith, lt, f.grown)))
        | inr le ↦ elim (cases_lt i (at + length bytes)) [
          | inl within ↦ absurd (none (inr (le, within)))
          | inr behind ↦ at_rest byte at puts filled i (omega (arith, behind, n_is)) ∙ f.kept i (λ w. none (inl w)) lt ∙ sym (at_rest 0 at bytes reads i behind)
        ]
      ];
    })

fills_sync : (byte : ℕ) (reads : List ℕ) → Filling byte (λ i. ⊥) reads reads reads
fills_sync byte reads = record {
  grown = omega arith;
  size = refl;
  filled = λ i lt place. ⊎_elim (λ none. absurd none) (λ past. absurd (omega (arith, lt, past))) place;
  kept = λ i none lt. refl;
}

module _ (byte : ℕ) (file : FileNo) where
  abbrev FillsAt : (ℕ → Type 0) → DiskState → Type 0
  FillsAt written st = Filling byte written (st.synced file) (st.reads file) (st.filled byte file)

  fills_on : (calls : List Call) (st : DiskState) (written : ℕ → Type 0) → FillsAt written st → FillsAt (λ i. (written i × NoSync file calls) ⊎ IsUnsynced file i calls) (disk_after st calls)
  fills_on [] st written f = same_places byte written (λ i. (written i × Unit {0}) ⊎ ⊥) (st.synced file) (st.reads file) (st.filled byte file) (λ i w. inl (w, tt)) (λ i w. ⊎_elim (λ p. p.0) (λ none. absurd none) w) f
  fills_on (Write other at bytes ∷ calls) st written f = elim (same_file file other) [
    | inl is ↦
        let next = disk_step (Write other at bytes) st in
        let more : ℕ → Type 0 = λ i. written i ⊎ ((at ≤ i) × (i < at + length bytes)) in
        let here : FillsAt more next = subst (λ (g : FileNo). Filling byte more (st.synced g) (changed other (written_over at bytes (st.reads other)) st.reads g) (changed other (filled_over byte at (length bytes) (st.filled byte other)) (st.filled byte) g)) (sym is)
        (subst (λ (l : List ℕ). Filling byte more (st.synced other) l (changed other (filled_over byte at (length bytes) (st.filled byte other)) (st.filled byte) other)) (sym (changed_here other (written_over at bytes (st.reads other)) st.reads))
        (subst (λ (l : List ℕ). Filling byte more (st.synced other) (written_over at bytes (st.reads other)) l) (sym (changed_here other (filled_over byte at (length bytes) (st.filled byte other)) (st.filled byte)))
        (fills_write byte at bytes written (st.synced other) (st.reads other) (st.filled byte other) (subst (λ (g : FileNo). Filling byte written (st.synced g) (st.reads g) (st.filled byte g)) is f)))) in
        same_places byte (λ i. (more i × NoSync file calls) ⊎ IsUnsynced file i calls) (λ i. (written i × NoSync file calls) ⊎ (((file ≡ other) × (at ≤ i) × (i < at + length bytes) × NoSync file calls) ⊎ IsUnsynced file i calls))
        ((disk_after next calls).synced file) ((disk_after next calls).reads file) ((disk_after next calls).filled byte file)
        (λ i w. ⊎_elim (λ p. ⊎_elim (λ old. inl (old, p.1)) (λ range. inr (inl (is, range.0, range.1, p.1))) p.0) (λ later. inr (inr later)) w)
        (λ i w. ⊎_elim (λ p. inl (inl p.0, p.1)) (λ v. ⊎_elim (λ q. inl (inr (q.1, q.2), q.3)) (λ later. inr later) v) w)
        (fills_on calls next more here)
    | inr is_other ↦
        let next = disk_step (Write other at bytes) st in
        let here : FillsAt written next =
        subst (λ (l : List ℕ). Filling byte written (st.synced file) l (changed other (filled_over byte at (length bytes) (st.filled byte other)) (st.filled byte) file)) (sym (changed_others other (written_over at bytes (st.reads other)) st.reads file is_other))
        (subst (λ (l : List ℕ). Filling byte written (st.synced file) (st.reads file) l) (sym (changed_others other (filled_over byte at (length bytes) (st.filled byte other)) (st.filled byte) file is_other)) f) in
        same_places byte (λ i. (written i × NoSync file calls) ⊎ IsUnsynced file i calls) (λ i. (written i × NoSync file calls) ⊎ (((file ≡ other) × (at ≤ i) × (i < at + length bytes) × NoSync file calls) ⊎ IsUnsynced file i calls))
        ((disk_after next calls).synced file) ((disk_after next calls).reads file) ((disk_after next calls).filled byte file)
        (λ i w. ⊎_elim (λ p. inl p) (λ later. inr (inr later)) w)
        (λ i w. ⊎_elim (λ p. inl p) (λ v. ⊎_elim (λ q. absurd (is_other q.0)) (λ later. inr later) v) w)
        (fills_on calls next written here)
  ]
  fills_on (Sync other ∷ calls) st written f = elim (same_file file other) [
    | inl is ↦
        let next = disk_step (Sync other) st in
        let here : FillsAt (λ i. ⊥) next = subst (λ (g : FileNo). Filling byte (λ i. ⊥) (changed other (st.reads other) st.synced g) (st.reads g) (changed other (st.reads other) (st.filled byte) g)) (sym is)
        (subst (λ (l : List ℕ). Filling byte (λ i. ⊥) l (st.reads other) (changed other (st.reads other) (st.filled byte) other)) (sym (changed_here other (st.reads other) st.synced))
        (subst (λ (l : List ℕ). Filling byte (λ i. ⊥) (st.reads other) (st.reads other) l) (sym (changed_here other (st.reads other) (st.filled byte))) (fills_sync byte (st.reads other)))) in
        same_places byte (λ i. (⊥ × NoSync file calls) ⊎ IsUnsynced file i calls) (λ i. (written i × ((file ≢ other) × NoSync file calls)) ⊎ IsUnsynced file i calls)
        ((disk_after next calls).synced file) ((disk_after next calls).reads file) ((disk_after next calls).filled byte file)
        (λ i w. ⊎_elim (λ p. absurd p.0) (λ later. inr later) w)
        (λ i w. ⊎_elim (λ p. absurd (p.1.0 is)) (λ later. inr later) w)
        (fills_on calls next (λ i. ⊥) here)
    | inr is_other ↦
        let next = disk_step (Sync other) st in
        let here : FillsAt written next =
        subst (λ (l : List ℕ). Filling byte written l (st.reads file) (changed other (st.reads other) (st.filled byte) file)) (sym (changed_others other (st.reads other) st.synced file is_other))
        (subst (λ (l : List ℕ). Filling byte written (st.synced file) (st.reads file) l) (sym (changed_others other (st.reads other) (st.filled byte) file is_other)) f) in
        same_places byte (λ i. (written i × NoSync file calls) ⊎ IsUnsynced file i calls) (λ i. (written i × ((file ≢ other) × NoSync file calls)) ⊎ IsUnsynced file i calls)
        ((disk_after next calls).synced file) ((disk_after next calls).reads file) ((disk_after next calls).filled byte file)
        (λ i w. ⊎_elim (λ p. inl (p.0, (is_other, p.1))) (λ later. inr later) w)
        (λ i w. ⊎_elim (λ p. inl (p.0, p.1.1)) (λ later. inr later) w)
        (fills_on calls next written here)
  ]
  fills_on (Say bytes ∷ calls) st written f = fills_on calls (disk_step (Say bytes) st) written f

  pub fill_exact : (first : Files) (calls : List Call) → let st = disk_after (disk_start first) calls in IsFilled byte (λ i. IsUnsynced file i calls ⊎ (length (st.synced file) ≤ i)) (st.reads file) (st.filled byte file)
  fill_exact first calls =
      let st = disk_after (disk_start first) calls in
      let f = fills_on calls (disk_start first) (λ i. ⊥) (fills_sync byte (first file)) in
      record {
        size = f.size;
        filled = λ i lt place. f.filled i lt (⊎_elim (λ w. inl (inr w)) (λ past. inr past) place);
        kept = λ i none. f.kept i (λ w. ⊎_elim (λ p. absurd p.0) (λ later. none (inl later)) w)
            (elim (cases_lt i (length (st.synced file))) [ inl lt ↦ lt | inr past ↦ absurd (none (inr past)) ]);
      }
