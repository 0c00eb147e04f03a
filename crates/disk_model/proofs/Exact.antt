-- What a crash leaves, both ways.
use Rattle.std.proofs.Common.{◌≡◌, ◌↔◌, ℕ, ◌+◌, ◌≤◌, min, List, [], ◌++◌, length, take, drop, sym, ◌∙◌, ap, subst, arith, append_assoc, length-append, length-drop}
use Rattle.std.proofs.lemmas.List.{take_all, take_at, drop_at, drop_all, drop-drop, take-append-drop, length-take-le}
use Rattle.disk_model.specs.Disk.{Files, Torn}
use Rattle.disk_model.specs.Calls.{DiskState, IsImage, Moment, disk_after, disk_start}
use Rattle.disk_model.specs.CallLaws.{is_disk, left_now}
use Rattle.disk_model.specs.Recorded.{calls_of, first_of, reads_of, synced_of}
use Rattle.disk_model.specs.Store.{state_of}
use Rattle.disk_model.specs.declared.mem_disk.MemDisk.{MemDisk}

pub memory_exact : (d : MemDisk) (c : Files) (s : List ℕ) → Moment (first_of d.files) (calls_of d.history) (length (calls_of d.history)) c s ↔ (IsImage (state_of d) c × (s ≡ d.said.bytes.items))
memory_exact d c s = (
  (λ left.
      let calls = calls_of d.history in
      let k_is : left.k ≡ length calls = omega (arith, left.since, left.until) in (
        subst (λ (st : DiskState). IsImage st c) (ap (λ k. disk_after (disk_start (first_of d.files)) (take k calls)) k_is ∙ ap (λ l. disk_after (disk_start (first_of d.files)) l) (take_all (length calls) calls (omega arith))) left.image,
        (is_disk (first_of d.files) calls (reads_of d.files) (synced_of d.files) d.said.bytes.items 0 0 d.matches).said_now tt c s left,
      )),
  (λ (is, said). subst (λ (l : List ℕ). Moment (first_of d.files) (calls_of d.history) (length (calls_of d.history)) c l) (sym said)
      (left_now (first_of d.files) (calls_of d.history) (reads_of d.files) (synced_of d.files) d.said.bytes.items d.matches c is)),
)

pub empty_exact : (at n : ℕ) (left : List ℕ) → Torn at n [] left ↔ (length left ≤ at + n)
empty_exact at n left = (
  (λ torn. omega (arith, torn.no_longer)),
  (λ short. record {
    before = (let none : min at 0 ≡ 0 = omega arith in ap (λ (k : ℕ). take k left) none) ∙ sym (take_all at [] (omega arith));
    after = drop_all (at + n) left short ∙ sym (drop_all (at + n) [] (omega arith));
    no_shorter = omega arith;
    no_longer = omega (arith, short);
  }),
)

module _ (at n : ℕ) (old left : List ℕ) (within : at + n ≤ length old) where
  abbrev Between : Type 0
  Between = (bytes : List ℕ) × (length bytes ≡ n) × (left ≡ take at old ++ bytes ++ drop (at + n) old)

  parts : Torn at n old left → Between
  parts torn =
      let at_is : at ≡ min at (length old) = omega (arith, within) in
      let front : take at left ≡ take at old = ap (λ (k : ℕ). take k left) at_is ∙ torn.before in
      let size : length left ≡ length old = omega (arith, within, torn.no_shorter, torn.no_longer) in
      let rest = drop at left in (
        take n rest,
        length-take-le n rest (omega (arith, within, size, length-drop at left)),
        sym (take-append-drop at left) ∙ ap (λ (l : List ℕ). l ++ rest) front
            ∙ ap (λ (l : List ℕ). take at old ++ l) (sym (take-append-drop n rest) ∙ ap (λ (l : List ℕ). take n rest ++ l) (drop-drop n at left ∙ torn.after))
            ∙ sym (append_assoc (take at old) (take n rest) (drop (at + n) old)),
      )

  whole : Between → Torn at n old left
  whole (bytes, size, is) =
      let front : length (take at old) ≡ at = length-take-le at old (omega (arith, within)) in
      let at_is : min at (length old) ≡ at = omega (arith, within) in
      let reach : length (take at old ++ bytes) ≡ at + n = omega (arith, length-append (take at old) bytes, front, size) in
      let all : length left ≡ length old = omega (arith, ap length is, length-append (take at old ++ bytes) (drop (at + n) old), reach, length-drop (at + n) old, within) in
      record {
        before = ap (λ (k : ℕ). take k left) at_is ∙ ap (λ (l : List ℕ). take at l) (is ∙ append_assoc (take at old) bytes (drop (at + n) old)) ∙ take_at (take at old) (bytes ++ drop (at + n) old) at front;
        after = ap (λ (l : List ℕ). drop (at + n) l) is ∙ drop_at (take at old ++ bytes) (drop (at + n) old) (at + n) reach;
        no_shorter = omega (arith, all);
        no_longer = omega (arith, all);
      }

  pub within_exact : Torn at n old left ↔ Between
  within_exact = (parts, whole)
