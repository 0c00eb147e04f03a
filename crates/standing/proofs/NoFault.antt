-- Files that stand for commands meet their format.
use Rattle.std.proofs.Common.{◌≡◌, ◌∙◌, sym, subst, ap, ℕ, zero, suc, ◌+◌, ◌<◌, ◌≤◌, List, [], length, map, arith, inl, inr}
use Rattle.std.specs.Prelude.{nat_lt, cond}
use Rattle.std.proofs.lemmas.Bool.{cases_lt, lt-ltb, le-ltb, cond-true, cond-false}
use Rattle.disk_model.specs.Disk.{Files}
use Rattle.disk_model.specs.declared.machine.FileNo.{FileNo}
use Rattle.disk_model.specs.declared.machine.FileNo.TheVariants.{Objects}
use Rattle.oper_core.specs.Cell.{Cell}
use Rattle.oper_core.specs.Meaning.{Meaning}
use Rattle.oper_core.specs.declared.bounds.Bounds.{Bounds}
use Rattle.formats.specs.Bytes.{IsOpenAt}
use Rattle.formats.specs.Objects.{params_in, bounds_of, place_in, open_lsn, lsn_at, holder, cell_of}
use Rattle.formats.specs.Image.{IsRecordFault, IsLateSlot, IsFault, in_objects, in_log, in_record, in_late_slot}
use Rattle.formats.specs.Records.{payload_of, records_of, next_after}
use Rattle.formats.specs.declared.params.Params.{Params}
use Rattle.log_blocks.specs.Laws.{no_log_fault, one_place}
use Rattle.log_records.specs.CodecLaws.{HasCodes}
use Rattle.log_records.specs.Uniqueness.{log_of, one_records, no_record_fault}
use Rattle.stable_objects.specs.Laws.{params_of_file, no_fault}
use Rattle.stable_objects.specs.SlotLaws.{open_tells}
use Rattle.standing.specs.Shown.{next-stands}
use Rattle.standing.specs.Standing.{StandsFor, stored}

-- the greater of two numbers is chosen
greater : (f : ℕ → ℕ) (s : ℕ) → s < 2 → f s ≤ f (cond (nat_lt (f 0) (f 1)) 1 0)
greater f s two = elim (cases_lt (f 0) (f 1)) [
  | inl less ↦ let one = ap f (cond-true (nat_lt (f 0) (f 1)) 1 0 (lt-ltb (f 0) (f 1) less)) in first s two one less
  | inr more ↦ let none = ap f (cond-false (nat_lt (f 0) (f 1)) 1 0 (le-ltb (f 0) (f 1) more)) in second s two none more
]
  where
    chosen : ℕ
    chosen = f (cond (nat_lt (f 0) (f 1)) 1 0)

    first : (s : ℕ) → s < 2 → chosen ≡ f 1 → f 0 < f 1 → f s ≤ chosen
    first zero two is less = omega (arith, is, less)
    first (suc zero) two is less = omega (arith, is)
    first (suc (suc s)) two is less = absurd (omega (arith, two))

    second : (s : ℕ) → s < 2 → chosen ≡ f 0 → f 1 ≤ f 0 → f s ≤ chosen
    second zero two is more = omega (arith, is)
    second (suc zero) two is more = omega (arith, is, more)
    second (suc (suc s)) two is more = absurd (omega (arith, two))

-- the cell of an object has the greatest LSN of its slots
cell_latest : (p : Params) (file : List ℕ) (x s : ℕ) → x < p.objects → s < 2 → open_lsn (place_in file x s) file ≤ (stored p file x).lsn
cell_latest p file x s below two =
    let cell : stored p file x ≡ cell_of x file = cond-true (nat_lt x p.objects) (cell_of x file) (record { lsn = 0; value = [] }) (lt-ltb x p.objects below) in
    let lsn : (stored p file x).lsn ≡ open_lsn (place_in file x (holder x file)) file = ap (λ (c : Cell). c.lsn) cell in
    omega (arith, lsn, greater (λ k. open_lsn (place_in file x k) file) s two)

module _ {O : Type 0} (meaning : Bounds → Meaning O) (p : Params) (files : Files) (commands : List O) (it : StandsFor meaning p files commands) where
  next_is : next_after it.holds.header.base (records_of it.holds.groups) ≡ length it.history + 1
  next_is = next-stands (meaning (bounds_of p)) p files it.parts it.holds it.history it.installed it.stable

  -- each open slot has the LSN of a member
  pub none_late : (x s : ℕ) → x < p.objects → s < 2 → IsOpenAt (place_in (files Objects) x s) (files Objects)
      → lsn_at (place_in (files Objects) x s) (files Objects) < next_after it.holds.header.base (records_of it.holds.groups)
  none_late x s below two is_open =
      let told = open_tells (place_in (files Objects) x s) (files Objects) is_open in
      let latest = cell_latest p (files Objects) x s below two in
      let cell = ap (λ (c : Cell). c.lsn) (it.holds.cells x) in
      elim (it.stable.slots.origin x) [
        | inl zero_is ↦ omega (arith, next_is, told, latest, cell, zero_is.0)
        | inr member ↦ omega (arith, next_is, told, latest, cell, it.stable.within (it.parts.slots x).lsn member.0)
      ]

  module _ (codes : HasCodes (meaning (bounds_of p))) where
    abbrev m : Meaning O
    m = meaning (bounds_of p)

    params_are : params_in (files Objects) ≡ p
    params_are = params_of_file p (files Objects) it.holds.objects

    no_late_slot : (place : ℕ) → IsLateSlot m files place → ⊥
    no_late_slot place late =
        let same = one_records m codes it.holds.active late.next_is.active it.holds.header late.next_is.header it.holds.groups late.next_is.groups files it.holds.log late.next_is.log in
        let next : late.next ≡ next_after it.holds.header.base (records_of it.holds.groups) =
        late.next_is.here ∙ sym (λ i. next_after (same.1 i).base (same.2 i)) in
        let below : late.x < p.objects = subst (λ (q : Params). late.x < q.objects) params_are late.slot.below in
        omega (arith, late.late, next, none_late late.x late.s below late.slot.two late.slot.open_gate)

    pub no_fault_at : (file : FileNo) (place : ℕ) → IsFault meaning files file place → ⊥
    no_fault_at _ _ (in_objects place fault) = no_fault p (files Objects) place it.holds.objects fault
    no_fault_at _ _ (in_log file place fault) = no_log_fault it.holds.active it.holds.header (map (payload_of m) it.holds.groups) files file place (log_of m it.holds.log) fault
    no_fault_at _ _ (in_record active header place in_force has fault) =
        let there : active ≡ it.holds.active = one_place it.holds.active active it.holds.header header (map (payload_of m) it.holds.groups) files (log_of m it.holds.log) in_force has in
        no_record_fault m codes it.holds.header it.holds.groups (files it.holds.active) place it.holds.log.log
        (subst (λ (f : FileNo). IsRecordFault m (files f) place) there (subst (λ (q : Params). IsRecordFault (meaning (bounds_of q)) (files active) place) params_are fault))
    no_fault_at _ _ (in_late_slot place late) = no_late_slot place (subst (λ (q : Params). IsLateSlot (meaning (bounds_of q)) files place) params_are late)
