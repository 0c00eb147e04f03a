-- The first check of the files that fails is one, and files that meet their format pass them all.
use Rattle.std.proofs.Common.{◌≡◌, ◌<◌, ◌+◌, ◌*◌, ℕ, map, refl, sym, ap, ◌∙◌, subst, arith}
use Rattle.disk_model.specs.Disk.{Files}
use Rattle.disk_model.specs.declared.machine.FileNo.{FileNo}
use Rattle.disk_model.specs.declared.machine.FileNo.TheVariants.{Objects}
use Rattle.oper_core.specs.Meaning.{Meaning, HasBounds, IsSmall, IsLawful}
use Rattle.oper_core.specs.declared.bounds.Bounds.{Bounds}
use Rattle.formats.specs.Bytes.{IsOpenAt}
use Rattle.formats.specs.FirstFault.{AreObjectsWhole, IsFirstFault, at_objects, at_logs, at_record, at_late_slot, IsFirstLateSlot}
use Rattle.formats.specs.Image.{IsFault, IsRecordFault, IsLateSlot, NextIs, in_objects, in_log, in_record, in_late_slot}
use Rattle.formats.specs.InForce.{IsInForce, HasHeader}
use Rattle.formats.specs.Log.{Header}
use Rattle.formats.specs.Objects.{params_in, IsInRange, bounds_of, place_in, lsn_at, layout_in}
use Rattle.formats.specs.Records.{payload_of, records_of, next_after, HoldsRecordLog}
use Rattle.formats.specs.declared.params.Params.{Params}
use Rattle.log_blocks.specs.Laws.{first_is_log_fault, no_first_log_fault, one_log_fault, one_place, one_active}
use Rattle.log_records.specs.CodecLaws.{HasCodes, has_codes}
use Rattle.log_records.specs.Uniqueness.{log_of, one_records, no_record_fault, one_record_fault, broken_log}
use Rattle.stable_objects.specs.SlotGates.{slot_gate}
use Rattle.stable_objects.specs.Laws.{params_of_file, first_is_fault, no_first_fault, one_objects_fault}
use Rattle.running_store.specs.Parts.{meaning_in}
use Rattle.restart.specs.WellFormed.{IsWellFormed}

-- the records of a log have one next LSN
one_next : {O : Type 0} (m : Meaning O) (files : Files) (n k : ℕ) → HasCodes m → NextIs m files n → NextIs m files k → n ≡ k
one_next m files n k codes a b =
    let same = one_records m codes a.active b.active a.header b.header a.groups b.groups files a.log b.log in
    a.here ∙ (λ i. next_after (same.1 i).base (same.2 i)) ∙ sym b.here

-- the first late slot is one
one_late_slot : {O : Type 0} (m : Meaning O) (files : Files) (p q : ℕ) → HasCodes m → IsFirstLateSlot m files p → IsFirstLateSlot m files q → p ≡ q
one_late_slot m files p q codes a b =
    let file = files Objects in
    let next = one_next m files a.late.next b.late.next codes a.late.next_is b.late.next_is in
    let low = a.first b.late.x b.late.s b.late.slot (omega (arith, next, b.late.late)) in
    let high = b.first a.late.x a.late.s a.late.slot (omega (arith, next, a.late.late)) in
    let same : 2 * a.late.x + a.late.s ≡ 2 * b.late.x + b.late.s = omega (arith, low, high) in
    a.late.here ∙ ap (λ (n : ℕ). slot_gate (layout_in file) n + 1) same ∙ sym b.late.here

-- the first check that fails is a fault of the files
pub is_fault : {O : Type 0} (meaning : Bounds → Meaning O) (files : Files) (file : FileNo) (place : ℕ) → IsFirstFault meaning files file place → IsFault meaning files file place
is_fault meaning files _ _ (at_objects place fault) = in_objects place (first_is_fault (files Objects) place fault)
is_fault meaning files _ _ (at_logs file place whole fault) = in_log file place (first_is_log_fault files file place fault)
is_fault meaning files _ _ (at_record active header place whole in_force has fault) = in_record active header place in_force has fault
is_fault meaning files _ _ (at_late_slot place whole fault) = in_late_slot place fault.late

module _ {O : Type 0} (meaning : Bounds → Meaning O) (bounded : (b : Bounds) → HasBounds b (meaning b)) (lawful : (b : Bounds) → IsSmall b → IsLawful (meaning b)) where
  -- a record of the store has a code
  pub codes_in : (p : Params) → IsInRange p → HasCodes (meaning_in meaning p)
  codes_in p range =
      let small : IsSmall (bounds_of p) = record { objects = omega (arith, range.objects); cap = omega (arith, range.cap) } in
      has_codes (meaning_in meaning p) (bounds_of p) small (bounded (bounds_of p)) (lawful (bounds_of p) small)

  -- files that meet their format have no late slot
  pub no_late_slot : (files : Files) (place : ℕ) → IsWellFormed meaning files → IsLateSlot (meaning (bounds_of (params_in (files Objects)))) files place → ⊥
  no_late_slot files place image late =
      let file = files Objects in
      let same : params_in file ≡ image.params = params_of_file image.params file image.objects in
      let next = late.next_is in
      let own = subst (λ (q : Params). HoldsRecordLog (meaning_in meaning q) next.active next.header next.groups files) same next.log in
      let logs = one_records (meaning_in meaning image.params) (codes_in image.params image.objects.in_range) next.active image.active next.header image.header next.groups image.groups files own image.log in
      let none = subst (λ (q : Params). (x s : ℕ) → x < q.objects → s < 2 → IsOpenAt (place_in file x s) file → lsn_at (place_in file x s) file < next_after image.header.base (records_of image.groups)) (sym same) image.none_late in
      let below = none late.x late.s late.slot.below late.slot.two late.slot.open_gate in
      let same_next : next_after next.header.base (records_of next.groups) ≡ next_after image.header.base (records_of image.groups) = λ i. next_after (logs.1 i).base (logs.2 i) in
      omega (arith, below, late.late, next.here, same_next)

  -- files that meet their format pass every check
  pub passes_all : (files : Files) (file : FileNo) (place : ℕ) → IsWellFormed meaning files → IsFirstFault meaning files file place → ⊥
  passes_all files _ _ image (at_objects place fault) = no_first_fault image.params (files Objects) place image.objects fault
  passes_all files _ _ image (at_logs file place whole fault) =
      let m = meaning_in meaning image.params in
      no_first_log_fault image.active image.header (map (payload_of m) image.groups) files file place (log_of m image.log) fault
  passes_all files _ _ image (at_record active header place whole in_force has fault) =
      let m = meaning_in meaning image.params in
      let same = params_of_file image.params (files Objects) image.objects in
      let there = one_place image.active active image.header header (map (payload_of m) image.groups) files (log_of m image.log) in_force has in
      no_record_fault m (codes_in image.params image.objects.in_range) image.header image.groups (files image.active) place image.log.log
      (subst (λ (f : FileNo). IsRecordFault m (files f) place) there (subst (λ (q : Params). IsRecordFault (meaning_in meaning q) (files active) place) same fault))
  passes_all files _ _ image (at_late_slot place whole fault) = no_late_slot files place image fault.late

  module _ (files : Files) where
    abbrev m : Meaning O
    m = meaning (bounds_of (params_in (files Objects)))

    codes_of : AreObjectsWhole files → HasCodes m
    codes_of whole = codes_in (params_in (files Objects)) whole.in_range

    -- files with a late slot have whole records
    none_broken : (active : FileNo) (header : Header) (p q : ℕ) → AreObjectsWhole files → IsInForce active header.epoch files → HasHeader header (files active) → IsRecordFault m (files active) p → IsFirstLateSlot m files q → ⊥
    none_broken active header p q whole in_force has fault late =
        let next = late.late.next_is in
        let there = one_place next.active active next.header header (map (payload_of m) next.groups) files (log_of m next.log) in_force has in
        no_record_fault m (codes_of whole) next.header next.groups (files next.active) p next.log.log (subst (λ (f : FileNo). IsRecordFault m (files f) p) there fault)

    -- the first check that fails is one
    pub one_first_fault : (f g : FileNo) (p q : ℕ) → IsFirstFault meaning files f p → IsFirstFault meaning files g q → (f ≡ g) × (p ≡ q)
    one_first_fault _ _ _ _ (at_objects p a) (at_objects q b) = (refl, one_objects_fault (files Objects) p q a b)
    one_first_fault _ _ _ _ (at_objects p a) (at_logs g q whole b) = absurd (no_first_fault (params_in (files Objects)) (files Objects) p whole a)
    one_first_fault _ _ _ _ (at_objects p a) (at_record y k q whole in_y has_y b) = absurd (no_first_fault (params_in (files Objects)) (files Objects) p whole a)
    one_first_fault _ _ _ _ (at_objects p a) (at_late_slot q whole b) = absurd (no_first_fault (params_in (files Objects)) (files Objects) p whole a)
    one_first_fault _ _ _ _ (at_logs f p whole a) (at_objects q b) = absurd (no_first_fault (params_in (files Objects)) (files Objects) q whole b)
    one_first_fault _ _ _ _ (at_logs f p whole a) (at_logs g q also b) = one_log_fault files f g p q a b
    one_first_fault _ _ _ _ (at_logs f p whole a) (at_record y k q also in_y has_y b) =
        let log = broken_log m y k files q in_y has_y b in absurd (no_first_log_fault y k log.0 files f p log.1 a)
    one_first_fault _ _ _ _ (at_logs f p whole a) (at_late_slot q also b) =
        let next = b.late.next_is in absurd (no_first_log_fault next.active next.header (map (payload_of m) next.groups) files f p (log_of m next.log) a)
    one_first_fault _ _ _ _ (at_record x h p whole in_x has_x a) (at_objects q b) = absurd (no_first_fault (params_in (files Objects)) (files Objects) q whole b)
    one_first_fault _ _ _ _ (at_record x h p whole in_x has_x a) (at_logs g q also b) =
        let log = broken_log m x h files p in_x has_x a in absurd (no_first_log_fault x h log.0 files g q log.1 b)
    one_first_fault _ _ _ _ (at_record x h p whole in_x has_x a) (at_record y k q also in_y has_y b) =
        let same = one_active x y h k files in_x has_x in_y has_y in
        (same, one_record_fault m (codes_of whole) (files x) p q a (subst (λ (f : FileNo). IsRecordFault m (files f) q) (sym same) b))
    one_first_fault _ _ _ _ (at_record x h p whole in_x has_x a) (at_late_slot q also b) = absurd (none_broken x h p q whole in_x has_x a b)
    one_first_fault _ _ _ _ (at_late_slot p whole a) (at_objects q b) = absurd (no_first_fault (params_in (files Objects)) (files Objects) q whole b)
    one_first_fault _ _ _ _ (at_late_slot p whole a) (at_logs g q also b) =
        let next = a.late.next_is in absurd (no_first_log_fault next.active next.header (map (payload_of m) next.groups) files g q (log_of m next.log) b)
    one_first_fault _ _ _ _ (at_late_slot p whole a) (at_record y k q also in_y has_y b) = absurd (none_broken y k q p whole in_y has_y b a)
    one_first_fault _ _ _ _ (at_late_slot p whole a) (at_late_slot q also b) = (refl, one_late_slot m files p q (codes_of whole) a b)
