-- The first check of the files that fails, in the order of the checks.
use Rattle.std.specs.Prelude.{◌≡◌, ◌≢◌, ◌⊎◌, ◌<◌, ◌≤◌, ◌+◌, ◌*◌, ◌-◌, ◌^◌, ℕ, List, [], length, take, drop, codes}
use Rattle.std.proofs.Common.{◌∙◌, sym}
use Rattle.oper_core.specs.Meaning.{Meaning}
use Rattle.oper_core.specs.declared.bounds.Bounds.{Bounds}
use Rattle.disk_model.specs.Disk.{Files}
use Rattle.disk_model.specs.declared.machine.FileNo.{FileNo}
use Rattle.disk_model.specs.declared.machine.FileNo.TheVariants.{Objects, LogA, LogB}
use Rattle.formats.specs.Bytes.{number_at, IsOpenAt}
use Rattle.formats.specs.Objects.{IsObjectsFile, bounds_of, form_in, params_in, layout_in, place_in, last_slot, lsn_at, length_at}
use Rattle.formats.specs.Log.{Header, IsClosedLog}
use Rattle.formats.specs.InForce.{HasHeader, IsInForce}
use Rattle.formats.specs.declared.form.Form.{Form}
use Rattle.formats.specs.declared.params.Params.{Params}
use Rattle.formats.specs.Image.{IsWithin, AreObjects, IsCap, IsLimit, IsOpenSlot, IsBlockFault, IsRecordFault, IsLateSlot}

-- A check of what has this place, and the checks after it: it fails, or it passes, and the first of those after it
-- that fails has this place.
pub data Checks (at : ℕ) (Check : Type 0) (behind : ℕ → Type 0) (place : ℕ) : Type 0 where
  stops : place ≡ at → (Check → ⊥) → Checks at Check behind place
  goes_on : Check → behind place → Checks at Check behind place

-- a check that holds of one exactly where it does of another
pub check_moved : {P Q : Type 0} {F G : ℕ → Type 0} (at place : ℕ) → (P → Q) → (Q → P) → (F place → G place) → Checks at P F place → Checks at Q G place
check_moved at place there back behind (stops is wrong) = stops is (λ holds. wrong (back holds))
check_moved at place there back behind (goes_on holds later) = goes_on (there holds) (behind later)

-- of checks in their order one place is reported, if those after report one
pub one_check : {P : Type 0} {F : ℕ → Type 0} (at p q : ℕ) → (F p → F q → p ≡ q) → Checks at P F p → Checks at P F q → p ≡ q
one_check at p q one (stops here wrong) (stops there also) = here ∙ sym there
one_check at p q one (stops here wrong) (goes_on holds later) = absurd (wrong holds)
one_check at p q one (goes_on holds later) (stops there wrong) = absurd (wrong holds)
one_check at p q one (goes_on holds later) (goes_on also behind) = one later behind

-- no check is left
abbrev pub NoMore : ℕ → Type 0
NoMore place = ⊥

-- where its gate is open the slot at this place has the LSN of a record
abbrev pub HasLsnWithin : ℕ → List ℕ → Type 0
HasLsnWithin place file = IsOpenAt place file → IsWithin 1 (2 ^ 62 - 1) (lsn_at place file)

-- where its gate is open it has a value within CAP and, where that has some byte, within the file
abbrev pub HasValue : ℕ → ℕ → List ℕ → Type 0
HasValue cap place file = IsOpenAt place file → (length_at place file ≤ cap) × (0 < length_at place file → place + 13 + length_at place file ≤ length file)

-- where both gates are open the LSNs differ
abbrev pub AreApart : ℕ → ℕ → List ℕ → Type 0
AreApart one other file = IsOpenAt one file → IsOpenAt other file → lsn_at one file ≢ lsn_at other file

-- the checks of an object's slots
abbrev pub PairChecks : List ℕ → ℕ → ℕ → Type 0
PairChecks file x =
    Checks (place_in file x 0 + 1) (HasLsnWithin (place_in file x 0) file) (
    Checks (place_in file x 0 + 9) (HasValue (params_in file).cap (place_in file x 0) file) (
    Checks (place_in file x 1 + 1) (HasLsnWithin (place_in file x 1) file) (
    Checks (place_in file x 1 + 9) (HasValue (params_in file).cap (place_in file x 1) file) (
    Checks (place_in file x 1 + 1) (AreApart (place_in file x 0) (place_in file x 1) file) NoMore))))

-- the checks of the slots, object by object: those of the objects before this one pass
pub record SlotChecks (file : List ℕ) (place : ℕ) : Type 0 where
  pub x : ℕ
  pub below : x < (params_in file).objects
  pub before : (y other : ℕ) → y < x → PairChecks file y other → ⊥
  pub fault : PairChecks file x place

-- the checks of the header of the objects file: the magic, and the bounds of the smaller store that was there before
abbrev pub HeadChecks : List ℕ → (ℕ → Type 0) → ℕ → Type 0
HeadChecks file behind =
    Checks 1 (take 7 (drop 1 file) ≡ codes "RDOOBJ0") (
    Checks 9 ((form_in file).older.objects ≤ 4096) (
    Checks 13 ((form_in file).older.cap ≤ 16384) behind))

-- the checks of a store's numbers in a file of this form
abbrev pub NumberChecks : Form → Params → (ℕ → Type 0) → ℕ → Type 0
NumberChecks form p behind =
    Checks form.numbers (AreObjects form p) (
    Checks (form.numbers + 4) (IsCap form p) (
    Checks (form.numbers + 8) (IsLimit p) behind))

-- the checks of the objects file: the first that fails is reported at this place
abbrev pub IsFirstObjectsFault : List ℕ → ℕ → Type 0
IsFirstObjectsFault file = HeadChecks file (NumberChecks (form_in file) (params_in file) (Checks 0 (last_slot (layout_in file) < length file) (SlotChecks file)))

-- the checks of a log's header whose gate is open, and those after them
abbrev pub LogChecks : List ℕ → (ℕ → Type 0) → ℕ → Type 0
LogChecks file behind =
    Checks 1 (take 8 (drop 1 file) ≡ codes "RDOLOG01") (
    Checks 9 (IsWithin 1 (2 ^ 62) (number_at 8 9 file)) (
    Checks 17 (IsWithin 1 (2 ^ 62) (number_at 8 17 file)) (
    Checks 25 (number_at 8 25 file < number_at 8 17 file) behind)))

-- those, and that of the file's length
abbrev pub HeaderChecks : List ℕ → ℕ → Type 0
HeaderChecks file = LogChecks file (Checks 33 (33 < length file) NoMore)

-- the checks of one log file: the first that fails is reported at this place
pub data IsFirstHeaderFault (file : List ℕ) : ℕ → Type 0 where
  no_bytes : file ≡ [] → IsFirstHeaderFault file 0
  opened : (place : ℕ) → IsOpenAt 0 file → HeaderChecks file place → IsFirstHeaderFault file place

-- a log file by itself has no fault: its header gate is closed, or it has a header
abbrev pub IsFineLog : List ℕ → Type 0
IsFineLog file = IsClosedLog file ⊎ ((header : Header) × HasHeader header file)

-- the checks of the two logs: the first that fails is reported in this file at this place
pub data IsFirstLogFault (files : Files) : FileNo → ℕ → Type 0 where
  in_log_a : (place : ℕ) → IsFirstHeaderFault (files LogA) place → IsFirstLogFault files LogA place
  in_log_b : (place : ℕ) → IsFineLog (files LogA) → IsFirstHeaderFault (files LogB) place → IsFirstLogFault files LogB place
  both_closed : IsClosedLog (files LogA) → IsClosedLog (files LogB) → IsFirstLogFault files LogA 0
  same_epoch : (a b : Header) → HasHeader a (files LogA) → HasHeader b (files LogB) → a.epoch ≡ b.epoch → IsFirstLogFault files LogB 9
  at_block : (active : FileNo) (header : Header) (place : ℕ) → IsInForce active header.epoch files → HasHeader header (files active) → IsBlockFault (files active) place
      → IsFirstLogFault files active place

-- an open slot has the next LSN or a later one, and no open slot before it in the file has
pub record IsFirstLateSlot {O : Type 0} (m : Meaning O) (files : Files) (place : ℕ) : Type 0 where
  pub late : IsLateSlot m files place
  pub first : (y t : ℕ) → IsOpenSlot (files Objects) y t → late.next ≤ lsn_at (place_in (files Objects) y t) (files Objects) → 2 * late.x + late.s ≤ 2 * y + t

-- the objects file by itself has no fault
abbrev pub AreObjectsWhole : Files → Type 0
AreObjectsWhole files = IsObjectsFile (params_in (files Objects)) (files Objects)

-- The checks of the files, in their order: the first that fails is reported in this file at this place. It is in the objects
-- file by itself; or in the logs; or in the records of the log in force, whose blocks are whole; or an open slot has a
-- number that none of these records has.
pub data IsFirstFault {O : Type 0} (meaning : Bounds → Meaning O) (files : Files) : FileNo → ℕ → Type 0 where
  at_objects : (place : ℕ) → IsFirstObjectsFault (files Objects) place → IsFirstFault meaning files Objects place
  at_logs : (file : FileNo) (place : ℕ) → AreObjectsWhole files → IsFirstLogFault files file place → IsFirstFault meaning files file place
  at_record : (active : FileNo) (header : Header) (place : ℕ) → AreObjectsWhole files → IsInForce active header.epoch files → HasHeader header (files active)
      → IsRecordFault (meaning (bounds_of (params_in (files Objects)))) (files active) place → IsFirstFault meaning files active place
  at_late_slot : (place : ℕ) → AreObjectsWhole files → IsFirstLateSlot (meaning (bounds_of (params_in (files Objects)))) files place → IsFirstFault meaning files Objects place

-- The objects gate is open, and the first check of the files that fails is reported in this file at this place.
pub record IsDamaged {O : Type 0} (meaning : Bounds → Meaning O) (files : Files) (file : FileNo) (place : ℕ) : Type 0 where
  pub gate : IsOpenAt 0 (files Objects)
  pub fault : IsFirstFault meaning files file place
