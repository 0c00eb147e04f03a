-- What the bytes of a value that were read are.
use Rattle.std.proofs.Common.{◌≡◌, ◌≢◌, ◌<◌, ◌≤◌, ◌+◌, ℕ, List, [], ◌++◌, inl, inr, length, take, drop, refl, sym, ◌∙◌, ap, subst, arith, length-take, length-drop}
use Rattle.std.proofs.lemmas.Bool.{cases_eq}
use Rattle.std.proofs.lemmas.List.{take_at, take_all}
use Rattle.byteorder.specs.Endian.{little_number}
use Rattle.disk_model.specs.Disk.{Files, read_of}
use Rattle.disk_model.specs.Padded.{padded}
use Rattle.disk_model.specs.declared.machine.FileNo.TheVariants.{Objects}
use Rattle.formats.specs.Bytes.{byte_at, number_at}
use Rattle.formats.specs.Objects.{place_in, length_at, value_at, holder, cell_of}
use Rattle.formats.specs.Reading.{FailsBy, TellsDamage}
use Rattle.formats.specs.declared.read_err.ReadErr.{ReadErr}
use Rattle.formats.specs.declared.read_err.ReadErr.TheVariants.{DiskFault, Damaged, Memory}
use Rattle.stable_objects.specs.SlotsView.{SlotsView, AreOf, place_of, lsn_in, holder_in}
use Rattle.stable_objects.specs.Reading.{FailsAt, IsLongValue}
use Rattle.stable_objects.specs.SlotLaws.{open_tells, open_value, closed_value, holder_below, lsn_is, held_is_open, held_short, holder_is, place_of_file}
use Rattle.stable_objects.proofs.Found.{number_read}

-- the length that was read is the file's
pub length_read : (file bytes : List ℕ) (place : ℕ) → bytes ≡ padded file (place + 9) 4 → little_number 4 bytes ≡ length_at place file
length_read file bytes place is =
    let spot : place + 9 + 0 ≡ place + 9 = omega arith in
    ap (λ (l : List ℕ). little_number 4 l) is ∙ number_read file (place + 9) 4 0 4 (omega arith) ∙ ap (λ (k : ℕ). number_at 4 k file) spot

-- a read that gave fewer bytes met the file's end
pub value_cut : (file : List ℕ) (cap place n read : ℕ) → n ≡ length_at place file → read ≡ length (read_of file (place + 13) n) → read < n → IsLongValue cap place file (place + 9)
value_cut file cap place n read is count less = record {
  here = refl;
  long = λ short within. omega (arith, is, count, less, within (omega (arith, is, less)), length-take n (drop (place + 13) file), length-drop (place + 13) file);
}

-- a read that gave all of them gave the value
pub value_read : (file into items : List ℕ) (place n len read : ℕ) → n ≡ length_at place file → take read into ≡ read_of file (place + 13) n → length into ≡ n → n ≤ read → len ≡ n
    → take len (into ++ drop (length into) items) ≡ value_at place file
value_read file into items place n len read is bytes count le len_is =
    take_at into (drop (length into) items) len (omega (arith, count, len_is)) ∙ sym (take_all read into (omega (arith, count, le))) ∙ bytes ∙ ap (λ (k : ℕ). take k (drop (place + 13) file)) is

-- the slot that holds an object with an LSN
module _ (slots : SlotsView) (file : List ℕ) (x place : ℕ) (are : AreOf slots file) (below : x < slots.params.objects) (some : lsn_in slots x ≢ 0) (here : place ≡ place_of slots x (holder_in slots x)) where
  spot : place_in file x (holder x file) ≡ place
  spot = sym (here ∙ place_of_file slots file x (holder_in slots x) are ∙ ap (λ (s : ℕ). place_in file x s) (holder_is slots file x are below))

  -- what was read is the object's value
  pub held_value : (bytes : List ℕ) → bytes ≡ value_at place file → bytes ≡ (cell_of x file).value
  held_value bytes is =
      is ∙ ap (λ (k : ℕ). value_at k file) (sym spot) ∙ sym (open_value (place_in file x (holder x file)) file (held_is_open slots file x are below some))

  -- and only the disk fails
  pub held_fails : (rises : Type 0) (agrees : Files → Type 0) (files : Files) (n : ℕ) (e : ReadErr) → files Objects ≡ file → agrees files → n ≡ slots.params.cap
      → FailsBy rises (FailsAt (λ at. (files : Files) → agrees files → IsLongValue n place (files Objects) at)) e → TellsDamage e → ⊥
  held_fails rises agrees files n DiskFault same agree cap fails tells = tells
  held_fails rises agrees files n (Damaged number at) same agree cap fails tells = held_short slots file x at are below some
      (subst (λ (k : ℕ). IsLongValue slots.params.cap k file at) here (subst (λ (l : List ℕ). IsLongValue slots.params.cap place l at) same (subst (λ (k : ℕ). IsLongValue k place (files Objects) at) cap (fails.1 files agree))))
  held_fails rises agrees files n Memory same agree cap fails tells = tells

-- an object without an LSN has no bytes
pub empty_value : (slots : SlotsView) (file : List ℕ) (x : ℕ) → AreOf slots file → x < slots.params.objects → lsn_in slots x ≡ 0 → (cell_of x file).value ≡ []
empty_value slots file x are below none =
    let place = place_in file x (holder x file) in
    elim (cases_eq (byte_at place file) 1) [
      | inl is_open ↦
          let whole = are.whole.slots.each x (holder x file) below (holder_below x file) is_open in
          absurd (omega (arith, whole.some, open_tells place file is_open, lsn_is slots file x are below, none))
      | inr closed ↦ closed_value place file closed
    ]
