-- What is read of the slots' heads, and the faults that they show.
use Rattle.std.specs.Prelude.{◌≡◌, ◌≢◌, ◌<◌, ◌≤◌, ◌+◌, ◌*◌, ◌-◌, ◌^◌, ℕ, nat_eq, nat_lt, if◌then◌else◌, List, length, slice_index_or}
use Rattle.disk_model.specs.Disk.{Files, Disk}
use Rattle.disk_model.specs.Padded.{padded}
use Rattle.disk_model.specs.declared.machine.FileNo.TheVariants.{Objects}
use Rattle.formats.specs.Bytes.{byte_at}
use Rattle.formats.specs.Image.{IsWithin}
use Rattle.formats.specs.Objects.{lsn_at, length_at, slot_place}
use Rattle.formats.specs.declared.layout.Layout.{Layout}

-- a slot's gate, its LSN, and the length of its value
pub record Head : Type 0 where
  pub gate : ℕ
  pub lsn : ℕ
  pub long : ℕ

-- the head that stands at a place
abbrev pub head_at : ℕ → List ℕ → Head
head_at place file = record { gate = byte_at place file; lsn = lsn_at place file; long = length_at place file }

-- A slot's head has room in these bytes, and they are those of the objects file from a place on, of all files that agree with
-- what the machine's reads gave. A byte past its end counts as 0.
pub record ShowsFile (m : Disk) (place : ℕ) (bytes : List ℕ) : Type 0 where
  pub room : 13 ≤ length bytes
  pub same : (files : Files) → m.agrees files → bytes ≡ padded (files Objects) place (length bytes)

-- the slot at this place has the LSN of a record, and a value within CAP and, where it has some byte, within a file of this size
pub record Fits (cap place size : ℕ) (h : Head) : Type 0 where
  pub some : 1 ≤ h.lsn
  pub is_lsn : h.lsn < 2 ^ 62
  pub short : h.long ≤ cap
  pub within : 0 < h.long → place + 13 + h.long ≤ size

-- a head without a fault has this LSN, 0 where its gate is closed
pub record IsRead (cap place size : ℕ) (h : Head) (lsn : ℕ) : Type 0 where
  pub is : lsn ≡ (if nat_eq h.gate 1 then h.lsn else 0)
  pub fits : h.gate ≡ 1 → Fits cap place size h

-- the length of the value, 0 where the gate is closed
abbrev pub open_length : Head → ℕ
open_length h = if nat_eq h.gate 1 then h.long else 0

-- and this is how long its value is
pub record IsReadWhole (cap place size : ℕ) (h : Head) (lsn long : ℕ) : Type 0 where
  pub read : IsRead cap place size h lsn
  pub long_is : long ≡ open_length h

-- An open slot's head shows its first fault at a place of the file: no record's LSN, or a value that is too long or
-- not within the file.
pub data IsHeadFault (cap place size : ℕ) (h : Head) : ℕ → Type 0 where
  no_lsn : h.gate ≡ 1 → (IsWithin 1 (2 ^ 62 - 1) h.lsn → ⊥) → IsHeadFault cap place size h (place + 1)
  too_long : h.gate ≡ 1 → IsWithin 1 (2 ^ 62 - 1) h.lsn → (h.long ≤ cap → (0 < h.long → place + 13 + h.long ≤ size) → ⊥) → IsHeadFault cap place size h (place + 9)

-- the slot s of object x was read so
abbrev pub IsReadAt : Layout → ℕ → ℕ → ℕ → List ℕ → ℕ → Type 0
IsReadAt layout x s size file lsn = IsRead layout.params.cap (slot_place layout x s) size (head_at (slot_place layout x s) file) lsn

-- the heads of both slots of an object were read, and no two open ones have one LSN
pub record IsPair (layout : Layout) (x size : ℕ) (file : List ℕ) (first second : ℕ) : Type 0 where
  pub first_read : IsReadAt layout x 0 size file first
  pub second_read : IsReadAt layout x 1 size file second
  pub apart : first ≢ 0 → first ≢ second

-- how long the value is that an object with these LSNs holds
abbrev pub held_length : Layout → ℕ → List ℕ → ℕ → ℕ → ℕ
held_length layout x file first second = open_length (head_at (slot_place layout x (if nat_lt first second then 1 else 0)) file)

-- and so long is the value that the object holds
pub record IsWholePair (layout : Layout) (x size : ℕ) (file : List ℕ) (first second long : ℕ) : Type 0 where
  pub pair : IsPair layout x size file first second
  pub long_is : long ≡ held_length layout x file first second

-- the slots of an object show their first fault at a place of the file
pub data IsPairFault (layout : Layout) (x size : ℕ) (file : List ℕ) : ℕ → Type 0 where
  in_first : (place : ℕ) → IsHeadFault layout.params.cap (slot_place layout x 0) size (head_at (slot_place layout x 0) file) place → IsPairFault layout x size file place
  in_second : (lsn place : ℕ) → IsReadAt layout x 0 size file lsn → IsHeadFault layout.params.cap (slot_place layout x 1) size (head_at (slot_place layout x 1) file) place → IsPairFault layout x size file place
  alike : (lsn : ℕ) → lsn ≢ 0 → IsReadAt layout x 0 size file lsn → IsReadAt layout x 1 size file lsn → IsPairFault layout x size file (slot_place layout x 1 + 1)

-- the heads of the first n objects were read
abbrev pub ArePairs : Layout → ℕ → List ℕ → ℕ → List ℕ → Type 0
ArePairs layout size file n heads = (x : ℕ) → x < n → IsPair layout x size file (slice_index_or heads (2 * x + 0) 0) (slice_index_or heads (2 * x + 1) 0)

-- and so long are their values
abbrev pub AreWholePairs : Layout → ℕ → List ℕ → ℕ → List ℕ → List ℕ → Type 0
AreWholePairs layout size file n heads lengths = (x : ℕ) → x < n → IsWholePair layout x size file (slice_index_or heads (2 * x + 0) 0) (slice_index_or heads (2 * x + 1) 0) (slice_index_or lengths x 0)

-- the slots of an object show their first fault at a place of the file, and those of the objects before it show none
pub record HasPairFault (layout : Layout) (size : ℕ) (file : List ℕ) (place : ℕ) : Type 0 where
  pub x : ℕ
  pub below : x < layout.params.objects
  pub heads : List ℕ
  pub before : ArePairs layout size file x heads
  pub fault : IsPairFault layout x size file place
