-- How far a reader has come in the payloads of a log.
use Rattle.std.specs.Prelude.{◌≡◌, ◌<◌, ◌≤◌, ◌+◌, ◌-◌, ◌^◌, ℕ, Bool, true, false, min, max, List, [], ◌∷◌, ◌++◌, length}
use Rattle.disk_model.specs.Disk.{Files, Disk, read_of}
use Rattle.disk_model.specs.declared.machine.FileNo.{FileNo}
use Rattle.formats.specs.Log.{Header, IsWholeLog, end_of}
use Rattle.log_blocks.specs.Forcing.{with_block}

-- a reader of payloads: of the one in hand some bytes are in memory, and others follow them in the file
pub record PayloadReaderView : Type 0 where
  pub file : FileNo
  -- the file's length
  pub size : ℕ
  -- the bytes in memory that were not taken
  pub bytes : List ℕ
  -- the place of the first byte after these, and how many bytes of the payload stand there
  pub place : ℕ
  pub left : ℕ

-- how many bytes of the payload in hand were not taken
abbrev pub remaining : PayloadReaderView → ℕ
remaining it = length it.bytes + it.left

-- how many bytes of the file stand from the first one on that was not taken
abbrev pub ahead : PayloadReaderView → ℕ
ahead it = it.size - (it.place + it.left) + remaining it

-- the bytes of the payload in hand that were not taken, in a file
abbrev pub untaken : List ℕ → PayloadReaderView → List ℕ
untaken file it = it.bytes ++ read_of file it.place it.left

-- The reader stands in a file that is a whole log of these payloads. It has passed the first ones; of the one in hand these bytes were
-- taken, and the gate after it is the next; no payload is in hand where it has no bytes. The others are still to come.
pub record IsInLog (file : List ℕ) (it : PayloadReaderView) (payloads passed : List (List ℕ)) (taken : List ℕ) (later : List (List ℕ)) : Type 0 where
  pub header : Header
  pub whole : IsWholeLog header payloads file
  pub payloads_are : payloads ≡ with_block passed (taken ++ untaken file it) ++ later
  pub gate : it.place + it.left ≡ end_of (with_block passed (taken ++ untaken file it))
  pub within : it.place + it.left < length file
  pub size : it.size ≡ length file

-- what a reader that had passed these payloads found after them: another one, of which nothing was taken, or that
-- these are all
abbrev pub HasNext : List ℕ → PayloadReaderView → List (List ℕ) → List (List ℕ) → List (List ℕ) → Bool → Type 0
HasNext file it payloads passed later true = (payload : List ℕ) × (rest : List (List ℕ)) × (later ≡ payload ∷ rest) × IsInLog file it payloads passed [] rest
HasNext file it payloads passed later false = payloads ≡ passed

-- what a reader found in the payload in hand: further bytes, or that all of it is in memory, and then it stays
abbrev pub HasMore : PayloadReaderView → PayloadReaderView → Bool → Type 0
HasMore old new true = new.left < old.left
HasMore old new false = (old.left ≡ 0) × (new ≡ old)

-- how many bytes are brought into memory at a time: 64 KiB, as many as are there already where that is more, or all that is
-- left
abbrev pub piece_of : PayloadReaderView → ℕ
piece_of it = min it.left (max (length it.bytes) 65536)

-- a piece more of the payload in hand is in memory
pub record HasPiece (old new : PayloadReaderView) : Type 0 where
  pub left : new.left + piece_of old ≡ old.left
  pub bytes : length new.bytes ≡ length old.bytes + piece_of old

-- the reader's file is reported to be damaged: never where it stands in a whole log
abbrev pub IsNoLog : Disk → PayloadReaderView → FileNo → ℕ → Type 0
IsNoLog d it file place =
    (file ≡ it.file) × ((files : Files) → d.agrees files → (payloads passed : List (List ℕ)) (taken : List ℕ) (later : List (List ℕ)) → IsInLog (files it.file) it payloads passed taken later → ⊥)

-- So many of these bytes were taken. The others, with those after them, are no more than a payload may have; they stand
-- before a gate, and not before the file's beginning.
pub record IsPiece (bytes : List ℕ) (taken place left : ℕ) : Type 0 where
  pub within : taken ≤ length bytes
  pub short : length bytes - taken + left ≤ 2 ^ 30
  pub behind : length bytes - taken ≤ place
  pub gate : place + left < 2 ^ 64 - 1
