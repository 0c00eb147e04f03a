-- What a reader of a log finds, and why it fails.
use Rattle.std.specs.Prelude.{◌≡◌, ◌<◌, ◌≤◌, ◌+◌, ◌^◌, ℕ, List, ◌∷◌, ◌++◌, length, take, All, Option, Some, None}
use Rattle.byteorder.specs.Endian.{little_bytes}
use Rattle.disk_model.specs.Disk.{read_of}
use Rattle.disk_model.specs.declared.machine.FileNo.{FileNo}
use Rattle.formats.specs.Log.{Header, blocks, end_of, IsPayload}
use Rattle.formats.specs.Bytes.{number_at, IsOpenAt, IsClosedAt}
use Rattle.formats.specs.Image.{IsWithin}
use Rattle.formats.specs.Reading.{FailsBy, TellsDamage}
use Rattle.formats.specs.declared.read_err.ReadErr.{ReadErr}
use Rattle.formats.specs.declared.read_err.ReadErr.TheVariants.{DiskFault, Damaged, Memory}
use Rattle.log_blocks.specs.declared.header.Header.{Header as Read}

-- at this gate stands a block whose payload has so many bytes, and a gate after it
pub record IsBlockHead (gate len : ℕ) (file : List ℕ) : Type 0 where
  pub head : read_of file gate 5 ≡ 1 ∷ little_bytes 4 len
  pub some : 0 < len
  pub short : len ≤ 2 ^ 30
  pub within : gate + 5 + len < length file

-- what stands at this gate: the block of a payload of so many bytes, or none where it is closed
abbrev pub FoundAt : ℕ → List ℕ → Option ℕ → Type 0
FoundAt gate file None = IsClosedAt gate file
FoundAt gate file (Some len) = IsBlockHead gate len file

-- this gate is open, but its block or the gate after it isn't within the file, or its length is out of range
pub record IsBroken (gate : ℕ) (file : List ℕ) : Type 0 where
  pub open_gate : IsOpenAt gate file
  pub broken : IsWithin 1 (2 ^ 30) (number_at 4 (gate + 1) file) → gate + 1 + 4 + number_at 4 (gate + 1) file < length file → ⊥

-- between the header and this gate are the blocks of these payloads; the gate stands in the file where the first does
pub record IsReadTo (file : List ℕ) (gate : ℕ) (payloads : List (List ℕ)) : Type 0 where
  pub whole : All IsPayload payloads
  pub here : gate ≡ end_of payloads
  pub front : take gate file ≡ take 33 file ++ blocks payloads
  pub within : 33 < length file → gate < length file

-- the first closed gate of a log, and the payloads before it
pub record EndsBlocks (file : List ℕ) (gate : ℕ) : Type 0 where
  pub payloads : List (List ℕ)
  pub read : IsReadTo file gate payloads
  pub closed : IsClosedAt gate file

-- a call that hands on why another failed
pub fails_on : (rises rises' : Type 0) (fault fault' : FileNo → ℕ → Type 0) (e : ReadErr) → (rises → rises') → ((file : FileNo) (place : ℕ) → fault file place → fault' file place)
    → FailsBy rises fault e → FailsBy rises' fault' e
fails_on rises rises' fault fault' DiskFault risen there fails = risen fails
fails_on rises rises' fault fault' (Damaged file place) risen there fails = there file place fails
fails_on rises rises' fault fault' Memory risen there fails = fails

-- the header that was read
abbrev pub header_of : Read → Header
header_of h = record { epoch = h.epoch; base = h.base; commands = h.commands }

-- where no fault is there, none is reported
pub none_told : (rises : Type 0) (fault : FileNo → ℕ → Type 0) (e : ReadErr) → ((file : FileNo) (place : ℕ) → fault file place → ⊥) → FailsBy rises fault e → TellsDamage e → ⊥
none_told rises fault DiskFault none fails tells = tells
none_told rises fault (Damaged file place) none fails tells = none file place fails
none_told rises fault Memory none fails tells = tells
