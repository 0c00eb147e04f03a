-- What contracts see of a log file in use.
use Rattle.std.specs.Prelude.{◌≢◌, ◌<◌, ◌≤◌, ◌+◌, ◌^◌, ℕ, List, [], ◌∷◌, length}
use Rattle.disk_model.specs.declared.machine.FileNo.{FileNo}
use Rattle.disk_model.specs.declared.machine.FileNo.TheVariants.{Objects}
use Rattle.formats.specs.Log.{Header}

-- the log in force, and what waits for a force
pub record LogView : Type 0 where
  pub active : FileNo
  pub header : Header
  -- the place of the first unforced gate
  pub end : ℕ
  -- the bytes of the next block's payload
  pub pending : List ℕ
  -- so many more bytes fit in without memory
  pub room : ℕ

-- where the log ends after a block of these bytes at a gate; no block is made of no bytes
abbrev pub end_with : ℕ → List ℕ → ℕ
end_with gate [] = gate
end_with gate (byte ∷ bytes) = gate + 5 + length (byte ∷ bytes)

-- the log's length with what waits
abbrev pub used_of : LogView → ℕ
used_of log = end_with log.end log.pending

-- a payload of n bytes adds so many to the log
abbrev pub growth_of : List ℕ → ℕ → ℕ
growth_of [] n = n + 5
growth_of (byte ∷ bytes) n = n

-- The log stands in a log file, and its epoch is one that a header may have. The bytes of the buffer begin with four for the
-- block's length, there is room for a gate after them, and the block has a place after this gate.
pub record IsInUse (active : FileNo) (epoch gate : ℕ) (bytes : List ℕ) (capacity : ℕ) : Type 0 where
  pub a_log : active ≢ Objects
  pub last : epoch ≤ 2 ^ 62
  pub reserved : 4 ≤ length bytes
  pub room : length bytes < capacity
  pub short : length bytes ≤ 2 ^ 30 + 4
  pub place : 4 < length bytes → gate + 1 + length bytes < 2 ^ 49
