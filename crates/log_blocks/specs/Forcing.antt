-- What a force leaves of a log.
use Rattle.std.specs.Prelude.{◌≡◌, ◌⊎◌, ℕ, List, [], ◌∷◌, ◌++◌, length}
use Rattle.byteorder.specs.Endian.{little_bytes}
use Rattle.disk_model.specs.Disk.{Files, Disk, In, IsSettled}
use Rattle.disk_model.specs.declared.machine.FileNo.{FileNo}
use Rattle.formats.specs.Log.{Header, IsWholeLog, end_of}
use Rattle.log_blocks.specs.LogView.{LogView}

-- a force of no bytes adds no block
abbrev pub with_block : List (List ℕ) → List ℕ → List (List ℕ)
with_block payloads [] = payloads
with_block payloads (byte ∷ bytes) = payloads ++ (byte ∷ bytes) ∷ []

-- a file is the log of these payloads, all of it on the disk, and this gate is its first closed one
pub record IsLogAt (m : Disk) (file : FileNo) (gate : ℕ) (header : Header) (payloads : List (List ℕ)) : Type 0 where
  pub settled : IsSettled m
  pub stands : IsWholeLog header payloads (m.reads file)
  pub place : gate ≡ end_of payloads

-- the log is these payloads, all of it on the disk, and ends where the log file says
abbrev pub IsAtRest : Disk → LogView → List (List ℕ) → Type 0
IsAtRest m log payloads = IsLogAt m log.active log.end log.header payloads

-- the file is the log of these payloads, or has this block too; the other files are as they were, and so is what was
-- said
pub record IsOneOf (m : Disk) (file : FileNo) (header : Header) (payloads : List (List ℕ)) (payload : List ℕ) (files : Files) (said : List ℕ) : Type 0 where
  pub each_file : In file (λ old new. IsWholeLog header payloads new ⊎ IsWholeLog header (with_block payloads payload) new) m.reads files
  pub nothing_said : said ≡ m.said

-- the log is these payloads, or has what waited as one block more
abbrev pub IsBeforeOrAfter : Disk → LogView → List (List ℕ) → Files → List ℕ → Type 0
IsBeforeOrAfter m log payloads files said = IsOneOf m log.active log.header payloads log.pending files said

-- what is written after a closed gate: the length, the payload and the next gate, closed
abbrev pub block_body : List ℕ → List ℕ
block_body payload = (little_bytes 4 (length payload) ++ payload) ++ 0 ∷ []
