-- What a rewrite of the log leaves.
use Rattle.std.specs.Prelude.{◌≡◌, ◌⊎◌, ◌+◌, ℕ, List, [], ◌∷◌, ◌++◌}
use Rattle.disk_model.specs.Disk.{Files, Disk, In, Any}
use Rattle.disk_model.specs.declared.machine.FileNo.{FileNo}
use Rattle.formats.specs.Log.{Header, header_fields, blocks, end_of, IsClosedLog, IsWholeLog}
use Rattle.formats.specs.InForce.{other_of, IsPassive, HoldsLog}
use Rattle.log_blocks.specs.LogView.{LogView}

-- a log file that is closed stays so
abbrev pub KeepsClosed : List ℕ → List ℕ → Type 0
KeepsClosed old new = IsClosedLog old → IsClosedLog new

-- a file begins with these bytes
abbrev pub IsFront : List ℕ → List ℕ → Type 0
IsFront front file = (rest : List ℕ) × (file ≡ front ++ rest)

-- all of a log but its header gate stands in the file
pub record IsPrepared (header : Header) (payloads : List (List ℕ)) (file : List ℕ) : Type 0 where
  pub gate : ℕ
  pub rest : List ℕ
  pub split : file ≡ gate ∷ ((header_fields header ++ blocks payloads) ++ 0 ∷ rest)

-- The file is not in force beside this epoch, or it is this log, whole. The other files are as they were, and nothing
-- was said.
pub record IsPassiveOrNew (m : Disk) (file : FileNo) (epoch : ℕ) (header : Header) (payloads : List (List ℕ)) (files : Files) (said : List ℕ) : Type 0 where
  pub each_file : In file (λ old new. IsPassive epoch new ⊎ IsWholeLog header payloads new) m.reads files
  pub nothing_said : said ≡ m.said

-- the header of the log that takes the place of this one
abbrev pub next_header : LogView → ℕ → ℕ → Header
next_header log base commands = record { epoch = log.header.epoch + 1; base = base; commands = commands }

-- the header of the second log of a store
abbrev pub second_header : ℕ → ℕ → Header
second_header base commands = record { epoch = 2; base = base; commands = commands }

-- a log file after its rewrite
abbrev pub rewritten : LogView → ℕ → ℕ → List (List ℕ) → LogView
rewritten log base commands payloads = record {
  active = other_of log.active;
  header = next_header log base commands;
  end = end_of payloads;
  pending = [];
  room = log.room;
}

-- The log in force is the old one, or, whole, the new one in the other file. The objects and the old log are as they
-- were, and nothing was said.
pub record IsOldOrNew (m : Disk) (log : LogView) (payloads : List (List ℕ)) (new : LogView) (new_payloads : List (List ℕ)) (files : Files) (said : List ℕ) : Type 0 where
  pub others : In new.active Any m.reads files
  pub in_force : HoldsLog log.active log.header payloads files ⊎ HoldsLog new.active new.header new_payloads files
  pub nothing_said : said ≡ m.said

-- the length of a log file with these payloads: after the last block stands a closed gate
abbrev pub file_length : List (List ℕ) → ℕ
file_length payloads = end_of payloads + 1
