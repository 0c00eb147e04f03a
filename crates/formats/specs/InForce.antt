-- Which of the two logs is in force: the one with an open header gate, of two the one with the greater epoch.
use Rattle.std.specs.Prelude.{◌≡◌, ◌≢◌, ◌<◌, ◌⊎◌, ◌++◌, ◌∷◌, ℕ, List}
use Rattle.disk_model.specs.Disk.{Files}
use Rattle.disk_model.specs.declared.machine.FileNo.{FileNo}
use Rattle.disk_model.specs.declared.machine.FileNo.TheVariants.{Objects, LogA, LogB}
use Rattle.formats.specs.Log.{Header, IsHeader, IsWholeLog, IsClosedLog, header_bytes}

-- the other of the two logs
abbrev pub other_of : FileNo → FileNo
other_of LogA = LogB
other_of LogB = LogA
other_of Objects = Objects

-- it begins with this header, and has a byte after it
pub record HasHeader (header : Header) (file : List ℕ) : Type 0 where
  pub in_range : IsHeader header
  pub gate : ℕ
  pub rest : List ℕ
  pub split : file ≡ header_bytes header ++ gate ∷ rest

-- a log that is not in force, where this is the epoch of the one that is: its header gate is closed, or its epoch is
-- smaller
abbrev pub IsPassive : ℕ → List ℕ → Type 0
IsPassive epoch file = IsClosedLog file ⊎ ((header : Header) × HasHeader header file × (header.epoch < epoch))

-- the log in this file, with this epoch, is the one in force
pub record IsInForce (active : FileNo) (epoch : ℕ) (files : Files) : Type 0 where
  pub a_log : active ≢ Objects
  pub other : IsPassive epoch (files (other_of active))

-- the log in force stands in this file, whole, with this header and these payloads
pub record HoldsLog (active : FileNo) (header : Header) (payloads : List (List ℕ)) (files : Files) : Type 0 where
  pub in_force : IsInForce active header.epoch files
  pub log : IsWholeLog header payloads (files active)
