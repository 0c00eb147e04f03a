-- Which log is chosen, by what is seen of both.
use Rattle.std.specs.Prelude.{◌≡◌, ℕ, List, length, Option, Some, None}
use Rattle.disk_model.specs.Disk.{Files}
use Rattle.formats.specs.Log.{IsClosedLog}
use Rattle.formats.specs.InForce.{HasHeader, IsInForce}
use Rattle.log_blocks.specs.Reading.{header_of}
use Rattle.log_blocks.specs.declared.seen.Seen.{Seen}

-- what is seen of a log file: a closed header gate, or a header
abbrev pub SeenIn : List ℕ → Option Seen → Type 0
SeenIn file None = IsClosedLog file
SeenIn file (Some seen) = HasHeader (header_of seen.header) file × (seen.size ≡ length file)

-- this one is in force
pub record IsChosen (files : Files) (seen : Seen) : Type 0 where
  pub in_force : IsInForce seen.file (header_of seen.header).epoch files
  pub header : HasHeader (header_of seen.header) (files seen.file)
  pub size : seen.size ≡ length (files seen.file)
