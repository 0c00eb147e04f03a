-- How far a new log is written.
use Rattle.std.specs.Prelude.{◌≡◌, ◌≢◌, ◌≤◌, ◌+◌, ℕ, List, [], ◌∷◌, ◌++◌, length}
use Rattle.disk_model.specs.Disk.{Disk}
use Rattle.disk_model.specs.declared.machine.FileNo.{FileNo}
use Rattle.formats.specs.InForce.{other_of}
use Rattle.formats.specs.Log.{Header, header_fields}
use Rattle.log_blocks.specs.LogView.{LogView}
use Rattle.log_blocks.specs.Rewriting.{IsFront, next_header}

-- a new log in the making: these bytes in memory go to this place of its file
pub record LogWriterView : Type 0 where
  pub file : FileNo
  pub place : ℕ
  pub bytes : List ℕ

-- the place after all that was put
abbrev pub put_of : LogWriterView → ℕ
put_of it = it.place + length it.bytes

-- The file begins with these bytes, but for the last of them, which are in memory. The first is the header gate.
pub record HasPut (d : Disk) (it : LogWriterView) (front : List ℕ) : Type 0 where
  pub written : List ℕ
  pub front_is : front ≡ written ++ it.bytes
  pub place : it.place ≡ length written
  pub stands : IsFront written (d.reads it.file)

-- a header, and then these bytes, were put behind a closed header gate
pub record HasPutLog (d : Disk) (it : LogWriterView) (header : Header) (bytes : List ℕ) : Type 0 where
  pub gate : ℕ
  pub closed : gate ≢ 1
  pub has : HasPut d it (gate ∷ (header_fields header ++ bytes))

-- nothing is written over the header gate, and there is room for a piece
pub record IsWriting (place : ℕ) (bytes : List ℕ) (capacity : ℕ) : Type 0 where
  pub behind : 1 ≤ place
  pub short : length bytes ≤ 65536
  pub room : 65536 ≤ capacity

-- a log file after a rewrite whose log ends at this place
abbrev pub rewritten_to : LogView → ℕ → ℕ → ℕ → LogView
rewritten_to log base commands end = record {
  active = other_of log.active;
  header = next_header log base commands;
  end = end;
  pending = [];
  room = log.room;
}
