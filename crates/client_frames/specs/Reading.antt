-- What bytes that have come begin with.
use Rattle.std.specs.Prelude.{◌≡◌, ◌<◌, ◌≤◌, ◌^◌, ℕ, List, ◌++◌, length, drop, Option, None, Some, Result, Ok, Err}
use Rattle.std.specs.List.{AllByRecursion}
use Rattle.byteorder.specs.Endian.{little_number}
use Rattle.client_frames.specs.Frames.{Frame, IsFrame, frame_bytes, frames_bytes, seen}
use Rattle.client_frames.specs.declared.frame.ClientFrame.{ClientFrame}
use Rattle.client_frames.specs.declared.frame.LongFrame.{LongFrame}

-- no whole frame begins the bytes
abbrev pub IsUnfinished : List ℕ → Type 0
IsUnfinished rest = (frame : Frame) (later : List ℕ) → IsFrame frame → rest ≡ frame_bytes frame ++ later → ⊥

-- a length has come that no frame has, so whatever comes, no frame begins the bytes
pub record HasLongFrame (bytes : List ℕ) : Type 0 where
  pub come : 8 ≤ length bytes
  pub long : 2 ^ 16 < little_number 4 (drop 4 bytes)

-- The bytes begin with this frame; they may begin one that is not whole; or the length in front is none that a frame has. No two of
-- these hold at once.
abbrev pub BeginsWith : List ℕ → Result (Option ClientFrame) LongFrame → Type 0
BeginsWith bytes (Ok (Some frame)) = IsFrame (seen frame) × (later : List ℕ) × (bytes ≡ frame_bytes (seen frame) ++ later)
BeginsWith bytes (Ok None) = IsUnfinished bytes × (HasLongFrame bytes → ⊥)
BeginsWith bytes (Err e) = HasLongFrame bytes

-- the bytes are these whole frames, and a rest in which none is whole
pub record Splits (bytes : List ℕ) (frames : List Frame) (rest : List ℕ) : Type 0 where
  pub is : bytes ≡ frames_bytes frames ++ rest
  pub whole : AllByRecursion IsFrame frames
  pub unfinished : IsUnfinished rest
