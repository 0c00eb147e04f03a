-- Frames of clients: a client's number, a length, and so many bytes.
use Rattle.std.specs.Prelude.{◌<◌, ◌≤◌, ◌^◌, ℕ, List, [], ◌++◌, length}
use Rattle.std.specs.List.{flat_map}
use Rattle.byteorder.specs.Endian.{little_bytes}
use Rattle.client_frames.specs.declared.frame.ClientFrame.{ClientFrame}

-- bytes of a client, or to one; none say that it is gone, or is to go
pub record Frame : Type 0 where
  pub client : ℕ
  pub bytes : List ℕ

pub record IsFrame (frame : Frame) : Type 0 where
  pub small : frame.client < 2 ^ 32
  pub short : length frame.bytes ≤ 2 ^ 16

abbrev pub frame_bytes : Frame → List ℕ
frame_bytes frame = little_bytes 4 frame.client ++ (little_bytes 4 (length frame.bytes) ++ frame.bytes)

-- frames one after the other
abbrev pub frames_bytes : List Frame → List ℕ
frames_bytes frames = flat_map frame_bytes frames

-- the last that is said of a client
abbrev pub goodbye : ℕ → Frame
goodbye client = record { client = client; bytes = [] }

-- a frame, wherever its bytes lie
abbrev pub seen : ClientFrame → Frame
seen frame = record { client = frame.client; bytes = frame.bytes.now }
