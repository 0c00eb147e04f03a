-- What a client is said, as frames.
use Rattle.std.specs.Prelude.{◌≡◌, ◌<◌, ◌≤◌, ◌^◌, ℕ, List, ◌++◌, length}
use Rattle.std.specs.List.{AllByRecursion, flat_map}
use Rattle.client_frames.specs.Frames.{Frame, frames_bytes}

-- a frame of this client, with some bytes
pub record IsFor (client : ℕ) (frame : Frame) : Type 0 where
  pub whose : frame.client ≡ client
  pub some : 0 < length frame.bytes
  pub short : length frame.bytes ≤ 2 ^ 16

-- frames of this client that have these bytes, cut anywhere
pub record AreFor (client : ℕ) (bytes : List ℕ) (frames : List Frame) : Type 0 where
  pub each : AllByRecursion (IsFor client) frames
  pub all : flat_map (λ (frame : Frame). frame.bytes) frames ≡ bytes

-- such frames are put behind what was there
abbrev pub Carries : ℕ → List ℕ → List ℕ → List ℕ → Type 0
Carries client bytes old new = (frames : List Frame) × AreFor client bytes frames × (new ≡ old ++ frames_bytes frames)
