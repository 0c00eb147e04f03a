-- A stream of frames: each is the length of its payload, in four bytes, and the payload.
use Rattle.std.specs.Prelude.{◌≡◌, ◌<◌, ◌≤◌, ◌^◌, ℕ, List, ◌++◌, length}
use Rattle.std.specs.List.{AllByRecursion, flat_map}
use Rattle.byteorder.specs.Endian.{little_bytes, little_number}
use Rattle.formats.specs.Log.{IsPayload}

abbrev pub frame : List ℕ → List ℕ
frame payload = little_bytes 4 (length payload) ++ payload

-- the frames of these payloads, one after the other
abbrev pub frames : List (List ℕ) → List ℕ
frames payloads = flat_map frame payloads

-- no whole frame begins the bytes
abbrev pub IsUnfinished : List ℕ → Type 0
IsUnfinished rest = (payload later : List ℕ) → IsPayload payload → rest ≡ frame payload ++ later → ⊥

-- the bytes are these whole frames, and a rest in which none is whole
pub record Splits (bytes : List ℕ) (payloads : List (List ℕ)) (rest : List ℕ) : Type 0 where
  pub is : bytes ≡ frames payloads ++ rest
  pub whole : AllByRecursion IsPayload payloads
  pub unfinished : IsUnfinished rest

-- a payload may have so many bytes
abbrev pub IsFrameLength : ℕ → Type 0
IsFrameLength n = (0 < n) × (n ≤ 2 ^ 30)

-- the bytes begin with a length that no payload has, so no frame comes of them
abbrev pub HasBadLength : List ℕ → Type 0
HasBadLength bytes = (4 ≤ length bytes) × (IsFrameLength (little_number 4 bytes) → ⊥)
