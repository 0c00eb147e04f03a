-- What a buffer keeps of a stream of frames.
use Rattle.std.specs.Prelude.{◌≡◌, ◌+◌, ℕ, List, [], ◌∷◌, ◌++◌, length, Option, None, Some, Result, Ok, Err}
use Rattle.std.specs.List.{AllByRecursion}
use Rattle.formats.specs.Log.{IsPayload}
use Rattle.frame_stream.specs.Frames.{frame, frames, IsUnfinished, HasBadLength}
use Rattle.frame_stream.specs.declared.frame_buffer.BadLength.{BadLength}

pub record FrameBufferView : Type 0 where
  -- so many bytes of the stream were passed
  pub passed : ℕ
  -- the bytes after them that came
  pub kept : List ℕ

-- so many bytes of the stream came
abbrev pub taken_by : FrameBufferView → ℕ
taken_by it = it.passed + length it.kept

-- the place of the first byte that is kept; none where none is
abbrev pub first_kept : ℕ → List ℕ → Option ℕ
first_kept passed [] = None
first_kept passed (byte ∷ kept) = Some passed

-- The bytes begin with a whole frame, whose payload has so many bytes; they may begin one that is not whole; or the length
-- in front is none that a payload has. No two of these hold at once.
abbrev pub BeginsWith : List ℕ → Result (Option ℕ) BadLength → Type 0
BeginsWith kept (Ok (Some n)) = (payload : List ℕ) × (later : List ℕ) × IsPayload payload × (n ≡ length payload) × (kept ≡ frame payload ++ later)
BeginsWith kept (Ok None) = IsUnfinished kept × (HasBadLength kept → ⊥)
BeginsWith kept (Err e) = HasBadLength kept

-- of a stream, of which these bytes came, the frames of these payloads were passed
pub record HasPassed (bytes : List ℕ) (payloads : List (List ℕ)) (it : FrameBufferView) : Type 0 where
  pub is : bytes ≡ frames payloads ++ it.kept
  pub passed : it.passed ≡ length (frames payloads)
  pub whole : AllByRecursion IsPayload payloads
