-- What C is told of the calls that it has to make.
use Rattle.std.specs.Prelude.{◌≡◌, ◌<◌, ◌≤◌, ℕ, List, [], ◌∷◌, length, take, drop}
use Rattle.disk_model.specs.Call as disk
use Rattle.write_queue.specs.Codes.{file_number}
use Rattle.write_queue.specs.Waiting.{calls_in}
use Rattle.embed_c.specs.declared.taken.Call.{Call}
use Rattle.embed_c.specs.declared.taken.Taken.{Taken}

-- the calls that were taken from the machine and not given to C
abbrev pub left_in : Taken → List disk.Call
left_in taken = drop taken.given (calls_in taken.calls.items)

-- the bytes of a call
abbrev pub bytes_of : disk.Call → List ℕ
bytes_of (disk.Write file at bytes) = bytes
bytes_of (disk.Sync file) = []
bytes_of (disk.Say bytes) = bytes

-- what C is told of it beside them
abbrev pub told_of : disk.Call → Call
told_of (disk.Write file at bytes) = record { kind = 0; file = file_number file; at = at; length = length bytes }
told_of (disk.Sync file) = record { kind = 1; file = file_number file; at = 0; length = 0 }
told_of (disk.Say bytes) = record { kind = 2; file = 0; at = 0; length = length bytes }

-- C is told this call, the first of those that waited. Where its bytes fit they are at the front of the room, and it waits no
-- more; else all wait as before.
module _ (first : disk.Call) (rest now : List disk.Call) (told : Call) (before after : List ℕ) where
  pub record IsTold : Type 0 where
    pub call : told ≡ told_of first
    pub given : length (bytes_of first) ≤ length before → (now ≡ rest) × (take (length (bytes_of first)) after ≡ bytes_of first)
    pub again : length before < length (bytes_of first) → now ≡ first ∷ rest

-- of the calls that wait C is told the first one, and that there is one; or that there is none
abbrev pub IsNext : List disk.Call → List disk.Call → Call → List ℕ → List ℕ → ℕ → Type 0
IsNext [] now told before after answer = (now ≡ []) × (answer ≡ 0)
IsNext (first ∷ rest) now told before after answer = IsTold first rest now told before after × (answer ≡ 1)
