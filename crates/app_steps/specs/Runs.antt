-- What many steps make of an application.
use Rattle.std.specs.Prelude.{◌<◌, ℕ, zero, suc, ◌+◌, ◌*◌, ◌%◌, ◌^◌, List, [], ◌∷◌, ◌++◌, length, take, drop, fold}
use Rattle.op_meaning.specs.AppState.{Application, IsApplication, stepped}

-- a sum, and what is put out with it
pub record Read : Type 0 where
  pub sum : ℕ
  pub output : List ℕ

-- a byte more is read: it is added to 31 times the sum, and the low byte of the new sum is put out
abbrev pub read_byte : Read → ℕ → Read
read_byte r byte =
    let sum = (r.sum * 31 + byte) % 2 ^ 64 in
    record { sum = sum; output = r.output ++ (sum % 256) ∷ [] }

-- these bytes are read, one after the other
abbrev pub read_bytes : Application → List ℕ → Read
read_bytes s bytes = fold read_byte (record { sum = s.sum; output = s.output }) bytes

-- the application has done so many steps more, and has read as many bytes of its input
abbrev pub has_read : ℕ → Application → Application
has_read k s =
    let read = read_bytes s (take k s.input) in
    record { steps = (s.steps + k) % 2 ^ 64; sum = read.sum; input = drop k s.input; output = read.output }

-- the application after so many steps
abbrev pub after_steps : ℕ → Application → Application
after_steps zero s = s
after_steps (suc k) s = after_steps k (stepped s)

-- each number of it fits its bytes, and so does the length of what its output may become
pub record IsRunnable (s : Application) : Type 0 where
  pub fits : IsApplication s
  pub short : length s.input + length s.output < 2 ^ 32
