-- The state of an application, its bytes, and one step.
use Rattle.std.specs.Prelude.{ℕ, ◌+◌, ◌*◌, ◌%◌, ◌^◌, ◌<◌, ◌==◌, Option, None, Some, is_some, unwrap_or, List, [], ◌∷◌, ◌++◌, length, take, drop, if◌then◌else◌}
use Rattle.oper_core.specs.Meaning.{unless}
use Rattle.oper_core.specs.declared.refusal.Refusal.{Refusal}
use Rattle.oper_core.specs.declared.refusal.Refusal.TheVariants.{NotApp}
use Rattle.byteorder.specs.Endian.{little_bytes, little_number}

-- what an application has done, and what it has before it and after it
pub record Application : Type 0 where
  pub steps : ℕ
  pub sum : ℕ
  pub input : List ℕ
  pub output : List ℕ

-- before the first step, with nothing to read
abbrev pub new_application : Application
new_application = record { steps = 0; sum = 0; input = []; output = [] }

-- its bytes: steps and sum, then input and output, each after its length
abbrev pub state_code : Application → List ℕ
state_code s =
    little_bytes 8 s.steps ++ (little_bytes 8 s.sum
    ++ (little_bytes 4 (length s.input) ++ (s.input ++ (little_bytes 4 (length s.output) ++ s.output))))

-- each number fits its bytes
pub record IsApplication (s : Application) : Type 0 where
  pub steps : s.steps < 2 ^ 64
  pub sum : s.sum < 2 ^ 64
  pub input : length s.input < 2 ^ 32
  pub output : length s.output < 2 ^ 32

-- the lengths that stand before input and output
abbrev pub input_length : List ℕ → ℕ
input_length value = little_number 4 (drop 16 value)

abbrev pub output_length : List ℕ → ℕ
output_length value = little_number 4 (drop (20 + input_length value) value)

-- what stands in bytes of the length that they say, and in no others
abbrev pub state_in_bytes : List ℕ → Option Application
state_in_bytes value =
    if length value == 24 + input_length value + output_length value then
    Some (record {
      steps = little_number 8 value;
      sum = little_number 8 (drop 8 value);
      input = take (input_length value) (drop 20 value);
      output = drop (24 + input_length value) value;
    })
    else None

-- the application whose state the value is; the empty value is the state of a new one
abbrev pub state_in : List ℕ → Option Application
state_in [] = Some new_application
state_in (byte ∷ value) = state_in_bytes (byte ∷ value)

-- a step takes the first byte of the input, adds it to 31 times the sum, and puts out the low byte of the new sum
abbrev pub step_with : Application → List ℕ → Application
step_with s [] = s
step_with s (byte ∷ input) =
    let sum = (s.sum * 31 + byte) % 2 ^ 64 in
    record { steps = (s.steps + 1) % 2 ^ 64; sum = sum; input = input; output = s.output ++ (sum % 256) ∷ [] }

abbrev pub stepped : Application → Application
stepped s = step_with s s.input

-- the application with more input
abbrev pub fed : Application → List ℕ → Application
fed s x = record { steps = s.steps; sum = s.sum; input = s.input ++ x; output = s.output }

-- the application whose state the value is, where it is one
abbrev pub app_of : List ℕ → Application
app_of value = unwrap_or (state_in value) new_application

abbrev pub app_check : List ℕ → Option Refusal
app_check value = unless (is_some (state_in value)) NotApp
