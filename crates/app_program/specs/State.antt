-- The bytes of a machine.
use Rattle.std.specs.Prelude.{◌≡◌, ℕ, zero, suc, ◌+◌, ◌<◌, ◌^◌, ◌==◌, ◌&&◌, nat_le, All, Option, None, Some, List, [], ◌∷◌, ◌++◌, length, take, drop, flat_map, if◌then◌else◌, slice_index, unwrap_or}
use Rattle.std.specs.Int.{from_bool}
use Rattle.byteorder.specs.Endian.{little_bytes, little_number}
use Rattle.app_program.specs.Machine.{Machine, machine, new_machine}
use Rattle.app_program.specs.Program.{program_of}

-- the front of its bytes: place, 0 or 1 for halted, and registers
abbrev pub head_code : Machine → List ℕ
head_code m = little_bytes 4 m.pc ++ (from_bool m.halted ∷ flat_map (little_bytes 8) m.registers)

-- its bytes: the front; then input and output, each after its length
abbrev pub state_code : Machine → List ℕ
state_code m = head_code m ++ (little_bytes 4 (length m.input) ++ (m.input ++ (little_bytes 4 (length m.output) ++ m.output)))

-- there are eight registers, and each number fits its bytes
pub record IsMachine (m : Machine) : Type 0 where
  pub pc : m.pc < 2 ^ 32
  pub count : length m.registers ≡ 8
  pub registers : All (λ x. x < 2 ^ 64) m.registers
  pub input : length m.input < 2 ^ 32
  pub output : length m.output < 2 ^ 32

-- n numbers of eight bytes each
abbrev pub numbers_in : ℕ → List ℕ → List ℕ
numbers_in zero bytes = []
numbers_in (suc n) bytes = little_number 8 bytes ∷ numbers_in n (drop 8 bytes)

-- the lengths that stand before input and output
abbrev pub input_length : List ℕ → ℕ
input_length value = little_number 4 (drop 69 value)

abbrev pub output_length : List ℕ → ℕ
output_length value = little_number 4 (drop (73 + input_length value) value)

-- the machine in bytes of the length that they say, whose fifth is 0 or 1, and in no others
abbrev pub state_in_bytes : List ℕ → Option Machine
state_in_bytes value =
    if (length value == 77 + input_length value + output_length value) && nat_le (slice_index value 4) 1 then
    Some (record {
      pc = little_number 4 value;
      halted = slice_index value 4 == 1;
      registers = numbers_in 8 (drop 5 value);
      input = take (input_length value) (drop 73 value);
      output = drop (77 + input_length value) value;
    })
    else None

-- the machine whose state the value is; the empty value is the state of a new one, without input
abbrev pub state_in : List ℕ → Option Machine
state_in [] = Some (new_machine [])
state_in (byte ∷ value) = state_in_bytes (byte ∷ value)

-- the machine whose state the value is, where it is that of one
abbrev pub machine_of : List ℕ → Machine
machine_of value = unwrap_or (state_in value) (new_machine [])

-- the value is the state of the machine that has done k steps of the program with this code on one whole input
abbrev pub HasDone : List ℕ → List ℕ → ℕ → List ℕ → Type 0
HasDone code input k value = (m : Machine) × (state_in value ≡ Some m) × (machine (program_of code) input k ≡ Some m)

-- the machine with more input, and more output
abbrev pub with_more : Machine → List ℕ → List ℕ → Machine
with_more m fed put = record { pc = m.pc; halted = m.halted; registers = m.registers; input = m.input ++ fed; output = m.output ++ put }

-- the machine with more input
abbrev pub fed : Machine → List ℕ → Machine
fed m x = record { pc = m.pc; halted = m.halted; registers = m.registers; input = m.input ++ x; output = m.output }
