-- Programs, and their bytes.
use Rattle.std.specs.Prelude.{◌≡◌, ℕ, ◌<◌, ◌^◌, ◌==◌, ⊤, true, is_some, Option, None, Some, List, [], ◌∷◌, drop, if◌then◌else◌, nat_lt, option_map, option_and_then, slice_index, unwrap_or}
use Rattle.byteorder.specs.Endian.{little_number}
use Rattle.app_program.specs.declared.instruction.Instruction.{Instruction}
use Rattle.app_program.specs.declared.instruction.Instruction.TheVariants.{Halt, Set, Add, Multiply, Subtract, Input, Output, Jump, JumpIfZero}

-- the instruction, where the number is that of one of the eight registers
abbrev pub on : ℕ → Option Instruction → Option Instruction
on r instruction = if nat_lt r 8 then instruction else None

-- the instruction of a number op, on two registers and a number; what it does not use is free
abbrev pub instruction_of : ℕ → ℕ → ℕ → ℕ → Option Instruction
instruction_of op r s n =
    if op == 0 then Some Halt
    else (if op == 1 then on r (Some (Set r n))
    else (if op == 2 then on r (on s (Some (Add r s)))
    else (if op == 3 then on r (on s (Some (Multiply r s)))
    else (if op == 4 then on r (on s (Some (Subtract r s)))
    else (if op == 5 then on r (Some (Input r))
    else (if op == 6 then on r (Some (Output r))
    else (if op == 7 then Some (Jump n)
    else (if op == 8 then on r (Some (JumpIfZero r n))
    else None))))))))

-- the instruction in the first eight bytes: op, two registers, a zero, and a number of four bytes
abbrev pub instruction_in : List ℕ → Option Instruction
instruction_in bytes =
    if slice_index bytes 3 == 0 then
    instruction_of (slice_index bytes 0) (slice_index bytes 1) (slice_index bytes 2) (little_number 4 (drop 4 bytes))
    else None

-- an instruction and those behind it
abbrev pub followed : Option Instruction → Option (List Instruction) → Option (List Instruction)
followed first others = option_and_then (λ instruction. option_map (λ more. instruction ∷ more) others) first

-- the program in the bytes: an instruction in each eight of them, and no byte more
abbrev pub program_in : List ℕ → Option (List Instruction)
program_in [] = Some []
program_in (op ∷ r ∷ s ∷ z ∷ a ∷ b ∷ c ∷ d ∷ more) = followed (instruction_in (op ∷ r ∷ s ∷ z ∷ a ∷ b ∷ c ∷ d ∷ [])) (program_in more)
program_in other = None

-- the program whose bytes these are, where they are those of one
abbrev pub program_of : List ℕ → List Instruction
program_of bytes = unwrap_or (program_in bytes) []

-- its registers are among the eight, and its number has four bytes
abbrev pub IsInstruction : Instruction → Type 0
IsInstruction Halt = ⊤
IsInstruction (Set r n) = (r < 8) × (n < 2 ^ 32)
IsInstruction (Add r s) = (r < 8) × (s < 8)
IsInstruction (Multiply r s) = (r < 8) × (s < 8)
IsInstruction (Subtract r s) = (r < 8) × (s < 8)
IsInstruction (Input r) = r < 8
IsInstruction (Output r) = r < 8
IsInstruction (Jump place) = place < 2 ^ 32
IsInstruction (JumpIfZero r place) = (r < 8) × (place < 2 ^ 32)

-- the bytes are those of a program
abbrev pub IsProgram : List ℕ → Type 0
IsProgram bytes = is_some (program_in bytes) ≡ true
