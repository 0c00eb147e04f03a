-- What a program does, step by step.
use Rattle.std.specs.Prelude.{ℕ, zero, suc, ◌+◌, ◌-◌, ◌*◌, ◌%◌, ◌^◌, ◌==◌, Bool, true, false, Option, None, Some, List, [], ◌∷◌, ◌++◌, if◌then◌else◌, option_and_then, replicate, slice_get, slice_index, slice_set}
use Rattle.app_program.specs.declared.instruction.Instruction.{Instruction}
use Rattle.app_program.specs.declared.instruction.Instruction.TheVariants.{Halt, Set, Add, Multiply, Subtract, Input, Output, Jump, JumpIfZero}

-- a machine: the place of its next instruction, whether it has halted, its eight registers, the bytes that it has not taken
-- yet, and those that it has put out
pub record Machine : Type 0 where
  pub pc : ℕ
  pub halted : Bool
  pub registers : List ℕ
  pub input : List ℕ
  pub output : List ℕ

-- before the first step, with this input
abbrev pub new_machine : List ℕ → Machine
new_machine input = record { pc = 0; halted = false; registers = replicate 8 0; input = input; output = [] }

-- what is in a register
abbrev pub register : Machine → ℕ → ℕ
register m r = slice_index m.registers r

-- the register becomes x, and the machine goes on
abbrev pub setting : Machine → ℕ → ℕ → Machine
setting m r x = record { pc = m.pc + 1; halted = m.halted; registers = slice_set m.registers r x; input = m.input; output = m.output }

-- the machine goes on at this place
abbrev pub going_to : Machine → ℕ → Machine
going_to m place = record { pc = place; halted = m.halted; registers = m.registers; input = m.input; output = m.output }

-- the byte joins the output, and the machine goes on
abbrev pub putting : Machine → ℕ → Machine
putting m byte = record { pc = m.pc + 1; halted = m.halted; registers = m.registers; input = m.input; output = m.output ++ byte ∷ [] }

-- the first byte of the input becomes the register, if there is one, and the others are left
abbrev pub taking : Machine → ℕ → List ℕ → Option Machine
taking m r [] = None
taking m r (byte ∷ left) = Some (record { pc = m.pc + 1; halted = m.halted; registers = slice_set m.registers r byte; input = left; output = m.output })

abbrev pub halting : Machine → Machine
halting m = record { pc = m.pc; halted = true; registers = m.registers; input = m.input; output = m.output }

-- the machine after an instruction; none where it takes a byte of the input and there is none
abbrev pub done : Machine → Instruction → Option Machine
done m Halt = Some (halting m)
done m (Set r n) = Some (setting m r n)
done m (Add r s) = Some (setting m r ((register m r + register m s) % 2 ^ 64))
done m (Multiply r s) = Some (setting m r ((register m r * register m s) % 2 ^ 64))
done m (Subtract r s) = Some (setting m r ((register m r + (2 ^ 64 - register m s)) % 2 ^ 64))
done m (Input r) = taking m r m.input
done m (Output r) = Some (putting m (register m r % 256))
done m (Jump place) = Some (going_to m place)
done m (JumpIfZero r place) = Some (going_to m (if register m r == 0 then place else m.pc + 1))

-- its next instruction; none where it has halted, and where the program has none at this place
abbrev pub next : List Instruction → Machine → Option Instruction
next program m = if m.halted then None else slice_get program m.pc

-- the machine after a step; none where it lacks code or input, or has halted
abbrev pub step : List Instruction → Machine → Option Machine
step program m = option_and_then (done m) (next program m)

-- the machine after k steps on one whole input; none where a step can't be done
abbrev pub machine : List Instruction → List ℕ → ℕ → Option Machine
machine program input zero = Some (new_machine input)
machine program input (suc k) = option_and_then (step program) (machine program input k)
