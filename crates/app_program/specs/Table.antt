-- The operations on interpreted applications, one row each: a, p and x are the values that the objects A, P and X have before.
use Rattle.std.specs.Prelude.{◌&&◌, nat_le, Bool, Option, List, ℕ, [], ◌∷◌, is_some, length, unwrap_or}
use Rattle.oper_core.specs.Meaning.{Meaning, or_else, unless}
use Rattle.oper_core.specs.declared.bounds.Bounds.{Bounds}
use Rattle.oper_core.specs.declared.refusal.Refusal.{Refusal}
use Rattle.oper_core.specs.declared.refusal.Refusal.TheVariants.{Halted, NoInput, NotApp, NotCode, TooLarge}
use Rattle.op_rows.specs.Rows.{Row, first, objects_alone, rows_meaning, second}
use Rattle.app_program.specs.Program.{program_in, program_of}
use Rattle.app_program.specs.Machine.{Machine, next, step}
use Rattle.app_program.specs.State.{fed, machine_of, state_code, state_in}
use Rattle.app_program.specs.declared.program_op.ProgramOp.{ProgramOp}
use Rattle.app_program.specs.declared.program_op.ProgramOp.TheVariants.{Step, Feed, Drain}

-- the value is the state of a machine
abbrev pub state_check : List ℕ → Option Refusal
state_check a = unless (is_some (state_in a)) NotApp

-- the machine's next instruction, by the program that is a value
abbrev pub has_next : List ℕ → List ℕ → Bool
has_next a p = is_some (next (program_of p) (machine_of a))

-- the machine after a step, where it can do one
abbrev pub stepped : List ℕ → List ℕ → Machine
stepped a p = unwrap_or (step (program_of p) (machine_of a)) (machine_of a)

-- the machine's value is not too long
abbrev pub size_check : Bounds → Machine → Option Refusal
size_check b m = unless (nat_le (length (state_code m)) b.cap) TooLarge

-- a is a state and p a program, which has an instruction for it, and input where the instruction takes a byte; and there is
-- room for the new state
abbrev pub step_check : Bounds → List ℕ → List ℕ → Option Refusal
step_check b a p =
    or_else (state_check a)
    (or_else (unless (is_some (program_in p)) NotCode)
    (or_else (unless (has_next a p) Halted)
    (or_else (unless (is_some (step (program_of p) (machine_of a))) NoInput)
    (size_check b (stepped a p)))))

-- a is a state, and there is room for x in it
abbrev pub feed_check : Bounds → List ℕ → List ℕ → Option Refusal
feed_check b a x = or_else (state_check a) (size_check b (fed (machine_of a) x))

abbrev pub program_row : ProgramOp → Row
-- pexec A P: the machine does one instruction of the program
program_row (Step a p) = record {
  names = objects_alone 14 (a ∷ p ∷ []) (a ∷ p ∷ []) (a ∷ []);
  check = λ b values. step_check b (first values) (second values);
  made = λ values. state_code (stepped (first values) (second values)) ∷ [];
}
-- pread A X: x is added to the machine's input
program_row (Feed a x) = record {
  names = objects_alone 15 (a ∷ x ∷ []) (a ∷ x ∷ []) (a ∷ []);
  check = λ b values. feed_check b (first values) (second values);
  made = λ values. state_code (fed (machine_of (first values)) (second values)) ∷ [];
}
-- pwrite A X: X becomes the machine's output
program_row (Drain a x) = record {
  names = objects_alone 16 (a ∷ x ∷ []) (a ∷ []) (x ∷ []);
  check = λ b values. state_check (first values);
  made = λ values. (machine_of (first values)).output ∷ [];
}

abbrev pub program_meaning : Bounds → Meaning ProgramOp
program_meaning = rows_meaning program_row

-- the tags of these operations
abbrev pub is_program_tag : ℕ → Bool
is_program_tag tag = nat_le 14 tag && nat_le tag 16
