-- The numbers of a machine fit their bytes whatever happens to it.
use Rattle.std.proofs.Common.{◌≡◌, ◌<◌, ◌≤◌, ℕ, zero, suc, ◌+◌, ◌-◌, ◌*◌, ◌%◌, ◌^◌, Bool, true, false, if◌then◌else◌, Option, None, Some, List, [], ◌∷◌, ◌++◌, length, drop, slice_get, slice_index, refl, sym, subst, ◌∙◌, arith}
use Rattle.std.specs.Prelude.{◌==◌, nat_lt, IfSome}
use Rattle.std.proofs.lemmas.Bool.{cond_both, ltb-true}
use Rattle.std.proofs.lemmas.List.{length-set}
use Rattle.std.proofs.lemmas.List.Elements.{All-replicate, All-set}
use Rattle.byteorder.specs.Endian.{little_number}
use Rattle.byteorder.specs.Numbers.{little_from-lt}
use Rattle.app_program.specs.Machine.{Machine, done, going_to, halting, new_machine, next, putting, register, setting, step, taking}
use Rattle.app_program.specs.MachineLaws.{first_of, same_some}
use Rattle.app_program.specs.OneCode.{AreBytes, behind_bytes}
use Rattle.app_program.specs.Program.{IsInstruction, IsProgram, instruction_in, instruction_of, on, program_of}
use Rattle.app_program.specs.ProgramLaws.{get_within, program_size}
use Rattle.app_program.specs.State.{IsMachine, fed, state_code}
use Rattle.app_program.specs.StateLaws.{length-state_code}
use Rattle.app_program.specs.declared.instruction.Instruction.{Instruction}
use Rattle.app_program.specs.declared.instruction.Instruction.TheVariants.{Halt, Set, Add, Multiply, Subtract, Input, Output, Jump, JumpIfZero}

-- each number fits its bytes, and the input consists of bytes
pub record IsFit (m : Machine) : Type 0 where
  pub numbers : IsMachine m
  pub bytes : AreBytes m.input

abbrev IsWord : ℕ → Type 0
IsWord x = x < 2 ^ 64

-- ---- what is read from bytes is an instruction

-- an option holds an instruction, if anything
abbrev IsGood : Option Instruction → Type 0
IsGood o = IfSome o IsInstruction

on_one : (r : ℕ) (i : Instruction) → (r < 8 → IsInstruction i) → IsGood (on r (Some i))
on_one r i is = cond_both (nat_lt r 8) (Some i) None IsGood (λ t. is (ltb-true r 8 t)) (λ f. tt)

on_two : (r s : ℕ) (i : Instruction) → (r < 8 → s < 8 → IsInstruction i) → IsGood (on r (on s (Some i)))
on_two r s i is = cond_both (nat_lt r 8) (on s (Some i)) None IsGood (λ t. on_one s i (is (ltb-true r 8 t))) (λ f. tt)

instruction_good : (op r s n : ℕ) → n < 2 ^ 32 → IsGood (instruction_of op r s n)
instruction_good op r s n small =
    cond_both (op == 0) _ _ IsGood (λ t. tt) (λ f.
    cond_both (op == 1) _ _ IsGood (λ t. on_one r (Set r n) (λ one. (one, small))) (λ f.
    cond_both (op == 2) _ _ IsGood (λ t. on_two r s (Add r s) (λ one two. (one, two))) (λ f.
    cond_both (op == 3) _ _ IsGood (λ t. on_two r s (Multiply r s) (λ one two. (one, two))) (λ f.
    cond_both (op == 4) _ _ IsGood (λ t. on_two r s (Subtract r s) (λ one two. (one, two))) (λ f.
    cond_both (op == 5) _ _ IsGood (λ t. on_one r (Input r) (λ one. one)) (λ f.
    cond_both (op == 6) _ _ IsGood (λ t. on_one r (Output r) (λ one. one)) (λ f.
    cond_both (op == 7) _ _ IsGood (λ t. small) (λ f.
    cond_both (op == 8) _ _ IsGood (λ t. on_one r (JumpIfZero r n) (λ one. (one, small))) (λ f. tt)))))))))

read_good : (bytes : List ℕ) → AreBytes bytes → IsGood (instruction_in bytes)
read_good bytes small =
    let number : little_number 4 (drop 4 bytes) < 2 ^ 32 = omega (arith, little_from-lt 0 4 (drop 4 bytes) (behind_bytes 4 bytes small)) in
    cond_both (slice_index bytes 3 == 0) (instruction_of (slice_index bytes 0) (slice_index bytes 1) (slice_index bytes 2) (little_number 4 (drop 4 bytes))) None IsGood
    (λ t. instruction_good (slice_index bytes 0) (slice_index bytes 1) (slice_index bytes 2) (little_number 4 (drop 4 bytes)) number) (λ f. tt)

-- what stands at a place of a list lies within it
within : {X : Type 0} (xs : List X) (n : ℕ) (x : X) → slice_get xs n ≡ Some x → n < length xs
within [] n x e = cc
within (y ∷ xs) zero x e = omega arith
within (y ∷ xs) (suc n) x e = let rest = within xs n x e in omega (arith, rest)

-- the instructions of a program are some, and there are fewer than it has bytes
read_of : (code : List ℕ) (n : ℕ) (i : Instruction) → AreBytes code → IsProgram code → slice_get (program_of code) n ≡ Some i → IsInstruction i × (8 * n + 8 ≤ length code)
read_of code n i small is e =
    let place = within (program_of code) n i e in
    let long : 8 * n + 8 ≤ length code = omega (arith, place, program_size code is) in
    let there : instruction_in (drop (8 * n) code) ≡ Some i = sym (get_within code n is long) ∙ e in
    (subst IsGood there (read_good (drop (8 * n) code) (behind_bytes (8 * n) code small)), long)

-- ---- what happens to a machine

-- a machine before its first step fits
pub new_fit : IsFit (new_machine [])
new_fit = record {
  numbers = record { pc = omega arith; count = refl; registers = All-replicate IsWord 8 0 (omega arith); input = omega arith; output = omega arith };
  bytes = λ i. omega arith;
}

bytes_append : (xs ys : List ℕ) → AreBytes xs → AreBytes ys → AreBytes (xs ++ ys)
bytes_append [] ys one two i = two i
bytes_append (x ∷ xs) ys one two zero = one 0
bytes_append (x ∷ xs) ys one two (suc i) = bytes_append xs ys (λ j. one (suc j)) two i

-- so it does with more input, where its value is not too long
pub fed_fit : (m : Machine) (x : List ℕ) → IsFit m → AreBytes x → length (state_code (fed m x)) < 2 ^ 32 → IsFit (fed m x)
fed_fit m x is small short =
    let size = length-state_code (fed m x) is.numbers.count in
    record {
      numbers = record { pc = is.numbers.pc; count = is.numbers.count; registers = is.numbers.registers; input = omega (arith, size, short); output = is.numbers.output };
      bytes = bytes_append m.input x is.bytes small;
    }

module _ (m : Machine) (is : IsFit m) (place : m.pc + 1 < 2 ^ 32) where
  setting_fit : (r x : ℕ) → x < 2 ^ 64 → IsFit (setting m r x)
  setting_fit r x small = record {
    numbers = record {
      pc = place;
      count = length-set m.registers r x ∙ is.numbers.count;
      registers = All-set IsWord m.registers r x small is.numbers.registers;
      input = is.numbers.input;
      output = is.numbers.output;
    };
    bytes = is.bytes;
  }

  going_fit : (pc : ℕ) → pc < 2 ^ 32 → IsFit (going_to m pc)
  going_fit pc small = record {
    numbers = record { pc = small; count = is.numbers.count; registers = is.numbers.registers; input = is.numbers.input; output = is.numbers.output };
    bytes = is.bytes;
  }

  halting_fit : IsFit (halting m)
  halting_fit = record {
    numbers = record { pc = is.numbers.pc; count = is.numbers.count; registers = is.numbers.registers; input = is.numbers.input; output = is.numbers.output };
    bytes = is.bytes;
  }

  putting_fit : (byte : ℕ) → length (putting m byte).output < 2 ^ 32 → IsFit (putting m byte)
  putting_fit byte short = record {
    numbers = record { pc = place; count = is.numbers.count; registers = is.numbers.registers; input = is.numbers.input; output = short };
    bytes = is.bytes;
  }

  taken_fit : (n : Machine) (r : ℕ) (input : List ℕ) → AreBytes input → length input < 2 ^ 32 → taking m r input ≡ Some n → IsFit n
  taken_fit n r [] small short e = cc
  taken_fit n r (byte ∷ left) small short e =
      let word : byte < 2 ^ 64 = let b : byte < 256 = small 0 in omega (arith, b) in
      subst IsFit (same_some _ n e) (record {
        numbers = record {
          pc = place;
          count = length-set m.registers r byte ∙ is.numbers.count;
          registers = All-set IsWord m.registers r byte word is.numbers.registers;
          input = omega (arith, short);
          output = is.numbers.output;
        };
        bytes = λ i. small (suc i);
      })

  done_fit : (n : Machine) (i : Instruction) → IsInstruction i → length n.output < 2 ^ 32 → done m i ≡ Some n → IsFit n
  done_fit n Halt good short e = subst IsFit (same_some _ n e) halting_fit
  done_fit n (Set r k) good short e = subst IsFit (same_some _ n e) (setting_fit r k (omega (arith, good.1)))
  done_fit n (Add r s) good short e = subst IsFit (same_some _ n e) (setting_fit r ((register m r + register m s) % 2 ^ 64) (omega arith))
  done_fit n (Multiply r s) good short e = subst IsFit (same_some _ n e) (setting_fit r ((register m r * register m s) % 2 ^ 64) (omega arith))
  done_fit n (Subtract r s) good short e = subst IsFit (same_some _ n e) (setting_fit r ((register m r + (2 ^ 64 - register m s)) % 2 ^ 64) (omega arith))
  done_fit n (Input r) good short e = taken_fit n r m.input is.bytes is.numbers.input e
  done_fit n (Output r) good short e =
      let same = same_some _ n e in
      subst IsFit same (putting_fit (register m r % 256) (subst (λ (t : Machine). length t.output < 2 ^ 32) (sym same) short))
  done_fit n (Jump pc) good short e = subst IsFit (same_some _ n e) (going_fit pc good)
  done_fit n (JumpIfZero r pc) good short e =
      subst IsFit (same_some _ n e) (going_fit _ (cond_both (register m r == 0) pc (m.pc + 1) (λ x. x < 2 ^ 32) (λ t. good.1) (λ f. place)))

-- where it has not halted, its next instruction is that of its place
going_on : {X : Type 0} (halted : Bool) (o : Option X) (x : X) → (if halted then None else o) ≡ Some x → o ≡ Some x
going_on true o x e = cc
going_on false o x e = e

-- and so it does after a step of a program, where its value is not too long
pub step_fit : (code : List ℕ) (m n : Machine) → AreBytes code → IsProgram code → length code < 2 ^ 32 → IsFit m → step (program_of code) m ≡ Some n
    → length n.output < 2 ^ 32 → IsFit n
step_fit code m n small program short is e room =
    let at = first_of (done m) (next (program_of code) m) n e in
    let read = read_of code m.pc at.0 small program (going_on m.halted (slice_get (program_of code) m.pc) at.0 at.1) in
    done_fit m is (omega (arith, read.1, short)) n at.0 read.0 room at.2
