-- The state of a machine and its bytes determine each other.
use Rattle.std.proofs.Common.{◌≡◌, ◌≤◌, ◌⊎◌, inl, inr, ℕ, ◌+◌, ◌*◌, Bool, true, false, if◌then◌else◌, Option, None, Some, unwrap_or, List, [], ◌∷◌, ◌++◌, length, take, drop, slice_index, refl, sym, ap, ◌∙◌, arith, length-append}
use Rattle.std.specs.Prelude.{◌==◌, ◌&&◌, nat_le, flat_map}
use Rattle.std.specs.Int.{from_bool}
use Rattle.std.proofs.lemmas.Bool.{and_parts, eqb-true}
use Rattle.std.proofs.lemmas.List.{length-drop, length-take-le}
use Rattle.byteorder.specs.Endian.{little_bytes, little_number}
use Rattle.oper_core.specs.LittleEndian.{length-little_bytes}
use Rattle.app_program.specs.Machine.{Machine, new_machine}
use Rattle.app_program.specs.State.{head_code, input_length, numbers_in, output_length, state_code, state_in, state_in_bytes, with_more}

-- ---- lengths

-- a number has eight bytes
pub length_eights : (xs : List ℕ) → length (flat_map (little_bytes 8) xs) ≡ 8 * length xs
length_eights [] = refl
length_eights (x ∷ xs) = omega (arith, length-append (little_bytes 8 x) (flat_map (little_bytes 8) xs), length-little_bytes 8 x, length_eights xs)

length-head_code : (m : Machine) → length m.registers ≡ 8 → length (head_code m) ≡ 69
length-head_code m count =
    omega (
      arith,
      count,
      length-append (little_bytes 4 m.pc) (from_bool m.halted ∷ flat_map (little_bytes 8) m.registers),
      length-little_bytes 4 m.pc,
      length_eights m.registers,
    )

-- a code has 77 bytes, and the input and the output
pub length-state_code : (m : Machine) → length m.registers ≡ 8 → length (state_code m) ≡ 77 + length m.input + length m.output
length-state_code m count =
    let lengths = little_bytes 4 (length m.output) ++ m.output in
    omega (
      arith,
      length-head_code m count,
      length-append (head_code m) (little_bytes 4 (length m.input) ++ (m.input ++ lengths)),
      length-append (little_bytes 4 (length m.input)) (m.input ++ lengths),
      length-append m.input lengths,
      length-append (little_bytes 4 (length m.output)) m.output,
      length-little_bytes 4 (length m.input),
      length-little_bytes 4 (length m.output),
    )

-- the output is no longer than the code
pub output_within : (m : Machine) → length m.output ≤ length (state_code m)
output_within m =
    let lengths = little_bytes 4 (length m.output) ++ m.output in
    omega (
      arith,
      length-append (head_code m) (little_bytes 4 (length m.input) ++ (m.input ++ lengths)),
      length-append (little_bytes 4 (length m.input)) (m.input ++ lengths),
      length-append m.input lengths,
      length-append (little_bytes 4 (length m.output)) m.output,
    )

-- more input and output make a code longer by so much
pub longer : (m : Machine) (fed put : List ℕ) → length (state_code (with_more m fed put)) ≡ length (state_code m) + length fed + length put
longer m fed put =
    omega (
      arith,
      behind m.input m.output,
      behind (m.input ++ fed) (m.output ++ put),
      length-append (head_code m) (little_bytes 4 (length m.input) ++ (m.input ++ (little_bytes 4 (length m.output) ++ m.output))),
      length-append (head_code m) (little_bytes 4 (length (m.input ++ fed)) ++ ((m.input ++ fed) ++ (little_bytes 4 (length (m.output ++ put)) ++ (m.output ++ put)))),
      length-append m.input fed,
      length-append m.output put,
    )
  where
    behind : (input output : List ℕ) → length (little_bytes 4 (length input) ++ (input ++ (little_bytes 4 (length output) ++ output))) ≡ 8 + length input + length output
    behind input output = omega (arith, length-append input (little_bytes 4 (length output) ++ output))

-- ---- what is found in a value

if_some : {A : Type 0} (b : Bool) (o : Option A) (y : A) → (if b then o else None) ≡ Some y → (b ≡ true) × (o ≡ Some y)
if_some true o y e = (refl, e)
if_some false o y e = cc

same_some : {A : Type 0} (x y : A) → Some x ≡ Some y → x ≡ y
same_some x y e = ap (λ o. unwrap_or o x) e

-- the machine that stands in bytes
abbrev pub in_place : List ℕ → Machine
in_place v = record {
  pc = little_number 4 v;
  halted = slice_index v 4 == 1;
  registers = numbers_in 8 (drop 5 v);
  input = take (input_length v) (drop 73 v);
  output = drop (77 + input_length v) v;
}

-- bytes are as long as they say, and the machine is what stands in them
pub record IsFound (v : List ℕ) (m : Machine) : Type 0 where
  pub long : length v ≡ 77 + input_length v + output_length v
  pub halted : nat_le (slice_index v 4) 1 ≡ true
  pub fields : in_place v ≡ m
  pub input : length m.input ≡ input_length v
  pub output : length m.output ≡ output_length v

found_in_bytes : (v : List ℕ) (m : Machine) → state_in_bytes v ≡ Some m → IsFound v m
found_in_bytes v m e =
    let parts = if_some ((length v == 77 + input_length v + output_length v) && nat_le (slice_index v 4) 1) _ m e in
    let tests = and_parts (length v == 77 + input_length v + output_length v) (nat_le (slice_index v 4) 1) parts.0 in
    let long : length v ≡ 77 + input_length v + output_length v = eqb-true _ _ tests.0 in
    let fields = same_some (in_place v) m parts.1 in
    record {
      long = long;
      halted = tests.1;
      fields = fields;
      input = ap (λ (t : Machine). length t.input) (sym fields) ∙ length-take-le (input_length v) (drop 73 v) (omega (arith, long, length-drop 73 v));
      output = ap (λ (t : Machine). length t.output) (sym fields) ∙ length-drop (77 + input_length v) v ∙ omega (arith, long);
    }

-- the value is empty, and the machine a new one, or it is found in the value's bytes
pub found : (v : List ℕ) (m : Machine) → state_in v ≡ Some m → ((v ≡ []) × (m ≡ new_machine [])) ⊎ IsFound v m
found [] m e = inl (refl, sym (same_some (new_machine []) m e))
found (byte ∷ v) m e = inr (found_in_bytes (byte ∷ v) m e)

-- input and output are no longer than the value
pub state_within : (v : List ℕ) (m : Machine) → state_in v ≡ Some m → length m.input + length m.output ≤ length v
state_within v m e = elim (found v m e) [
  | inl new ↦ omega (arith, ap (λ (t : Machine). length t.input) new.1, ap (λ (t : Machine). length t.output) new.1)
  | inr is ↦ let long = is.long in let input = is.input in let output = is.output in omega (arith, long, input, output)
]
