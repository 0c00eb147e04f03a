-- How the bytes of a machine are found.
use Rattle.std.proofs.Common.{◌≡◌, ◌≤◌, ◌<◌, ℕ, ◌+◌, ◌-◌, true, false, None, Some, List, [], ◌∷◌, length, take, drop, slice_index, refl, sym, ap, ◌∙◌, arith}
use Rattle.std.specs.Prelude.{◌==◌, nat_le}
use Rattle.std.proofs.lemmas.Bool.{ne_eqb, eq-eqb, le-leb}
use Rattle.std.proofs.lemmas.List.{drop-drop, length-drop}
use Rattle.byteorder.specs.Endian.{little_number}
use Rattle.oper_core.specs.LittleEndian.{slice_from}
use Rattle.app_program.specs.State.{input_length, numbers_in, output_length, state_in, state_in_bytes}

-- a value with a byte is read as bytes
in_bytes : (v : List ℕ) → 0 < length v → state_in v ≡ state_in_bytes v
in_bytes [] some = absurd (omega arith)
in_bytes (byte ∷ v) some = refl

-- what is read of a value by parts: the input's length n, the input, and what follows it
pub record IsRead (v : List ℕ) (n : ℕ) (front back : List ℕ) : Type 0 where
  pub number : n ≡ input_length v
  pub input : front ≡ take (input_length v) (drop 73 v)
  pub rest : back ≡ drop (73 + input_length v) v
  pub long : 77 + input_length v ≤ length v

pub read_parts : (v : List ℕ) (n : ℕ) (input rest : List ℕ) → 77 ≤ length v → n ≡ little_number 4 (take (length v - 69) (drop 69 v))
    → n + 4 ≤ length (take (length v - 73) (drop 73 v))
    → input ≡ take n (take (length v - 73) (drop 73 v)) → rest ≡ drop n (take (length v - 73) (drop 73 v)) → IsRead v n input rest
read_parts v n input rest long read room front back =
    let number : n ≡ input_length v = read ∙ ap (little_number 4) (slice_from 69 v) in
    record {
      number = number;
      input = front ∙ ap (take n) (slice_from 73 v) ∙ ap (λ (k : ℕ). take k (drop 73 v)) number;
      rest = back ∙ ap (drop n) (slice_from 73 v) ∙ drop-drop n 73 v ∙ ap (λ (k : ℕ). drop (73 + k) v) number;
      long = omega (arith, room, number, ap length (slice_from 73 v), length-drop 73 v);
    }

-- the output is what follows its length
output_behind : (v : List ℕ) (n : ℕ) (input rest : List ℕ) → IsRead v n input rest → take (length rest - 4) (drop 4 rest) ≡ drop (77 + input_length v) v
output_behind v n input rest read =
    slice_from 4 rest ∙ ap (drop 4) read.rest ∙ drop-drop 4 (73 + input_length v) v ∙ ap (λ (k : ℕ). drop k v) (omega arith)

output_size : (v : List ℕ) (n : ℕ) (input rest : List ℕ) → IsRead v n input rest → length (take (length rest - 4) (drop 4 rest)) ≡ length v - (77 + input_length v)
output_size v n input rest read = ap length (output_behind v n input rest read) ∙ length-drop (77 + input_length v) v

pub no_state : (v : List ℕ) (n o : ℕ) (input rest : List ℕ) → IsRead v n input rest → o ≡ little_number 4 rest
    → (length (take (length rest - 4) (drop 4 rest)) ≡ o → ⊥) → None ≡ state_in v
no_state v n o input rest read said other =
    let long = read.long in
    let size = output_size v n input rest read in
    let behind : o ≡ output_length v = said ∙ ap (little_number 4) read.rest in
    let fails : (length v == 77 + input_length v + output_length v) ≡ false =
    ne_eqb (length v) (77 + input_length v + output_length v) (λ e. other (omega (arith, long, size, behind, e))) in
    sym (in_bytes v (omega (arith, long)) ∙ rw fails refl)

pub is_state : (v : List ℕ) (n o : ℕ) (input rest : List ℕ) (pc : ℕ) (registers : List ℕ) → IsRead v n input rest → o ≡ little_number 4 rest
    → length (take (length rest - 4) (drop 4 rest)) ≡ o → slice_index v 4 ≤ 1 → pc ≡ little_number 4 v → registers ≡ numbers_in 8 (take (length v - 5) (drop 5 v))
    → Some (record { pc = pc; halted = slice_index v 4 == 1; registers = registers; input = input; output = take (length rest - 4) (drop 4 rest) }) ≡ state_in v
is_state v n o input rest pc registers read said same halted place numbers =
    let long = read.long in
    let size = output_size v n input rest read in
    let behind : o ≡ output_length v = said ∙ ap (little_number 4) read.rest in
    let holds : (length v == 77 + input_length v + output_length v) ≡ true =
    eq-eqb (length v) (77 + input_length v + output_length v) (omega (arith, long, size, behind, same)) in
    let told : nat_le (slice_index v 4) 1 ≡ true = le-leb (slice_index v 4) 1 halted in
    let registers' : registers ≡ numbers_in 8 (drop 5 v) = numbers ∙ ap (numbers_in 8) (slice_from 5 v) in
    let output : take (length rest - 4) (drop 4 rest) ≡ drop (77 + input_length v) v = output_behind v n input rest read in
    let fields : Some (record { pc = pc; halted = slice_index v 4 == 1; registers = registers; input = input; output = take (length rest - 4) (drop 4 rest) })
    ≡ Some (record { pc = little_number 4 v; halted = slice_index v 4 == 1; registers = numbers_in 8 (drop 5 v); input = take (input_length v) (drop 73 v); output = drop (77 + input_length v) v }) =
    λ i. Some (record { pc = place i; halted = slice_index v 4 == 1; registers = registers' i; input = read.input i; output = output i }) in
    fields ∙ sym (in_bytes v (omega (arith, long)) ∙ rw holds (rw told refl))
