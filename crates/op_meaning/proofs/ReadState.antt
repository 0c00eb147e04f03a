-- How the bytes of a state are found, and a step.
use Rattle.std.proofs.Common.{◌≡◌, ◌≤◌, ◌<◌, ℕ, ◌+◌, ◌-◌, ◌*◌, ◌%◌, ◌^◌, true, false, None, Some, List, [], ◌∷◌, ◌++◌, length, take, drop, slice_index, refl, sym, ap, ◌∙◌, arith}
use Rattle.std.specs.Prelude.{◌==◌}
use Rattle.std.proofs.lemmas.Bool.{ne_eqb, eq-eqb}
use Rattle.std.proofs.lemmas.List.{drop-drop, length-drop}
use Rattle.byteorder.specs.Endian.{little_number}
use Rattle.oper_core.specs.LittleEndian.{slice_from}
use Rattle.op_meaning.specs.AppState.{Application, input_length, output_length, state_in, state_in_bytes, stepped, step_with}

-- a value with a byte is read as bytes
pub in_bytes : (v : List ℕ) → 0 < length v → state_in v ≡ state_in_bytes v
in_bytes [] some = absurd (omega arith)
in_bytes (byte ∷ v) some = refl

-- what is read of a value by parts: the input's length n, the input, and what follows it
pub record IsRead (v : List ℕ) (n : ℕ) (front back : List ℕ) : Type 0 where
  pub number : n ≡ input_length v
  pub input : front ≡ take (input_length v) (drop 20 v)
  pub rest : back ≡ drop (20 + input_length v) v
  pub long : 24 + input_length v ≤ length v

pub read_parts : (v : List ℕ) (n : ℕ) (input rest : List ℕ) → 24 ≤ length v → n ≡ little_number 4 (take (length v - 16) (drop 16 v))
    → n + 4 ≤ length (take (length v - 20) (drop 20 v))
    → input ≡ take n (take (length v - 20) (drop 20 v)) → rest ≡ drop n (take (length v - 20) (drop 20 v)) → IsRead v n input rest
read_parts v n input rest long read room front back =
    let number : n ≡ input_length v = read ∙ ap (little_number 4) (slice_from 16 v) in
    record {
      number = number;
      input = front ∙ ap (take n) (slice_from 20 v) ∙ ap (λ (k : ℕ). take k (drop 20 v)) number;
      rest = back ∙ ap (drop n) (slice_from 20 v) ∙ drop-drop n 20 v ∙ ap (λ (k : ℕ). drop (20 + k) v) number;
      long = omega (arith, room, number, ap length (slice_from 20 v), length-drop 20 v);
    }

-- the output is what follows its length
output_behind : (v : List ℕ) (n : ℕ) (input rest : List ℕ) → IsRead v n input rest → take (length rest - 4) (drop 4 rest) ≡ drop (24 + input_length v) v
output_behind v n input rest read =
    slice_from 4 rest ∙ ap (drop 4) read.rest ∙ drop-drop 4 (20 + input_length v) v ∙ ap (λ (k : ℕ). drop k v) (omega arith)

output_size : (v : List ℕ) (n : ℕ) (input rest : List ℕ) → IsRead v n input rest → length (take (length rest - 4) (drop 4 rest)) ≡ length v - (24 + input_length v)
output_size v n input rest read = ap length (output_behind v n input rest read) ∙ length-drop (24 + input_length v) v

pub no_state : (v : List ℕ) (n o : ℕ) (input rest : List ℕ) → IsRead v n input rest → o ≡ little_number 4 rest
    → (length (take (length rest - 4) (drop 4 rest)) ≡ o → ⊥) → None ≡ state_in v
no_state v n o input rest read said other =
    let long = read.long in
    let size = output_size v n input rest read in
    let behind : o ≡ output_length v = said ∙ ap (little_number 4) read.rest in
    let fails : (length v == 24 + input_length v + output_length v) ≡ false =
    ne_eqb (length v) (24 + input_length v + output_length v) (λ e. other (omega (arith, long, size, behind, e))) in
    sym (in_bytes v (omega (arith, long)) ∙ rw fails refl)

pub is_state : (v : List ℕ) (n o : ℕ) (input rest : List ℕ) (steps sum : ℕ) → IsRead v n input rest → o ≡ little_number 4 rest
    → length (take (length rest - 4) (drop 4 rest)) ≡ o → steps ≡ little_number 8 v → sum ≡ little_number 8 (take (length v - 8) (drop 8 v))
    → Some (record { steps = steps; sum = sum; input = input; output = take (length rest - 4) (drop 4 rest) }) ≡ state_in v
is_state v n o input rest steps sum read said same first second =
    let long = read.long in
    let size = output_size v n input rest read in
    let behind : o ≡ output_length v = said ∙ ap (little_number 4) read.rest in
    let holds : (length v == 24 + input_length v + output_length v) ≡ true =
    eq-eqb (length v) (24 + input_length v + output_length v) (omega (arith, long, size, behind, same)) in
    let second' : sum ≡ little_number 8 (drop 8 v) = second ∙ ap (little_number 8) (slice_from 8 v) in
    let output : take (length rest - 4) (drop 4 rest) ≡ drop (24 + input_length v) v = output_behind v n input rest read in
    let fields : Some (record { steps = steps; sum = sum; input = input; output = take (length rest - 4) (drop 4 rest) })
    ≡ Some (record { steps = little_number 8 v; sum = little_number 8 (drop 8 v); input = take (input_length v) (drop 20 v); output = drop (24 + input_length v) v }) =
    λ i. Some (record { steps = first i; sum = second' i; input = read.input i; output = output i }) in
    fields ∙ sym (in_bytes v (omega (arith, long)) ∙ rw holds refl)

-- the step, from its first byte on
pub one_step : (s : Application) (sum : ℕ) → 0 < length s.input → sum ≡ ((s.sum * 31) % 2 ^ 64 + slice_index s.input 0) % 2 ^ 64
    → stepped s ≡ record { steps = (s.steps + 1) % 2 ^ 64; sum = sum; input = take (length s.input - 1) (drop 1 s.input); output = s.output ++ (sum % 256) ∷ [] }
one_step s sum some is = by_input s s.input refl sum some is where
  by_input : (s : Application) (input : List ℕ) → s.input ≡ input → (sum : ℕ) → 0 < length s.input → sum ≡ ((s.sum * 31) % 2 ^ 64 + slice_index s.input 0) % 2 ^ 64
      → step_with s input ≡ record { steps = (s.steps + 1) % 2 ^ 64; sum = sum; input = take (length s.input - 1) (drop 1 s.input); output = s.output ++ (sum % 256) ∷ [] }
  by_input s [] e sum some is = absurd (omega (arith, some, ap length e))
  by_input s (byte ∷ input) e sum some is =
      let first : slice_index s.input 0 ≡ byte = ap (λ (l : List ℕ). slice_index l 0) e in
      let total : (s.sum * 31 + byte) % 2 ^ 64 ≡ sum = omega (arith, is, first) in
      let left : input ≡ take (length s.input - 1) (drop 1 s.input) = ap (drop 1) (sym e) ∙ sym (slice_from 1 s.input) in
      λ i. record { steps = (s.steps + 1) % 2 ^ 64; sum = total i; input = left i; output = s.output ++ (total i % 256) ∷ [] }
