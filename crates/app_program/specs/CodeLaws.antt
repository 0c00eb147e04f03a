-- A machine is found in its code.
use Rattle.std.proofs.Common.{◌≡◌, ◌<◌, ℕ, ◌+◌, ◌^◌, Bool, true, false, if◌then◌else◌, None, Some, List, [], ◌∷◌, ◌++◌, length, take, drop, slice_index, refl, sym, ap, ◌∙◌, arith}
use Rattle.std.specs.Prelude.{◌==◌, ◌&&◌, nat_le, All, flat_map}
use Rattle.std.specs.Int.{from_bool}
use Rattle.std.proofs.lemmas.Bool.{eq-eqb}
use Rattle.std.proofs.lemmas.List.{drop-drop, take_at}
use Rattle.std.proofs.lemmas.List.Elements.{All-head, All-tail}
use Rattle.std.proofs.Math.Seq.{drop-append_seam}
use Rattle.byteorder.specs.Endian.{little_bytes, little_number}
use Rattle.oper_core.specs.LittleEndian.{little_number-little_bytes}
use Rattle.app_program.specs.Machine.{Machine}
use Rattle.app_program.specs.State.{IsMachine, input_length, numbers_in, output_length, state_code, state_in}
use Rattle.app_program.specs.StateLaws.{in_place, length-state_code, length_eights}

-- numbers are found in their bytes
numbers_back : (xs rest : List ℕ) → All (λ x. x < 2 ^ 64) xs → numbers_in (length xs) (flat_map (little_bytes 8) xs ++ rest) ≡ xs
numbers_back [] rest fit = refl
numbers_back (x ∷ xs) rest fit =
    let number = little_number-little_bytes 8 x (flat_map (little_bytes 8) xs ++ rest) (All-head (λ x. x < 2 ^ 64) x xs fit) in
    let others = numbers_back xs rest (All-tail (λ x. x < 2 ^ 64) x xs fit) in
    λ i. number i ∷ others i

at_most_one : (halted : Bool) → nat_le (from_bool halted) 1 ≡ true
at_most_one true = refl
at_most_one false = refl

one_says : (halted : Bool) → (from_bool halted == 1) ≡ halted
one_says true = refl
one_says false = refl

pub state_in-state_code : (m : Machine) → IsMachine m → state_in (state_code m) ≡ Some m
state_in-state_code m is =
    let flat = flat_map (little_bytes 8) m.registers in
    let tail = little_bytes 4 (length m.output) ++ m.output in
    let rest = little_bytes 4 (length m.input) ++ (m.input ++ tail) in
    let v : List ℕ = state_code m in
    let count = is.count in
    let size : 64 ≡ length flat = omega (arith, count, length_eights m.registers) in
    let place : little_number 4 v ≡ m.pc = little_number-little_bytes 4 m.pc (from_bool m.halted ∷ (flat ++ rest)) is.pc in
    let registers : numbers_in 8 (drop 5 v) ≡ m.registers = ap (λ (n : ℕ). numbers_in n (flat ++ rest)) (sym count) ∙ numbers_back m.registers rest is.registers in
    let at_lengths : drop 69 v ≡ rest = ap (λ (k : ℕ). drop k (flat ++ rest)) size ∙ drop-append_seam flat rest in
    let inputs : input_length v ≡ length m.input = ap (little_number 4) at_lengths ∙ little_number-little_bytes 4 (length m.input) (m.input ++ tail) is.input in
    let at_input : drop 73 v ≡ m.input ++ tail = sym (drop-drop 4 69 v) ∙ ap (drop 4) at_lengths in
    let input : take (input_length v) (drop 73 v) ≡ m.input = (λ i. take (inputs i) (at_input i)) ∙ take_at m.input tail (length m.input) refl in
    let behind : drop (73 + input_length v) v ≡ tail =
    ap (λ (k : ℕ). drop (73 + k) v) inputs ∙ sym (drop-drop (length m.input) 73 v) ∙ ap (drop (length m.input)) at_input ∙ drop-append_seam m.input tail in
    let outputs : output_length v ≡ length m.output = ap (little_number 4) behind ∙ little_number-little_bytes 4 (length m.output) m.output is.output in
    let four_on : 77 + input_length v ≡ 73 + input_length v + 4 = omega arith in
    let output : drop (77 + input_length v) v ≡ m.output = ap (λ (k : ℕ). drop k v) four_on ∙ sym (drop-drop 4 (73 + input_length v) v) ∙ ap (drop 4) behind in
    let long : (length v == 77 + input_length v + output_length v) ≡ true = eq-eqb _ _ (omega (arith, length-state_code m count, inputs, outputs)) in
    let test : ((length v == 77 + input_length v + output_length v) && nat_le (slice_index v 4) 1) ≡ true =
    ap (λ (b : Bool). b && nat_le (slice_index v 4) 1) long ∙ at_most_one m.halted in
    let halted : (slice_index v 4 == 1) ≡ m.halted = one_says m.halted in
    let fields : Some (in_place v) ≡ Some m =
    λ i. Some (record { pc = place i; halted = halted i; registers = registers i; input = input i; output = output i }) in
    ap (λ (b : Bool). if b then Some (in_place v) else None) test ∙ fields
