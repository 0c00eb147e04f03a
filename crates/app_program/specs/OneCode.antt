-- A value that is a machine's state is empty, or the machine's code.
use Rattle.std.proofs.Common.{◌≡◌, ◌<◌, ◌≤◌, ◌⊎◌, inl, inr, ℕ, zero, suc, ◌+◌, ◌*◌, true, Some, List, [], ◌∷◌, ◌++◌, length, take, drop, slice_index, get_or-drop, refl, sym, ap, ◌∙◌, arith, take-append-drop}
use Rattle.std.specs.Prelude.{◌==◌, nat_le, flat_map}
use Rattle.std.specs.Int.{from_bool}
use Rattle.std.proofs.lemmas.Bool.{leb-true}
use Rattle.std.proofs.lemmas.List.{drop-drop, length-drop}
use Rattle.byteorder.specs.Endian.{little_bytes, little_number}
use Rattle.oper_core.specs.LittleEndian.{little_bytes-front}
use Rattle.app_program.specs.Machine.{Machine, new_machine}
use Rattle.app_program.specs.State.{input_length, numbers_in, output_length, state_code, state_in}
use Rattle.app_program.specs.StateLaws.{IsFound, found}

-- each is a byte
abbrev pub AreBytes : List ℕ → Type 0
AreBytes bytes = (i : ℕ) → slice_index bytes i < 256

-- those from a place on are
pub behind_bytes : (n : ℕ) (bytes : List ℕ) → AreBytes bytes → AreBytes (drop n bytes)
behind_bytes n bytes small i = rw get_or-drop (small (n + i))

-- the number at a place, and what follows it
number_at : (n place : ℕ) (bytes : List ℕ) → AreBytes bytes → place + n ≤ length bytes
    → drop place bytes ≡ little_bytes n (little_number n (drop place bytes)) ++ drop (place + n) bytes
number_at n place bytes small long =
    little_bytes-front n (drop place bytes) (omega (arith, length-drop place bytes)) (behind_bytes place bytes small)
    ∙ ap (λ (rest : List ℕ). little_bytes n (little_number n (drop place bytes)) ++ rest) (drop-drop n place bytes)

-- n numbers of eight bytes each, and what follows them
numbers_front : (n : ℕ) (bytes : List ℕ) → AreBytes bytes → 8 * n ≤ length bytes → bytes ≡ flat_map (little_bytes 8) (numbers_in n bytes) ++ drop (8 * n) bytes
numbers_front zero bytes small long = refl
numbers_front (suc n) bytes small long =
    let place : 8 + 8 * n ≡ 8 * suc n = omega arith in
    let others = numbers_front n (drop 8 bytes) (behind_bytes 8 bytes small) (omega (arith, long, length-drop 8 bytes)) in
    little_bytes-front 8 bytes (omega (arith, long)) small
    ∙ ap (λ (rest : List ℕ). little_bytes 8 (little_number 8 bytes) ++ rest)
    (others ∙ ap (λ (rest : List ℕ). flat_map (little_bytes 8) (numbers_in n (drop 8 bytes)) ++ rest) (drop-drop (8 * n) 8 bytes ∙ ap (λ (k : ℕ). drop k bytes) place))

-- the first byte, and those behind it
byte_front : (bytes : List ℕ) → 0 < length bytes → bytes ≡ slice_index bytes 0 ∷ drop 1 bytes
byte_front [] some = absurd (omega (arith, some))
byte_front (byte ∷ bytes) some = refl

zero_or_one : (n : ℕ) → nat_le n 1 ≡ true → n ≡ from_bool (n == 1)
zero_or_one zero e = refl
zero_or_one (suc zero) e = refl
zero_or_one (suc (suc n)) e = let small = leb-true (suc (suc n)) 1 e in absurd (omega (arith, small))

code_of_found : (v : List ℕ) (m : Machine) → AreBytes v → IsFound v m → v ≡ state_code m
code_of_found v m small is =
    let i : ℕ = input_length v in
    let o : ℕ = output_length v in
    let input = take i (drop 73 v) in
    let output = drop (77 + i) v in
    let long = is.long in
    let size : length input ≡ i = ap (λ (t : Machine). length t.input) is.fields ∙ is.input in
    let size' : length output ≡ o = ap (λ (t : Machine). length t.output) is.fields ∙ is.output in
    let at_output : drop (73 + i) v ≡ little_bytes 4 (length output) ++ output =
    number_at 4 (73 + i) v small (omega (arith, long)) ∙ ap (λ (k : ℕ). little_bytes 4 o ++ drop k v) (omega arith)
    ∙ ap (λ (k : ℕ). little_bytes 4 k ++ output) (sym size') in
    let at_input : drop 73 v ≡ input ++ (little_bytes 4 (length output) ++ output) =
    sym (take-append-drop i (drop 73 v)) ∙ ap (λ (rest : List ℕ). input ++ rest) (drop-drop i 73 v ∙ at_output) in
    let at_lengths : drop 69 v ≡ little_bytes 4 (length input) ++ (input ++ (little_bytes 4 (length output) ++ output)) =
    number_at 4 69 v small (omega (arith, long)) ∙ ap (λ (rest : List ℕ). little_bytes 4 i ++ rest) at_input
    ∙ ap (λ (k : ℕ). little_bytes 4 k ++ (input ++ (little_bytes 4 (length output) ++ output))) (sym size) in
    let numbers : drop 5 v ≡ flat_map (little_bytes 8) (numbers_in 8 (drop 5 v)) ++ drop 69 v =
    numbers_front 8 (drop 5 v) (behind_bytes 5 v small) (omega (arith, long, length-drop 5 v))
    ∙ ap (λ (rest : List ℕ). flat_map (little_bytes 8) (numbers_in 8 (drop 5 v)) ++ rest) (drop-drop 64 5 v) in
    let halted : slice_index (drop 4 v) 0 ≡ from_bool (slice_index v 4 == 1) = get_or-drop 4 v 0 0 ∙ zero_or_one (slice_index v 4) is.halted in
    let at_halted : drop 4 v ≡ from_bool (slice_index v 4 == 1) ∷ drop 5 v =
    byte_front (drop 4 v) (omega (arith, long, length-drop 4 v)) ∙ (λ j. halted j ∷ drop-drop 1 4 v j) in
    let whole : v ≡ little_bytes 4 (little_number 4 v) ++ (from_bool (slice_index v 4 == 1) ∷ (flat_map (little_bytes 8) (numbers_in 8 (drop 5 v))
    ++ (little_bytes 4 (length input) ++ (input ++ (little_bytes 4 (length output) ++ output))))) =
    little_bytes-front 4 v (omega (arith, long)) small ∙ ap (λ (rest : List ℕ). little_bytes 4 (little_number 4 v) ++ rest) at_halted
    ∙ ap (λ (rest : List ℕ). little_bytes 4 (little_number 4 v) ++ (from_bool (slice_index v 4 == 1) ∷ rest))
    (numbers ∙ ap (λ (rest : List ℕ). flat_map (little_bytes 8) (numbers_in 8 (drop 5 v)) ++ rest) at_lengths) in
    whole ∙ ap state_code is.fields

-- a value that is a state is empty, where the machine is a new one, or the machine's code
pub state_has_code : (v : List ℕ) (m : Machine) → AreBytes v → state_in v ≡ Some m → ((v ≡ []) × (m ≡ new_machine [])) ⊎ (v ≡ state_code m)
state_has_code v m small e = elim (found v m e) [ inl new ↦ inl new | inr is ↦ inr (code_of_found v m small is) ]
