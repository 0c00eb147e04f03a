-- The state of an application and its bytes determine each other, and a step leaves their number.
use Rattle.std.proofs.Common.{◌≡◌, ◌<◌, ◌≤◌, ◌⊎◌, inl, inr, ℕ, ◌+◌, ◌*◌, ◌%◌, ◌^◌, Bool, true, false, if◌then◌else◌, Option, None, Some, unwrap_or, List, [], ◌∷◌, ◌++◌, length, take, drop, slice_index, get_or-drop, refl, sym, ap, ◌∙◌, arith, length-append, take-append-drop}
use Rattle.std.specs.Prelude.{◌==◌}
use Rattle.std.proofs.lemmas.Bool.{eq-eqb, eqb-true}
use Rattle.std.proofs.lemmas.List.{drop-drop, length-drop, length-take-le, take_at}
use Rattle.std.proofs.Math.Seq.{drop-append_seam}
use Rattle.byteorder.specs.Endian.{little_bytes, little_number}
use Rattle.oper_core.specs.LittleEndian.{length-little_bytes, little_number-little_bytes, little_bytes-front}
use Rattle.op_meaning.specs.AppState.{Application, IsApplication, new_application, state_code, state_in, state_in_bytes, input_length, output_length, stepped, step_with}

-- ---- lengths

-- a code has 24 bytes, and the input and the output
pub length-state_code : (s : Application) → length (state_code s) ≡ 24 + length s.input + length s.output
length-state_code s =
    let lengths = little_bytes 4 (length s.output) ++ s.output in
    omega (
      arith,
      length-append (little_bytes 8 s.steps) (little_bytes 8 s.sum ++ (little_bytes 4 (length s.input) ++ (s.input ++ lengths))),
      length-append (little_bytes 8 s.sum) (little_bytes 4 (length s.input) ++ (s.input ++ lengths)),
      length-append (little_bytes 4 (length s.input)) (s.input ++ lengths),
      length-append s.input lengths,
      length-append (little_bytes 4 (length s.output)) s.output,
      length-little_bytes 8 s.steps,
      length-little_bytes 8 s.sum,
      length-little_bytes 4 (length s.input),
      length-little_bytes 4 (length s.output),
    )

moved : (s : Application) (input : List ℕ) → 0 < length input
    → length (step_with s input).input + length (step_with s input).output ≡ length input + length s.output
moved s [] some = absurd (omega arith)
moved s (byte ∷ input) some = omega (arith, length-append s.output ((s.sum * 31 + byte) % 2 ^ 64 % 256 ∷ []))

-- a step takes a byte of the input, and makes one of the output
pub length-stepped : (s : Application) → 0 < length s.input → length (state_code (stepped s)) ≡ length (state_code s)
length-stepped s some = omega (arith, length-state_code s, length-state_code (stepped s), moved s s.input some)

-- ---- what is found in a value

if_some : {A : Type 0} (b : Bool) (o : Option A) (y : A) → (if b then o else None) ≡ Some y → (b ≡ true) × (o ≡ Some y)
if_some true o y e = (refl, e)
if_some false o y e = cc

same_some : {A : Type 0} (x y : A) → Some x ≡ Some y → x ≡ y
same_some x y e = ap (λ o. unwrap_or o x) e

-- bytes are as long as they say, and the state is what stands in them
pub record IsFound (v : List ℕ) (s : Application) : Type 0 where
  pub long : length v ≡ 24 + input_length v + output_length v
  pub fields : record { steps = little_number 8 v; sum = little_number 8 (drop 8 v); input = take (input_length v) (drop 20 v); output = drop (24 + input_length v) v } ≡ s
  pub input : length s.input ≡ input_length v
  pub output : length s.output ≡ output_length v

found_in_bytes : (v : List ℕ) (s : Application) → state_in_bytes v ≡ Some s → IsFound v s
found_in_bytes v s e =
    let parts = if_some (length v == 24 + input_length v + output_length v) _ s e in
    let long : length v ≡ 24 + input_length v + output_length v = eqb-true _ _ parts.0 in
    let fields = same_some _ s parts.1 in
    record {
      long = long;
      fields = fields;
      input = ap (λ (t : Application). length t.input) (sym fields) ∙ length-take-le (input_length v) (drop 20 v) (omega (arith, long, length-drop 20 v));
      output = ap (λ (t : Application). length t.output) (sym fields) ∙ length-drop (24 + input_length v) v ∙ omega (arith, long);
    }

-- the value is empty, and the state a new one, or it is found in the value's bytes
pub found : (v : List ℕ) (s : Application) → state_in v ≡ Some s → ((v ≡ []) × (s ≡ new_application)) ⊎ IsFound v s
found [] s e = inl (refl, sym (same_some new_application s e))
found (byte ∷ v) s e = inr (found_in_bytes (byte ∷ v) s e)

-- where there is some input, the value is as long as the state's code
pub length-state : (v : List ℕ) (s : Application) → state_in v ≡ Some s → 0 < length s.input → length (state_code s) ≡ length v
length-state v s e some = elim (found v s e) [
  | inl new ↦ absurd (omega (arith, some, ap (λ (t : Application). length t.input) new.1))
  | inr is ↦ let long = is.long in let input = is.input in let output = is.output in omega (arith, length-state_code s, long, input, output)
]

-- input and output are no longer than the value
pub state_within : (v : List ℕ) (s : Application) → state_in v ≡ Some s → length s.input + length s.output ≤ length v
state_within v s e = elim (found v s e) [
  | inl new ↦ omega (arith, ap (λ (t : Application). length t.input) new.1, ap (λ (t : Application). length t.output) new.1)
  | inr is ↦ let long = is.long in let input = is.input in let output = is.output in omega (arith, long, input, output)
]

-- ---- one code each

-- each is a byte
abbrev pub AreBytes : List ℕ → Type 0
AreBytes bytes = (i : ℕ) → slice_index bytes i < 256

-- the number at a place of a list of bytes, and what follows it
pub number_at : (n place : ℕ) (bytes : List ℕ) → AreBytes bytes → place + n ≤ length bytes
    → drop place bytes ≡ little_bytes n (little_number n (drop place bytes)) ++ drop (place + n) bytes
number_at n place bytes small long =
    little_bytes-front n (drop place bytes) (omega (arith, length-drop place bytes)) (λ i. rw get_or-drop (small (place + i)))
    ∙ ap (λ (rest : List ℕ). little_bytes n (little_number n (drop place bytes)) ++ rest) (drop-drop n place bytes)

code_of_found : (v : List ℕ) (s : Application) → AreBytes v → IsFound v s → v ≡ state_code s
code_of_found v s small is =
    let i : ℕ = input_length v in
    let o : ℕ = output_length v in
    let input = take i (drop 20 v) in
    let output = drop (24 + i) v in
    let long = is.long in
    let behind : drop (20 + i) v ≡ little_bytes 4 o ++ output =
    number_at 4 (20 + i) v small (omega (arith, long)) ∙ ap (λ (k : ℕ). little_bytes 4 o ++ drop k v) (omega arith) in
    let body : drop 20 v ≡ input ++ (little_bytes 4 o ++ output) =
    sym (take-append-drop i (drop 20 v)) ∙ ap (λ (rest : List ℕ). input ++ rest) (drop-drop i 20 v ∙ behind) in
    let sums : drop 8 v ≡ little_bytes 8 (little_number 8 (drop 8 v)) ++ (little_bytes 4 i ++ (input ++ (little_bytes 4 o ++ output))) =
    number_at 8 8 v small (omega (arith, long))
    ∙ ap (λ (rest : List ℕ). little_bytes 8 (little_number 8 (drop 8 v)) ++ rest) (number_at 4 16 v small (omega (arith, long)) ∙ ap (λ (rest : List ℕ). little_bytes 4 i ++ rest) body) in
    let whole : v ≡ little_bytes 8 (little_number 8 v) ++ (little_bytes 8 (little_number 8 (drop 8 v)) ++ (little_bytes 4 i ++ (input ++ (little_bytes 4 o ++ output)))) =
    little_bytes-front 8 v (omega (arith, long)) small ∙ ap (λ (rest : List ℕ). little_bytes 8 (little_number 8 v) ++ rest) sums in
    let lengths : little_bytes 8 (little_number 8 v) ++ (little_bytes 8 (little_number 8 (drop 8 v)) ++ (little_bytes 4 i ++ (input ++ (little_bytes 4 o ++ output))))
    ≡ state_code (record { steps = little_number 8 v; sum = little_number 8 (drop 8 v); input = input; output = output }) =
    let size : length input ≡ i = ap (λ (t : Application). length t.input) is.fields ∙ is.input in
    let size' : length output ≡ o = ap (λ (t : Application). length t.output) is.fields ∙ is.output in
    ap (λ (k : ℕ). little_bytes 8 (little_number 8 v) ++ (little_bytes 8 (little_number 8 (drop 8 v)) ++ (little_bytes 4 k ++ (input ++ (little_bytes 4 o ++ output))))) (sym size)
    ∙ ap (λ (k : ℕ). little_bytes 8 (little_number 8 v) ++ (little_bytes 8 (little_number 8 (drop 8 v)) ++ (little_bytes 4 (length input) ++ (input ++ (little_bytes 4 k ++ output))))) (sym size') in
    whole ∙ lengths ∙ ap state_code is.fields

-- a value that is a state is empty, where the state is a new one, or the state's code
pub state_has_code : (v : List ℕ) (s : Application) → AreBytes v → state_in v ≡ Some s → ((v ≡ []) × (s ≡ new_application)) ⊎ (v ≡ state_code s)
state_has_code v s small e = elim (found v s e) [ inl new ↦ inl new | inr is ↦ inr (code_of_found v s small is) ]

-- a state is found in its code
pub state_in-state_code : (s : Application) → IsApplication s → state_in (state_code s) ≡ Some s
state_in-state_code s is =
    let tail = little_bytes 4 (length s.output) ++ s.output in
    let body = s.input ++ tail in
    let behind_sum = little_bytes 4 (length s.input) ++ body in
    let v : List ℕ = state_code s in
    let steps : little_number 8 v ≡ s.steps = little_number-little_bytes 8 s.steps (little_bytes 8 s.sum ++ behind_sum) is.steps in
    let sum : little_number 8 (drop 8 v) ≡ s.sum = little_number-little_bytes 8 s.sum behind_sum is.sum in
    let size : input_length v ≡ length s.input = little_number-little_bytes 4 (length s.input) body is.input in
    let behind : drop (20 + input_length v) v ≡ tail =
    ap (λ (k : ℕ). drop (20 + k) v) size ∙ sym (drop-drop (length s.input) 20 v) ∙ drop-append_seam s.input tail in
    let size' : output_length v ≡ length s.output = ap (little_number 4) behind ∙ little_number-little_bytes 4 (length s.output) s.output is.output in
    let input : take (input_length v) (drop 20 v) ≡ s.input = ap (λ (k : ℕ). take k body) size ∙ take_at s.input tail (length s.input) refl in
    let place : 24 + input_length v ≡ 20 + input_length v + 4 = omega arith in
    let output : drop (24 + input_length v) v ≡ s.output =
    ap (λ (k : ℕ). drop k v) place ∙ sym (drop-drop 4 (20 + input_length v) v) ∙ ap (drop 4) behind in
    let test : (length v == 24 + input_length v + output_length v) ≡ true = eq-eqb _ _ (omega (arith, length-state_code s, size, size')) in
    let fields : Some (record { steps = little_number 8 v; sum = little_number 8 (drop 8 v); input = take (input_length v) (drop 20 v); output = drop (24 + input_length v) v }) ≡ Some s =
    λ i. Some (record { steps = steps i; sum = sum i; input = input i; output = output i }) in
    ap (λ (b : Bool). if b then Some (record { steps = little_number 8 v; sum = little_number 8 (drop 8 v); input = take (input_length v) (drop 20 v); output = drop (24 + input_length v) v }) else None) test ∙ fields
