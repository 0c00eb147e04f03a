-- When bytes begin with a code of numbers.
use Rattle.std.proofs.Common.{◌≡◌, ◌≤◌, ◌<◌, ℕ, ◌+◌, List, [], ◌∷◌, ◌++◌, Some, length, slice_index, take, drop, sym, ap, ◌∙◌, arith}
use Rattle.std.proofs.lemmas.List.{drop-drop, get_or-drop, length-drop, take-append-drop}
use Rattle.byteorder.specs.Endian.{little_bytes, little_number}
use Rattle.oper_core.specs.LittleEndian.{little_bytes-front}
use Rattle.op_rows.specs.Rows.{numbers_code, text_code}

-- each is a byte
abbrev AreBytes : List ℕ → Type 0
AreBytes bytes = (i : ℕ) → slice_index bytes i < 256

-- the number that is read at a place stands there
number_at : (place n : ℕ) (bytes : List ℕ) → AreBytes bytes → place + 4 ≤ length bytes → n ≡ little_number 4 (drop place bytes)
    → drop place bytes ≡ little_bytes 4 n ++ drop (place + 4) bytes
number_at place n bytes small long read =
    little_bytes-front 4 (drop place bytes) (omega (arith, length-drop place bytes)) (λ i. rw get_or-drop (small (place + i)))
    ∙ ap (λ (x : ℕ). little_bytes 4 x ++ drop 4 (drop place bytes)) (sym read)
    ∙ ap (λ (rest : List ℕ). little_bytes 4 n ++ rest) (drop-drop 4 place bytes)

pub two_begin : (tag x y : ℕ) (bytes : List ℕ) → AreBytes bytes → 9 ≤ length bytes → slice_index bytes 0 ≡ tag
    → x ≡ little_number 4 (drop 1 bytes) → y ≡ little_number 4 (drop 5 bytes)
    → bytes ≡ numbers_code tag (x ∷ y ∷ []) ++ drop 9 bytes
two_begin tag x y [] small long is first second = absurd (omega arith)
two_begin tag x y (t ∷ bytes) small long is first second =
    ap (λ (z : ℕ). z ∷ bytes) is
    ∙ ap (λ (rest : List ℕ). tag ∷ rest) (number_at 1 x (t ∷ bytes) small (omega arith) first ∙ ap (λ (rest : List ℕ). little_bytes 4 x ++ rest) (number_at 5 y (t ∷ bytes) small (omega arith) second))

pub three_begin : (tag x y z : ℕ) (bytes : List ℕ) → AreBytes bytes → 13 ≤ length bytes → slice_index bytes 0 ≡ tag
    → x ≡ little_number 4 (drop 1 bytes) → y ≡ little_number 4 (drop 5 bytes) → z ≡ little_number 4 (drop 9 bytes)
    → bytes ≡ numbers_code tag (x ∷ y ∷ z ∷ []) ++ drop 13 bytes
three_begin tag x y z [] small long is first second third = absurd (omega arith)
three_begin tag x y z (t ∷ bytes) small long is first second third =
    two_begin tag x y (t ∷ bytes) small (omega arith) is first second
    ∙ ap (λ (rest : List ℕ). numbers_code tag (x ∷ y ∷ []) ++ rest) (number_at 9 z (t ∷ bytes) small (omega arith) third)

-- a number, the length of a text, and the text
pub text_begin : (tag x n : ℕ) (text bytes : List ℕ) → AreBytes bytes → 9 + n ≤ length bytes → slice_index bytes 0 ≡ tag
    → x ≡ little_number 4 (drop 1 bytes) → n ≡ little_number 4 (drop 5 bytes) → text ≡ take n (drop 9 bytes) → length text ≡ n
    → bytes ≡ numbers_code tag (x ∷ []) ++ (text_code (Some text) ++ drop (9 + length text) bytes)
text_begin tag x n text bytes small long is first second read size =
    let at_text : drop 9 bytes ≡ text ++ drop (9 + length text) bytes =
    sym (take-append-drop n (drop 9 bytes)) ∙ ap (λ (front : List ℕ). front ++ drop n (drop 9 bytes)) (sym read)
    ∙ ap (λ (rest : List ℕ). text ++ rest) (drop-drop n 9 bytes ∙ ap (λ (k : ℕ). drop (9 + k) bytes) (sym size)) in
    two_begin tag x n bytes small (omega (arith, long)) is first second
    ∙ ap (λ (rest : List ℕ). numbers_code tag (x ∷ n ∷ []) ++ rest) at_text
    ∙ ap (λ (k : ℕ). numbers_code tag (x ∷ k ∷ []) ++ (text ++ drop (9 + length text) bytes)) (sym size)
