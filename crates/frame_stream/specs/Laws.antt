-- Laws of frames: a frame's length stands in front, so bytes begin with at most one frame.
use Rattle.std.proofs.Common.{◌≡◌, ◌∙◌, ◌+◌, sym, ap, ℕ, List, ◌++◌, length, take, drop, arith, length-append}
use Rattle.std.proofs.Math.Seq.{drop-append_seam, take-append_seam}
use Rattle.byteorder.specs.Endian.{little_bytes, little_number}
use Rattle.formats.specs.Log.{IsPayload}
use Rattle.oper_core.specs.LittleEndian.{length-little_bytes, little_number-little_bytes}
use Rattle.frame_stream.specs.Frames.{frame}

-- the length in front is the payload's
pub length_stands : (payload rest : List ℕ) → IsPayload payload → little_number 4 (frame payload ++ rest) ≡ length payload
length_stands payload rest is = little_number-little_bytes 4 (length payload) (payload ++ rest) (omega (arith, is.short))

-- a frame is four bytes longer than its payload
pub length-frame : (payload : List ℕ) → length (frame payload) ≡ 4 + length payload
length-frame payload = omega (arith, length-append (little_bytes 4 (length payload)) payload, length-little_bytes 4 (length payload))

-- bytes begin with one frame
pub frame_cancel : (p q x y : List ℕ) → IsPayload p → IsPayload q → frame p ++ x ≡ frame q ++ y → (p ≡ q) × (x ≡ y)
frame_cancel p q x y is_p is_q same =
    let long : length p ≡ length q = sym (length_stands p x is_p) ∙ ap (λ (l : List ℕ). little_number 4 l) same ∙ length_stands q y is_q in
    let behind : p ++ x ≡ q ++ y = ap (λ (l : List ℕ). drop 4 l) same in
    let first : p ≡ q = sym (take-append_seam p x) ∙ (λ i. take (long i) (behind i)) ∙ take-append_seam q y in
    let rest : x ≡ y = sym (drop-append_seam p x) ∙ (λ i. drop (long i) (behind i)) ∙ drop-append_seam q y in
    (first, rest)
