-- A stream goes through a buffer, piece by piece and frame by frame.
use Rattle.std.proofs.Common.{◌≡◌, ◌∙◌, ◌+◌, ◌<◌, ◌≤◌, sym, ap, ℕ, List, [], ◌∷◌, ◌++◌, length, take, drop, slice_index, arith, append_assoc, length-append, length-drop, ◌-◌}
use Rattle.std.proofs.Math.Seq.{drop-append_seam}
use Rattle.std.proofs.lemmas.List.{append-nil, length-take-le, take-append-drop}
use Rattle.byteorder.specs.Endian.{little_bytes, little_number}
use Rattle.formats.specs.Log.{IsPayload}
use Rattle.oper_core.specs.LittleEndian.{little_bytes-front}
use Rattle.frame_stream.specs.Frames.{frame, frames, IsFrameLength, IsUnfinished}
use Rattle.frame_stream.specs.FrameBuffer.{FrameBufferView, HasPassed}
use Rattle.frame_stream.specs.Laws.{length_stands, length-frame}
use Rattle.frame_stream.proofs.Apart.{all_append, frames_append}

-- a piece more comes
pub passed_with : (bytes piece : List ℕ) (payloads : List (List ℕ)) (it : FrameBufferView) → HasPassed bytes payloads it
    → HasPassed (bytes ++ piece) payloads (record it { kept = it.kept ++ piece })
passed_with bytes piece payloads it was = record {
  is = ap (λ (l : List ℕ). l ++ piece) was.is ∙ append_assoc (frames payloads) it.kept piece;
  passed = was.passed;
  whole = was.whole;
}

-- a frame is passed
pub passed_on : (bytes payload later : List ℕ) (payloads : List (List ℕ)) (it : FrameBufferView) (n : ℕ) → HasPassed bytes payloads it → IsPayload payload → n ≡ length payload → it.kept ≡ frame payload ++ later
    → HasPassed bytes (payloads ++ payload ∷ []) (record { passed = it.passed + (4 + n); kept = drop (4 + n) it.kept })
passed_on bytes payload later payloads it n was is long stands =
    let one : frames (payload ∷ []) ≡ frame payload = append-nil (frame payload) in
    let all : frames (payloads ++ payload ∷ []) ≡ frames payloads ++ frame payload = frames_append payloads (payload ∷ []) ∙ ap (λ (l : List ℕ). frames payloads ++ l) one in
    let count : 4 + n ≡ length (frame payload) = omega (arith, long, length-frame payload) in
    let behind : drop (4 + n) it.kept ≡ later = (λ i. drop (count i) (stands i)) ∙ drop-append_seam (frame payload) later in
    record {
      is = was.is ∙ ap (λ (l : List ℕ). frames payloads ++ l) (stands ∙ ap (λ (l : List ℕ). frame payload ++ l) (sym behind))
          ∙ sym (append_assoc (frames payloads) (frame payload) (drop (4 + n) it.kept)) ∙ ap (λ (l : List ℕ). l ++ drop (4 + n) it.kept) (sym all);
      passed = omega (arith, was.passed, count, ap length all, length-append (frames payloads) (frame payload));
      whole = all_append payloads (payload ∷ []) was.whole (is, tt);
    }

-- fewer bytes than a length has
pub none_yet : (kept : List ℕ) → length kept < 4 → IsUnfinished kept
none_yet kept few payload later is stands = omega (arith, few, ap length stands, length-append (frame payload) later, length-frame payload)

-- a length, and fewer bytes than it says
pub not_whole : (kept : List ℕ) → length kept < 4 + little_number 4 kept → IsUnfinished kept
not_whole kept few payload later is stands =
    let number : little_number 4 kept ≡ length payload = ap (λ (l : List ℕ). little_number 4 l) stands ∙ length_stands payload later is in
    omega (arith, few, number, ap length stands, length-append (frame payload) later, length-frame payload)

-- a whole frame
pub is_whole : (kept : List ℕ) (n : ℕ) → ((i : ℕ) → slice_index kept i < 256) → n ≡ little_number 4 kept → IsFrameLength n → 4 + n ≤ length kept
    → (payload : List ℕ) × (later : List ℕ) × IsPayload payload × (n ≡ length payload) × (kept ≡ frame payload ++ later)
is_whole kept n small number right room =
    let behind : List ℕ = drop 4 kept in
    let payload : List ℕ = take n behind in
    let later : List ℕ = drop n behind in
    let front : kept ≡ little_bytes 4 (little_number 4 kept) ++ behind = little_bytes-front 4 kept (omega (arith, room)) small in
    let rest : length behind ≡ length kept - 4 = length-drop 4 kept in
    let long : length payload ≡ n = length-take-le n behind (omega (arith, rest, room)) in
    let same : little_number 4 kept ≡ length payload = sym number ∙ sym long in (
      payload,
      later,
      record { some = omega (arith, long, right.0); short = omega (arith, long, right.1) },
      sym long,
      front ∙ ap (λ (k : ℕ). little_bytes 4 k ++ behind) same ∙ ap (λ (l : List ℕ). little_bytes 4 (length payload) ++ l) (sym (take-append-drop n behind)),
    )
