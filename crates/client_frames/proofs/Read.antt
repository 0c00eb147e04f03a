-- What bytes begin with, told by the length of the frame.
use Rattle.std.proofs.Common.{◌≡◌, ◌∙◌, ◌+◌, ◌<◌, ◌≤◌, ◌^◌, ◌-◌, sym, ap, ℕ, List, ◌++◌, length, take, drop, slice_index, arith, length-append, length-drop}
use Rattle.std.proofs.lemmas.List.{drop-drop, get_or-drop, length-take-le, take-append-drop, take_all}
use Rattle.byteorder.specs.Endian.{little_bytes, little_number}
use Rattle.oper_core.specs.LittleEndian.{length-little_bytes, little_bytes-front}
use Rattle.client_frames.specs.Frames.{Frame, IsFrame, frame_bytes}
use Rattle.client_frames.specs.Reading.{HasLongFrame, IsUnfinished}
use Rattle.client_frames.proofs.Apart.{length_stands}

-- a frame is eight bytes longer than what it carries
pub length-frame : (frame : Frame) → length (frame_bytes frame) ≡ 8 + length frame.bytes
length-frame frame =
    omega (
      arith,
      length-append (little_bytes 4 frame.client) (little_bytes 4 (length frame.bytes) ++ frame.bytes),
      length-little_bytes 4 frame.client,
      length-append (little_bytes 4 (length frame.bytes)) frame.bytes,
      length-little_bytes 4 (length frame.bytes),
    )

-- fewer bytes than stand in front of a frame's
pub none_yet : (bytes : List ℕ) → length bytes < 8 → IsUnfinished bytes × (HasLongFrame bytes → ⊥)
none_yet bytes few = (
  λ frame later is stands. omega (arith, few, ap length stands, length-append (frame_bytes frame) later, length-frame frame),
  λ has. omega (arith, few, has.come),
)

-- a length, and fewer bytes than it says
pub not_whole : (bytes : List ℕ) (n : ℕ) → n ≡ little_number 4 (drop 4 bytes) → n ≤ 2 ^ 16 → length bytes < 8 + n → IsUnfinished bytes × (HasLongFrame bytes → ⊥)
not_whole bytes n number right few = (
  λ frame later is stands.
      let same : little_number 4 (drop 4 bytes) ≡ length frame.bytes = ap (λ (l : List ℕ). little_number 4 (drop 4 l)) stands ∙ length_stands frame later is in
      omega (arith, few, number, same, ap length stands, length-append (frame_bytes frame) later, length-frame frame),
  λ has. omega (arith, number, right, has.long),
)

-- a whole frame
pub is_whole : (bytes : List ℕ) (client n : ℕ) → ((i : ℕ) → slice_index bytes i < 256) → client ≡ little_number 4 bytes → client < 2 ^ 32 → n ≡ little_number 4 (drop 4 bytes) → n ≤ 2 ^ 16 → 8 + n ≤ length bytes
    → IsFrame (record { client = client; bytes = take n (drop 8 bytes) }) × (later : List ℕ) × (bytes ≡ frame_bytes (record { client = client; bytes = take n (drop 8 bytes) }) ++ later)
is_whole bytes client n small number few says right room =
    let front : bytes ≡ little_bytes 4 (little_number 4 bytes) ++ drop 4 bytes = little_bytes-front 4 bytes (omega (arith, room)) small in
    let rest : length (drop 4 bytes) ≡ length bytes - 4 = length-drop 4 bytes in
    let second : drop 4 bytes ≡ little_bytes 4 (little_number 4 (drop 4 bytes)) ++ drop 4 (drop 4 bytes) =
    little_bytes-front 4 (drop 4 bytes) (omega (arith, room, rest)) (λ k. omega (arith, small (4 + k), get_or-drop 4 bytes k 0)) in
    let behind : List ℕ = drop 8 bytes in
    let two : drop 4 (drop 4 bytes) ≡ behind = drop-drop 4 4 bytes in
    let long : length (take n behind) ≡ n = length-take-le n behind (omega (arith, length-drop 8 bytes, room)) in (
      record { small = few; short = omega (arith, long, right) },
      drop n behind,
      front ∙ (λ i. little_bytes 4 (sym number i) ++ second i)
          ∙ (λ i. little_bytes 4 client ++ (little_bytes 4 ((sym says ∙ sym long) i) ++ two i))
          ∙ ap (λ (l : List ℕ). little_bytes 4 client ++ (little_bytes 4 (length (take n behind)) ++ l)) (sym (take-append-drop n behind)),
    )

-- a part up to the end
pub up_to_end : (k : ℕ) (bytes : List ℕ) → take (length bytes - k) (drop k bytes) ≡ drop k bytes
up_to_end k bytes = take_all (length bytes - k) (drop k bytes) (omega (arith, length-drop k bytes))
