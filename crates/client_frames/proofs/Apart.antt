-- Frames one after the other, told apart by their lengths.
use Rattle.std.proofs.Common.{◌≡◌, ◌∙◌, sym, ap, ℕ, List, [], ◌∷◌, ◌++◌, length, take, drop, refl, arith, append_assoc}
use Rattle.std.proofs.Math.Seq.{drop-append_seam, take-append_seam}
use Rattle.std.specs.List.{AllByRecursion}
use Rattle.byteorder.specs.Endian.{little_bytes, little_number}
use Rattle.oper_core.specs.LittleEndian.{little_number-little_bytes}
use Rattle.client_frames.specs.Frames.{Frame, IsFrame, frame_bytes, frames_bytes}
use Rattle.client_frames.specs.Reading.{IsUnfinished, Splits}

-- the number in front is the client's
pub client_stands : (frame : Frame) (rest : List ℕ) → IsFrame frame → little_number 4 (frame_bytes frame ++ rest) ≡ frame.client
client_stands frame rest is = little_number-little_bytes 4 frame.client (little_bytes 4 (length frame.bytes) ++ (frame.bytes ++ rest)) (omega (arith, is.small))

-- the number behind it is the length
pub length_stands : (frame : Frame) (rest : List ℕ) → IsFrame frame → little_number 4 (drop 4 (frame_bytes frame ++ rest)) ≡ length frame.bytes
length_stands frame rest is = little_number-little_bytes 4 (length frame.bytes) (frame.bytes ++ rest) (omega (arith, is.short))

-- bytes begin with one frame
pub frame_cancel : (a b : Frame) (x y : List ℕ) → IsFrame a → IsFrame b → frame_bytes a ++ x ≡ frame_bytes b ++ y → (a ≡ b) × (x ≡ y)
frame_cancel a b x y is_a is_b same =
    let client : a.client ≡ b.client = sym (client_stands a x is_a) ∙ ap (λ (l : List ℕ). little_number 4 l) same ∙ client_stands b y is_b in
    let long : length a.bytes ≡ length b.bytes =
    sym (length_stands a x is_a) ∙ ap (λ (l : List ℕ). little_number 4 (drop 4 l)) same ∙ length_stands b y is_b in
    let behind : a.bytes ++ x ≡ b.bytes ++ y = ap (λ (l : List ℕ). drop 8 l) same in
    let bytes : a.bytes ≡ b.bytes = sym (take-append_seam a.bytes x) ∙ (λ i. take (long i) (behind i)) ∙ take-append_seam b.bytes y in
    let rest : x ≡ y = sym (drop-append_seam a.bytes x) ∙ (λ i. drop (long i) (behind i)) ∙ drop-append_seam b.bytes y in
    ((λ i. record { client = client i; bytes = bytes i }), rest)

pub one_way : (fs gs : List Frame) (x y : List ℕ) → AllByRecursion IsFrame fs → AllByRecursion IsFrame gs → IsUnfinished x → IsUnfinished y → frames_bytes fs ++ x ≡ frames_bytes gs ++ y → (fs ≡ gs) × (x ≡ y)
one_way [] [] x y all_f all_g none_x none_y same = (refl, same)
one_way [] (g ∷ gs) x y all_f all_g none_x none_y same = absurd (none_x g (frames_bytes gs ++ y) all_g.0 (same ∙ append_assoc (frame_bytes g) (frames_bytes gs) y))
one_way (f ∷ fs) [] x y all_f all_g none_x none_y same = absurd (none_y f (frames_bytes fs ++ x) all_f.0 (sym same ∙ append_assoc (frame_bytes f) (frames_bytes fs) x))
one_way (f ∷ fs) (g ∷ gs) x y all_f all_g none_x none_y same =
    let first = frame_cancel f g (frames_bytes fs ++ x) (frames_bytes gs ++ y) all_f.0 all_g.0
    (sym (append_assoc (frame_bytes f) (frames_bytes fs) x) ∙ same ∙ append_assoc (frame_bytes g) (frames_bytes gs) y) in
    let more = one_way fs gs x y all_f.1 all_g.1 none_x none_y first.1 in
    ((λ i. first.0 i ∷ more.0 i), more.1)

pub frames_append : (fs gs : List Frame) → frames_bytes (fs ++ gs) ≡ frames_bytes fs ++ frames_bytes gs
frames_append [] gs = refl
frames_append (f ∷ fs) gs = ap (λ (l : List ℕ). frame_bytes f ++ l) (frames_append fs gs) ∙ sym (append_assoc (frame_bytes f) (frames_bytes fs) (frames_bytes gs))

pub all_append : (fs gs : List Frame) → AllByRecursion IsFrame fs → AllByRecursion IsFrame gs → AllByRecursion IsFrame (fs ++ gs)
all_append [] gs a b = b
all_append (f ∷ fs) gs a b = (a.0, all_append fs gs a.1 b)

pub in_pieces : (bytes piece rest last : List ℕ) (frames more : List Frame) → Splits bytes frames rest → Splits (rest ++ piece) more last → Splits (bytes ++ piece) (frames ++ more) last
in_pieces bytes piece rest last frames more a b = record {
  is = ap (λ (l : List ℕ). l ++ piece) a.is ∙ append_assoc (frames_bytes frames) rest piece ∙ ap (λ (l : List ℕ). frames_bytes frames ++ l) b.is
      ∙ sym (append_assoc (frames_bytes frames) (frames_bytes more) last) ∙ ap (λ (l : List ℕ). l ++ last) (sym (frames_append frames more));
  whole = all_append frames more a.whole b.whole;
  unfinished = b.unfinished;
}
