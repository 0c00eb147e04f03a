-- Bytes for a client, cut into frames.
use Rattle.std.proofs.Common.{◌≡◌, ◌∙◌, ◌<◌, ◌≤◌, ◌^◌, sym, ap, ℕ, List, [], ◌∷◌, ◌++◌, length, take, refl, arith, append_assoc, length-take}
use Rattle.std.specs.Prelude.{◌==◌, false}
use Rattle.std.proofs.lemmas.Bool.Decides.{nat_tests}
use Rattle.std.proofs.lemmas.List.{append-nil, take-append-le}
use Rattle.client_frames.specs.Frames.{Frame, frame_bytes, frames_bytes}
use Rattle.client_frames.specs.Writing.{Carries}

-- no bytes
pub carries_none : (client : ℕ) (old : List ℕ) → Carries client [] old old
carries_none client old = ([], record { each = tt; all = refl }, sym (append-nil old))

-- a piece, and then the others
pub carries_more : (client : ℕ) (piece others old mid new : List ℕ) → 0 < length piece → length piece ≤ 2 ^ 16 → mid ≡ old ++ frame_bytes (record { client = client; bytes = piece })
    → Carries client others mid new → Carries client (piece ++ others) old new
carries_more client piece others old mid new some short is c =
    let frame : Frame = record { client = client; bytes = piece } in (
      frame ∷ c.0,
      record { each = (record { whose = refl; some = some; short = short }, c.1.each); all = ap (λ (l : List ℕ). piece ++ l) c.1.all },
      c.2 ∙ ap (λ (l : List ℕ). l ++ frames_bytes c.0) is ∙ append_assoc old (frame_bytes frame) (frames_bytes c.0),
    )

-- the last piece
pub carries_last : (client : ℕ) (piece old new : List ℕ) → 0 < length piece → length piece ≤ 2 ^ 16 → new ≡ old ++ frame_bytes (record { client = client; bytes = piece }) → Carries client piece old new
carries_last client piece old new some short is =
    let frame : Frame = record { client = client; bytes = piece } in (
      frame ∷ [],
      record { each = (record { whose = refl; some = some; short = short }, tt); all = append-nil piece },
      is ∙ ap (λ (l : List ℕ). old ++ l) (sym (append-nil (frame_bytes frame))),
    )

-- what was there stays
pub kept_more : (a b c x : List ℕ) → take (length a) b ≡ a → c ≡ b ++ x → take (length a) c ≡ a
kept_more a b c x was is =
    let long : length a ≤ length b = omega (arith, ap length was, length-take (length a) b) in
    ap (λ (l : List ℕ). take (length a) l) is ∙ take-append-le (length a) b x long ∙ was

pub some_of : (l : List ℕ) → (length l == 0) ≡ false → 0 < length l
some_of l is = grind (arith, nat_tests, is)
