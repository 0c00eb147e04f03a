-- One call behind the other.
use Rattle.std.proofs.Common.{◌≡◌, ◌∙◌, ℕ, List, [], ◌∷◌, ◌++◌, OnOk, Result, Ok, Err, refl, sym, ap, append_assoc}
use Rattle.std.proofs.lemmas.List.{append-nil}
use Rattle.std.specs.List.{flat_map}
use Rattle.client_frames.specs.Frames.{Frame, frame_bytes, frames_bytes}
use Rattle.named_words.specs.Effects.{Sizes}
use Rattle.resp_words.specs.Replies.{Said, reply_bytes}
use Rattle.client_sessions.specs.Events.{Event, Happen, Happens}
use Rattle.client_sessions.specs.Sessions.{Server}
use Rattle.client_sessions.specs.Standing.{Keeps, Standing}
use Rattle.client_sessions.specs.declared.session_limits.SessionLimits.{SessionLimits}

pub keeps_more : (a b c : Standing) → Keeps a b → Keeps b c → Keeps a c
keeps_more a b c one two = record {
  sizes = two.sizes ∙ one.sizes;
  stable = two.stable ∙ one.stable;
  heard = two.heard ∙ one.heard;
  said = two.said ∙ one.said;
  moments = two.moments ∙ one.moments;
}

module _ (sizes : Sizes) (limits : SessionLimits) where
  pub happen_one : (e : Event) (s n : Server) (fs : List Frame) → Happens sizes limits e s fs n → Happen sizes limits (e ∷ []) s fs n
  happen_one e s n fs is = (fs, [], n, is, sym (append-nil fs), (refl, refl))

pub frames_append : (fs gs : List Frame) → frames_bytes (fs ++ gs) ≡ frames_bytes fs ++ frames_bytes gs
frames_append [] gs = refl
frames_append (f ∷ fs) gs = ap (λ (l : List ℕ). frame_bytes f ++ l) (frames_append fs gs) ∙ sym (append_assoc (frame_bytes f) (frames_bytes fs) (frames_bytes gs))

pub replies_append : (xs ys : List Said) → flat_map reply_bytes (xs ++ ys) ≡ flat_map reply_bytes xs ++ flat_map reply_bytes ys
replies_append [] ys = refl
replies_append (x ∷ xs) ys = ap (λ (l : List ℕ). reply_bytes x ++ l) (replies_append xs ys) ∙ sym (append_assoc (reply_bytes x) (flat_map reply_bytes xs) (flat_map reply_bytes ys))

-- behind what was put behind
pub behind_more : (a b c x y : List ℕ) → b ≡ a ++ x → c ≡ b ++ y → c ≡ a ++ (x ++ y)
behind_more a b c x y one two = two ∙ ap (λ (l : List ℕ). l ++ y) one ∙ append_assoc a x y

pub always_on_ok : {T E P : Type 0} (r : Result T E) → P → OnOk r P
always_on_ok (Ok x) it = it
always_on_ok (Err e) it = tt
