-- A client is let go, or is gone.
use Rattle.std.proofs.Common.{◌≡◌, ◌∙◌, ◌<◌, ℕ, Bool, true, false, List, [], ◌∷◌, ◌++◌, length, map, refl, sym, ap, subst, append_assoc}
use Rattle.std.specs.Prelude.{slice_index_or}
use Rattle.std.proofs.lemmas.List.{append-nil}
use Rattle.client_frames.specs.Frames.{Frame, frame_bytes, frames_bytes, goodbye}
use Rattle.client_frames.specs.Writing.{AreFor, Carries}
use Rattle.named_words.specs.Effects.{Names, Sizes}
use Rattle.resp_words.specs.Replies.{error, reply_bytes}
use Rattle.client_sessions.specs.Calls.{IsAsLarge, IsSettled}
use Rattle.client_sessions.specs.Events.{Dismisses, Happens, bad, dismissed, farewell, last_frame}
use Rattle.client_sessions.specs.Seen.{client_of, server_of}
use Rattle.client_sessions.specs.Sessions.{Client, client_at, opened}
use Rattle.client_sessions.specs.declared.session.Session.{Session}
use Rattle.client_sessions.specs.declared.session_limits.SessionLimits.{SessionLimits}
use Rattle.client_sessions.specs.declared.sessions.Sessions.{Sessions}
use Rattle.client_sessions.proofs.Running.{frames_append}
use Rattle.client_sessions.proofs.Slots.{at_seen, same_large}

-- whether a client is leaving
pub leaving_at : (all : List Session) (at : ℕ) (was : Session) (b : Bool) → at < length all → was ≡ slice_index_or all at was → was.leaving ≡ b → (client_at (map client_of all) at).leaving ≡ b
leaving_at all at was b within read is = ap (λ (c : Client). c.leaving) (at_seen all at was within read) ∙ is

pub farewell_bytes : (at : ℕ) (client : Client) → client.leaving ≡ true → frames_bytes (farewell at client) ≡ frame_bytes (goodbye at)
farewell_bytes at client is = rw is (append-nil (frame_bytes (goodbye at)))

pub farewell_none : (at : ℕ) (client : Client) → client.leaving ≡ false → frames_bytes (farewell at client) ≡ []
farewell_none at client is = rw is refl

pub last_bytes : (at : ℕ) (client : Client) → client.leaving ≡ false → frames_bytes (last_frame at client) ≡ frame_bytes (goodbye at)
last_bytes at client is = rw is (append-nil (frame_bytes (goodbye at)))

pub last_none : (at : ℕ) (client : Client) → client.leaving ≡ true → frames_bytes (last_frame at client) ≡ []
last_none at client is = rw is refl

-- a client that is leaving already is told nothing
pub leaving_settled : (limits : SessionLimits) (at : ℕ) (told : List ℕ) (old : Sessions) (x : List ℕ) → (client_at (map client_of old.sessions.items) at).leaving ≡ true
    → IsSettled (λ server frames new. (sizes : Sizes) → Happens sizes limits (bad at told) server frames new) old old x x
leaving_settled limits at told old x is = record {
  frames = [];
  is = λ names sizes. subst (λ (b : Bool). Dismisses sizes limits b at told (server_of names old) [] (server_of names old)) (sym is) (refl, refl);
  bytes = sym (append-nil x);
  large = same_large old;
}

last_behind : (x : List ℕ) (frames : List Frame) (last : Frame) → (x ++ frames_bytes frames) ++ frame_bytes last ≡ x ++ frames_bytes (frames ++ last ∷ [])
last_behind x frames last = append_assoc x (frames_bytes frames) (frame_bytes last)
    ∙ ap (λ (l : List ℕ). x ++ l) (ap (λ (l : List ℕ). frames_bytes frames ++ l) (sym (append-nil (frame_bytes last))) ∙ sym (frames_append frames (last ∷ [])))

pub dismissed_settled : (limits : SessionLimits) (at : ℕ) (told : List ℕ) (old mid new : Sessions) (x y z said : List ℕ) → (client_at (map client_of old.sessions.items) at).leaving ≡ false
    → ((names : Names) → server_of names mid ≡ opened at (server_of names old)) → ((names : Names) → server_of names new ≡ dismissed at (server_of names mid)) → said ≡ reply_bytes (error told)
    → Carries at said x y → z ≡ y ++ frame_bytes (goodbye at) → IsAsLarge old new → IsSettled (λ server frames new. (sizes : Sizes) → Happens sizes limits (bad at told) server frames new) old new x z
dismissed_settled limits at told old mid new x y z said stays comes goes says carries ends large =
    let frames : List Frame = carries.0 ++ goodbye at ∷ [] in
    record {
      frames = frames;
      is = λ names sizes. subst (λ (b : Bool). Dismisses sizes limits b at told (server_of names old) frames (server_of names new)) (sym stays)
          (carries.0, subst (λ (l : List ℕ). AreFor at l carries.0) says carries.1, refl, goes names ∙ ap (dismissed at) (comes names));
      bytes = ends ∙ ap (λ (l : List ℕ). l ++ frame_bytes (goodbye at)) carries.2 ∙ last_behind x carries.0 (goodbye at);
      large = large;
    }
