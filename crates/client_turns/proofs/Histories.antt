-- A history goes on.
use Rattle.std.proofs.Common.{◌≡◌, ◌∙◌, ℕ, List, [], ◌∷◌, ◌++◌, refl, sym, ap, append_assoc}
use Rattle.client_frames.specs.Frames.{Frame, frame_bytes, frames_bytes}
use Rattle.client_sessions.specs.Events.{Event, Happen}
use Rattle.client_sessions.specs.Sessions.{Server}
use Rattle.client_turns.specs.Serves.{Done, IsFront, IsHistory, Service, answers_of, events_of, server_after}

pub front_more : {A : Type 0} (a b c : List A) → IsFront a b → IsFront b c → IsFront a c
front_more {A} a b c one two = (one.0 ++ two.0, two.1 ∙ ap (λ (l : List A). l ++ two.0) one.1 ∙ append_assoc a one.0 two.0)

pub after_more : (start : Server) (h m : List Done) → server_after start (h ++ m) ≡ server_after (server_after start h) m
after_more start [] m = refl
after_more start (d ∷ h) m = after_more d.server h m

pub events_more : (h m : List Done) → events_of (h ++ m) ≡ events_of h ++ events_of m
events_more [] m = refl
events_more (d ∷ h) m = ap (λ (l : List Event). d.event ∷ l) (events_more h m)

answers_more : (h m : List Done) → answers_of (h ++ m) ≡ answers_of h ++ answers_of m
answers_more [] m = refl
answers_more (d ∷ h) m = ap (λ (l : List Frame). d.frames ++ l) (answers_more h m) ∙ sym (append_assoc d.frames (answers_of h) (answers_of m))

pub bytes_more : (fs gs : List Frame) → frames_bytes (fs ++ gs) ≡ frames_bytes fs ++ frames_bytes gs
bytes_more [] gs = refl
bytes_more (f ∷ fs) gs = ap (λ (l : List ℕ). frame_bytes f ++ l) (bytes_more fs gs) ∙ sym (append_assoc (frame_bytes f) (frames_bytes fs) (frames_bytes gs))

-- what is said of more
pub said_more : (h m : List Done) → frames_bytes (answers_of (h ++ m)) ≡ frames_bytes (answers_of h) ++ frames_bytes (answers_of m)
said_more h m = ap frames_bytes (answers_more h m) ∙ bytes_more (answers_of h) (answers_of m)

module _ (service : Service) where
  pub history_more : (was : Server) (h m : List Done) → IsHistory service was h → IsHistory service (server_after was h) m → IsHistory service was (h ++ m)
  history_more was [] m a b = b
  history_more was (d ∷ h) m a b = (a.0, history_more d.server h m a.1 b)

  -- what happens is a history
  pub record Is (events : List Event) (was : Server) (frames : List Frame) (new : Server) : Type 0 where
    pub history : List Done
    pub is : IsHistory service was history
    pub events_are : events_of history ≡ events
    pub answers_are : answers_of history ≡ frames
    pub server_is : server_after was history ≡ new

  pub history_of : (events : List Event) (was new : Server) (frames : List Frame) → Happen service.sizes service.limits events was frames new → Is events was frames new
  history_of [] was new frames is = record { history = []; is = tt; events_are = refl; answers_are = sym is.0; server_is = sym is.1 }
  history_of (e ∷ es) was new frames is =
      let rest = history_of es is.2 new is.1 is.5 in
      record {
        history = record { event = e; frames = is.0; server = is.2 } ∷ rest.history;
        is = (is.3, rest.is);
        events_are = ap (λ (l : List Event). e ∷ l) rest.events_are;
        answers_are = ap (λ (l : List Frame). is.0 ++ l) rest.answers_are ∙ sym is.4;
        server_is = rest.server_is;
      }
