-- Commands of a client happen, and their answers go out.
use Rattle.std.proofs.Common.{ℕ, List, [], ◌∷◌, refl, sym}
use Rattle.std.proofs.lemmas.List.{append-nil}
use Rattle.named_words.specs.Effects.{Sizes}
use Rattle.client_sessions.specs.Calls.{IsAnswered, IsSettled}
use Rattle.client_sessions.specs.Events.{Event, Happen, Happens}
use Rattle.client_sessions.specs.Seen.{server_of}
use Rattle.client_sessions.specs.Standing.{Standing}
use Rattle.client_sessions.specs.declared.session_limits.SessionLimits.{SessionLimits}
use Rattle.client_sessions.specs.declared.sessions.Sessions.{Sessions}
use Rattle.client_sessions.proofs.Running.{happen_one}
use Rattle.client_sessions.proofs.Slots.{same_large}

module _ (sizes : Sizes) (limits : SessionLimits) where
  -- nothing happened
  pub answered_none : (a : Standing) (s : Sessions) (x : List ℕ) → IsAnswered (Happen sizes limits []) a a s s x x
  answered_none a s x = record { frames = []; is = (refl, refl); bytes = sym (append-nil x); large = same_large s }

  -- one event
  pub answered_one : (event : Event) (a b : Standing) (s t : Sessions) (x y : List ℕ) → IsAnswered (Happens sizes limits event) a b s t x y → IsAnswered (Happen sizes limits (event ∷ [])) a b s t x y
  answered_one event a b s t x y it = record {
    frames = it.frames;
    is = happen_one sizes limits event (server_of a.names s) (server_of b.names t) it.frames it.is;
    bytes = it.bytes;
    large = it.large;
  }

  -- one that happens whatever names there are
  pub answered_settled : (event : Event) (a : Standing) (s t : Sessions) (x y : List ℕ) → IsSettled (λ server frames new. (sizes : Sizes) → Happens sizes limits event server frames new) s t x y
      → IsAnswered (Happen sizes limits (event ∷ [])) a a s t x y
  answered_settled event a s t x y it = answered_one event a a s t x y (record { frames = it.frames; is = it.is a.names sizes; bytes = it.bytes; large = it.large })
