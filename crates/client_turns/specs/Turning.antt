-- What a turn does, and all turns.
use Rattle.std.specs.Prelude.{◌≡◌, ℕ, List, []}
use Rattle.client_sessions.specs.Events.{Rests}
use Rattle.client_sessions.specs.Seen.{server_of}
use Rattle.client_sessions.specs.Sessions.{Server, empty}
use Rattle.client_sessions.specs.Standing.{Had, Standing}
use Rattle.client_sessions.specs.declared.session_limits.SessionLimits.{SessionLimits}
use Rattle.named_words.specs.Effects.{Names}
use Rattle.client_turns.specs.Serves.{Done, HasAnswered, Service, no_rests}
use Rattle.client_turns.specs.Within.{rests_of}
use Rattle.client_turns.specs.declared.desk.Desk.{Desk}

-- no client has come
pub record IsNew (limits : SessionLimits) (count : ℕ) (it : Desk) : Type 0 where
  pub limits_are : it.sessions.limits ≡ limits
  pub rest : it.rest.items ≡ []
  pub rests : rests_of it ≡ no_rests count
  pub server : (names : Names) → server_of names it.sessions ≡ empty count names

-- nothing was heard or said, and a crash leaves what stands
pub record IsFresh (it : Standing) : Type 0 where
  pub heard : it.heard ≡ []
  pub said : it.said ≡ []
  pub stable : it.stable ≡ it.names
  pub moments : (heard said : List ℕ) (names : Names) → Had it heard said names → (heard ≡ []) × (said ≡ []) × (names ≡ it.names)

-- so many clients, of whom none has come, over what stands
abbrev pub service_of : SessionLimits → ℕ → Standing → Service
service_of limits count it = record { sizes = it.sizes; limits = limits; count = count; start = empty count it.names }

-- between two turns all is answered that has come
pub record IsBetween (service : Service) (history : List Done) (it : Standing) (desk : Desk) : Type 0 where
  pub limits : desk.sessions.limits ≡ service.limits
  pub answered : HasAnswered service it history desk.rest.items (rests_of desk) (server_of it.names desk.sessions)

-- all is answered that has come
abbrev pub AllAnswered : Service → Standing → Type 0
AllAnswered service it = (history : List Done) × (rest : List ℕ) × (rests : Rests) × (server : Server) × HasAnswered service it history rest rests server
