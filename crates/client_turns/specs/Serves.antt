-- Durable linearizability of a server, as Izraelevitz, Mendes and Scott define it (2016): what was answered is what one server that
-- does one command after the other would have answered, in the order in which the commands' last bytes were heard; and whenever it
-- stops, what is left of its names is what the first of these commands make, so many that all that was answered is among them.
use Rattle.std.specs.Prelude.{◌≡◌, ◌<◌, ◌⊎◌, ⊤, ℕ, List, [], ◌∷◌, ◌++◌, length, map, replicate, slice_set}
use Rattle.std.specs.List.{AllByRecursion, flat_map}
use Rattle.client_frames.specs.Frames.{Frame, IsFrame, frames_bytes}
use Rattle.client_frames.specs.Reading.{Splits}
use Rattle.client_sessions.specs.Events.{Begins, BringAll, Brings, Event, Happens, Rests, rest_at}
use Rattle.client_sessions.specs.Sessions.{Server}
use Rattle.client_sessions.specs.Standing.{Had, Standing}
use Rattle.client_sessions.specs.declared.session_limits.SessionLimits.{SessionLimits}
use Rattle.named_words.specs.Effects.{Names, Sizes}

-- what is served: how long names and values may be, what is kept of a client at most, how many there may be at once, and what stood
-- before the first command
pub record Service : Type 0 where
  pub sizes : Sizes
  pub limits : SessionLimits
  pub count : ℕ
  pub start : Server

-- a command, or that a client sent none or is gone; what it made of the server; and the frames that go out for it
pub record Done : Type 0 where
  pub event : Event
  pub frames : List Frame
  pub server : Server

-- the server after all of this, and all that is said for it
abbrev pub server_after : Server → List Done → Server
server_after start [] = start
server_after start (done ∷ history) = server_after done.server history

abbrev pub events_of : List Done → List Event
events_of history = map (λ done. done.event) history

abbrev pub answers_of : List Done → List Frame
answers_of history = flat_map (λ done. done.frames) history

abbrev pub IsFront : {A : Type 0} → List A → List A → Type 0
IsFront {A} front whole = (rest : List A) × (whole ≡ front ++ rest)

-- nothing has come of any client
abbrev pub no_rests : ℕ → Rests
no_rests count = replicate count []

module _ (limits : SessionLimits) where
  -- frames tell these events first: all of them but for the last frame, of which it may be some commands only
  abbrev pub BringFirst : Rests → List Frame → List Event → Type 0
  BringFirst rests [] events = events ≡ []
  BringFirst rests (frame ∷ frames) events =
      (frame.client < length rests)
      × (((later : List ℕ) × Begins limits frame.client (rest_at rests frame.client ++ frame.bytes) events later)
      ⊎ ((here others : List Event) × (rest : List ℕ) × Brings limits frame.client (rest_at rests frame.client) frame.bytes here rest
      × (events ≡ here ++ others) × BringFirst (slice_set rests frame.client rest) frames others))

module _ (service : Service) where
  -- one after the other, each on what the one before it made
  abbrev pub IsHistory : Server → List Done → Type 0
  IsHistory was [] = ⊤
  IsHistory was (done ∷ history) = Happens service.sizes service.limits done.event was done.frames done.server × IsHistory done.server history

  -- these events had been heard: the bytes begin with frames that tell them first
  pub record HasHeard (heard : List ℕ) (events : List Event) : Type 0 where
    pub frames : List Frame
    pub later : List ℕ
    pub begins : heard ≡ frames_bytes frames ++ later
    pub whole : AllByRecursion IsFrame frames
    pub told : BringFirst service.limits (no_rests service.count) frames events

  -- At a moment these bytes had come and these had been said, and a crash may have left these names: they are those after the first
  -- events of the history, all of which had been heard, and what had been said is a front of what is said for them.
  pub record IsMoment (history : List Done) (heard said : List ℕ) (names : Names) : Type 0 where
    pub done : List Done
    pub first : IsFront done history
    pub was_heard : HasHeard heard (events_of done)
    pub names_are : names ≡ (server_after service.start done).names
    pub was_said : IsFront said (frames_bytes (answers_of done))

  -- there is one history for all moments so far
  pub record Serves (it : Standing) (history : List Done) : Type 0 where
    pub is : IsHistory service.start history
    pub each : (heard said : List ℕ) (names : Names) → Had it heard said names → IsMoment history heard said names

  -- a history that goes on from this one
  abbrev pub ServesOn : Standing → List Done → Type 0
  ServesOn it history = (later : List Done) × IsFront history later × Serves it later

  -- Between two turns: all that has come was done, but for unfinished frames and commands; all answers are said, and a crash leaves
  -- all that was done.
  pub record HasAnswered (it : Standing) (history : List Done) (rest : List ℕ) (rests : Rests) (server : Server) : Type 0 where
    pub sizes : it.sizes ≡ service.sizes
    pub serves : Serves it history
    pub frames : List Frame
    pub splits : Splits it.heard frames rest
    pub bring : BringAll service.limits (no_rests service.count) frames (events_of history) rests
    pub server_is : server ≡ server_after service.start history
    pub said : it.said ≡ frames_bytes (answers_of history)
    pub stable : it.stable ≡ server.names
