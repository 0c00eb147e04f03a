-- What holds within a turn.
use Rattle.std.specs.Prelude.{◌≡◌, ◌⊎◌, ℕ, List, ◌++◌, map}
use Rattle.std.specs.List.{AllByRecursion}
use Rattle.client_frames.specs.Frames.{Frame, IsFrame, frames_bytes}
use Rattle.client_sessions.specs.Events.{Begins, BringAll, Event, Rests, Tells}
use Rattle.client_sessions.specs.Seen.{server_of}
use Rattle.client_sessions.specs.Standing.{Standing}
use Rattle.client_sessions.specs.declared.session_limits.SessionLimits.{SessionLimits}
use Rattle.client_sessions.specs.declared.sessions.Sessions.{Sessions}
use Rattle.client_turns.specs.Serves.{Done, HasHeard, IsFront, IsHistory, Serves, Service, answers_of, events_of, no_rests, server_after}
use Rattle.client_turns.specs.declared.desk.Desk.{Desk}

-- what each client has left
abbrev pub rests_of : Desk → Rests
rests_of it = map (λ rest. rest.items) it.rests.items

-- the bytes of a client tell these events first: all, or some commands only
abbrev pub TellsFirst : SessionLimits → ℕ → List ℕ → List Event → Type 0
TellsFirst limits at bytes events = (later : List ℕ) × (Begins limits at bytes events later ⊎ Tells limits at bytes events later)

module _ (service : Service) where
  -- All of this was done. What is said of it was forced before, and for the others the answers are put by.
  pub record IsGoing (said all : List Done) (it : Standing) (sessions : Sessions) (out : List ℕ) : Type 0 where
    pub sizes : it.sizes ≡ service.sizes
    pub limits : sessions.limits ≡ service.limits
    pub first : IsFront said all
    pub is : IsHistory service service.start all
    pub server : server_of it.names sessions ≡ server_after service.start all
    pub to_say : out ≡ frames_bytes (answers_of first.0)
    pub was_heard : HasHeard service it.heard (events_of all)
    pub serves : Serves service it said
    pub said_heard : HasHeard service it.heard (events_of said)
    pub was_said : it.said ≡ frames_bytes (answers_of said)
    pub stable : it.stable ≡ (server_after service.start said).names

  -- and of a client's bytes no command is done yet
  pub record IsHearing (said all : List Done) (at : ℕ) (bytes : List ℕ) (it : Standing) (sessions : Sessions) (out : List ℕ) : Type 0 where
    pub going : IsGoing said all it sessions out
    pub fits : (events : List Event) → TellsFirst service.limits at bytes events → HasHeard service it.heard (events_of all ++ events)

  -- More was done, and maybe more was forced and said.
  pub record GoesOn (said all : List Done) (tells : List Event → Type 0) (was now : Standing) (sessions : Sessions) (out : List ℕ) : Type 0 where
    pub forced : List Done
    pub done : List Done
    pub on : IsFront said forced
    pub events : List Event
    pub told : tells events
    pub are : events_of done ≡ events_of all ++ events
    pub heard : now.heard ≡ was.heard
    pub going : IsGoing forced done now sessions out

  -- frames that came first tell these events and leave these rests, and this is ahead
  pub record HasRead (heard ahead : List ℕ) (rests : Rests) (events : List Event) : Type 0 where
    pub frames : List Frame
    pub is : heard ≡ frames_bytes frames ++ ahead
    pub whole : AllByRecursion IsFrame frames
    pub bring : BringAll service.limits (no_rests service.count) frames events rests

  -- All of the input was done but for what is ahead.
  pub record IsReading (said all : List Done) (ahead : List ℕ) (it : Standing) (desk : Desk) (out : List ℕ) : Type 0 where
    pub going : IsGoing said all it desk.sessions out
    pub read : HasRead it.heard ahead (rests_of desk) (events_of all)

  -- the same, further on
  pub record ReadsOn (said : List Done) (ahead : List ℕ) (it : Standing) (desk : Desk) (out : List ℕ) : Type 0 where
    pub forced : List Done
    pub done : List Done
    pub on : IsFront said forced
    pub reading : IsReading forced done ahead it desk out
