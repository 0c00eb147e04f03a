-- What calls on sessions do.
use Rattle.std.specs.Prelude.{◌≡◌, ℕ, List, ◌++◌, length}
use Rattle.std.specs.List.{flat_map}
use Rattle.client_frames.specs.Frames.{Frame, frames_bytes}
use Rattle.named_words.specs.Effects.{Names, Sizes}
use Rattle.named_words.specs.Requests.{NamesAsked}
use Rattle.resp_words.specs.Replies.{Said, reply_bytes}
use Rattle.client_sessions.specs.Answers.{Choice, named}
use Rattle.client_sessions.specs.Events.{Event}
use Rattle.client_sessions.specs.Seen.{server_of}
use Rattle.client_sessions.specs.Sessions.{Client, Server, with_client}
use Rattle.client_sessions.specs.Standing.{Standing}
use Rattle.client_sessions.specs.Steps.{Step}
use Rattle.client_sessions.specs.declared.sessions.Sessions.{Sessions}

-- limits stay, and how many clients there may be
pub record IsAsLarge (old new : Sessions) : Type 0 where
  pub limits : new.limits ≡ old.limits
  pub count : length new.sessions.items ≡ length old.sessions.items

-- a word on a session is done, whatever names there are
pub record IsOwn (means : Server → Server × List Said) (old new : Sessions) (before behind : List ℕ) : Type 0 where
  pub server : (names : Names) → server_of names new ≡ (means (server_of names old)).0
  pub said : (names : Names) → behind ≡ before ++ flat_map reply_bytes (means (server_of names old)).1
  pub large : IsAsLarge old new

-- a command comes: this is kept of its client then, and this is still to be done
pub record IsStep (at : ℕ) (means : Client × Step) (step : Step) (old new : Sessions) : Type 0 where
  pub server : (names : Names) → server_of names new ≡ with_client at means.0 (server_of names old)
  pub step_is : step ≡ means.1

-- from the server before a call to the one after it, with these replies put behind what was there
pub record IsDone (step : Server → List Said → Server → Type 0) (was now : Standing) (old new : Sessions) (before behind : List ℕ) : Type 0 where
  pub said : List Said
  pub is : step (server_of was.names old) said (server_of now.names new)
  pub bytes : behind ≡ before ++ flat_map reply_bytes said
  pub large : IsAsLarge old new

-- the same with frames
pub record IsAnswered (step : Server → List Frame → Server → Type 0) (was now : Standing) (old new : Sessions) (before behind : List ℕ) : Type 0 where
  pub frames : List Frame
  pub is : step (server_of was.names old) frames (server_of now.names new)
  pub bytes : behind ≡ before ++ frames_bytes frames
  pub large : IsAsLarge old new

-- the same, whatever names there are
pub record IsSettled (step : Server → List Frame → Server → Type 0) (old new : Sessions) (before behind : List ℕ) : Type 0 where
  pub frames : List Frame
  pub is : (names : Names) → step (server_of names old) frames (server_of names new)
  pub bytes : behind ≡ before ++ frames_bytes frames
  pub large : IsAsLarge old new

-- a request on names, by some choice
abbrev pub IsNamed : Sizes → NamesAsked → Server → List Said → Server → Type 0
IsNamed sizes asked server said new = (choice : Choice) × (said ≡ (named sizes choice asked server).1) × (new ≡ (named sizes choice asked server).0)

-- The bytes of a client tell events, which all happen.
pub record IsHeard (tells : List Event → Type 0) (happen : List Event → Server → List Frame → Server → Type 0) (was now : Standing) (old new : Sessions) (before behind : List ℕ) : Type 0 where
  pub events : List Event
  pub told : tells events
  pub answered : IsAnswered (happen events) was now old new before behind
