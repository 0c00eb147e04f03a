-- What the bytes of a client begin with.
use Rattle.std.specs.Prelude.{◌≡◌, ◌<◌, ◌≤◌, ⊤, ℕ, List, [], ◌++◌, codes, length, map}
use Rattle.resp_words.specs.Commands.{IsCommand}
use Rattle.resp_words.specs.Reading.{IsFront}
use Rattle.resp_words.specs.declared.protocol_error.ProtocolError.{ProtocolError}
use Rattle.client_sessions.specs.Events.{Begins, Ends, Event, IsRefused, told_of}
use Rattle.client_sessions.specs.declared.heard.Heard.{Heard}
use Rattle.client_sessions.specs.declared.heard.Heard.TheVariants as heard
use Rattle.client_sessions.specs.declared.session_limits.SessionLimits.{SessionLimits}
use Rattle.client_sessions.specs.declared.taken.Taken.{Taken}
use Rattle.client_sessions.specs.declared.taken.Taken.TheVariants.{Command, Rest, Refused}

-- a command that is not too long, and what follows it; the front of one that is not too long; or what is refused
abbrev pub Takes : SessionLimits → List ℕ → Taken → Type 0
Takes limits bytes (Command words rest) =
    (text : List ℕ) × IsCommand limits.commands text (map (λ word. word.now) words.items) × (bytes ≡ text ++ rest.now) × (length text ≤ limits.command)
Takes limits bytes Rest = IsFront (IsCommand limits.commands) bytes × (length bytes ≤ limits.command)
Takes limits bytes (Refused told) = IsRefused limits bytes told.items

-- a client is told of this fault
abbrev pub TellsError : ProtocolError → Taken → Type 0
TellsError cause (Refused told) = told.items ≡ told_of cause
TellsError cause other = ⊥

abbrev pub TellsLength : Taken → Type 0
TellsLength (Refused told) = told.items ≡ codes "ERR Protocol error: too big a command"
TellsLength other = ⊥

-- what the bytes of a client tell next, where it was heard
abbrev pub TellsNext : SessionLimits → ℕ → List ℕ → Heard → List Event → Type 0
TellsNext limits at bytes (heard.Command later) events = Begins limits at bytes events later.now × (length later.now < length bytes)
TellsNext limits at bytes heard.Rest events = Ends limits at bytes events bytes
TellsNext limits at bytes heard.Refused events = Ends limits at bytes events []

-- a command takes bytes
abbrev pub LeavesFewer : List ℕ → Heard → Type 0
LeavesFewer bytes (heard.Command later) = length later.now < length bytes
LeavesFewer bytes other = ⊤
