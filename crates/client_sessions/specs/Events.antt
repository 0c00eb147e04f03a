-- What the bytes of clients ask, one command after the other in the order in which their last bytes were heard, and what each client is
-- said for it.
use Rattle.std.specs.Prelude.{◌≡◌, ◌<◌, ◌≤◌, ◌⊎◌, ◌%◌, ℕ, Bool, true, false, List, [], ◌∷◌, ◌++◌, codes, length, slice_index_or, slice_set, if◌then◌else◌}
use Rattle.std.specs.List.{flat_map}
use Rattle.client_frames.specs.Frames.{Frame, goodbye}
use Rattle.client_frames.specs.Writing.{AreFor}
use Rattle.named_words.specs.Effects.{Sizes}
use Rattle.resp_words.specs.Commands.{HasCause, IsCommand}
use Rattle.resp_words.specs.Reading.{IsBad, IsFront}
use Rattle.resp_words.specs.Replies.{Said, error, reply_bytes}
use Rattle.resp_words.specs.declared.protocol_error.ProtocolError.{ProtocolError}
use Rattle.resp_words.specs.declared.protocol_error.ProtocolError.TheVariants.{BadCount, NoDollar, BadLength, LongLine, BadByte}
use Rattle.client_sessions.specs.Answers.{DoneNow, QueueDone, sort_of}
use Rattle.client_sessions.specs.Sessions.{Client, Server, Words, absent, client_at, opened, with_client}
use Rattle.client_sessions.specs.Steps.{Step, all, now, says, step_of}
use Rattle.client_sessions.specs.declared.session_limits.SessionLimits.{SessionLimits}

pub data Event : Type 0 where
  -- a client sent a command of these words
  command : ℕ → Words → Event
  -- it sent what is no command, and is told this
  bad : ℕ → List ℕ → Event
  -- it is gone
  gone : ℕ → Event

-- why bytes are no command, in Redis's words
abbrev pub told_of : ProtocolError → List ℕ
told_of BadCount = codes "ERR Protocol error: invalid multibulk length"
told_of (NoDollar got) = codes "ERR Protocol error: expected '$', got '" ++ got % 256 ∷ codes "'"
told_of BadLength = codes "ERR Protocol error: invalid bulk length"
told_of LongLine = codes "ERR Protocol error: too big inline request"
told_of BadByte = codes "ERR Protocol error: a quote or a control byte in an inline request"

module _ (limits : SessionLimits) where
  -- a command, or the front of one, has more bytes than a command may have
  abbrev pub IsLong : List ℕ → Type 0
  IsLong bytes =
      ((text later : List ℕ) × (words : Words) × IsCommand limits.commands text words × (bytes ≡ text ++ later) × (limits.command < length text))
      ⊎ (IsFront (IsCommand limits.commands) bytes × (limits.command < length bytes))

  -- no command that is allowed begins with the bytes, and a client is told so
  abbrev pub IsRefused : List ℕ → List ℕ → Type 0
  IsRefused bytes told =
      ((cause : ProtocolError) × IsBad (IsCommand limits.commands) bytes × HasCause limits.commands bytes cause × (told ≡ told_of cause))
      ⊎ (IsLong bytes × (told ≡ codes "ERR Protocol error: too big a command"))

  -- The bytes of a client begin with these commands, and this follows them.
  abbrev pub Begins : ℕ → List ℕ → List Event → List ℕ → Type 0
  Begins at bytes [] later = later ≡ bytes
  Begins at bytes (command by words ∷ events) later =
      (by ≡ at) × (text behind : List ℕ) × IsCommand limits.commands text words × (bytes ≡ text ++ behind) × (length text ≤ limits.command) × Begins at behind events later
  Begins at bytes (other ∷ events) later = ⊥

  -- No command begins the bytes: they may still become one, and are kept; or they are refused, and nothing is kept of them.
  abbrev pub Ends : ℕ → List ℕ → List Event → List ℕ → Type 0
  Ends at bytes [] rest = IsFront (IsCommand limits.commands) bytes × (length bytes ≤ limits.command) × (rest ≡ bytes)
  Ends at bytes (bad by told ∷ []) rest = (by ≡ at) × IsRefused bytes told × (rest ≡ [])
  Ends at bytes other rest = ⊥

  -- The bytes of a client are commands and an end.
  pub record Tells (at : ℕ) (bytes : List ℕ) (events : List Event) (rest : List ℕ) : Type 0 where
    pub commands : List Event
    pub last : List Event
    pub later : List ℕ
    pub begins : Begins at bytes commands later
    pub ends : Ends at later last rest
    pub are : events ≡ commands ++ last

  -- what a frame tells of a client that has left these bytes, and what it has left then
  abbrev pub Brings : ℕ → List ℕ → List ℕ → List Event → List ℕ → Type 0
  Brings at rest [] events after = (events ≡ gone at ∷ []) × (after ≡ [])
  Brings at rest (byte ∷ bytes) events after = Tells at (rest ++ byte ∷ bytes) events after

-- what each client has left, by its number
abbrev pub Rests : Type 0
Rests = List (List ℕ)

abbrev pub rest_at : Rests → ℕ → List ℕ
rest_at rests at = slice_index_or rests at []

module _ (limits : SessionLimits) where
  -- frames of clients that there may be, one after the other
  abbrev pub BringAll : Rests → List Frame → List Event → Rests → Type 0
  BringAll rests [] events after = (events ≡ []) × (after ≡ rests)
  BringAll rests (frame ∷ frames) events after =
      (frame.client < length rests) × (here others : List Event) × (rest : List ℕ) × Brings limits frame.client (rest_at rests frame.client) frame.bytes here rest
      × (events ≡ here ++ others) × BringAll (slice_set rests frame.client rest) frames others after

-- the last frame to a client that is leaving, and to one that is gone
abbrev pub farewell : ℕ → Client → List Frame
farewell at client = if client.leaving then goodbye at ∷ [] else []

abbrev pub last_frame : ℕ → Client → List Frame
last_frame at client = if client.leaving then [] else goodbye at ∷ []

abbrev pub dismissed : ℕ → Server → Server
dismissed at server = with_client at (record (client_at server.clients at) { leaving = true }) server

module _ (sizes : Sizes) (limits : SessionLimits) where
  -- what is still to be done of a command, on a server that has seen it come
  abbrev pub Finishes : ℕ → Words → Step → Server → List Said → Server → Type 0
  Finishes at words (says it) server said new = (said ≡ it ∷ []) × (new ≡ server)
  Finishes at words now server said new = DoneNow sizes at words (sort_of words) server said new
  Finishes at words all server said new = QueueDone sizes at server said new

  -- a command of a client that is there; no words ask nothing
  abbrev pub CommandDone : ℕ → Words → Server → List Said → Server → Type 0
  CommandDone at [] server said new = (said ≡ []) × (new ≡ server)
  CommandDone at (name ∷ words) server said new =
      let step = step_of limits (client_at server.clients at) (name ∷ words) (sort_of (name ∷ words)) in
      Finishes at (name ∷ words) step.1 (with_client at step.0 server) said new

  -- a client that is leaving is not heard any more
  abbrev pub Obeys : Bool → ℕ → Words → Server → List Frame → Server → Type 0
  Obeys true at words server frames new = (frames ≡ []) × (new ≡ server)
  Obeys false at words server frames new =
      (said : List Said) × (answer : List Frame) × CommandDone at words (opened at server) said new
      × AreFor at (flat_map reply_bytes said) answer × (frames ≡ answer ++ farewell at (client_at new.clients at))

  abbrev pub Dismisses : Bool → ℕ → List ℕ → Server → List Frame → Server → Type 0
  Dismisses true at told server frames new = (frames ≡ []) × (new ≡ server)
  Dismisses false at told server frames new =
      (answer : List Frame) × AreFor at (reply_bytes (error told)) answer × (frames ≡ answer ++ goodbye at ∷ []) × (new ≡ dismissed at (opened at server))

  -- what each of them makes of a server, and the frames that go out for it
  abbrev pub Happens : Event → Server → List Frame → Server → Type 0
  Happens (command at words) server frames new = Obeys (client_at server.clients at).leaving at words server frames new
  Happens (bad at told) server frames new = Dismisses (client_at server.clients at).leaving at told server frames new
  Happens (gone at) server frames new =
      (frames ≡ last_frame at (client_at server.clients at)) × (new ≡ with_client at absent server)

  -- one after the other
  abbrev pub Happen : List Event → Server → List Frame → Server → Type 0
  Happen [] server frames new = (frames ≡ []) × (new ≡ server)
  Happen (event ∷ events) server frames new =
      (first others : List Frame) × (mid : Server) × Happens event server first mid × (frames ≡ first ++ others) × Happen events mid others new
