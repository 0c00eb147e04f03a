use Rattle.std.proofs.Common.{◌≡◌, ◌++◌, take, drop, map}
use Rattle.client_sessions.specs.Seen.{client_of}
use Rattle.client_sessions.specs.Sessions.{aware}
use Rattle.client_sessions.proofs.watching.note_all.Given as goal

abbrev pub invariant-loop-session : goal.invariant-loop-session
invariant-loop-session l = map client_of l.sessions ≡ map (aware (map (λ name. name.items) l.names)) (take l.session-index (map client_of l.fn.sessions)) ++ drop l.session-index (map client_of l.fn.sessions)
