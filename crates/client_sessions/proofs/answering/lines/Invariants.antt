use Rattle.std.proofs.Common.{◌≡◌, ◌++◌, drop, map}
use Rattle.std.specs.List.{flat_map}
use Rattle.client_sessions.specs.Answers.{line_of}
use Rattle.client_sessions.specs.Seen.{client_of}
use Rattle.client_sessions.proofs.answering.lines.Given as goal

abbrev pub invariant-loop-session : goal.invariant-loop-session
invariant-loop-session l = l.lines.items ++ flat_map line_of (map client_of (drop l.session-index l.sessions)) ≡ flat_map line_of (map client_of l.sessions)
