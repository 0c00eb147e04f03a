use Rattle.std.proofs.Common.{◌≡◌, replicate, map}
use Rattle.client_sessions.specs.Seen.{client_of}
use Rattle.client_sessions.specs.Sessions.{absent}
use Rattle.client_sessions.proofs.opening.absent_clients.Given as goal

abbrev pub invariant-loop : goal.invariant-loop
invariant-loop l = map client_of l.sessions.items ≡ replicate l.counter absent
