use Rattle.std.proofs.Common.{◌≡◌, drop, map}
use Rattle.client_sessions.specs.Sessions.{watches}
use Rattle.client_sessions.proofs.watching.watches.Given as goal

abbrev pub invariant-loop-name : goal.invariant-loop-name
invariant-loop-name l = watches (map (λ name. name.items) l.watched) (map (λ name. name.items) (drop l.name-index l.names)) ≡ watches (map (λ name. name.items) l.watched) (map (λ name. name.items) l.names)
