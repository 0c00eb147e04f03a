use Rattle.client_sessions.proofs.sessions.Sessions.own.Goals as goal

pub returns-in-Unguards : goal.returns-in-Unguards
returns-in-Unguards c = rw c.in-Unguards.is c.unguard.ensures
