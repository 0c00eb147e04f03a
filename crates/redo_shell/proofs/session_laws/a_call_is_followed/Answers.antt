use Rattle.redo_shell.proofs.SessionLemmas.{follows_nothing, follows_kill, follows_crash}
use Rattle.redo_shell.proofs.session_laws.a_call_is_followed.Goals as goal

pub returns-clause-nothing : goal.returns-clause-nothing
returns-clause-nothing g c = λ old new time. follows_nothing (g.M.Machine.disk old) (g.M.Machine.disk new) (g.met.M.Machine.lawful new) time

pub returns-clause-kill : goal.returns-clause-kill
returns-clause-kill g c = λ old mid new first second. follows_kill (g.M.Machine.disk old) (g.M.Machine.disk mid) (g.M.Machine.disk new) (g.met.M.Machine.lawful mid) first second

pub returns-clause-crash : goal.returns-clause-crash
returns-clause-crash g c = λ old mid new next first second told settled image.
    follows_crash (g.M.Machine.disk old) (g.M.Machine.disk mid) (g.M.Machine.disk new) (g.M.Machine.disk next) (g.met.M.Machine.lawful mid) first second told settled image
