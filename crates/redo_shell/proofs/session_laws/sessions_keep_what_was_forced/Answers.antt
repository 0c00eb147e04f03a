use Rattle.redo_shell.proofs.SessionLemmas.{survive, arise}
use Rattle.redo_shell.proofs.session_laws.sessions_keep_what_was_forced.Goals as goal

pub returns-clause-from_store : goal.returns-clause-from_store
returns-clause-from_store g c = λ p commands first last sizes runs told here sessions.
    let end = survive g.M.Machine.disk g.met.M.Machine.lawful p commands first told (here.1 told) sessions in
    (end.1 (g.M.Machine.disk last).reads (g.M.Machine.disk last).said ((g.met.M.Machine.lawful last).as_read end.0), λ tells. end.1)

pub returns-clause-from_none : goal.returns-clause-from_none
returns-clause-from_none g c = λ first last sizes runs told here sessions.
    let end = arise g.M.Machine.disk g.met.M.Machine.lawful first told (here.1 told) sessions in
    (end.1 (g.M.Machine.disk last).reads (g.M.Machine.disk last).said ((g.met.M.Machine.lawful last).as_read end.0), λ tells. end.1)
