use Rattle.redo_shell.proofs.SavedLemmas.{lasts}
use Rattle.redo_shell.proofs.session_laws.a_saved_backup_lasts.Goals as goal

pub returns : goal.returns
returns g c = λ p commands first last told here calls.
    let end = lasts g.T.Machine.disk g.met.T.Machine.lawful p commands first told (here.1 told) calls in
    (end.1 (g.T.Machine.disk last).reads (g.T.Machine.disk last).said ((g.met.T.Machine.lawful last).as_read end.0), λ tells. end.1)
