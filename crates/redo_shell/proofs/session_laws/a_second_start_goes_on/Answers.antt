use Rattle.shell_base.specs.declared.budget.Budget.TheVariants.{Usual}
use Rattle.redo_shell.proofs.AgainLemmas.{call_twice, refused_still}
use Rattle.redo_shell.proofs.session_laws.a_second_start_goes_on.Goals as goal

pub returns-clause-stands : goal.returns-clause-stands
returns-clause-stands g c = λ budget asked p commands old mid input tells opens call.
    refused_still budget asked (g.S.Source.tells input) (g.S.Source.left input) (g.S.Source.left input) p commands (g.M.Machine.disk old) (g.M.Machine.disk mid) tells opens call

pub returns-clause-twice : goal.returns-clause-twice
returns-clause-twice g c = λ asked p commands old mid new input end status tells opens time first second.
    call_twice (g.met.M.Machine.lawful old) (g.met.M.Machine.lawful mid) tells opens time
    (refused_still Usual asked (g.S.Source.tells input) (g.S.Source.left input) (g.S.Source.left input) p commands (g.M.Machine.disk old) (g.M.Machine.disk mid) tells opens first) (g.M.Machine.disk new)
    c.standing_files_meet_their_format.ensures.few asked (g.S.Source.tells input) (g.S.Source.left input) (g.S.Source.left end) status first second
