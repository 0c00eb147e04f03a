use Rattle.formats.specs.Objects.{bounds_of}
use Rattle.backup_copy.proofs.Going.{gone_on, kept_copies}
use Rattle.backup_copy.proofs.beside_a_backup.copies_go_on.Goals as goal

pub returns-clause-steps : goal.returns-clause-steps
returns-clause-steps g c = λ p old new before after w steps taken t copies may begins shows same.
    gone_on g.O.Oper.meaning p (g.M.Machine.disk old) (g.M.Machine.disk new) (g.T.Machine.disk t) before after w steps taken (λ b copied cells w steps taken small sound is may begins. c.a_copy_goes_on.ensures.some b copied cells w steps taken small sound is may begins) copies may begins shows same

pub returns-clause-commands : goal.returns-clause-commands
returns-clause-commands g c = λ p old new before after w limit used ops t copies shows same.
    kept_copies g.O.Oper.meaning p (g.M.Machine.disk old) (g.M.Machine.disk new) (g.T.Machine.disk t) before after w _ copies shows same
    (c.a_copy_goes_on.ensures.commands (bounds_of p) copies.done limit copies.cells ops w used copies.copied)
