use Rattle.formats.specs.Objects.{bounds_of}
use Rattle.redo_pass.proofs.Begins.{due_shown}
use Rattle.redo_pass.proofs.redo_laws.what_is_due_is_set.Goals as goal

pub returns : goal.returns
returns g c p file it w table n member x shows next below = due_shown (g.O.Oper.meaning (bounds_of p)) p file it w shows table n member x next below
