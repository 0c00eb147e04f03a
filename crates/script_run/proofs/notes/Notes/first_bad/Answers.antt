use Rattle.std.proofs.Common.{◌∙◌, ap, sym}
use Rattle.script_run.specs.Noted.{Noted}
use Rattle.script_run.proofs.notes.Notes.first_bad.Goals as goal

pub returns-in-Some : goal.returns-in-Some
returns-in-Some c = sym c.in-Some.is ∙ ap (λ (n : Noted). n.first_bad) c.self.view_is

pub returns-in-None : goal.returns-in-None
returns-in-None c = sym c.in-None.is ∙ ap (λ (n : Noted). n.first_bad) c.self.view_is
