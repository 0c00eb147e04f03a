use Rattle.std.proofs.Common.{◌∙◌, ap, refl, sym}
use Rattle.script_run.specs.Noted.{Noted}
use Rattle.script_run.proofs.NotedLemmas.{first_kept, first_now}
use Rattle.script_run.proofs.notes.Notes.note.Goals as goal

pub returns-in-Some-clause-lines : goal.returns-in-Some-clause-lines
returns-in-Some-clause-lines c = refl

pub returns-in-Some-clause-first_bad : goal.returns-in-Some-clause-first_bad
returns-in-Some-clause-first_bad c = first_kept c.args.self.now.lines (sym (ap (λ (n : Noted). n.first_bad) c.self.view_is) ∙ c.in-Some.is) refl

pub returns-in-None-clause-lines : goal.returns-in-None-clause-lines
returns-in-None-clause-lines c = ap (λ (n : Noted). n.lines) c.self.view_is

pub returns-in-None-clause-first_bad : goal.returns-in-None-clause-first_bad
returns-in-None-clause-first_bad c = first_now c.in-None.is (ap (λ (n : Noted). n.first_bad) c.self.view_is)
