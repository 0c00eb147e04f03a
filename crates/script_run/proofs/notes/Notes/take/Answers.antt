use Rattle.std.proofs.Common.{◌+◌, ◌∙◌, ap, inl, inr, subst, Option}
use Rattle.script_lines.specs.Grammar.{Request}
use Rattle.script_run.specs.Finding.{IsLineOf}
use Rattle.script_run.specs.Noted.{Noted, or_this}
use Rattle.script_run.proofs.LineLemmas.{asks_something}
use Rattle.script_run.proofs.notes.Notes.take.Goals as goal

pub returns-in-None : goal.returns-in-None
returns-in-None c = record {
  lines = c.note.ensures.lines ∙ ap (λ (n : Noted). n.lines + 1) c.self.view_is;
  first_bad = λ text is. inl (subst (λ (a : Option Request). IsLineOf a text) c.in-None.is (c.requires.asks text is), c.note.ensures.first_bad ∙ ap (λ (n : Noted). or_this n.first_bad c.note.new.self.lines) c.self.view_is);
}

pub returns-in_default : goal.returns-in_default
returns-in_default c = record {
  lines = ap (λ (n : Noted). n.lines + 1) c.self.view_is;
  first_bad = λ text is. inr (asks_something text c.args.asked.now c.in_default.not-None (c.requires.asks text is), ap (λ (n : Noted). n.first_bad) c.self.view_is);
}
