use Rattle.std.proofs.Common.{◌∙◌, ap, subst, sym, List, ℕ, []}
use Rattle.script_lines.specs.Replies.{value}
use Rattle.script_run.specs.Finding.{IsReadable, outcome_reply}
use Rattle.script_run.specs.declared.outcome.Outcome.{Outcome}
use Rattle.script_run.proofs.outcome.Outcome.answer.Goals as goal

pub get-requires : goal.get-requires
get-requires c = subst (λ (o : Outcome). IsReadable c.args.engine.now o) c.in-Cached.is c.requires

pub returns-in-Cached : goal.returns-in-Cached
returns-in-Cached c = ap (λ (bytes : List ℕ). value bytes) (c.get.ensures.value []) ∙ ap (λ (o : Outcome). outcome_reply c.args.engine.now o) (sym c.in-Cached.is)
