use Rattle.std.proofs.Common.{◌∙◌, ◌++◌, List, ℕ, [], ◌∷◌, ap, sym}
use Rattle.script_lines.proofs.ReplyLemmas.{said_answer}
use Rattle.script_lines.proofs.answer.answer_line.Goals as goal

pub returns : goal.returns
returns c = c.in_ok-push.ensures.items ∙ ap (λ (l : List ℕ). l ++ 10 ∷ []) c.in_ok-line.ensures ∙ sym (said_answer c.args.answer.now)
