-- The line that says that a command was done.
use Rattle.std.proofs.Common.{◌≡◌, ◌∷◌, ◌∙◌, [], ap, refl}
use Rattle.script_lines.specs.Replies.{reply_of, said_line, text_of}
use Rattle.script_lines.specs.declared.answer.Answer.{Answer}
use Rattle.script_lines.specs.declared.answer.Answer.TheVariants.{Done}

done_line : said_line (reply_of Done) ≡ 111 ∷ 107 ∷ 10 ∷ []
unfolding text_of
done_line = refl

pub said_done : (answer : Answer) → answer ≡ Done → said_line (reply_of answer) ≡ 111 ∷ 107 ∷ 10 ∷ []
said_done answer is = ap (λ (a : Answer). said_line (reply_of a)) is ∙ done_line
