use Rattle.std.proofs.Common.{◌∙◌, arith, drop}
use Rattle.std.proofs.lemmas.Bool.Decides.{nat_tests}
use Rattle.named_words.specs.Forms.{texts}
use Rattle.named_words.proofs.Showing.{full_shown}
use Rattle.named_words.proofs.text.push_shown.Goals as goal

pub returns-then-shown-ge128 : goal.returns-then-shown-ge128
returns-then-shown-ge128 c =
    full_shown c.loop-word.text.items c.loop-word.shown (texts (drop c.loop-word.word-index c.args.words.now)) (grind (arith, nat_tests, c.if-shown-ge128.true)) ∙ c.loop-word.invariant
