use Rattle.std.proofs.Common.{◌≡◌, drop}
use Rattle.named_words.specs.Forms.{texts}
use Rattle.named_words.specs.Reading.{are_among}
use Rattle.named_words.proofs.options.are_among.Given as goal

abbrev pub invariant-loop-option : goal.invariant-loop-option
invariant-loop-option l = are_among (texts (drop l.option-index l.options)) (texts l.words) ≡ are_among (texts l.options) (texts l.words)
