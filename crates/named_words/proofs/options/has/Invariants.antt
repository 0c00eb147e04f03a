use Rattle.std.proofs.Common.{◌≡◌, drop}
use Rattle.named_words.specs.Forms.{texts}
use Rattle.named_words.specs.Reading.{has}
use Rattle.named_words.proofs.options.has.Given as goal

abbrev pub invariant-loop-option : goal.invariant-loop-option
invariant-loop-option l = has (texts (drop l.option-index l.options)) l.word ≡ has (texts l.options) l.word
