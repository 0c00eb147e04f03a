use Rattle.std.proofs.Common.{◌≡◌, drop}
use Rattle.std.specs.List.{list_any}
use Rattle.named_words.specs.Forms.{texts}
use Rattle.named_words.specs.Verbs.{is_word}
use Rattle.named_words.proofs.options.is_among.Given as goal

abbrev pub invariant-loop-word : goal.invariant-loop-word
invariant-loop-word l = list_any (is_word l.option) (texts (drop l.word-index l.words)) ≡ list_any (is_word l.option) (texts l.words)
