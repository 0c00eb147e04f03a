use Rattle.std.proofs.Common.{◌≡◌, ◌++◌, drop}
use Rattle.named_words.specs.Forms.{texts}
use Rattle.named_words.specs.Refusals.{shown_behind}
use Rattle.named_words.proofs.text.push_shown.Given as goal

abbrev pub invariant-loop-word : goal.invariant-loop-word
invariant-loop-word l = l.text.items ++ shown_behind l.shown (texts (drop l.word-index l.words)) ≡ l.fn.text.items ++ shown_behind 0 (texts l.words)
