use Rattle.std.proofs.Common.{◌≡◌, ◌++◌, drop, map}
use Rattle.named_words.specs.Forms.{texts}
use Rattle.client_sessions.proofs.queueing.kept.Given as goal

abbrev pub invariant-loop-word : goal.invariant-loop-word
invariant-loop-word l = map (λ word. word.items) l.kept.items ++ texts (drop l.word-index l.words) ≡ texts l.words
