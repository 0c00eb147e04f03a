use Rattle.std.proofs.Common.{◌≡◌, ◌++◌, drop, map}
use Rattle.named_words.specs.Forms.{texts}
use Rattle.client_sessions.proofs.queueing.lent.Given as goal

abbrev pub invariant-loop-word : goal.invariant-loop-word
invariant-loop-word l = texts l.lent.items ++ map (λ word. word.items) (drop l.word-index l.words) ≡ map (λ word. word.items) l.words
