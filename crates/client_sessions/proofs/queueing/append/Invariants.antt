use Rattle.std.proofs.Common.{◌≡◌, ◌++◌, drop, map}
use Rattle.named_words.specs.Forms.{texts}
use Rattle.client_sessions.proofs.queueing.append.Given as goal

abbrev pub invariant-loop-word : goal.invariant-loop-word
invariant-loop-word l = map (λ name. name.items) l.names.items ++ texts (drop l.word-index l.words) ≡ map (λ name. name.items) l.fn.names.items ++ texts l.words
