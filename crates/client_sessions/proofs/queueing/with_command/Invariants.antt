use Rattle.std.proofs.Common.{◌≡◌, ◌+◌, drop}
use Rattle.named_words.specs.Forms.{texts}
use Rattle.client_sessions.specs.Sessions.{cost}
use Rattle.client_sessions.proofs.queueing.with_command.Given as goal

abbrev pub invariant-loop-word : goal.invariant-loop-word
invariant-loop-word l = l.sum + cost (texts (drop l.word-index l.words)) ≡ l.held + cost (texts l.words)
