use Rattle.std.proofs.Common.{◌≡◌, take}
use Rattle.resp_words.specs.Replies.{in_line}
use Rattle.resp_words.proofs.reply.text_in_line.Given as goal

abbrev pub invariant-loop-byte : goal.invariant-loop-byte
invariant-loop-byte l = l.line.items ≡ in_line (take l.byte-index l.text)
