use Rattle.std.proofs.Common.{◌≡◌, ◌∙◌, ℕ, List, refl}
use Rattle.script_lines.specs.Replies.{hex_text, text_of}
use Rattle.script_lines.specs.Replies.Reply.{value}
use Rattle.redo_log.proofs.words.hex.Goals as goal

value_text : (bytes : List ℕ) → text_of (value bytes) ≡ hex_text bytes
unfolding text_of
value_text bytes = refl

pub returns : goal.returns
returns c = c.in_ok-text.ensures ∙ value_text c.args.bytes.now
