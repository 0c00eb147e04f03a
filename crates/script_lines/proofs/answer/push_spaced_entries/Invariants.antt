use Rattle.std.proofs.Common.{◌≡◌, ◌++◌, take}
use Rattle.std.specs.List.{flat_map}
use Rattle.script_lines.specs.Replies.{spaced_pair}
use Rattle.script_lines.proofs.answer.push_spaced_entries.Given as goal

abbrev pub invariant-loop-pair : goal.invariant-loop-pair
invariant-loop-pair l = l.text.items ≡ l.fn.text.items ++ flat_map spaced_pair (take l.pair-index l.pairs)
