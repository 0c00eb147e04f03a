use Rattle.std.proofs.Common.{◌≡◌, ◌++◌, take}
use Rattle.std.specs.List.{flat_map}
use Rattle.shell_base.specs.Notices.{spaced}
use Rattle.shell_base.proofs.notice.numbered_line.Given as goal

abbrev pub invariant-loop-number : goal.invariant-loop-number
invariant-loop-number l = l.line.items ≡ l.fn.text ++ flat_map spaced (take l.number-index l.numbers)
