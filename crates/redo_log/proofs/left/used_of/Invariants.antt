use Rattle.std.proofs.Common.{◌≡◌, take}
use Rattle.redo_log.specs.Lines.{used}
use Rattle.redo_log.proofs.left.used_of.Given as goal

abbrev pub invariant-loop-byte : goal.invariant-loop-byte
invariant-loop-byte l = (l.seen ≡ l.byte-index) × (l.count ≡ used (take l.byte-index l.bytes))
