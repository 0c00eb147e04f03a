use Rattle.std.proofs.Common.{◌≡◌, drop}
use Rattle.std.specs.FinMap.Entries.{find}
use Rattle.key_entries.specs.Entries.{byte_order}
use Rattle.key_entries.proofs.pairs.value_in.Given as goal

abbrev pub invariant-loop-i : goal.invariant-loop-i
invariant-loop-i l = find byte_order l.key l.pairs ≡ find byte_order l.key (drop l.i l.pairs)
