use Rattle.std.proofs.Common.{◌-◌}
use Rattle.key_entries.proofs.SpotLemmas.{IsReadTo}
use Rattle.key_entries.proofs.standing.spot_of.Given as goal

abbrev pub invariant-loop-read : goal.invariant-loop-read
invariant-loop-read l = IsReadTo l.key l.count l.bytes l.last l.spot (l.count - l._read) l.rest
