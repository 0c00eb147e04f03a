use Rattle.std.proofs.Common.{◌≡◌, ◌+◌, drop}
use Rattle.log_records.specs.Laying.{room_of}
use Rattle.log_records.proofs.planning.file_length.Given as goal

abbrev pub invariant-loop-len : goal.invariant-loop-len
invariant-loop-len l = l.need + room_of (drop l.len-index l.lengths) ≡ 34 + room_of l.lengths
