use Rattle.std.proofs.Common.{◌≤◌, ◌+◌, ◌*◌, length}
use Rattle.script_lines.proofs.HexLemmas.{Decoded}
use Rattle.script_lines.proofs.hex.short_of.Given as goal

abbrev pub invariant-loop-rest : goal.invariant-loop-rest
invariant-loop-rest l = record {
  decoded : Decoded l.fn.hex l.rest l.bytes.items;
  few : 2 * length l.bytes.items + length l.rest ≤ 64;
}

abbrev pub decreases-loop-rest : goal.decreases-loop-rest
decreases-loop-rest l = length l.rest
