use Rattle.std.proofs.Common.{length}
use Rattle.script_lines.proofs.HexLemmas.{Decoded}
use Rattle.script_lines.proofs.hex.digit_bytes.Given as goal

abbrev pub invariant-loop-rest : goal.invariant-loop-rest
invariant-loop-rest l = Decoded l.fn.digits l.rest l.bytes.items

abbrev pub decreases-loop-rest : goal.decreases-loop-rest
decreases-loop-rest l = length l.rest
