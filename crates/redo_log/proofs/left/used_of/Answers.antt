use Rattle.std.proofs.Common.{◌+◌, arith}
use Rattle.redo_log.proofs.UsedLemmas.{used_next}
use Rattle.redo_log.proofs.left.used_of.Goals as goal

pub loop-byte-preserved : goal.loop-byte-preserved
loop-byte-preserved c = (
  omega (arith, c.loop-byte.invariant.0),
  used_next c.args.bytes.now c.loop-byte.byte-index c.loop-byte.count (c.loop-byte.seen + 1) c.used_after-count.result c.loop-byte-test.true (omega (arith, c.loop-byte.invariant.0)) c.loop-byte.invariant.1 c.used_after-count.ensures,
)
