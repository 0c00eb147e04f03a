use Rattle.std.proofs.Common.{refl, false}
use Rattle.std.proofs.lemmas.Bool.{both_ways}
use Rattle.log_records.proofs.Starts.{seen_next, is_next}
use Rattle.log_records.proofs.placing.are_starts.Goals as goal

pub returns-then-not-is_start : goal.returns-then-not-is_start
returns-then-not-is_start c = (
  λ told. absurd (both_ways false refl told),
  λ are. absurd (both_ways c.is_start.result c.if-not-is_start.true
      (c.is_start.ensures.1 (is_next c.args.objects c.args.base c.args.next c.loop-object.least c.args.starts.now c.loop-object.object-index (0, 0) c.loop-object-test.true c.loop-object.invariant are))),
)

pub loop-object-preserved : goal.loop-object-preserved
loop-object-preserved c =
    seen_next c.args.objects c.args.base c.args.next c.loop-object.least c.args.starts.now c.loop-object.object-index (0, 0) c.loop-object-test.true c.loop-object.invariant
    (c.is_start.ensures.0 c.if-not-is_start.false)
