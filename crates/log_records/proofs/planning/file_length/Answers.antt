use Rattle.std.proofs.Common.{ap, arith}
use Rattle.std.proofs.lemmas.List.{drop_all}
use Rattle.log_records.specs.Laying.{room_of}
use Rattle.log_records.proofs.Laid.{drop_next}
use Rattle.log_records.proofs.planning.file_length.Goals as goal

pub overflow_add-need-in-loop-len : goal.overflow_add-need-in-loop-len
overflow_add-need-in-loop-len c =
    omega (arith, c.loop-len.invariant, c.requires, ap room_of (drop_next c.args.lengths.now c.loop-len.len-index c.loop-len-test.true))

pub loop-len-preserved : goal.loop-len-preserved
loop-len-preserved c =
    omega (arith, c.loop-len.invariant, ap room_of (drop_next c.args.lengths.now c.loop-len.len-index c.loop-len-test.true))

pub returns : goal.returns
returns c = omega (arith, c.loop-len.invariant, ap room_of (drop_all c.loop-len.len-index c.args.lengths.now c.loop-len-test.false))
