use Rattle.std.proofs.Common.{arith, refl}
use Rattle.std.proofs.lemmas.Grind.{common_steps}
use Rattle.resp_words.proofs.Numbers.{number_none, number_not, number_front, number_bad, number_read}
use Rattle.resp_words.proofs.number.next_number.Goals as goal

pub returns-then-is_empty : goal.returns-then-is_empty
returns-then-is_empty c = number_none c.args.most c.args.bytes.now (grind (arith, common_steps, c.if-is_empty.ensures))

pub returns-in_default : goal.returns-in_default
returns-in_default c = (number_not c.args.most c.args.bytes.now c.split_run.result.0.now c.split_run.result.1.now (omega (arith, c.ranges.most.fits)) c.split_run.ensures (grind (arith, common_steps, c.if-is_empty.ensures)) c.in_default.ensures.none, refl)

pub returns-in-More : goal.returns-in-More
returns-in-More c = number_front c.args.most c.in-Some.number c.args.bytes.now c.split_run.result.0.now c.split_run.result.1.now (omega (arith, c.ranges.most.fits)) c.split_run.ensures c.in-Some.ensures.some c.in-Some.ensures.small c.in-More.ensures

pub returns-in-Bad : goal.returns-in-Bad
returns-in-Bad c = (number_bad c.args.most c.args.bytes.now c.split_run.result.0.now c.split_run.result.1.now (omega (arith, c.ranges.most.fits)) c.split_run.ensures c.in-Bad.ensures.0, c.in-Bad.ensures.1)

pub returns-in-Whole : goal.returns-in-Whole
returns-in-Whole c = number_read c.args.most c.in-Some.number c.args.bytes.now c.split_run.result.0.now c.split_run.result.1.now c.in-Whole.rest.now c.split_run.ensures c.in-Some.ensures.some c.in-Some.ensures.small c.in-Whole.ensures
