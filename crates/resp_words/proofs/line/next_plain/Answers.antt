use Rattle.std.proofs.Common.{◌∙◌, ap, ℕ, ◌∷◌, arith, rules}
use Rattle.resp_words.proofs.Faults.{byte_fault}
use Rattle.resp_words.proofs.Plain.{plain_bad, plain_front, plain_long, plain_read}
use Rattle.resp_words.proofs.line.next_plain.Goals as goal

pub returns-then-line-most : goal.returns-then-line-most
returns-then-line-most c = (plain_long c.args.most c.args.bytes.now c.split_run.result.0.now c.split_run.result.1.now c.split_run.ensures (omega (arith, c.if-line-most.true)), (c.split_run.result.0.now, c.split_run.result.1.now, c.split_run.ensures.is, c.split_run.ensures.passes, omega (arith, c.if-line-most.true)))

pub returns-in_default : goal.returns-in_default
returns-in_default c = plain_front c.args.most c.args.bytes.now c.split_run.result.0.now c.split_run.result.1.now c.split_run.ensures (omega (arith, c.if-line-most.false)) (search rules)

pub returns-then-end-ne10 : goal.returns-then-end-ne10
returns-then-end-ne10 c = (plain_bad c.args.most c.in-Some.end.now c.args.bytes.now c.split_run.result.0.now c.split_run.result.1.now c.in-Some.behind.now c.split_run.ensures c.in-Some.ensures.cases.0 c.if-end-ne10.true, byte_fault c.args.most c.in-Some.end.now c.args.bytes.now c.split_run.result.0.now c.split_run.result.1.now c.in-Some.behind.now c.split_run.ensures c.in-Some.ensures.cases.0 c.if-end-ne10.true (omega (arith, c.if-line-most.false)))

pub returns : goal.returns
returns c =
    plain_read c.args.most c.args.bytes.now c.split_run.result.0.now c.split_run.result.1.now c.in-Some.behind.now c.split_run.ensures (omega (arith, c.if-line-most.false))
    (c.in-Some.ensures.cases.0 ∙ ap (λ (b : ℕ). b ∷ c.in-Some.behind.now) (search rules))
