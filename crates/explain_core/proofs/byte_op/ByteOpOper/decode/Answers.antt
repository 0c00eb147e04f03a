use Rattle.explain_core.proofs.ByteCodes.{decoded}
use Rattle.explain_core.proofs.byte_op.ByteOpOper.decode.Goals as goal

pub returns-in-Some-clause-some : goal.returns-in-Some-clause-some
returns-in-Some-clause-some c = decoded c.args.b c.args.bytes.now c.in-Some.op c.in_grammar.result c.in-len3-up.len_at_least c.in-Some.ensures.some c.in_grammar.ensures.some
