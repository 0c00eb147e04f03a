use Rattle.op_codec.proofs.sum.SumOper.code_length.Goals as goal

pub returns-in-First : goal.returns-in-First
returns-in-First g c = λ b. rw c.in-First.is (c.code_length.ensures b)

pub returns-in-Second : goal.returns-in-Second
returns-in-Second g c = λ b. rw c.in-Second.is (c.code_length-in-Second.ensures b)
