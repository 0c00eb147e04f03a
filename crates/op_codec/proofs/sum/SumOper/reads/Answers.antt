use Rattle.op_codec.proofs.sum.SumOper.reads.Goals as goal

pub returns-in-First : goal.returns-in-First
returns-in-First g c = λ b. rw c.in-First.is (c.reads.ensures b)

pub returns-in-Second : goal.returns-in-Second
returns-in-Second g c = λ b. rw c.in-Second.is (c.reads-in-Second.ensures b)
