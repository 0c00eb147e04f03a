use Rattle.op_codec.proofs.sum.SumOper.encode.Goals as goal

pub returns-in-First-clause-ok : goal.returns-in-First-clause-ok
returns-in-First-clause-ok g c = λ b. rw c.in-First.is (c.encode.ensures.ok b)

pub returns-in-Second-clause-ok : goal.returns-in-Second-clause-ok
returns-in-Second-clause-ok g c = λ b. rw c.in-Second.is (c.encode-in-Second.ensures.ok b)
