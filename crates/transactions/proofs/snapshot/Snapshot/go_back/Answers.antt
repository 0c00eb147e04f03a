use Rattle.std.proofs.Common.{arith, take}
use Rattle.transactions.proofs.GoingOn.{goes_back}
use Rattle.transactions.proofs.snapshot.Snapshot.go_back.Goals as goal

pub returns-then-self-accepted-clause-back : goal.returns-then-self-accepted-clause-back
returns-then-self-accepted-clause-back g c = λ p base commands n it holds.
    goes_back g.O.Oper.meaning p c.args.self.now base commands n it (omega (arith, it.begun, c.if-self-accepted.true, c.accepted.ensures, (c.engine_stands.ensures p (take n commands) holds).accepted))

pub returns-clause-back : goal.returns-clause-back
returns-clause-back g c = λ p base commands n it holds. record { begun = it.begun; keeps = tt }
