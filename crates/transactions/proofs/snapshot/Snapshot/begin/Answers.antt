use Rattle.std.proofs.Common.{◌∙◌}
use Rattle.transactions.proofs.Kept.{keeps_none}
use Rattle.transactions.proofs.snapshot.Snapshot.begin.Goals as goal

pub returns-clause-begun : goal.returns-clause-begun
returns-clause-begun g c = λ p commands holds. record {
  begun = c.accepted.ensures ∙ (c.engine_stands.ensures p commands holds).accepted;
  keeps = keeps_none g.O.Oper.meaning p c.in_ok-kept.kept commands c.in_ok-kept.ensures;
}
