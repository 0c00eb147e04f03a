use Rattle.std.proofs.Common.{refl}
use Rattle.transactions.proofs.Closed.{holds_where_open}
use Rattle.transactions.proofs.beginning.close.Goals as goal

pub returns-clause-holds : goal.returns-clause-holds
returns-clause-holds g c = λ p commands holds.
    holds_where_open g.O.Oper.meaning p (g.M.Machine.disk c.args.machine.now) c.args.engine.now c.end.new.self commands (c.group_is_closed.ensures p) holds c.end.result c.end.ensures.some c.args.engine.now.group refl
