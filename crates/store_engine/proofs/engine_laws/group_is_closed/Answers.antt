use Rattle.store_engine.proofs.Begins.{ended}
use Rattle.store_engine.proofs.engine_laws.group_is_closed.Goals as goal

pub returns : goal.returns
returns g c = λ p w shows in_one. ended g.O.Oper.meaning p (g.M.Machine.disk c.args.machine.now) c.args.engine.now w (λ b w sound may. c.end_keeps.ensures b w sound may) shows in_one
