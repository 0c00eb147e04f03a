use Rattle.std.proofs.Common.{sym, subst}
use Rattle.store_engine.specs.Engine.{Holds, Says}
use Rattle.standby_node.specs.Standby.{StandbyView}
use Rattle.standby_node.proofs.standby_laws.standby_stands.Goals as goal

pub returns : goal.returns
returns g c = λ p commands holds.
    subst (λ (s : StandbyView). Says g.O.Oper.meaning p (g.M.Machine.disk c.args.machine.now) s.engine commands) c.standby.view_is
    (c.engine_stands.ensures p commands (subst (λ (s : StandbyView). Holds g.O.Oper.meaning p (g.M.Machine.disk c.args.machine.now) s.engine commands) (sym c.standby.view_is) holds))
