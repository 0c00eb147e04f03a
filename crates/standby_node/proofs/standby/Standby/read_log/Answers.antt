use Rattle.std.proofs.Common.{subst}
use Rattle.std.specs.Prelude.{IsErrOf}
use Rattle.store_engine.specs.Engine.{IsEngineRead}
use Rattle.store_engine.specs.declared.ship_err.ShipErr.TheVariants.{DiskFault}
use Rattle.standby_node.specs.Standby.{StandbyView}
use Rattle.standby_node.proofs.Loaded.{read_as, same_err, same_ok}
use Rattle.standby_node.proofs.standby.Standby.read_log.Goals.{in-Ok, in-Err}
use Rattle.standby_node.proofs.standby.Standby.read_log.Goals as goal

pub returns-clause-read : goal.returns-clause-read
returns-clause-read g c =
    let meaning = g.O.Oper.meaning in
    let old = g.M.Machine.disk c.args.machine.now in
    let new = g.M.Machine.disk c.frames.new.machine in
    subst (λ (s : StandbyView). IsEngineRead meaning old new s.engine c.frames.new.self (IsErrOf c.match-frames.result DiskFault)) c.self.view_is (elim c.match-frames.branch [
      | in-Ok w ↦ read_as meaning old new _ _ _ _ (same_ok c.frames.result c.match-frames.result _ _ DiskFault w.in-Ok.is w.result-is) c.frames.ensures.read
      | in-Err w ↦ read_as meaning old new _ _ _ _ (same_err c.frames.result c.match-frames.result _ DiskFault w.in-Err.is w.result-is) c.frames.ensures.read
    ])
