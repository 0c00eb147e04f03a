use Rattle.store_engine.proofs.Stops.{stop_said, stop_within}
use Rattle.store_engine.proofs.engine_laws.stop_is_said.Goals as goal

pub returns : goal.returns
returns g c = record {
  alone = λ p w most stop shows at. stop_said g.O.Oper.meaning p (g.M.Machine.disk c.args.machine.now) c.args.engine.now w shows most stop at;
  within = λ p w most stop shows in_one at. stop_within g.O.Oper.meaning p (g.M.Machine.disk c.args.machine.now) c.args.engine.now w shows most in_one stop at;
}
