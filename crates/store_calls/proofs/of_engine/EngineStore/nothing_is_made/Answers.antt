use Rattle.store_calls.proofs.EngineRuns.{engine_calls, starts}
use Rattle.store_calls.proofs.of_engine.EngineStore.nothing_is_made.Goals as goal

pub returns : goal.returns
returns g c = record {
  front = λ p commands holds. starts g.O.Oper.meaning g.M.Machine.disk c.args.machine.now c.args.self.now c.nothing_is_made.ensures.front p commands;
  calls = λ unbroken. engine_calls g.O.Oper.meaning (c.nothing_is_made.ensures.calls unbroken);
}
