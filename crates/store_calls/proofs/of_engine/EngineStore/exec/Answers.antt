use Rattle.std.proofs.Common.{refl}
use Rattle.store_calls.proofs.EngineRuns.{adds_done, adds_err, answers_err, engine_calls, run_keeps}
use Rattle.store_calls.proofs.of_engine.EngineStore.exec.Goals as goal

pub returns-in-Ok : goal.returns-in-Ok
returns-in-Ok g c =
    let laws = c.exec_goes_on.ensures in record {
      makes = record {
        calls = engine_calls g.O.Oper.meaning c.in-Ok.ensures.calls;
        adds = λ p commands holds rest ended.
            adds_done g.O.Oper.meaning g.M.Machine.disk c.args.machine.now c.args.self.now c.exec.new.machine c.exec.new.self c.nothing_is_made.ensures.front c.args.op laws.done laws.refused laws.stopped laws.failed p commands holds
            c.in-Ok.field-0 c.in-Ok.ensures.run rest (ended refl);
      };
      answers = λ p commands holds. (c.in-Ok.ensures.run.on_map p commands holds).0;
      keeps = tt;
    }

pub returns-in-Err : goal.returns-in-Err
returns-in-Err g c =
    let laws = c.exec_goes_on.ensures in record {
      makes = record {
        calls = engine_calls g.O.Oper.meaning c.in-Err.ensures.calls;
        adds = λ p commands holds.
            adds_err g.O.Oper.meaning g.M.Machine.disk c.args.machine.now c.args.self.now c.exec.new.machine c.exec.new.self c.nothing_is_made.ensures.front c.args.op laws.done laws.refused laws.stopped laws.failed p commands holds
            c.in-Err.cause c.in-Err.ensures.run;
      };
      answers = λ p commands holds.
          answers_err g.O.Oper.meaning g.M.Machine.disk c.args.machine.now c.args.self.now c.exec.new.machine c.exec.new.self c.nothing_is_made.ensures.front c.args.op laws.done laws.refused laws.stopped laws.failed p commands holds
          c.in-Err.cause c.in-Err.ensures.run;
      keeps = run_keeps g.O.Oper.meaning c.args.op c.in-Err.cause c.in-Err.ensures.run;
    }
