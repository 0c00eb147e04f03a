use Rattle.std.proofs.Common.{List, Some, subst, ◌++◌}
use Rattle.running_store.specs.Taking.Ending.{Done}
use Rattle.store_engine.specs.Lists.{ending_of}
use Rattle.range_calls.specs.Store.{Command}
use Rattle.range_calls.proofs.RunLemmas.{alone_done, alone_err, alone_made}
use Rattle.range_calls.proofs.running.run.Goals as goal

pub returns-in-Ok : goal.returns-in-Ok
returns-in-Ok g c = record {
  makes = record {
    calls = c.in-Ok.ensures.makes.calls;
    adds = λ p commands holds rest ended.
        subst (λ (l : List Command). g.S.Store.view.adds p (g.M.Machine.disk c.args.machine.now) (g.M.Machine.disk c.exec.new.machine) c.args.store.now c.exec.new.self commands (l ++ rest) Done)
        (alone_made _ p commands c.args.op) (c.in-Ok.ensures.makes.adds p commands holds rest ended);
  };
  answer = λ p commands holds done. alone_done _ p commands c.args.op (c.in-Ok.ensures.answers p commands holds);
}

pub returns-in-Err : goal.returns-in-Err
returns-in-Err g c = record {
  makes = record {
    calls = c.in-Err.ensures.makes.calls;
    adds = λ p commands holds rest ended.
        subst (λ (l : List Command). g.S.Store.view.adds p (g.M.Machine.disk c.args.machine.now) (g.M.Machine.disk c.exec.new.machine) c.args.store.now c.exec.new.self commands (l ++ rest) (ending_of (Some c.in-Err.cause)))
        (alone_made _ p commands c.args.op) (c.in-Err.ensures.makes.adds p commands holds rest ended);
  };
  answer = λ p commands holds. alone_err _ p commands c.args.op c.in-Err.cause (c.in-Err.ensures.answers p commands holds);
}
