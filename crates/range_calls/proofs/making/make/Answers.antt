use Rattle.std.proofs.Common.{List, Some, subst, ◌++◌}
use Rattle.running_store.specs.Taking.Ending.{Done}
use Rattle.store_engine.specs.Lists.{ending_of}
use Rattle.range_calls.specs.MakeLaws.{due_done, due_err, due_made}
use Rattle.range_calls.specs.Store.{Command}
use Rattle.range_calls.proofs.making.make.Goals as goal

pub returns-in-Ok-clause-adds : goal.returns-in-Ok-clause-adds
returns-in-Ok-clause-adds g c = λ p commands holds due rest ended.
    subst (λ (l : List Command). g.S.Store.view.adds p (g.M.Machine.disk c.args.machine.now) (g.M.Machine.disk c.exec.new.machine) c.args.store.now c.exec.new.self commands (l ++ rest) Done)
    (due_made p commands c.args.op due) (c.in-Ok.ensures.makes.adds p commands holds rest ended)

pub returns-in-Err-clause-adds : goal.returns-in-Err-clause-adds
returns-in-Err-clause-adds g c = λ p commands holds due rest ended.
    subst (λ (l : List Command). g.S.Store.view.adds p (g.M.Machine.disk c.args.machine.now) (g.M.Machine.disk c.exec.new.machine) c.args.store.now c.exec.new.self commands (l ++ rest) (ending_of (Some c.in-Err.cause)))
    (due_made p commands c.args.op due) (c.in-Err.ensures.makes.adds p commands holds rest ended)

pub returns-in-Ok-clause-answer : goal.returns-in-Ok-clause-answer
returns-in-Ok-clause-answer g c = λ p commands holds due done. due_done p commands c.args.op due (c.in-Ok.ensures.answers p commands holds)

pub returns-in-Err-clause-answer : goal.returns-in-Err-clause-answer
returns-in-Err-clause-answer g c = λ p commands holds due. due_err p commands c.args.op due c.in-Err.cause (c.in-Err.ensures.answers p commands holds)
