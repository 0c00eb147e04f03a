use Rattle.store_engine.proofs.ListMachines.{calls_none}
use Rattle.store_engine.proofs.ListStart.{front_none}
use Rattle.store_engine.proofs.lists.nothing_is_made.Goals as goal

pub returns-clause-front : goal.returns-clause-front
returns-clause-front g c = λ p commands holds.
    front_none g.O.Oper.meaning p (g.M.Machine.disk c.args.machine.now) c.args.engine.now commands holds (g.met.M.Machine.lawful c.args.machine.now) (c.engine_stands.ensures p commands holds)

pub returns-clause-calls : goal.returns-clause-calls
returns-clause-calls g c = λ fine. calls_none g.O.Oper.meaning (g.M.Machine.disk c.args.machine.now) c.args.engine.now fine
