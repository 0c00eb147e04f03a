use Rattle.std.proofs.Common.{[], sym, ap, subst, Option}
use Rattle.range_calls.specs.ComesLaws.{comes_as, comes_none, ran}
use Rattle.range_calls.specs.JoinLaws.{nothing_reads}
use Rattle.range_calls.specs.Few.{if_any}
use Rattle.range_calls.specs.Rounds.{Comes}
use Rattle.range_calls.specs.Store.{Command}
use Rattle.range_calls.proofs.running.run_any.Goals as goal

pub returns-in-Some : goal.returns-in-Some
returns-in-Some g c =
    subst (λ (o : Option Command). Comes g.S.Store.view (g.M.Machine.disk c.args.machine.now) (g.M.Machine.disk c.run.new.machine) c.args.store.now c.run.new.store (ran (if_any o)) c.run.result) (sym c.in-Some.is) c.run.ensures

pub returns-in-None : goal.returns-in-None
returns-in-None g c =
    comes_as g.S.Store.view (ran []) (ran (if_any c.args.op)) _ (λ p commands holds. ap (λ (o : Option Command). ran (if_any o) p commands) (sym c.in-None.is))
    (comes_none g.S.Store.view (g.M.Machine.disk c.args.machine.now) c.args.store.now _ (nothing_reads g.S.Store.view (g.M.Machine.disk c.args.machine.now) c.args.store.now c.nothing_is_made.ensures.front (c.nothing_is_made.ensures.calls c.requires.unbroken)))
