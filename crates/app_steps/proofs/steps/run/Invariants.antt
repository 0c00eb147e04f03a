use Rattle.std.proofs.Common.{List}
use Rattle.std.specs.Prelude.{None}
use Rattle.formats.specs.declared.params.Params.{Params}
use Rattle.op_codec.specs.AllOps.{AllOps}
use Rattle.store_calls.specs.Making.{Calls}
use Rattle.app_steps.proofs.Ending.{IsMade}
use Rattle.app_steps.proofs.steps.run.Given as goal

abbrev pub invariant-loop-done : goal.invariant-loop-done
invariant-loop-done g l = record {
  unbroken : g.S.Store.view.unbroken l.store;
  calls : Calls g.S.Store.view (g.M.Machine.disk l.fn.machine) (g.M.Machine.disk l.machine) l.fn.store l.store None;
  made : (p : Params) (commands : List AllOps) → g.S.Store.view.holds p (g.M.Machine.disk l.fn.machine) l.fn.store commands →
      IsMade g.S.Store.view p (g.M.Machine.disk l.fn.machine) (g.M.Machine.disk l.machine) l.fn.store l.store commands (g.A.Steps.command l.app) l.most l.done;
}
