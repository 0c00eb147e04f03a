use Rattle.std.proofs.Common.{◌≤◌, ◌∙◌, ap, subst, sym}
use Rattle.std.specs.Prelude.{IfSome}
use Rattle.disk_model.specs.Disk.{Disk}
use Rattle.formats.specs.Objects.{bounds_of}
use Rattle.formats.specs.declared.layout.Layout.{Layout}
use Rattle.running_store.specs.StoreView.{next_of, store_params}
use Rattle.store_engine.specs.Commands.{HasRun}
use Rattle.store_engine.specs.Engine.{EngineView, engine_of}
use Rattle.store_engine.proofs.Calls.{begun_still}
use Rattle.store_engine.proofs.Commands.{ran}
use Rattle.store_engine.proofs.ListMachines.{calls_run}
use Rattle.store_engine.proofs.engine.Engine.exec.Given.{Over}
use Rattle.store_engine.proofs.engine.Engine.exec.Goals.{After-execute}
use Rattle.store_engine.proofs.engine.Engine.exec.Goals as goal

pub execute-requires : goal.execute-requires
execute-requires g c = record { unbroken = ap (λ (e : EngineView). e.broken) c.self.view_is ∙ c.requires.unbroken }

pub invariant_of-self : goal.invariant_of-self
invariant_of-self g c = record {
  begun = λ fine.
      begun_still c.self.inside.group (next_of c.self.inside.store) (next_of c.execute.new.store) c.execute.ensures.call.rising
      (c.self.invariant.begun (ap (λ (e : EngineView). e.broken) c.self.view_is ∙ c.requires.unbroken));
  few = subst (λ (l : Layout). IfSome c.self.inside.copied (λ n. n ≤ l.params.objects)) (sym c.execute.ensures.call.layout) c.self.invariant.few;
}

module _ (g : Over) (c : After-execute g) where
  has_run : HasRun g.O.Oper.meaning (g.M.Machine.disk c.args.machine.now) (g.M.Machine.disk c.execute.new.machine) c.args.self.now (engine_of c.execute.new.store c.self.inside.group c.self.inside.copied) c.args.op c.execute.result
  has_run =
      let old : Disk = g.M.Machine.disk c.args.machine.now in
      let new : Disk = g.M.Machine.disk c.execute.new.machine in
      subst (λ (e : EngineView). HasRun g.O.Oper.meaning old new e (engine_of c.execute.new.store c.self.inside.group c.self.inside.copied) c.args.op c.execute.result) c.self.view_is
      (ran g.O.Oper.meaning old new c.self.inside.store c.execute.new.store c.self.inside.group c.self.inside.copied c.args.op c.execute.result c.is_some.result c.is_some.ensures
      (record { call = c.execute.ensures.call; takes = c.execute.ensures.takes; in_world = c.execute.ensures.in_world; outcome = c.execute.ensures.outcome })
      (λ b w steps. c.every_run_keeps.ensures.from_sound b w steps)
      (λ b w used small sound live. c.exec_may_be_taken.ensures b w (store_params c.self.inside.store).limit c.args.op used small sound live)
      (λ p files w. c.image_stands.ensures p files w) (λ p w x. c.live_cache_is_the_map.ensures (bounds_of p) w x) (λ p w begun. c.crash_takes_the_group.ensures.commands (bounds_of p) w begun))

pub returns-clause-run : goal.returns-clause-run
returns-clause-run g c = has_run g (goal.at.returns-clause-run g c).After-execute

pub returns-clause-calls : goal.returns-clause-calls
returns-clause-calls g c =
    calls_run g.O.Oper.meaning (g.M.Machine.disk c.args.machine.now) (g.M.Machine.disk c.execute.new.machine) c.args.self.now (engine_of c.execute.new.store c.self.inside.group c.self.inside.copied) (g.met.M.Machine.lawful c.execute.new.machine) c.args.op c.execute.result
    (has_run g (goal.at.returns-clause-calls g c).After-execute)
