use Rattle.std.proofs.Common.{◌≡◌, ◌∙◌, ap, sym, None}
use Rattle.disk_model.specs.Disk.{Disk}
use Rattle.formats.specs.Objects.{bounds_of}
use Rattle.store_engine.specs.Calls.{IsDraining, work_from_install}
use Rattle.store_engine.specs.Engine.{EngineView, engine_of, so_far}
use Rattle.store_engine.proofs.Calls.{as_alone}
use Rattle.store_engine.proofs.Ways.{works_err, works_ok}
use Rattle.store_engine.proofs.Works.{draining}
use Rattle.store_engine.proofs.engine.Engine.drain.Given.{Over}
use Rattle.store_engine.proofs.engine.Engine.drain.Goals.{After-drain}
use Rattle.store_engine.proofs.engine.Engine.drain.Goals as goal

module _ (g : Over) (c : After-drain g) where
  abbrev old : Disk
  old = g.M.Machine.disk c.args.machine.now

  abbrev new : Disk
  new = g.M.Machine.disk c.drain.new.machine

  abbrev after : EngineView
  after = engine_of c.drain.new.store c.self.inside.group c.self.inside.copied

  worked : c.args.self.now.group ≡ None → IsDraining g.O.Oper.meaning old new c.args.self.now after c.drain.result
  worked none =
      as_alone c.self.inside.store c.drain.new.store c.self.inside.group c.self.inside.copied c.args.self.now c.self.view_is none (λ before after. IsDraining g.O.Oper.meaning old new before after c.drain.result)
      (draining g.O.Oper.meaning old new c.self.inside.store c.drain.new.store c.self.inside.copied (λ b w steps. c.every_run_keeps.ensures.from_sound b w steps) (λ p files w. c.image_stands.ensures p files w)
      c.copied_so_far-copied.result (c.copied_so_far-copied.ensures ∙ ap (λ (e : EngineView). so_far e.copied) (sym c.self.view_is)) c.drain.result
      c.drain.ensures.call c.drain.ensures.takes c.drain.ensures.count c.drain.ensures.bounded c.drain.ensures.few c.drain.ensures.drained c.drain.ensures.clean (λ b w used small running. c.drain_may_be_taken.ensures.taken b (so_far c.self.inside.copied) w used small running) (λ p w used small running. c.drain_is_bounded.ensures.removed (bounds_of p) (so_far c.self.inside.copied) w used small running))

pub returns-in_err-drain-clause-alone : goal.returns-in_err-drain-clause-alone
returns-in_err-drain-clause-alone g c = λ none.
    let at = (goal.at.returns-in_err-drain-clause-alone g c).After-drain in
    works_err work_from_install (λ r. IsDraining g.O.Oper.meaning (old g at) (new g at) c.args.self.now (after g at) r) c.from_residual-in_err-drain.result c.drain.result c.in_err-drain.field-0.0 c.from_residual-in_err-drain.ensures.1 c.in_err-drain.was (worked g at none)

pub returns-clause-alone : goal.returns-clause-alone
returns-clause-alone g c = λ none.
    let at = (goal.at.returns-clause-alone g c).After-drain in
    works_ok work_from_install (λ r. IsDraining g.O.Oper.meaning (old g at) (new g at) c.args.self.now (after g at) r) c.drain.result c.in_ok-drain.field-0 c.in_ok-drain.was (worked g at none)
