use Rattle.std.proofs.Common.{◌≡◌, ◌∙◌, ap, sym, None}
use Rattle.disk_model.specs.Disk.{Disk}
use Rattle.store_engine.specs.Calls.{IsInstalling, work_from_install}
use Rattle.store_engine.specs.Engine.{EngineView, engine_of, so_far}
use Rattle.store_engine.proofs.Calls.{as_alone}
use Rattle.store_engine.proofs.Ways.{works_err, works_ok}
use Rattle.store_engine.proofs.Works.{installing}
use Rattle.store_engine.proofs.engine.Engine.install_one.Given.{Over}
use Rattle.store_engine.proofs.engine.Engine.install_one.Goals.{After-install_one}
use Rattle.store_engine.proofs.engine.Engine.install_one.Goals as goal

module _ (g : Over) (c : After-install_one g) where
  abbrev old : Disk
  old = g.M.Machine.disk c.args.machine.now

  abbrev new : Disk
  new = g.M.Machine.disk c.install_one.new.machine

  abbrev after : EngineView
  after = engine_of c.install_one.new.store c.self.inside.group c.self.inside.copied

  worked : c.args.self.now.group ≡ None → IsInstalling g.O.Oper.meaning old new c.args.self.now after c.install_one.result
  worked none =
      as_alone c.self.inside.store c.install_one.new.store c.self.inside.group c.self.inside.copied c.args.self.now c.self.view_is none (λ before after. IsInstalling g.O.Oper.meaning old new before after c.install_one.result)
      (installing g.O.Oper.meaning old new c.self.inside.store c.install_one.new.store c.self.inside.copied (λ b w steps. c.every_run_keeps.ensures.from_sound b w steps) (λ p files w. c.image_stands.ensures p files w)
      c.copied_so_far-copied.result (c.copied_so_far-copied.ensures ∙ ap (λ (e : EngineView). so_far e.copied) (sym c.self.view_is)) c.install_one.result
      c.install_one.ensures.call c.install_one.ensures.takes c.install_one.ensures.told c.install_one.ensures.tells (λ b w used small running. c.install_may_be_taken.ensures b (so_far c.self.inside.copied) w used small running))

pub returns-in_err-install_one-clause-alone : goal.returns-in_err-install_one-clause-alone
returns-in_err-install_one-clause-alone g c = λ none.
    let at = (goal.at.returns-in_err-install_one-clause-alone g c).After-install_one in
    works_err work_from_install (λ r. IsInstalling g.O.Oper.meaning (old g at) (new g at) c.args.self.now (after g at) r) c.from_residual-in_err-install_one.result c.install_one.result c.in_err-install_one.field-0.0 c.from_residual-in_err-install_one.ensures.1 c.in_err-install_one.was (worked g at none)

pub returns-clause-alone : goal.returns-clause-alone
returns-clause-alone g c = λ none.
    let at = (goal.at.returns-clause-alone g c).After-install_one in
    works_ok work_from_install (λ r. IsInstalling g.O.Oper.meaning (old g at) (new g at) c.args.self.now (after g at) r) c.install_one.result c.in_ok-install_one.field-0 c.in_ok-install_one.was (worked g at none)
