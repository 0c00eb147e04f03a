use Rattle.std.proofs.Common.{◌≡◌, ◌∙◌, ap, sym, ℕ, Ok, None}
use Rattle.disk_model.specs.Disk.{Disk}
use Rattle.store_engine.specs.Calls.{IsForcing}
use Rattle.store_engine.specs.Engine.{EngineView, engine_of}
use Rattle.store_engine.specs.declared.work_err.WorkErr.TheVariants.{DiskFault}
use Rattle.store_engine.proofs.Calls.{as_alone}
use Rattle.store_engine.proofs.Ways.{works_err, works_ok}
use Rattle.store_engine.proofs.Works.{counted, forcing}
use Rattle.store_engine.proofs.engine.Engine.force.Given.{Over}
use Rattle.store_engine.proofs.engine.Engine.force.Goals.{After-force}
use Rattle.store_engine.proofs.engine.Engine.force.Goals as goal

module _ (g : Over) (c : After-force g) where
  abbrev old : Disk
  old = g.M.Machine.disk c.args.machine.now

  abbrev new : Disk
  new = g.M.Machine.disk c.force.new.machine

  abbrev after : EngineView
  after = engine_of c.force.new.self c.self.inside.group c.self.inside.copied

  forced : c.args.self.now.group ≡ None → IsForcing g.O.Oper.meaning old new c.args.self.now after (counted c.force.new.self c.force.result)
  forced none =
      as_alone c.self.inside.store c.force.new.self c.self.inside.group c.self.inside.copied c.args.self.now c.self.view_is none (λ before after. IsForcing g.O.Oper.meaning old new before after (counted c.force.new.self c.force.result))
      (forcing g.O.Oper.meaning old new c.self.inside.store c.force.new.self c.self.inside.copied (λ b w steps. c.every_run_keeps.ensures.from_sound b w steps) (λ p files w. c.image_stands.ensures p files w) c.force.result
      c.force.ensures.call c.force.ensures.takes c.force.ensures.forced (λ b w used small running. c.force_may_be_taken.ensures b w used small running))

pub returns-in_err-force-clause-alone : goal.returns-in_err-force-clause-alone
returns-in_err-force-clause-alone g c = λ none.
    let at = (goal.at.returns-in_err-force-clause-alone g c).After-force in
    works_err (λ e. DiskFault) (λ r. IsForcing g.O.Oper.meaning (old g at) (new g at) c.args.self.now (after g at) r) c.from_residual-in_err-force.result (counted c.force.new.self c.force.result) c.in_err-force.field-0.0 c.from_residual-in_err-force.ensures.1
    (ap (counted c.force.new.self) c.in_err-force.was) (forced g at none)

pub returns-clause-alone : goal.returns-clause-alone
returns-clause-alone g c = λ none.
    let at = (goal.at.returns-clause-alone g c).After-force in
    works_ok (λ e. DiskFault) (λ r. IsForcing g.O.Oper.meaning (old g at) (new g at) c.args.self.now (after g at) r) (counted c.force.new.self c.force.result) c.forced.result
    (ap (counted c.force.new.self) c.in_ok-force.was ∙ ap (λ (n : ℕ). Ok n) (sym (c.forced.ensures ∙ ap (λ log. log.forced) c.log.ensures))) (forced g at none)
