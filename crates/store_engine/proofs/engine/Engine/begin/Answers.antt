use Rattle.std.proofs.Common.{◌≡◌, ◌∙◌, ap, sym, subst, refl, ℕ, Ok, Err, None, Some}
use Rattle.std.specs.Prelude.{Result}
use Rattle.disk_model.specs.Disk.{Disk}
use Rattle.disk_model.specs.declared.machine.Failed.{Failed as Failure}
use Rattle.store_engine.specs.Calls.{IsBeginning, IsForcing}
use Rattle.store_engine.specs.Engine.{EngineView, engine_of}
use Rattle.store_engine.proofs.Begins.{begun, not_begun}
use Rattle.store_engine.proofs.Calls.{as_alone}
use Rattle.store_engine.proofs.Ways.{error_from}
use Rattle.store_engine.proofs.Works.{counted, forcing}
use Rattle.store_engine.proofs.engine.Engine.begin.Given.{Over}
use Rattle.store_engine.proofs.engine.Engine.begin.Goals.{After-force}
use Rattle.store_engine.proofs.engine.Engine.begin.Goals as goal

module _ (g : Over) (c : After-force g) where
  abbrev old : Disk
  old = g.M.Machine.disk c.args.machine.now

  abbrev new : Disk
  new = g.M.Machine.disk c.force.new.machine

  abbrev after : EngineView
  after = engine_of c.force.new.self c.self.inside.group c.self.inside.copied

  forced : c.args.self.now.group ≡ None → IsForcing g.O.Oper.meaning old new c.args.self.now after (counted c.force.new.self c.force.result)
  forced none =
      as_alone c.self.inside.store c.force.new.self c.self.inside.group c.self.inside.copied c.args.self.now c.self.view_is none (λ before after. IsForcing g.O.Oper.meaning old new before after (counted c.force.new.self c.force.result))
      (forcing g.O.Oper.meaning old new c.self.inside.store c.force.new.self c.self.inside.copied (λ b w steps. c.every_run_keeps.ensures.from_sound b w steps) (λ p files w. c.image_stands.ensures p files w) c.force.result
      c.force.ensures.call c.force.ensures.takes c.force.ensures.forced (λ b w used small running. c.force_may_be_taken.ensures b w used small running))

pub returns-in_err-force-clause-alone : goal.returns-in_err-force-clause-alone
returns-in_err-force-clause-alone g c = λ none.
    let at = (goal.at.returns-in_err-force-clause-alone g c).After-force in (
      Err c.in_err-force.field-0.0,
      error_from c.from_residual-in_err-force.result _ c.from_residual-in_err-force.ensures.1,
      not_begun g.O.Oper.meaning (old g at) (new g at) c.args.self.now (after g at) none c.in_err-force.field-0.0
          (subst (λ (r : Result _ Failure). IsForcing g.O.Oper.meaning (old g at) (new g at) c.args.self.now (after g at) (counted c.force.new.self r)) c.in_err-force.was (forced g at none)),
    )

pub returns-clause-alone : goal.returns-clause-alone
returns-clause-alone g c = λ none.
    let at = (goal.at.returns-clause-alone g c).After-force in (
      Ok tt,
      refl,
      subst (λ (n : ℕ). IsBeginning g.O.Oper.meaning (old g at) (new g at) c.args.self.now (engine_of c.force.new.self (Some n) c.self.inside.copied) (Ok tt)) (sym (c.next.ensures ∙ ap (λ log. log.next) c.log.ensures))
          (begun g.O.Oper.meaning (old g at) (new g at) c.args.self.now (after g at) none c.force.new.self.parts.log.forced
          (subst (λ (r : Result _ Failure). IsForcing g.O.Oper.meaning (old g at) (new g at) c.args.self.now (after g at) (counted c.force.new.self r)) c.in_ok-force.was (forced g at none))
          (λ b w sound may. c.begin_keeps.ensures b w sound may)),
    )
