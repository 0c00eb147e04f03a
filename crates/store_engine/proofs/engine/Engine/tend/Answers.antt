use Rattle.std.proofs.Common.{◌≡◌, ◌∙◌, ap, sym, None}
use Rattle.std.specs.Prelude.{max}
use Rattle.disk_model.specs.Disk.{Disk}
use Rattle.store_engine.specs.Calls.{IsTending, work_from_install}
use Rattle.store_engine.specs.Engine.{EngineView, engine_of, so_far}
use Rattle.store_engine.proofs.Calls.{as_alone}
use Rattle.store_engine.proofs.Ways.{works_err, works_ok}
use Rattle.store_engine.proofs.Works.{tending}
use Rattle.store_engine.proofs.engine.Engine.tend.Given.{Over}
use Rattle.store_engine.proofs.engine.Engine.tend.Goals.{After-tend}
use Rattle.store_engine.proofs.engine.Engine.tend.Goals as goal

module _ (g : Over) (c : After-tend g) where
  abbrev old : Disk
  old = g.M.Machine.disk c.args.machine.now

  abbrev new : Disk
  new = g.M.Machine.disk c.tend.new.machine

  abbrev after : EngineView
  after = engine_of c.tend.new.store c.self.inside.group c.self.inside.copied

  worked : c.args.self.now.group ≡ None → IsTending g.O.Oper.meaning old new c.args.self.now after (max 1 c.args.most) c.tend.result
  worked none =
      as_alone c.self.inside.store c.tend.new.store c.self.inside.group c.self.inside.copied c.args.self.now c.self.view_is none (λ before after. IsTending g.O.Oper.meaning old new before after (max 1 c.args.most) c.tend.result)
      (tending g.O.Oper.meaning old new c.self.inside.store c.tend.new.store c.self.inside.copied (λ b w steps. c.every_run_keeps.ensures.from_sound b w steps) (λ p files w. c.image_stands.ensures p files w)
      c.copied_so_far-copied.result (c.copied_so_far-copied.ensures ∙ ap (λ (e : EngineView). so_far e.copied) (sym c.self.view_is)) (max 1 c.args.most) c.tend.result
      c.tend.ensures.call c.tend.ensures.takes c.tend.ensures.count c.tend.ensures.tells (λ b w used small running. c.turn_may_be_taken.ensures b (so_far c.self.inside.copied) (max 1 c.args.most) w used small running))

pub returns-in_err-tend-clause-alone : goal.returns-in_err-tend-clause-alone
returns-in_err-tend-clause-alone g c = λ none.
    let at = (goal.at.returns-in_err-tend-clause-alone g c).After-tend in
    works_err work_from_install (λ r. IsTending g.O.Oper.meaning (old g at) (new g at) c.args.self.now (after g at) (max 1 c.args.most) r) c.from_residual-in_err-tend.result c.tend.result c.in_err-tend.field-0.0 c.from_residual-in_err-tend.ensures.1 c.in_err-tend.was (worked g at none)

pub returns-clause-alone : goal.returns-clause-alone
returns-clause-alone g c = λ none.
    let at = (goal.at.returns-clause-alone g c).After-tend in
    works_ok work_from_install (λ r. IsTending g.O.Oper.meaning (old g at) (new g at) c.args.self.now (after g at) (max 1 c.args.most) r) c.tend.result c.in_ok-tend.field-0 c.in_ok-tend.was (worked g at none)
