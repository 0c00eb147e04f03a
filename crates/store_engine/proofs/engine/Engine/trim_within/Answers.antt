use Rattle.std.proofs.Common.{◌≡◌, subst, ℕ, None}
use Rattle.std.specs.Prelude.{min}
use Rattle.disk_model.specs.Disk.{Disk}
use Rattle.formats.specs.Limits.{log_limit}
use Rattle.store_engine.specs.Calls.{IsTrimmingWithin, work_from_rewrite}
use Rattle.store_engine.specs.Engine.{EngineView, engine_of}
use Rattle.store_engine.proofs.Calls.{as_alone}
use Rattle.store_engine.proofs.Ways.{works_err, works_ok}
use Rattle.store_engine.proofs.Works.{trimming}
use Rattle.store_engine.proofs.engine.Engine.trim_within.Given.{Over}
use Rattle.store_engine.proofs.engine.Engine.trim_within.Goals.{After-trim}
use Rattle.store_engine.proofs.engine.Engine.trim_within.Goals as goal

module _ (g : Over) (c : After-trim g) where
  abbrev old : Disk
  old = g.M.Machine.disk c.args.machine.now

  abbrev new : Disk
  new = g.M.Machine.disk c.trim.new.machine

  abbrev after : EngineView
  after = engine_of c.trim.new.store c.self.inside.group c.self.inside.copied

  worked : c.args.self.now.group ≡ None → IsTrimmingWithin g.O.Oper.meaning old new c.args.self.now after (min c.args.room log_limit) c.trim.result
  worked none =
      subst (λ (most : ℕ). IsTrimmingWithin g.O.Oper.meaning old new c.args.self.now after most c.trim.result) c.min-most.ensures
      (as_alone c.self.inside.store c.trim.new.store c.self.inside.group c.self.inside.copied c.args.self.now c.self.view_is none (λ before after. IsTrimmingWithin g.O.Oper.meaning old new before after c.min-most.result c.trim.result)
      (trimming g.O.Oper.meaning old new c.self.inside.store c.trim.new.store c.self.inside.copied (λ b w steps. c.every_run_keeps.ensures.from_sound b w steps) (λ p files w. c.image_stands.ensures p files w) c.min-most.result c.trim.result
      c.trim.ensures.call c.trim.ensures.takes c.trim.ensures.epoch c.trim.ensures.undamaged c.trim.ensures.damage c.trim.ensures.long c.trim.ensures.emptied (λ b w used small running. c.trim_may_be_taken.ensures b w c.min-most.result c.self.inside.store.parts.log.log.header.epoch used small running)))

pub returns-in_err-trim-clause-alone : goal.returns-in_err-trim-clause-alone
returns-in_err-trim-clause-alone g c = λ none uncopied.
    let at = (goal.at.returns-in_err-trim-clause-alone g c).After-trim in
    works_err work_from_rewrite (λ r. IsTrimmingWithin g.O.Oper.meaning (old g at) (new g at) c.args.self.now (after g at) (min c.args.room log_limit) r) c.from_residual-in_err-trim.result c.trim.result c.in_err-trim.field-0.0 c.from_residual-in_err-trim.ensures.1 c.in_err-trim.was (worked g at none)

pub returns-clause-alone : goal.returns-clause-alone
returns-clause-alone g c = λ none uncopied.
    let at = (goal.at.returns-clause-alone g c).After-trim in
    works_ok work_from_rewrite (λ r. IsTrimmingWithin g.O.Oper.meaning (old g at) (new g at) c.args.self.now (after g at) (min c.args.room log_limit) r) c.trim.result c.in_ok-trim.field-0 c.in_ok-trim.was (worked g at none)
