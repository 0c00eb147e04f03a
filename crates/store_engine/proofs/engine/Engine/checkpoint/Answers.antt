use Rattle.std.proofs.Common.{◌≡◌, None}
use Rattle.disk_model.specs.Disk.{Disk}
use Rattle.store_engine.specs.Calls.{IsTakingCheckpoint, work_from_checkpoint}
use Rattle.store_engine.specs.Engine.{EngineView, engine_of}
use Rattle.store_engine.proofs.Calls.{as_alone}
use Rattle.store_engine.proofs.Ways.{works_err, works_ok}
use Rattle.store_engine.proofs.Works.{checking}
use Rattle.store_engine.proofs.engine.Engine.checkpoint.Given.{Over}
use Rattle.store_engine.proofs.engine.Engine.checkpoint.Goals.{After-checkpoint}
use Rattle.store_engine.proofs.engine.Engine.checkpoint.Goals as goal

module _ (g : Over) (c : After-checkpoint g) where
  abbrev old : Disk
  old = g.M.Machine.disk c.args.machine.now

  abbrev new : Disk
  new = g.M.Machine.disk c.checkpoint.new.machine

  abbrev after : EngineView
  after = engine_of c.checkpoint.new.store c.self.inside.group c.self.inside.copied

  worked : c.args.self.now.group ≡ None → IsTakingCheckpoint g.O.Oper.meaning old new c.args.self.now after c.checkpoint.result
  worked none =
      as_alone c.self.inside.store c.checkpoint.new.store c.self.inside.group c.self.inside.copied c.args.self.now c.self.view_is none (λ before after. IsTakingCheckpoint g.O.Oper.meaning old new before after c.checkpoint.result)
      (checking g.O.Oper.meaning old new c.self.inside.store c.checkpoint.new.store c.self.inside.copied (λ b w steps. c.every_run_keeps.ensures.from_sound b w steps) (λ p files w. c.image_stands.ensures p files w) c.checkpoint.result
      c.checkpoint.ensures.call c.checkpoint.ensures.takes (λ b w used small running. c.checkpoint_may_be_taken.ensures b w used small running))

pub returns-in_err-checkpoint-clause-alone : goal.returns-in_err-checkpoint-clause-alone
returns-in_err-checkpoint-clause-alone g c = λ none.
    let at = (goal.at.returns-in_err-checkpoint-clause-alone g c).After-checkpoint in
    works_err work_from_checkpoint (λ r. IsTakingCheckpoint g.O.Oper.meaning (old g at) (new g at) c.args.self.now (after g at) r) c.from_residual-in_err-checkpoint.result c.checkpoint.result c.in_err-checkpoint.field-0.0 c.from_residual-in_err-checkpoint.ensures.1 c.in_err-checkpoint.was (worked g at none)

pub returns-clause-alone : goal.returns-clause-alone
returns-clause-alone g c = λ none.
    let at = (goal.at.returns-clause-alone g c).After-checkpoint in
    works_ok work_from_checkpoint (λ r. IsTakingCheckpoint g.O.Oper.meaning (old g at) (new g at) c.args.self.now (after g at) r) c.checkpoint.result c.in_ok-checkpoint.field-0 c.in_ok-checkpoint.was (worked g at none)
