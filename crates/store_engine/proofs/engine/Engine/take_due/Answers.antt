use Rattle.std.proofs.Common.{◌∙◌, ap, sym}
use Rattle.store_engine.specs.Engine.{EngineView, so_far}
use Rattle.store_engine.specs.Upkept.{TakesDue}
use Rattle.store_engine.proofs.Calls.{as_alone}
use Rattle.store_engine.proofs.Works.{keeping}
use Rattle.store_engine.proofs.engine.Engine.take_due.Goals as goal

pub returns : goal.returns
returns g c =
    let old = g.M.Machine.disk c.args.machine.now in
    let new = g.M.Machine.disk c.keep_up.new.machine in
    as_alone c.self.inside.store c.keep_up.new.store c.self.inside.group c.self.inside.copied c.args.self.now c.self.view_is c.requires.alone
    (λ before after. TakesDue g.O.Oper.meaning old new before after c.args.due c.keep_up.result)
    (keeping g.O.Oper.meaning old new c.self.inside.store c.keep_up.new.store c.self.inside.copied (λ b w steps. c.every_run_keeps.ensures.from_sound b w steps) (λ p files w. c.image_stands.ensures p files w)
    c.copied_so_far-copied.result (c.copied_so_far-copied.ensures ∙ ap (λ (e : EngineView). so_far e.copied) (sym c.self.view_is)) c.args.due c.keep_up.result c.keep_up.ensures.call c.keep_up.ensures.takes c.keep_up.ensures.told c.keep_up.ensures.undamaged
    (λ b w used small running. c.upkeep_may_be_taken.ensures b w c.args.due c.self.inside.store.parts.log.log.header.epoch (so_far c.self.inside.copied) used small running))
