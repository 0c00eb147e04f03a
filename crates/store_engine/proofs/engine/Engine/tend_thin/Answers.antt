use Rattle.std.proofs.Common.{◌∙◌, ap}
use Rattle.disk_model.specs.Disk.{Disk}
use Rattle.store_engine.specs.Engine.{EngineView}
use Rattle.store_engine.specs.Following.{HasTendedThin}
use Rattle.store_engine.proofs.Calls.{as_alone}
use Rattle.store_engine.proofs.ThinTurns.{tended_thin}
use Rattle.store_engine.proofs.engine.Engine.tend_thin.Goals as goal

pub returns-clause-tended : goal.returns-clause-tended
returns-clause-tended g c =
    let old : Disk = g.M.Machine.disk c.args.machine.now in
    let new : Disk = g.M.Machine.disk c.tend_thin.new.machine in
    as_alone c.self.inside.store c.tend_thin.new.store c.self.inside.group c.self.inside.copied c.args.self.now c.self.view_is c.requires.alone (λ before after. HasTendedThin g.O.Oper.meaning old new before after c.args.most c.tend_thin.result)
    (tended_thin g.O.Oper.meaning g.M.Machine.disk c.args.machine.now c.tend_thin.new.machine c.self.inside.store c.tend_thin.new.store c.self.inside.copied c.args.most c.tend_thin.result c.tend_thin.ensures.call
    (ap (λ (e : EngineView). e.parts.log.log.pending) c.self.view_is ∙ c.requires.empty) c.tend_thin.ensures.beside.objects.log (λ told other ne. (c.tend_thin.ensures.beside.objects.runs.reads told).others other ne)
    (λ p w shows stable. c.tend_thin.ensures.shows p w shows stable) (λ told p w shows stable. c.tend_thin.ensures.steps told p w shows stable) c.tend_thin.ensures.memory
    (λ b w steps. c.every_run_keeps.ensures.from_sound b w steps) (λ p files w. c.image_stands.ensures p files w) (λ b most w. c.a_thin_turn_may_be_taken.ensures b most w)
    (λ p w shows stable. c.tend_thin.ensures.count p w shows stable) c.tend_thin.ensures.few)
