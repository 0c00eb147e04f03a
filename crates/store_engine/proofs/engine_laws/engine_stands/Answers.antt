use Rattle.formats.specs.Objects.{bounds_of}
use Rattle.store_engine.proofs.Holding.{holds_says}
use Rattle.store_engine.proofs.engine_laws.engine_stands.Goals as goal

pub returns : goal.returns
returns g c = λ p commands holds.
    holds_says g.O.Oper.meaning p (g.M.Machine.disk c.args.machine.now) c.args.engine.now commands holds (λ files w. c.image_stands.ensures p files w) (λ w x. c.live_cache_is_the_map.ensures (bounds_of p) w x) (λ w begun. c.crash_takes_the_group.ensures.commands (bounds_of p) w begun)
