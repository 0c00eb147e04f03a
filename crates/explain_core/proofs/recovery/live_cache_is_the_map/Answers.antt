use Rattle.explain_core.proofs.Runs.{sound-map}
use Rattle.explain_core.proofs.recovery.live_cache_is_the_map.Goals as goal

pub returns : goal.returns
returns g c b w x s live = sound-map (g.O.Oper.meaning b) w live s x
