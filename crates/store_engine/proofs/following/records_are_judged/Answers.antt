use Rattle.store_engine.proofs.Judging.{judged_behind}
use Rattle.store_engine.proofs.following.records_are_judged.Goals as goal

pub returns-clause-judged : goal.returns-clause-judged
returns-clause-judged g c = λ b w r sound live.
    judged_behind (g.O.Oper.meaning b) (λ v x. c.live_cache_is_the_map.ensures b v x) (λ h x. c.history_gives_the_map.ensures b h x) w r sound live
