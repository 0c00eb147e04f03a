use Rattle.running_store.specs.Running.{KeepsSound}
use Rattle.checkpointing.proofs.Kept.{upkeep_taken}
use Rattle.checkpointing.proofs.checkpoint_laws.upkeep_may_be_taken.Goals as goal

pub returns : goal.returns
returns g c = λ b w due epoch copied used small is.
    let m = g.O.Oper.meaning b in
    let keeps : KeepsSound m = λ v taken sound may. c.every_run_keeps.ensures.from_sound b v taken small sound may in
    upkeep_taken m keeps (λ copied most v used running. c.turn_may_be_taken.ensures b copied most v used small running) due epoch copied w used is
