use Rattle.running_store.specs.Running.{KeepsSound}
use Rattle.checkpointing.proofs.Allowed.{trim_taken}
use Rattle.checkpointing.proofs.checkpoint_laws.trim_may_be_taken.Goals as goal

pub returns : goal.returns
returns g c = λ b w most epoch used small is.
    let m = g.O.Oper.meaning b in
    let keeps : KeepsSound m = λ v taken sound may. c.every_run_keeps.ensures.from_sound b v taken small sound may in
    trim_taken m keeps w is most epoch used
