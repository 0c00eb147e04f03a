use Rattle.running_store.specs.Running.{KeepsSound}
use Rattle.execution.proofs.MayTake.{may_exec}
use Rattle.execution.proofs.command_laws.exec_may_be_taken.Goals as goal

pub returns : goal.returns
returns g c = λ b w limit op used small sound live.
    let keeps : KeepsSound (g.O.Oper.meaning b) = λ v taken sound may. c.every_run_keeps.ensures.from_sound b v taken small sound may in
    may_exec (g.O.Oper.meaning b) limit op w used keeps sound live (λ is. c.force_may_be_taken.ensures b w used small is)
