use Rattle.running_store.specs.Running.{KeepsSound}
use Rattle.execution.proofs.MayFollow.{may_follow_course}
use Rattle.execution.proofs.command_laws.follow_may_be_taken.Goals as goal

pub returns : goal.returns
returns g c = λ b w r used small running.
    let keeps : KeepsSound (g.O.Oper.meaning b) = λ v taken sound may. c.every_run_keeps.ensures.from_sound b v taken small sound may in
    may_follow_course (g.O.Oper.meaning b) r w used keeps running (c.force_may_be_taken.ensures b w used small running)
