use Rattle.running_store.specs.Courses.{force_steps}
use Rattle.running_store.specs.Running.{KeepsSound, may_be_taken}
use Rattle.cache_manager.specs.Upkeep.{upkeep_force}
use Rattle.cache_manager.proofs.Goes.{force_allowed}
use Rattle.cache_manager.proofs.courses.force_may_be_taken.Goals as goal

pub returns : goal.returns
returns g c = λ b w used small is.
    let m = g.O.Oper.meaning b in
    let keeps : KeepsSound m = λ v taken sound may. c.every_run_keeps.ensures.from_sound b v taken small sound may in
    may_be_taken m w (force_steps m w) keeps is (upkeep_force m w) (force_allowed m keeps w is)
