use Rattle.running_store.specs.Running.{KeepsSound, may_be_taken}
use Rattle.cache_manager.specs.InstallCourses.{round_steps}
use Rattle.cache_manager.specs.Upkeep.{upkeep_round}
use Rattle.cache_manager.proofs.OneRound.Goes.{MayRound, round_goes}
use Rattle.cache_manager.proofs.courses.round_may_be_taken.Goals as goal

pub returns : goal.returns
returns g c = λ b copied most w used small is.
    let m = g.O.Oper.meaning b in
    let keeps : KeepsSound m = λ v taken sound may. c.every_run_keeps.ensures.from_sound b v taken small sound may in
    let rounds : MayRound m = λ may most v is stable. c.a_round_may_be_taken.ensures b may most v small is.sound stable in
    may_be_taken m w (round_steps m copied most w) keeps is (upkeep_round m copied most w) (round_goes m keeps rounds copied most w used is).allowed
