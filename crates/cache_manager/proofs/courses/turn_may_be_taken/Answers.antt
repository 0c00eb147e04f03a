use Rattle.cache_manager.specs.InstallCourses.{turn_course}
use Rattle.running_store.specs.Running.{KeepsSound, may_be_taken}
use Rattle.cache_manager.specs.Upkeep.{upkeep_turn}
use Rattle.cache_manager.proofs.FullDrain.Turns.{turn_goes}
use Rattle.cache_manager.proofs.OneRound.Goes.{MayRound}
use Rattle.cache_manager.proofs.courses.turn_may_be_taken.Goals as goal

pub returns : goal.returns
returns g c = λ b copied most w used small is.
    let m = g.O.Oper.meaning b in
    let keeps : KeepsSound m = λ v taken sound may. c.every_run_keeps.ensures.from_sound b v taken small sound may in
    let rounds : MayRound m = λ may most v is stable. c.a_round_may_be_taken.ensures b may most v small is.sound stable in
    may_be_taken m w (turn_course m copied most w used).steps keeps is (upkeep_turn m copied most w used)
    (turn_goes m copied (g.met.O.Oper.lawful b small) keeps c.last_blind_write_is_alone.ensures rounds most w used is).allowed
