use Rattle.std.proofs.Common.{arith}
use Rattle.cache_manager.specs.InstallCourses.{drain_course, round_limit}
use Rattle.running_store.specs.Running.{KeepsSound, may_be_taken}
use Rattle.cache_manager.specs.Upkeep.{upkeep_drain}
use Rattle.cache_manager.proofs.OneRound.Goes.{MayRound}
use Rattle.cache_manager.proofs.FullDrain.Turns.{all_turns_go}
use Rattle.cache_manager.proofs.courses.drain_may_be_taken.Goals as goal

pub returns : goal.returns
returns g c = record {
  taken = λ b copied w used small is.
      let m = g.O.Oper.meaning b in
      let keeps : KeepsSound m = λ v taken sound may. c.every_run_keeps.ensures.from_sound b v taken small sound may in
      let rounds : MayRound m = λ may most v is stable. c.a_round_may_be_taken.ensures b may most v small is.sound stable in
      may_be_taken m w (drain_course m copied w used).steps keeps is (upkeep_drain m copied w used)
      (all_turns_go m copied (g.met.O.Oper.lawful b small) keeps c.last_blind_write_is_alone.ensures rounds (round_limit m) (omega arith) w used is).allowed;
  drained = λ b copied w used small is through.
      let m = g.O.Oper.meaning b in
      let keeps : KeepsSound m = λ v taken sound may. c.every_run_keeps.ensures.from_sound b v taken small sound may in
      let rounds : MayRound m = λ may most v is stable. c.a_round_may_be_taken.ensures b may most v small is.sound stable in
      (all_turns_go m copied (g.met.O.Oper.lawful b small) keeps c.last_blind_write_is_alone.ensures rounds (round_limit m) (omega arith) w used is).through through;
}
