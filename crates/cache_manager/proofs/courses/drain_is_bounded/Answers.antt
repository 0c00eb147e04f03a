use Rattle.std.proofs.Common.{arith}
use Rattle.running_store.specs.Running.{KeepsSound}
use Rattle.cache_manager.specs.InstallCourses.{round_limit}
use Rattle.cache_manager.proofs.OneInstall.Logs.{turns_logging}
use Rattle.cache_manager.proofs.OneRound.Goes.{MayRound}
use Rattle.cache_manager.proofs.FullDrain.Turns.{all_turns_remove}
use Rattle.cache_manager.proofs.courses.drain_is_bounded.Goals as goal

pub returns : goal.returns
returns g c = record {
  logged = λ b copied w used small is.
      let m = g.O.Oper.meaning b in
      let keeps : KeepsSound m = λ v taken sound may. c.every_run_keeps.ensures.from_sound b v taken small sound may in
      let rounds : MayRound m = λ may most v is stable. c.a_round_may_be_taken.ensures b may most v small is.sound stable in
      turns_logging m copied (g.met.O.Oper.lawful b small) keeps c.last_blind_write_is_alone.ensures rounds (round_limit m) (omega arith) w used is;
  removed = λ b copied w used small is.
      let m = g.O.Oper.meaning b in
      let keeps : KeepsSound m = λ v taken sound may. c.every_run_keeps.ensures.from_sound b v taken small sound may in
      let rounds : MayRound m = λ may most v is stable. c.a_round_may_be_taken.ensures b may most v small is.sound stable in
      all_turns_remove m copied (g.met.O.Oper.lawful b small) keeps c.last_blind_write_is_alone.ensures rounds (round_limit m) (omega arith) w used is;
}
