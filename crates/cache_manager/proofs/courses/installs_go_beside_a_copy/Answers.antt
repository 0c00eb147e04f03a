use Rattle.running_store.specs.Running.{KeepsSound}
use Rattle.cache_manager.proofs.OneInstall.Copying.{drain_beside, install_beside, turn_beside}
use Rattle.cache_manager.proofs.OneRound.Goes.{MayRound}
use Rattle.cache_manager.proofs.courses.installs_go_beside_a_copy.Goals as goal

pub returns : goal.returns
returns g c = record {
  install = λ b copied w used small is.
      let m = g.O.Oper.meaning b in
      let keeps : KeepsSound m = λ v taken sound may. c.every_run_keeps.ensures.from_sound b v taken small sound may in
      install_beside m copied (g.met.O.Oper.lawful b small) keeps c.last_blind_write_is_alone.ensures w used is;
  turn = λ b copied most w used small is.
      let m = g.O.Oper.meaning b in
      let keeps : KeepsSound m = λ v taken sound may. c.every_run_keeps.ensures.from_sound b v taken small sound may in
      let rounds : MayRound m = λ may most v is stable. c.a_round_may_be_taken.ensures b may most v small is.sound stable in
      turn_beside m copied (g.met.O.Oper.lawful b small) keeps c.last_blind_write_is_alone.ensures rounds most w used is;
  drain = λ b copied w used small is.
      let m = g.O.Oper.meaning b in
      let keeps : KeepsSound m = λ v taken sound may. c.every_run_keeps.ensures.from_sound b v taken small sound may in
      let rounds : MayRound m = λ may most v is stable. c.a_round_may_be_taken.ensures b may most v small is.sound stable in
      drain_beside m copied (g.met.O.Oper.lawful b small) keeps c.last_blind_write_is_alone.ensures rounds w used is;
}
