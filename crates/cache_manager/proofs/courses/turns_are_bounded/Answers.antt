use Rattle.running_store.specs.Running.{KeepsSound}
use Rattle.cache_manager.proofs.FullDrain.Turns.{all_turns_go}
use Rattle.cache_manager.proofs.OneInstall.Logs.{turns_logging}
use Rattle.cache_manager.proofs.OneRound.Goes.{MayRound}
use Rattle.cache_manager.proofs.courses.turns_are_bounded.Goals as goal

pub returns : goal.returns
returns g c = record {
  ends = λ b copied most w used small is some through.
      let m = g.O.Oper.meaning b in
      let keeps : KeepsSound m = λ v taken sound may. c.every_run_keeps.ensures.from_sound b v taken small sound may in
      let rounds : MayRound m = λ may most v is stable. c.a_round_may_be_taken.ensures b may most v small is.sound stable in
      (all_turns_go m copied (g.met.O.Oper.lawful b small) keeps c.last_blind_write_is_alone.ensures rounds most some w used is).through through;
  logged = λ b copied most w used small is some.
      let m = g.O.Oper.meaning b in
      let keeps : KeepsSound m = λ v taken sound may. c.every_run_keeps.ensures.from_sound b v taken small sound may in
      let rounds : MayRound m = λ may most v is stable. c.a_round_may_be_taken.ensures b may most v small is.sound stable in
      turns_logging m copied (g.met.O.Oper.lawful b small) keeps c.last_blind_write_is_alone.ensures rounds most some w used is;
}
