use Rattle.running_store.specs.Running.{KeepsSound}
use Rattle.cache_manager.proofs.OneInstall.Logs.{install_logging}
use Rattle.cache_manager.proofs.Removal.Members.{install_removes, install_removes_one}
use Rattle.cache_manager.proofs.courses.install_is_bounded.Goals as goal

pub returns : goal.returns
returns g c = record {
  logged = λ b copied w used small is.
      let m = g.O.Oper.meaning b in
      let keeps : KeepsSound m = λ v taken sound may. c.every_run_keeps.ensures.from_sound b v taken small sound may in
      install_logging m copied (g.met.O.Oper.lawful b small) keeps c.last_blind_write_is_alone.ensures w used is;
  flushed = λ b copied w used. (install_removes (g.O.Oper.meaning b) copied w used).1;
  removed = λ b copied w used. (install_removes (g.O.Oper.meaning b) copied w used).0;
  one = λ b copied w used. install_removes_one (g.O.Oper.meaning b) copied w used;
}
