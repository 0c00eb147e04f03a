use Rattle.cache_manager.specs.InstallCourses.{install_course}
use Rattle.running_store.specs.Running.{KeepsSound, may_be_taken}
use Rattle.cache_manager.specs.Upkeep.{upkeep_install}
use Rattle.cache_manager.proofs.OneInstall.Goes.{install_allowed}
use Rattle.cache_manager.proofs.courses.install_may_be_taken.Goals as goal

pub returns : goal.returns
returns g c = λ b copied w used small is.
    let m = g.O.Oper.meaning b in
    let keeps : KeepsSound m = λ v taken sound may. c.every_run_keeps.ensures.from_sound b v taken small sound may in
    may_be_taken m w (install_course m copied w used).steps keeps is (upkeep_install m copied w used)
    (install_allowed m copied (g.met.O.Oper.lawful b small) keeps c.last_blind_write_is_alone.ensures w used is)
