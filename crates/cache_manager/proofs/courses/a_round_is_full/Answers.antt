use Rattle.cache_manager.specs.InstallCourses.{may_flush}
use Rattle.cache_manager.proofs.OneRound.Full.{full_or_all}
use Rattle.cache_manager.proofs.courses.a_round_is_full.Goals as goal

pub returns : goal.returns
returns g c = λ b copied most w n low due. let m = g.O.Oper.meaning b in full_or_all m (may_flush m copied) w n due most low
