use Rattle.store_engine.proofs.CopiedLogs.{copy_holds, keeps_shown}
use Rattle.store_engine.proofs.beside.a_copied_log_is_of_the_world.Goals as goal

pub returns : goal.returns
returns g c = record {
  keeps = λ p now engine w shows. keeps_shown g.O.Oper.meaning p (g.M.Machine.disk now) engine w shows;
  holds = λ p now engine w files shows copy. copy_holds g.O.Oper.meaning p (g.M.Machine.disk now) engine w shows files copy;
}
