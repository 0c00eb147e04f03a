use Rattle.cache_manager.proofs.MadeReady.Full.{all_or_full, are_readied, one_stays}
use Rattle.cache_manager.proofs.courses.a_turn_readies_all.Goals as goal

pub returns : goal.returns
returns g c = record {
  all = λ b copied most w n low is. all_or_full (g.O.Oper.meaning b) copied w n is most low;
  logged = λ b copied most w n must there. let m = g.O.Oper.meaning b in (are_readied m copied w most n must there, one_stays m copied w n);
}
