use Rattle.std.proofs.Common.{[], ◌∷◌, ◌++◌, List, subst}
use Rattle.std.proofs.lemmas.List.{append-nil}
use Rattle.formats.specs.Objects.{bounds_of}
use Rattle.running_store.specs.Taking.Ending.{Done, Stopped}
use Rattle.std.specs.Prelude.{Some}
use Rattle.store_engine.specs.Lists.{AddsFront, ending_of}
use Rattle.store_engine.proofs.ListFronts.{front_joined}
use Rattle.store_engine.proofs.ListRuns.{ran_done, ran_refused, ran_stopped, ran_failed}
use Rattle.store_engine.proofs.lists.exec_goes_on.Goals as goal

pub returns : goal.returns
returns g c = record {
  done = λ old mid new before between after p w commands front op n first ran.
      front_joined g.O.Oper.meaning p (g.M.Machine.disk old) (g.M.Machine.disk mid) (g.M.Machine.disk new) before between after w commands front (g.met.M.Machine.lawful mid) (g.met.M.Machine.lawful new) first (op ∷ []) Done
      (λ v shows are. ran_done g.O.Oper.meaning p (g.M.Machine.disk mid) (g.M.Machine.disk new) between after v shows (commands ++ front) are op n ran);
  refused = λ old mid new before between after p w commands front op refusal first ran.
      subst (λ (l : List _). AddsFront g.O.Oper.meaning p (g.M.Machine.disk old) (g.M.Machine.disk new) before after w commands l Done) (append-nil front)
      (front_joined g.O.Oper.meaning p (g.M.Machine.disk old) (g.M.Machine.disk mid) (g.M.Machine.disk new) before between after w commands front (g.met.M.Machine.lawful mid) (g.met.M.Machine.lawful new) first [] Done
      (λ v shows are. ran_refused g.O.Oper.meaning p (g.M.Machine.disk mid) (g.M.Machine.disk new) between after v shows (commands ++ front) are op refusal ran));
  stopped = λ old mid new before between after p w commands front op rest e stop first ran is.
      front_joined g.O.Oper.meaning p (g.M.Machine.disk old) (g.M.Machine.disk mid) (g.M.Machine.disk new) before between after w commands front (g.met.M.Machine.lawful mid) (g.met.M.Machine.lawful new) first (op ∷ rest) (Stopped stop)
      (λ v shows are. ran_stopped g.O.Oper.meaning p (g.M.Machine.disk mid) (g.M.Machine.disk new) between after v shows (commands ++ front) are op rest e stop ran is);
  failed = λ old mid new before between after p w commands front op rest e first ran next off.
      front_joined g.O.Oper.meaning p (g.M.Machine.disk old) (g.M.Machine.disk mid) (g.M.Machine.disk new) before between after w commands front (g.met.M.Machine.lawful mid) (g.met.M.Machine.lawful new) first rest (ending_of (Some e))
      (λ v shows are.
      ran_failed g.O.Oper.meaning p (g.M.Machine.disk mid) (g.M.Machine.disk new) between after v shows (commands ++ front) are op (λ w x. c.live_cache_is_the_map.ensures (bounds_of p) w x) rest e ran next off);
}
