use Rattle.std.proofs.Common.{[], inr, refl, None}
use Rattle.running_store.specs.Taking.Ending.{Done}
use Rattle.transactions.proofs.Reading.{reads_none}
use Rattle.transactions.proofs.WithinLemmas.{stages_none, within_calls}
use Rattle.transactions.proofs.within.WithinStore.nothing_is_made.Goals as goal

pub returns : goal.returns
returns g c = let d = g.M.Machine.disk c.args.machine.now in record {
  front = λ p commands held again. stages_none g.O.Oper.meaning p d c.args.self.now c.args.self.now commands [] Done (λ done. refl) (inr again) refl (λ stop is. cc is);
  calls = λ unbroken. within_calls g.O.Oper.meaning c.args.self.now c.args.self.now None (reads_none g.O.Oper.meaning d c.args.self.now.engine.now _ (g.met.M.Machine.lawful c.args.machine.now) unbroken (λ failed. failed)) refl refl;
}
