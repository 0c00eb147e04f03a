use Rattle.std.proofs.Common.{◌≡◌, ℕ, [], subst}
use Rattle.std.specs.Prelude.{Err, IfOk, Ok, Result}
use Rattle.disk_model.specs.Disk.{Disk}
use Rattle.oper_core.specs.Meaning.{Meaning}
use Rattle.oper_core.specs.declared.bounds.Bounds.{Bounds}
use Rattle.log_records.specs.LsnReader.{IsReadingFromLsn, LsnReaderView}
use Rattle.log_records.specs.RecordLog.{RecordLogView}
use Rattle.running_store.specs.Calls.Faults.{has_failed, is_read_fault}
use Rattle.running_store.specs.Calls.LogReads.{IsReaderOf}
use Rattle.running_store.specs.StoreView.{StoreView}
use Rattle.running_store.proofs.Inside.{read_same}
use Rattle.running_store.proofs.store.Store.log_reader.Goals as goal

reader_of : {O E : Type 0} (meaning : Bounds → Meaning O) (d : Disk) (log : RecordLogView) (first : ℕ) (r : Result LsnReaderView E) → IfOk r (λ it. it.from ≡ first) → IfOk r (λ it. it.records.bounds ≡ log.bounds)
    → IfOk r (λ it. IsReadingFromLsn (meaning log.bounds) d log it []) → IfOk r (IsReaderOf meaning d log first)
reader_of meaning d log first (Ok it) from bounds reading = record { from = from; bounds = bounds; reading = reading }
reader_of meaning d log first (Err e) from bounds reading = tt

pub returns-clause-kept : goal.returns-clause-kept
returns-clause-kept g c = record {
  stays = c.lsn_reader-answer.ensures.kept;
  store = read_same c.self.inside.log c.self.inside.objects c.self.inside.graph.entries c.self.inside.identities c.self.inside.broken c.args.self.now c.self.view_is
      c.note.new.broken (has_failed is_read_fault c.lsn_reader-answer.result) c.requires.unbroken c.note.ensures;
}

pub returns-clause-reader : goal.returns-clause-reader
returns-clause-reader g c =
    let is = c.lsn_reader-answer.ensures in
    let new = g.M.Machine.disk c.lsn_reader-answer.new.m in
    subst (λ (s : StoreView). IfOk c.lsn_reader-answer.result (IsReaderOf g.O.Oper.meaning new s.parts.log c.args.from)) c.self.view_is
    (reader_of g.O.Oper.meaning new c.self.inside.log c.args.from c.lsn_reader-answer.result is.from is.bounds is.reading)
