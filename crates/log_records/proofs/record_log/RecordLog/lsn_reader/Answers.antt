use Rattle.std.proofs.Common.{subst, refl, []}
use Rattle.log_records.specs.RecordLog.{RecordLogView}
use Rattle.log_records.specs.LsnReader.{LsnReaderView, IsReadingFromLsn}
use Rattle.log_records.proofs.LsnReading.{given_none}
use Rattle.log_records.proofs.record_log.RecordLog.lsn_reader.Goals as goal

pub returns-clause-reading : goal.returns-clause-reading
returns-clause-reading g c =
    let new = g.M.Machine.disk c.new.new.m in
    let r = c.self.inside in
    let log : RecordLogView = record { bounds = r.bounds; log = r.log; next = r.next; accepted = r.accepted; forced = r.forced } in
    let it : LsnReaderView = record { records = c.in_ok-new.field-0; from = c.args.from; end = r.next } in
    subst (λ (v : RecordLogView). IsReadingFromLsn (g.O.Oper.meaning v.bounds) new v it []) c.self.view_is
    (given_none (g.O.Oper.meaning r.bounds) new log it refl c.in_ok-new.ensures.reading)
