use Rattle.std.proofs.Common.{◌≡◌, [], sym, ap, subst, arith}
use Rattle.std.proofs.lemmas.Result.{err_from_is_err_and}
use Rattle.disk_model.specs.Disk.{Rises}
use Rattle.formats.specs.Reading.{FailsBy}
use Rattle.log_blocks.specs.Payloads.{IsInLog, remaining}
use Rattle.log_blocks.specs.Reading.{fails_on}
use Rattle.log_records.specs.Loading.{IsTailFault}
use Rattle.log_records.specs.RecordReader.{RecordReaderView, IsReading, HasGoneOn}
use Rattle.log_records.proofs.Blocks.{goes_next}
use Rattle.log_records.proofs.Passing.{reading_stays, reading_whole, gone_on}
use Rattle.log_records.proofs.record_reader.RecordReader.go_on.Goals as goal

pub returns-in_err-more-clause-cause : goal.returns-in_err-more-clause-cause
returns-in_err-more-clause-cause g c log records is =
    let old = g.M.Machine.disk c.args.m.now in
    let new = g.M.Machine.disk c.next_payload.new.machine in
    let r = c.self.inside in
    let it : RecordReaderView = record { bounds = r.bounds; base = r.base; next = r.next; payloads = r.payloads } in
    let own : IsReading (g.O.Oper.meaning r.bounds) old log it records = subst (λ (v : RecordReaderView). IsReading (g.O.Oper.meaning v.bounds) old log v records) (sym c.self.view_is) is in
    let here = reading_stays (g.O.Oper.meaning r.bounds) old new log it records c.next_payload.ensures.kept own in
    let p = err_from_is_err_and c.from_residual.result c.from_residual.ensures.1 in
    rw (p.1, p.2) (subst (λ (v : RecordReaderView). FailsBy (Rises old.disk_faults new.disk_faults) (IsTailFault (g.O.Oper.meaning v.bounds) new log) c.in_err-more.field-0.0) c.self.view_is
    (fails_on _ _ _ _ c.in_err-more.field-0.0 (λ risen. risen) (λ f place none. reading_whole (g.O.Oper.meaning r.bounds) new log it records f place here none) c.in_err-more.ensures.cause))

pub returns-then-remaining-eq0-clause-read : goal.returns-then-remaining-eq0-clause-read
returns-then-remaining-eq0-clause-read g c log records is =
    let old = g.M.Machine.disk c.args.m.now in
    let new = g.M.Machine.disk c.next_payload.new.machine in
    let r = c.self.inside in
    let it : RecordReaderView = record { bounds = r.bounds; base = r.base; next = r.next; payloads = r.payloads } in
    let own : IsReading (g.O.Oper.meaning r.bounds) old log it records = subst (λ (v : RecordReaderView). IsReading (g.O.Oper.meaning v.bounds) old log v records) (sym c.self.view_is) is in
    let here = reading_stays (g.O.Oper.meaning r.bounds) old new log it records c.next_payload.ensures.kept own in
    subst (λ (v : RecordReaderView). HasGoneOn (g.O.Oper.meaning v.bounds) new log (record it { payloads = c.next_payload.new.self }) records c.in_ok-more.more) c.self.view_is
    (gone_on (g.O.Oper.meaning r.bounds) new log it c.next_payload.new.self records c.in_ok-more.more here c.next_payload.ensures.file c.in_ok-more.ensures.next)

pub returns-then-remaining-eq0-clause-goes_on : goal.returns-then-remaining-eq0-clause-goes_on
returns-then-remaining-eq0-clause-goes_on g c files agree payloads passed taken later empty stands =
    let moved = c.next_payload.new.self in
    let none : taken ≡ [] = empty (omega (arith, c.remaining.ensures, c.if-remaining-eq0.true, ap (λ (v : RecordReaderView). remaining v.payloads) c.self.view_is)) in
    let here = subst (λ (v : RecordReaderView). IsInLog (files v.payloads.file) v.payloads payloads passed taken later) (sym c.self.view_is) stands in
    goes_next (files moved.file) moved payloads passed taken later c.in_ok-more.more none (c.in_ok-more.ensures.next files agree payloads passed taken later here)
