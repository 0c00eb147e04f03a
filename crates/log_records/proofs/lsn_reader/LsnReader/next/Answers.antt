use Rattle.std.proofs.Common.{◌≢◌, sym, subst, refl}
use Rattle.std.proofs.lemmas.Result.{err_from_is_err_and}
use Rattle.disk_model.specs.Disk.{Rises}
use Rattle.disk_model.specs.declared.machine.FileNo.TheVariants.{Objects}
use Rattle.formats.specs.Reading.{FailsBy}
use Rattle.log_records.specs.Loading.{IsTailFault}
use Rattle.log_records.specs.LsnReader.{LsnReaderView, IsReadingFromLsn, HasGiven}
use Rattle.log_records.proofs.LsnReading.{given_more, search_fails}
use Rattle.log_records.proofs.lsn_reader.LsnReader.next.Goals as goal

pub returns-clause-read : goal.returns-clause-read
returns-clause-read g c log given is =
    let old = g.M.Machine.disk c.args.m.now in
    let new = g.M.Machine.disk c.next_between.new.m in
    let r = c.self.inside in
    let before : LsnReaderView = record { records = r.records; from = r.from; end = r.end } in
    let after : LsnReaderView = record { records = c.next_between.new.records; from = r.from; end = r.end } in
    let found = c.in_ok-found.found in
    let own = subst (λ (v : LsnReaderView). IsReadingFromLsn (g.O.Oper.meaning v.records.bounds) old log v given) (sym c.self.view_is) is in
    subst (λ (v : LsnReaderView). HasGiven (g.O.Oper.meaning v.records.bounds) new log after given found) c.self.view_is
    (given_more (g.O.Oper.meaning r.records.bounds) old new log before after given found refl refl c.in_ok-found.ensures.read own)

pub returns-in_err-found-clause-cause : goal.returns-in_err-found-clause-cause
returns-in_err-found-clause-cause g c log given is =
    let old = g.M.Machine.disk c.args.m.now in
    let new = g.M.Machine.disk c.next_between.new.m in
    let r = c.self.inside in
    let before : LsnReaderView = record { records = r.records; from = r.from; end = r.end } in
    let own = subst (λ (v : LsnReaderView). IsReadingFromLsn (g.O.Oper.meaning v.records.bounds) old log v given) (sym c.self.view_is) is in
    let p = err_from_is_err_and c.from_residual.result c.from_residual.ensures.1 in
    rw (p.1, p.2) (subst (λ (v : LsnReaderView). FailsBy (Rises old.disk_faults new.disk_faults) (λ f place. log.log.active ≢ Objects → IsTailFault (g.O.Oper.meaning v.records.bounds) new log.log f place) c.in_err-found.field-0.0) c.self.view_is
    (search_fails (g.O.Oper.meaning r.records.bounds) old new log before given c.in_err-found.field-0.0 (Rises old.disk_faults new.disk_faults) own c.in_err-found.ensures.cause))
