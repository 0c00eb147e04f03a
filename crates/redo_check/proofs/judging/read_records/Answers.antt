use Rattle.std.specs.Prelude.{⊤}
use Rattle.disk_model.specs.Moments.{stays_twice, told_agrees}
use Rattle.formats.specs.FirstFault.{IsFirstLogFault}
use Rattle.formats.specs.Reading.{FailsBy}
use Rattle.log_blocks.specs.Reading.{fails_on}
use Rattle.log_records.specs.CodecLaws.{has_codes}
use Rattle.log_records.specs.Loading.{IsLoadFault}
use Rattle.log_records.specs.Loading.IsLoadFault.{in_blocks}
use Rattle.tool_output.specs.FaultLaws.{fails_later, only_counted}
use Rattle.redo_check.proofs.JudgeLemmas.{has_records, records_found}
use Rattle.tool_output.specs.FoundLaws.{stopped_by}
use Rattle.redo_check.proofs.judging.read_records.Goals as goal

pub returns-in_err-found-clause-cause : goal.returns-in_err-found-clause-cause
returns-in_err-found-clause-cause g c told =
    let files = (g.M.Machine.disk c.args.machine.now).reads in
    let e = c.in_err-found.field-0.0 in
    stopped_by c.from_residual.result e (FailsBy ⊤ (IsLoadFault (g.O.Oper.meaning c.args.b) files)) c.from_residual.ensures.1
    (fails_on ⊤ ⊤ (IsFirstLogFault files) (IsLoadFault (g.O.Oper.meaning c.args.b) files) e (λ risen. tt) in_blocks (c.in_err-found.ensures.cause files (told_agrees c.log_end.ensures.kept told)))

pub returns-in_err-log-clause-kept : goal.returns-in_err-log-clause-kept
returns-in_err-log-clause-kept g c = stays_twice _ _ _ c.log_end.ensures.kept c.load_checked.ensures.kept

pub returns-in_err-log-clause-cause : goal.returns-in_err-log-clause-cause
returns-in_err-log-clause-cause g c told =
    let files = (g.M.Machine.disk c.args.machine.now).reads in
    let e = c.in_err-log.field-0.0 in
    stopped_by c.from_residual-in_err-log.result e (FailsBy ⊤ (IsLoadFault (g.O.Oper.meaning c.args.b) files)) c.from_residual-in_err-log.ensures.1
    (fails_on _ ⊤ _ (IsLoadFault (g.O.Oper.meaning c.args.b) files) e (λ risen. tt) (λ file place is. is files (told_agrees (stays_twice _ _ _ c.log_end.ensures.kept c.load_checked.ensures.kept) told)) c.in_err-log.ensures.cause)

pub returns-clause-kept : goal.returns-clause-kept
returns-clause-kept g c = stays_twice _ _ _ c.log_end.ensures.kept c.load_checked.ensures.kept

pub returns-clause-read : goal.returns-clause-read
returns-clause-read g c told small =
    let b = c.args.b in
    let m = g.O.Oper.meaning b in
    let kept = c.log_end.ensures.kept in
    let files = (g.M.Machine.disk c.args.machine.now).reads in
    let found = c.in_ok-log.ensures in
    let loaded = found.read (kept.time.files_told.0 told) in
    has_records m (has_codes m b small (g.met.O.Oper.bounded b) (g.met.O.Oper.lawful b small)) files c.in_ok-log.log loaded.0.groups c.in_ok-log.check c.analyse-plan.result c.in_ok-found.found.0 c.base.result c.start.result c.next.result c.in_ok-found.found.1
    (c.in_ok-found.ensures.ends files (told_agrees kept told)) (records_found m (kept.reads told) loaded.0.file) loaded.1 (found.held files (told_agrees (stays_twice _ _ _ kept c.load_checked.ensures.kept) told)) found.next.0 c.base.ensures.value
    c.analyse-plan.ensures.table c.analyse-plan.ensures.start c.start.ensures c.next.ensures

pub returns-in_err-found-clause-fault : goal.returns-in_err-found-clause-fault
returns-in_err-found-clause-fault g c = stopped_by c.from_residual.result c.in_err-found.field-0.0 _ c.from_residual.ensures.1 c.in_err-found.ensures.fault

pub returns-in_err-log-clause-fault : goal.returns-in_err-log-clause-fault
returns-in_err-log-clause-fault g c = fails_later (g.M.Machine.disk c.args.machine.now) (g.M.Machine.disk c.log_end.new.machine) (g.M.Machine.disk c.load_checked.new.m) _ c.from_residual-in_err-log.result c.in_err-log.field-0.0 c.log_end.ensures.kept.time c.from_residual-in_err-log.ensures.1 (only_counted _ _ c.in_err-log.field-0.0 c.in_err-log.ensures.cause)
