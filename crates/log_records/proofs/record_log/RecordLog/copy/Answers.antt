use Rattle.std.proofs.Common.{◌≢◌, [], ◌∷◌, Bool, refl, sym, subst, arith}
use Rattle.std.proofs.lemmas.Result.{err_from_is_err_and}
use Rattle.disk_model.specs.Disk.{In, Rises, Runs, Same}
use Rattle.disk_model.specs.declared.machine.FileNo.{FileNo}
use Rattle.formats.specs.Reading.{FailsBy}
use Rattle.formats.specs.Records.{record_code, IsRecord}
use Rattle.formats.specs.declared.read_err.ReadErr.{ReadErr}
use Rattle.log_blocks.specs.RewriteLaws.{keeps_twice}
use Rattle.log_blocks.specs.Rewriting.{KeepsClosed}
use Rattle.log_records.specs.CodecLaws.{encodable-from_grammar, has_codes}
use Rattle.log_records.specs.Copying.{HasCopied, HasFilled, IsPlanned}
use Rattle.log_records.specs.Loading.{IsTailFault}
use Rattle.log_records.specs.RecordLog.{RecordLogView}
use Rattle.log_records.specs.Rewriting.{from_lsn}
use Rattle.log_records.proofs.Copies.{all_beside, has_copied, not_filled, planned_beside, planned_fits, put_fails, rises_since, some_with}
use Rattle.log_records.proofs.record_log.RecordLog.copy.Goals as goal

pub copy_from_lsn-requires-clause-small : goal.copy_from_lsn-requires-clause-small
copy_from_lsn-requires-clause-small g c = c.self.invariant.small

pub copy_from_lsn-requires-clause-apart : goal.copy_from_lsn-requires-clause-apart
copy_from_lsn-requires-clause-apart g c = subst (λ (v : RecordLogView). v.log.active ≢ c.args.out.now.file) (sym c.self.view_is) c.requires.apart

pub copy_from_lsn-requires-clause-fits : goal.copy_from_lsn-requires-clause-fits
copy_from_lsn-requires-clause-fits g c = omega (arith, c.requires.fits)

pub put_last-requires-clause-code : goal.put_last-requires-clause-code
put_last-requires-clause-code g c =
    let b = c.self.inside.bounds in
    let codes = has_codes (g.O.Oper.meaning b) b c.self.invariant.small (g.met.O.Oper.bounded b) (g.met.O.Oper.lawful b c.self.invariant.small) in
    encodable-from_grammar g.O.Oper.meaning b codes c.args.checkpoint.now (subst (λ (v : RecordLogView). IsRecord (g.O.Oper.meaning v.bounds) c.args.checkpoint.now) (sym c.self.view_is) c.requires.grammar)

pub put_last-requires-clause-fits : goal.put_last-requires-clause-fits
put_last-requires-clause-fits g c = omega (arith, c.in_ok-copy_from_lsn.ensures.copied.2.end, c.requires.fits)

pub returns-in_err-copy_from_lsn-clause-cause : goal.returns-in_err-copy_from_lsn-clause-cause
returns-in_err-copy_from_lsn-clause-cause g c =
    let old = g.M.Machine.disk c.args.m.now in
    let one = g.M.Machine.disk c.copy_from_lsn.new.m in
    let b = c.self.inside.bounds in
    let m = g.O.Oper.meaning b in
    let planned = subst (λ (v : RecordLogView). IsPlanned (g.O.Oper.meaning v.bounds) old v.log c.args.base (c.args.checkpoint.now ∷ []) c.args.new) (sym c.self.view_is) c.requires.planned in
    let p = err_from_is_err_and c.from_residual.result c.from_residual.ensures.1 in
    rw (p.1, p.2) (subst (λ (v : RecordLogView). FailsBy (Rises old.disk_faults one.disk_faults) (IsTailFault (g.O.Oper.meaning v.bounds) one v.log) c.in_err-copy_from_lsn.field-0.0) c.self.view_is
    (c.in_err-copy_from_lsn.ensures.cause planned.records (record_code m c.args.checkpoint.now ∷ []) planned.all (planned_fits m old _ c.args.base (c.args.checkpoint.now ∷ []) c.args.new planned (some_with m (from_lsn c.args.base planned.records) c.args.checkpoint.now))))

pub returns-in_err-put_last-clause-runs : goal.returns-in_err-put_last-clause-runs
returns-in_err-put_last-clause-runs g c =
    let one = g.M.Machine.disk c.copy_from_lsn.new.m in
    let new = g.M.Machine.disk c.put_last.new.m in
    keeps_twice (g.M.Machine.disk c.args.m.now) one new c.args.out.now.file c.copy_from_lsn.ensures.runs (subst (λ (f : FileNo). Runs (In f KeepsClosed) Same one new) c.copy_from_lsn.ensures.file c.put_last.ensures.runs)

pub returns-in_err-put_last-clause-cause : goal.returns-in_err-put_last-clause-cause
returns-in_err-put_last-clause-cause g c =
    let old = g.M.Machine.disk c.args.m.now in
    let one = g.M.Machine.disk c.copy_from_lsn.new.m in
    let p = err_from_is_err_and c.from_residual-in_err-put_last.result c.from_residual-in_err-put_last.ensures.1 in
    rw (p.1, p.2) (put_fails _ _ _ c.in_err-put_last.field-0.0 (rises_since old one (g.M.Machine.disk c.put_last.new.m) c.copy_from_lsn.ensures.runs.time.disk_faults) c.in_err-put_last.ensures.cause)

pub returns-then-not-branch-clause-runs : goal.returns-then-not-branch-clause-runs
returns-then-not-branch-clause-runs g c =
    let one = g.M.Machine.disk c.copy_from_lsn.new.m in
    let new = g.M.Machine.disk c.put_last.new.m in
    keeps_twice (g.M.Machine.disk c.args.m.now) one new c.args.out.now.file c.copy_from_lsn.ensures.runs (subst (λ (f : FileNo). Runs (In f KeepsClosed) Same one new) c.copy_from_lsn.ensures.file c.put_last.ensures.runs)

pub returns-then-not-branch-clause-cause : goal.returns-then-not-branch-clause-cause
returns-then-not-branch-clause-cause g c =
    let old = g.M.Machine.disk c.args.m.now in
    let one = g.M.Machine.disk c.copy_from_lsn.new.m in
    let new = g.M.Machine.disk c.put_last.new.m in
    let b = c.self.inside.bounds in
    let m = g.O.Oper.meaning b in
    let log = c.self.inside.log in
    let base = c.args.base in
    let last = c.args.checkpoint.now ∷ [] in
    let codes = has_codes m b c.self.invariant.small (g.met.O.Oper.bounded b) (g.met.O.Oper.lawful b c.self.invariant.small) in
    let file = c.args.out.now.file in
    let apart = subst (λ (v : RecordLogView). v.log.active ≢ file) (sym c.self.view_is) c.requires.apart in
    let second = subst (λ (f : FileNo). Runs (In f KeepsClosed) Same one new) c.copy_from_lsn.ensures.file c.put_last.ensures.runs in
    let run = keeps_twice old one new file c.copy_from_lsn.ensures.runs second in
    let planned = planned_beside m old new file log base last c.args.new apart run
    (subst (λ (v : RecordLogView). IsPlanned (g.O.Oper.meaning v.bounds) old v.log base last c.args.new) (sym c.self.view_is) c.requires.planned) in
    let copied = c.in_ok-copy_from_lsn.ensures.copied in
    let never = subst (λ (full : Bool). HasFilled one new c.copy_from_lsn.new.out c.put_last.new.out c.copy_from_lsn.new.blocks (record_code m c.args.checkpoint.now ∷ []) full) c.if-not-branch.true (c.in_ok-put_last.ensures.filled b) in
    subst (λ (e : ReadErr). FailsBy (Rises old.disk_faults new.disk_faults) (IsTailFault (g.O.Oper.meaning c.args.self.now.bounds) new c.args.self.now.log) e) (sym c.changed.ensures)
    (subst (λ (v : RecordLogView). IsTailFault (g.O.Oper.meaning v.bounds) new v.log log.active 0) c.self.view_is
    (not_filled m codes old one new log base last c.args.new c.args.out.now c.copy_from_lsn.new.out _ c.copy_from_lsn.new.blocks copied.0 planned (some_with m (from_lsn base planned.records) c.args.checkpoint.now) refl refl
    (all_beside m one new file log copied.0 apart second copied.1) copied.2 never 0))

pub returns-clause-runs : goal.returns-clause-runs
returns-clause-runs g c =
    let one = g.M.Machine.disk c.copy_from_lsn.new.m in
    let new = g.M.Machine.disk c.put_last.new.m in
    keeps_twice (g.M.Machine.disk c.args.m.now) one new c.args.out.now.file c.copy_from_lsn.ensures.runs (subst (λ (f : FileNo). Runs (In f KeepsClosed) Same one new) c.copy_from_lsn.ensures.file c.put_last.ensures.runs)

pub returns-clause-copied : goal.returns-clause-copied
returns-clause-copied g c =
    let old = g.M.Machine.disk c.args.m.now in
    let one = g.M.Machine.disk c.copy_from_lsn.new.m in
    let new = g.M.Machine.disk c.put_last.new.m in
    let b = c.self.inside.bounds in
    let m = g.O.Oper.meaning b in
    let log = c.self.inside.log in
    let file = c.args.out.now.file in
    let last = c.args.checkpoint.now ∷ [] in
    let apart = subst (λ (v : RecordLogView). v.log.active ≢ file) (sym c.self.view_is) c.requires.apart in
    let second = subst (λ (f : FileNo). Runs (In f KeepsClosed) Same one new) c.copy_from_lsn.ensures.file c.put_last.ensures.runs in
    let copied = c.in_ok-copy_from_lsn.ensures.copied in
    let filled = subst (λ (full : Bool). HasFilled one new c.copy_from_lsn.new.out c.put_last.new.out c.copy_from_lsn.new.blocks (record_code m c.args.checkpoint.now ∷ []) full) c.if-not-branch.false (c.in_ok-put_last.ensures.filled b) in
    subst (λ (v : RecordLogView). HasCopied (g.O.Oper.meaning v.bounds) new old new v.log c.args.base last c.args.new.lengths.items c.args.out.now c.put_last.new.out) c.self.view_is
    (has_copied m new old one new log c.args.base last c.args.new.lengths.items c.args.out.now c.copy_from_lsn.new.out c.put_last.new.out _ c.copy_from_lsn.new.blocks copied.0 refl refl c.copy_from_lsn.ensures.runs.time.files_told.0
    (all_beside m one new file log copied.0 apart second copied.1) copied.2 filled)
