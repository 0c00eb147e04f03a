use Rattle.std.proofs.Common.{◌∙◌, Bool, refl, sym, ap, subst, arith}
use Rattle.std.specs.Prelude.{option_copied}
use Rattle.std.specs.Option.{option_to_list}
use Rattle.std.proofs.lemmas.Result.{err_from_is_err_and}
use Rattle.disk_model.specs.Disk.{In, Rises, Runs, Same}
use Rattle.disk_model.specs.declared.machine.FileNo.{FileNo}
use Rattle.log_blocks.specs.RewriteLaws.{keeps_twice}
use Rattle.log_blocks.specs.Rewriting.{KeepsClosed}
use Rattle.log_records.specs.CodecLaws.{has_codes}
use Rattle.log_records.specs.Copying.{HasCopied, HasFilled}
use Rattle.log_records.specs.Laying.{codes_of}
use Rattle.log_records.specs.Loading.{IsTailFault}
use Rattle.log_records.specs.LogCopy.{CopyFails, IsCopyPlanned, copy_from_read}
use Rattle.log_records.specs.RecordLog.{RecordLogView}
use Rattle.log_records.specs.declared.copy_err.CopyErr.{CopyErr}
use Rattle.log_records.proofs.Copies.{has_copied, not_filled, planned_fits, rises_since}
use Rattle.log_records.proofs.CopyingAll.{copy_put_fails}
use Rattle.log_records.proofs.LogCopies.{copy_planned_stays, last_encodable, some_planned}
use Rattle.log_records.proofs.record_log.RecordLog.copy_into.Goals as goal

pub copy_all-requires-clause-small : goal.copy_all-requires-clause-small
copy_all-requires-clause-small g c = c.self.invariant.small

pub copy_all-requires-clause-fits : goal.copy_all-requires-clause-fits
copy_all-requires-clause-fits g c = omega (arith, c.requires.fits)

pub put_last-requires-clause-code : goal.put_last-requires-clause-code
put_last-requires-clause-code g c =
    let old = g.M.Machine.disk c.args.m.now in
    let b = c.self.inside.bounds in
    let codes = has_codes (g.O.Oper.meaning b) b c.self.invariant.small (g.met.O.Oper.bounded b) (g.met.O.Oper.lawful b c.self.invariant.small) in
    let planned = subst (λ (v : RecordLogView). IsCopyPlanned (g.O.Oper.meaning v.bounds) old v.log c.args.new (option_copied c.args.last)) (sym c.self.view_is) c.requires.planned in
    last_encodable g.O.Oper.meaning b codes c.args.last planned.grammar

pub put_last-requires-clause-fits : goal.put_last-requires-clause-fits
put_last-requires-clause-fits g c = omega (arith, c.in_ok-copy_all.ensures.copied.2.end, c.requires.fits)

pub returns-in_err-copy_all-clause-cause : goal.returns-in_err-copy_all-clause-cause
returns-in_err-copy_all-clause-cause g c =
    let old = g.M.Machine.disk c.args.m.now in
    let new = g.M.Machine.disk c.copy_all.new.m in
    let b = c.self.inside.bounds in
    let m = g.O.Oper.meaning b in
    let log = c.self.inside.log in
    let last = option_copied c.args.last in
    let plan = subst (λ (v : RecordLogView). IsCopyPlanned (g.O.Oper.meaning v.bounds) old v.log c.args.new last) (sym c.self.view_is) c.requires.planned in
    let p = err_from_is_err_and c.from_residual.result c.from_residual.ensures.1 in
    rw (p.1, p.2) (subst (λ (v : RecordLogView). CopyFails (Rises old.disk_faults new.disk_faults) (Rises (g.T.Machine.disk c.args.target.now).disk_faults (g.T.Machine.disk c.copy_all.new.target).disk_faults)
    (IsTailFault (g.O.Oper.meaning v.bounds) new v.log) (λ u n l. ⊥) c.in_err-copy_all.field-0.0) c.self.view_is
    (c.in_err-copy_all.ensures.cause plan.planned.records (codes_of m (option_to_list last)) plan.planned.all
    (planned_fits m old log log.header.base (option_to_list last) c.args.new plan.planned (some_planned m old log c.args.new last plan))))

pub returns-in_err-put_last-clause-runs : goal.returns-in_err-put_last-clause-runs
returns-in_err-put_last-clause-runs g c =
    let one = g.T.Machine.disk c.copy_all.new.target in
    let new = g.T.Machine.disk c.put_last.new.m in
    keeps_twice (g.T.Machine.disk c.args.target.now) one new c.args.out.now.file c.copy_all.ensures.runs (subst (λ (f : FileNo). Runs (In f KeepsClosed) Same one new) c.copy_all.ensures.file c.put_last.ensures.runs)

pub returns-in_err-put_last-clause-cause : goal.returns-in_err-put_last-clause-cause
returns-in_err-put_last-clause-cause g c =
    let old = g.T.Machine.disk c.args.target.now in
    let one = g.T.Machine.disk c.copy_all.new.target in
    let p = err_from_is_err_and c.from_residual-in_err-put_last.result c.from_residual-in_err-put_last.ensures.1 in
    rw (p.1, p.2) (copy_put_fails _ _ _ _ _ c.in_err-put_last.field-0.0 (rises_since old one (g.T.Machine.disk c.put_last.new.m) c.copy_all.ensures.runs.time.disk_faults) c.in_err-put_last.ensures.cause)

pub returns-then-not-branch-clause-runs : goal.returns-then-not-branch-clause-runs
returns-then-not-branch-clause-runs g c =
    let one = g.T.Machine.disk c.copy_all.new.target in
    let new = g.T.Machine.disk c.put_last.new.m in
    keeps_twice (g.T.Machine.disk c.args.target.now) one new c.args.out.now.file c.copy_all.ensures.runs (subst (λ (f : FileNo). Runs (In f KeepsClosed) Same one new) c.copy_all.ensures.file c.put_last.ensures.runs)

pub returns-then-not-branch-clause-cause : goal.returns-then-not-branch-clause-cause
returns-then-not-branch-clause-cause g c =
    let source = g.M.Machine.disk c.args.m.now in
    let read = g.M.Machine.disk c.copy_all.new.m in
    let old = g.T.Machine.disk c.args.target.now in
    let one = g.T.Machine.disk c.copy_all.new.target in
    let new = g.T.Machine.disk c.put_last.new.m in
    let b = c.self.inside.bounds in
    let m = g.O.Oper.meaning b in
    let log = c.self.inside.log in
    let last = option_copied c.args.last in
    let codes = has_codes m b c.self.invariant.small (g.met.O.Oper.bounded b) (g.met.O.Oper.lawful b c.self.invariant.small) in
    let plan = copy_planned_stays m source read log c.args.new last c.copy_all.ensures.kept
    (subst (λ (v : RecordLogView). IsCopyPlanned (g.O.Oper.meaning v.bounds) source v.log c.args.new last) (sym c.self.view_is) c.requires.planned) in
    let copied = c.in_ok-copy_all.ensures.copied in
    let never = subst (λ (full : Bool). HasFilled one new c.copy_all.new.out c.put_last.new.out c.copy_all.new.blocks (codes_of m (option_to_list last)) full) c.if-not-branch.true (c.in_ok-put_last.ensures.filled b) in
    subst (λ (e : CopyErr). CopyFails (Rises source.disk_faults read.disk_faults) (Rises old.disk_faults new.disk_faults) (IsTailFault (g.O.Oper.meaning c.args.self.now.bounds) read c.args.self.now.log) (λ u n l. ⊥) e) (sym (c.from.ensures ∙ ap copy_from_read c.changed.ensures))
    (subst (λ (v : RecordLogView). IsTailFault (g.O.Oper.meaning v.bounds) read v.log log.active 0) c.self.view_is
    (not_filled m codes old one read log log.header.base (option_to_list last) c.args.new c.args.out.now c.copy_all.new.out _ c.copy_all.new.blocks copied.0 plan.planned (some_planned m read log c.args.new last plan) refl refl copied.1 copied.2 never 0))

pub returns-clause-runs : goal.returns-clause-runs
returns-clause-runs g c =
    let one = g.T.Machine.disk c.copy_all.new.target in
    let new = g.T.Machine.disk c.put_last.new.m in
    keeps_twice (g.T.Machine.disk c.args.target.now) one new c.args.out.now.file c.copy_all.ensures.runs (subst (λ (f : FileNo). Runs (In f KeepsClosed) Same one new) c.copy_all.ensures.file c.put_last.ensures.runs)

pub returns-clause-copied : goal.returns-clause-copied
returns-clause-copied g c =
    let read = g.M.Machine.disk c.copy_all.new.m in
    let old = g.T.Machine.disk c.args.target.now in
    let one = g.T.Machine.disk c.copy_all.new.target in
    let new = g.T.Machine.disk c.put_last.new.m in
    let b = c.self.inside.bounds in
    let m = g.O.Oper.meaning b in
    let log = c.self.inside.log in
    let last = option_to_list (option_copied c.args.last) in
    let copied = c.in_ok-copy_all.ensures.copied in
    let filled = subst (λ (full : Bool). HasFilled one new c.copy_all.new.out c.put_last.new.out c.copy_all.new.blocks (codes_of m last) full) c.if-not-branch.false (c.in_ok-put_last.ensures.filled b) in
    subst (λ (v : RecordLogView). HasCopied (g.O.Oper.meaning v.bounds) read old new v.log v.log.header.base last c.args.new.lengths.items c.args.out.now c.put_last.new.out) c.self.view_is
    (has_copied m read old one new log log.header.base last c.args.new.lengths.items c.args.out.now c.copy_all.new.out c.put_last.new.out _ c.copy_all.new.blocks copied.0 refl refl c.copy_all.ensures.runs.time.files_told.0 copied.1 copied.2 filled)
