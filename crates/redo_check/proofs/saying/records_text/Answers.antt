use Rattle.std.proofs.Common.{◌∙◌, subst, sym}
use Rattle.std.specs.Prelude.{IfSome, Option}
use Rattle.disk_model.specs.Disk.{Files}
use Rattle.disk_model.specs.Moments.{stays_twice, told_agrees}
use Rattle.oper_core.specs.Meaning.{IsSmall}
use Rattle.oper_core.specs.declared.bounds.Bounds.{Bounds}
use Rattle.redo_check.specs.Checking.{IsRecordsOf}
use Rattle.redo_check.specs.Checking.IsRecordsLine.{by_bounds}
use Rattle.tool_output.specs.FaultLaws.{fails_later}
use Rattle.redo_check.proofs.saying.records_text.Goals as goal

pub returns-in_err-line-clause-kept : goal.returns-in_err-line-clause-kept
returns-in_err-line-clause-kept g c = stays_twice _ _ _ c.read_bounds.ensures.kept c.records_line.ensures.kept

pub returns-clause-kept : goal.returns-clause-kept
returns-clause-kept g c = stays_twice _ _ _ c.read_bounds.ensures.kept c.records_line.ensures.kept

pub returns-clause-text : goal.returns-clause-text
returns-clause-text g c told =
    let kept = c.read_bounds.ensures.kept in
    let found = c.in_ok-found.ensures in
    let files = (g.M.Machine.disk c.args.machine.now).reads in
    by_bounds c.in-Some.b (sym (found.read files (told_agrees kept told)) ∙ c.in-Some.is)
    (subst (λ (f : Files). IsRecordsOf f c.in-Some.b c.in_ok-line.line.items) (kept.reads told)
    (c.in_ok-line.ensures.text (kept.time.files_told.0 told) (subst (λ (o : Option Bounds). IfSome o IsSmall) c.in-Some.is found.small)))

pub returns-in_err-line-clause-cause : goal.returns-in_err-line-clause-cause
returns-in_err-line-clause-cause g c = fails_later (g.M.Machine.disk c.args.machine.now) (g.M.Machine.disk c.read_bounds.new.machine) (g.M.Machine.disk c.records_line.new.machine) _ c.from_residual-in_err-line.result c.in_err-line.field-0.0 c.read_bounds.ensures.kept.time c.from_residual-in_err-line.ensures.1 c.in_err-line.ensures.cause
