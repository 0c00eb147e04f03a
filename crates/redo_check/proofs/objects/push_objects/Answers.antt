use Rattle.disk_model.specs.Moments.{agreed_before, stays_twice}
use Rattle.disk_model.specs.declared.machine.FileNo.TheVariants.{Objects}
use Rattle.tool_output.specs.FaultLaws.{fails_later}
use Rattle.redo_check.proofs.FormLemmas.{head_alone, head_and_more}
use Rattle.redo_check.proofs.objects.push_objects.Goals as goal

pub returns-in_err-version-clause-kept : goal.returns-in_err-version-clause-kept
returns-in_err-version-clause-kept g c = stays_twice _ _ _ c.read_padded.ensures.kept c.read_version.ensures.kept

pub returns-in_err-push_head-clause-kept : goal.returns-in_err-push_head-clause-kept
returns-in_err-push_head-clause-kept g c = stays_twice _ _ _ c.read_padded.ensures.kept c.read_version.ensures.kept

pub returns-in_default-clause-kept : goal.returns-in_default-clause-kept
returns-in_default-clause-kept g c = stays_twice _ _ _ c.read_padded.ensures.kept c.read_version.ensures.kept

pub returns-in_default-clause-text : goal.returns-in_default-clause-text
returns-in_default-clause-text g c files agrees =
    head_alone (files Objects) c.read_padded.new.into c.in_ok-version.version c.args.text.now.items c.push_head.new.text.items (c.in_ok-read_padded.ensures.bytes files (agreed_before c.read_version.ensures.kept files agrees)) (c.in_ok-version.ensures.read files agrees)
    c.in_default.ensures.none c.in_ok-push_head.ensures

pub returns-in_err-push_behind-clause-kept : goal.returns-in_err-push_behind-clause-kept
returns-in_err-push_behind-clause-kept g c = stays_twice _ _ _ (stays_twice _ _ _ c.read_padded.ensures.kept c.read_version.ensures.kept) c.push_behind.ensures.kept

pub returns-clause-kept : goal.returns-clause-kept
returns-clause-kept g c = stays_twice _ _ _ (stays_twice _ _ _ c.read_padded.ensures.kept c.read_version.ensures.kept) c.push_behind.ensures.kept

pub returns-clause-text : goal.returns-clause-text
returns-clause-text g c files agrees =
    let second = agreed_before c.push_behind.ensures.kept files agrees in
    let first = agreed_before c.read_version.ensures.kept files second in
    head_and_more (files Objects) c.read_padded.new.into c.in_ok-version.version c.in-Some.form c.args.text.now.items c.push_head.new.text.items c.push_behind.new.text.items (c.in_ok-read_padded.ensures.bytes files first) (c.in_ok-version.ensures.read files second)
    c.in-Some.ensures.some.0 c.in-Some.ensures.some.2 c.in_ok-push_head.ensures (c.in_ok-push_behind.ensures.text files agrees)

pub returns-in_err-version-clause-cause : goal.returns-in_err-version-clause-cause
returns-in_err-version-clause-cause g c = fails_later (g.M.Machine.disk c.args.machine.now) (g.M.Machine.disk c.read_padded.new.machine) (g.M.Machine.disk c.read_version.new.machine) _ c.from_residual-in_err-version.result c.in_err-version.field-0.0 c.read_padded.ensures.kept.time c.from_residual-in_err-version.ensures.1 c.in_err-version.ensures.cause

pub returns-in_err-push_behind-clause-cause : goal.returns-in_err-push_behind-clause-cause
returns-in_err-push_behind-clause-cause g c = fails_later (g.M.Machine.disk c.args.machine.now) (g.M.Machine.disk c.read_version.new.machine) (g.M.Machine.disk c.push_behind.new.machine) _ c.from_residual-in_err-push_behind.result c.in_err-push_behind.field-0.0 (stays_twice _ _ _ c.read_padded.ensures.kept c.read_version.ensures.kept).time c.from_residual-in_err-push_behind.ensures.1 c.in_err-push_behind.ensures.cause
