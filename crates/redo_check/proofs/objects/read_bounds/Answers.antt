use Rattle.disk_model.specs.Moments.{agreed_before, stays_twice}
use Rattle.disk_model.specs.declared.machine.FileNo.TheVariants.{Objects}
use Rattle.tool_output.specs.FaultLaws.{fails_later}
use Rattle.redo_check.proofs.FormLemmas.{bounds_alone, bounds_on}
use Rattle.redo_check.proofs.objects.read_bounds.Goals as goal

pub returns-in_default-clause-read : goal.returns-in_default-clause-read
returns-in_default-clause-read g c files agrees = bounds_alone (files Objects) c.read_padded.new.into (c.in_ok-read_padded.ensures.bytes files agrees) c.in_default.ensures.none

pub returns-in_err-found-clause-kept : goal.returns-in_err-found-clause-kept
returns-in_err-found-clause-kept g c = stays_twice _ _ _ c.read_padded.ensures.kept c.bounds_behind.ensures.kept

pub returns-clause-kept : goal.returns-clause-kept
returns-clause-kept g c = stays_twice _ _ _ c.read_padded.ensures.kept c.bounds_behind.ensures.kept

pub returns-clause-read : goal.returns-clause-read
returns-clause-read g c files agrees =
    bounds_on (files Objects) c.read_padded.new.into c.in-Some.form c.in_ok-found.found (c.in_ok-read_padded.ensures.bytes files (agreed_before c.bounds_behind.ensures.kept files agrees)) c.in-Some.ensures.some.0 c.in-Some.ensures.some.2
    (c.in_ok-found.ensures.read files agrees)

pub returns-in_err-found-clause-cause : goal.returns-in_err-found-clause-cause
returns-in_err-found-clause-cause g c = fails_later (g.M.Machine.disk c.args.machine.now) (g.M.Machine.disk c.read_padded.new.machine) (g.M.Machine.disk c.bounds_behind.new.machine) _ c.from_residual-in_err-found.result c.in_err-found.field-0.0 c.read_padded.ensures.kept.time c.from_residual-in_err-found.ensures.1 c.in_err-found.ensures.cause
