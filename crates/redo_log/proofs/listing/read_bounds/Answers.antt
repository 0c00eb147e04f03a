use Rattle.disk_model.specs.Moments.{told_agrees}
use Rattle.tool_output.specs.Found.{IsStopped}
use Rattle.tool_output.specs.Stops.{stop_from_open}
use Rattle.tool_output.specs.FaultLaws.{open_counted}
use Rattle.redo_log.proofs.ListLemmas.{objects_fault}
use Rattle.tool_output.specs.FoundLaws.{has_store, objects_damaged, stopped_by, unopened}
use Rattle.redo_log.proofs.listing.read_bounds.Goals as goal

pub returns-clause-whole : goal.returns-clause-whole
returns-clause-whole g c told =
    let files = (g.M.Machine.disk c.args.machine.now).reads in
    has_store files c.in_ok-slots.slots c.bounds.result (c.in_ok-slots.ensures.read files (told_agrees c.load.ensures.kept told)) c.bounds.ensures

pub returns-in_err-slots-clause-cause : goal.returns-in_err-slots-clause-cause
returns-in_err-slots-clause-cause g c told =
    let files = (g.M.Machine.disk c.args.machine.now).reads in
    let agrees = told_agrees c.load.ensures.kept told in
    stopped_by c.from_residual.result (stop_from_open c.in_err-slots.field-0.0) (IsStopped files) c.from_residual.ensures.1
    (unopened files _ _ _ c.in_err-slots.field-0.0 (λ none. none files agrees) (λ file place is. objects_damaged files file place is.0 (is.1 files agrees)) c.in_err-slots.ensures.cause)

pub returns-in_err-slots-clause-faults : goal.returns-in_err-slots-clause-faults
returns-in_err-slots-clause-faults g c = stopped_by c.from_residual.result (stop_from_open c.in_err-slots.field-0.0) _ c.from_residual.ensures.1 (open_counted (g.M.Machine.disk c.args.machine.now) (g.M.Machine.disk c.load.new.machine) _ _ c.in_err-slots.field-0.0 c.in_err-slots.ensures.cause)

pub returns-in_err-slots-clause-damage : goal.returns-in_err-slots-clause-damage
returns-in_err-slots-clause-damage g c told =
    let files = (g.M.Machine.disk c.args.machine.now).reads in
    stopped_by c.from_residual.result (stop_from_open c.in_err-slots.field-0.0) _ c.from_residual.ensures.1
    (objects_fault files _ _ _ c.in_err-slots.field-0.0 (λ file place is. (is.1 files (told_agrees c.load.ensures.kept told)).fault) c.in_err-slots.ensures.cause)
