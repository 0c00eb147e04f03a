use Rattle.std.specs.Prelude.{⊤}
use Rattle.log_records.specs.Loading.{IsLoadFault}
use Rattle.op_codec.specs.AllOps.{all_meaning}
use Rattle.tool_output.specs.Found.{IsLogStopped}
use Rattle.tool_output.specs.Stops.{stop_from_read}
use Rattle.tool_output.specs.FaultLaws.{read_counted}
use Rattle.redo_check.proofs.JudgeLemmas.{is_restart, late_damaged}
use Rattle.tool_output.specs.FoundLaws.{has_store, is_small, load_damaged, log_stopped, stopped_by}
use Rattle.redo_check.proofs.judging.judge_log.Goals as goal

pub returns-in_err-records-clause-cause : goal.returns-in_err-records-clause-cause
returns-in_err-records-clause-cause g c told are =
    let files = (g.M.Machine.disk c.args.machine.now).reads in
    let b = c.bounds-bounds.result in
    let e = c.in_err-records.field-0.0 in
    stopped_by c.from_residual.result (stop_from_read e) (IsLogStopped files) c.from_residual.ensures.1
    (log_stopped files ⊤ (IsLoadFault (all_meaning b) files) e (load_damaged files b (has_store files c.args.slots.now b are c.bounds-bounds.ensures)) (c.in_err-records.ensures.cause told))

pub returns-in-Some-clause-cause : goal.returns-in-Some-clause-cause
returns-in-Some-clause-cause g c told are =
    let files = (g.M.Machine.disk c.args.machine.now).reads in
    let b = c.bounds-bounds.result in
    let small = is_small files b (has_store files c.args.slots.now b are c.bounds-bounds.ensures) in
    let late = c.in-Some.ensures.some in
    late_damaged files c.args.slots.now b c.in_ok-records.records c.in-Some.place late.0 late.1 are c.bounds-bounds.ensures (c.in_ok-records.ensures.read told small) late.2 late.3 late.4

pub returns-clause-whole : goal.returns-clause-whole
returns-clause-whole g c told are =
    let files = (g.M.Machine.disk c.args.machine.now).reads in
    let b = c.bounds-bounds.result in
    let small = is_small files b (has_store files c.args.slots.now b are c.bounds-bounds.ensures) in
    is_restart files c.args.slots.now b c.in_ok-records.records are c.bounds-bounds.ensures (c.in_ok-records.ensures.read told small) c.in_default.ensures.none

pub returns-in_err-records-clause-faults : goal.returns-in_err-records-clause-faults
returns-in_err-records-clause-faults g c = stopped_by c.from_residual.result (stop_from_read c.in_err-records.field-0.0) _ c.from_residual.ensures.1 (read_counted (g.M.Machine.disk c.args.machine.now) (g.M.Machine.disk c.store_records.new.machine) _ c.in_err-records.field-0.0 c.in_err-records.ensures.fault)
