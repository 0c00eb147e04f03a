use Rattle.std.proofs.Common.{inl, inr, map, subst, sym}
use Rattle.std.specs.Prelude.{IfErr}
use Rattle.disk_model.specs.Disk.{Files}
use Rattle.disk_model.specs.Moments.{told_agrees}
use Rattle.log_records.specs.Loading.IsLoadFault.{in_blocks}
use Rattle.tool_output.specs.Found.{HasStore, IsLogStopped}
use Rattle.tool_output.specs.Saying.{says_nothing, says_then}
use Rattle.tool_output.specs.Stops.{stop_from_read}
use Rattle.op_codec.specs.AllOps.{all_meaning}
use Rattle.formats.specs.InForce.{HoldsLog}
use Rattle.formats.specs.Records.{payload_of}
use Rattle.redo_log.proofs.BrokenLemmas.{end_counted, said_broken}
use Rattle.tool_output.specs.FaultLaws.{read_counted}
use Rattle.redo_log.proofs.ListLemmas.{listed, log_damage, log_part, logs_fault, on_ok}
use Rattle.tool_output.specs.FoundLaws.{load_damaged, log_stopped, stopped_by}
use Rattle.redo_log.proofs.listing.list_log.Goals as goal

pub returns-in_err-log-clause-runs : goal.returns-in_err-log-clause-runs
returns-in_err-log-clause-runs g c = says_nothing c.load.ensures.kept

pub returns-in_err-log-clause-cause : goal.returns-in_err-log-clause-cause
returns-in_err-log-clause-cause g c told store =
    let files = (g.M.Machine.disk c.args.machine.now).reads in
    stopped_by c.from_residual.result (stop_from_read c.in_err-log.field-0.0) (IsLogStopped files) c.from_residual.ensures.1
    (log_stopped files _ _ c.in_err-log.field-0.0 (λ file place is. load_damaged files c.args.b store file place (in_blocks file place (is files (told_agrees c.load.ensures.kept told)))) c.in_err-log.ensures.cause)

pub returns-in_err-end_listing-clause-runs : goal.returns-in_err-end_listing-clause-runs
returns-in_err-end_listing-clause-runs g c = says_then (says_then (says_nothing c.load.ensures.kept) c.say_log-said.ensures.runs) (says_nothing c.end_listing.ensures.kept)

pub returns-in_err-end_listing-clause-cause : goal.returns-in_err-end_listing-clause-cause
returns-in_err-end_listing-clause-cause g c told store =
    let kept = c.load.ensures.kept in
    let run = says_then (says_nothing kept) c.say_log-said.ensures.runs in
    let same = run.reads told in
    let first = g.M.Machine.disk c.args.machine.now in
    let mid = g.M.Machine.disk c.load.new.machine in
    let new = g.M.Machine.disk c.say_log-said.new.machine in
    let log = c.in_ok-log.log in
    let found = c.in_ok-log.ensures.read first.reads (told_agrees kept told) in
    let here = subst (λ (f : Files). HoldsLog log.active log.header found.0 f) (sym (kept.reads told)) found.1 in
    let there = subst (λ (f : Files). HoldsLog log.active log.header found.0 f) (sym same) found.1 in
    subst (λ (f : Files). IfErr c.from_residual-in_err-end_listing.result (IsLogStopped f)) same
    (stopped_by c.from_residual-in_err-end_listing.result c.in_err-end_listing.field-0.0 (IsLogStopped new.reads) c.from_residual-in_err-end_listing.ensures.1
    (c.in_err-end_listing.ensures.cause (run.time.files_told.0 told) (subst (λ (f : Files). HasStore f c.args.b) (sym same) store) log.active log.header found.0 there
    (said_broken (all_meaning c.args.b) mid new _ found.0 c.say_log-said.result (λ file place broken. let none = broken (kept.time.files_told.0 told) found.0 here in (map (payload_of (all_meaning c.args.b)) none.1.groups, none.1.later, none.1.is)) c.say_log-said.ensures.cause)))

pub returns-clause-runs : goal.returns-clause-runs
returns-clause-runs g c = says_then (says_then (says_nothing c.load.ensures.kept) c.say_log-said.ensures.runs) (says_nothing c.end_listing.ensures.kept)

pub returns-clause-listed : goal.returns-clause-listed
returns-clause-listed g c told store =
    let first = g.M.Machine.disk c.args.machine.now in
    let found = c.in_ok-log.ensures.read first.reads (told_agrees c.load.ensures.kept told) in
    listed c.args.choice first (g.M.Machine.disk c.load.new.machine) (g.M.Machine.disk c.say_log-said.new.machine) (g.M.Machine.disk c.end_listing.new.machine) c.args.b _ _ found.0 told store c.load.ensures.kept c.say_log-said.ensures.runs c.end_listing.ensures.kept found.1
    (λ told_mid holds. on_ok c.say_log-said.result _ c.in_ok-end_listing.ensures.all (c.say_log-said.ensures.said told_mid found.0 holds found.2 found.3)) c.in_ok-end_listing.ensures.whole

pub returns-in_err-log-clause-faults : goal.returns-in_err-log-clause-faults
returns-in_err-log-clause-faults g c = stopped_by c.from_residual.result (stop_from_read c.in_err-log.field-0.0) _ c.from_residual.ensures.1 (read_counted (g.M.Machine.disk c.args.machine.now) (g.M.Machine.disk c.load.new.machine) _ c.in_err-log.field-0.0 c.in_err-log.ensures.cause)

pub returns-in_err-end_listing-clause-faults : goal.returns-in_err-end_listing-clause-faults
returns-in_err-end_listing-clause-faults g c = stopped_by c.from_residual-in_err-end_listing.result c.in_err-end_listing.field-0.0 _ c.from_residual-in_err-end_listing.ensures.1
    (end_counted (g.M.Machine.disk c.args.machine.now) (g.M.Machine.disk c.load.new.machine) (g.M.Machine.disk c.say_log-said.new.machine) (g.M.Machine.disk c.end_listing.new.machine) _ c.say_log-said.result c.in_err-end_listing.field-0.0 c.load.ensures.kept.time (says_then (says_nothing c.load.ensures.kept) c.say_log-said.ensures.runs).time c.end_listing.ensures.kept.time c.say_log-said.ensures.cause c.in_err-end_listing.ensures.faults)

pub returns-in_err-log-clause-damage : goal.returns-in_err-log-clause-damage
returns-in_err-log-clause-damage g c told store =
    let first = g.M.Machine.disk c.args.machine.now in
    stopped_by c.from_residual.result (stop_from_read c.in_err-log.field-0.0) _ c.from_residual.ensures.1
    (logs_fault c.args.choice (all_meaning c.args.b) first.reads first.said (g.M.Machine.disk c.load.new.machine).said _ _ c.in_err-log.field-0.0 (λ file place is. is first.reads (told_agrees c.load.ensures.kept told)) store.0 (c.load.ensures.kept.said told) c.in_err-log.ensures.cause)

pub returns-in_err-log-clause-front : goal.returns-in_err-log-clause-front
returns-in_err-log-clause-front g c told = inl (c.load.ensures.kept.said told)

pub returns-in_err-end_listing-clause-damage : goal.returns-in_err-end_listing-clause-damage
returns-in_err-end_listing-clause-damage g c told store =
    let first = g.M.Machine.disk c.args.machine.now in
    let found = c.in_ok-log.ensures.read first.reads (told_agrees c.load.ensures.kept told) in
    stopped_by c.from_residual-in_err-end_listing.result c.in_err-end_listing.field-0.0 _ c.from_residual-in_err-end_listing.ensures.1
    (λ damage. log_damage c.args.choice (all_meaning c.args.b) first (g.M.Machine.disk c.load.new.machine) (g.M.Machine.disk c.say_log-said.new.machine) (g.M.Machine.disk c.end_listing.new.machine) c.in_ok-log.log.active c.in_ok-log.log.header found.0 c.say_log-said.result told c.load.ensures.kept c.say_log-said.ensures.runs c.end_listing.ensures.kept store.0 found.1
    (c.in_err-end_listing.ensures.damage damage) (λ told_mid holds. c.say_log-said.ensures.said told_mid found.0 holds found.2 found.3) c.say_log-said.ensures.cause)

pub returns-in_err-end_listing-clause-front : goal.returns-in_err-end_listing-clause-front
returns-in_err-end_listing-clause-front g c told =
    let first = g.M.Machine.disk c.args.machine.now in
    let found = c.in_ok-log.ensures.read first.reads (told_agrees c.load.ensures.kept told) in
    inr (log_part c.args.choice (all_meaning c.args.b) first (g.M.Machine.disk c.load.new.machine) (g.M.Machine.disk c.say_log-said.new.machine) (g.M.Machine.disk c.end_listing.new.machine) c.in_ok-log.log.active c.in_ok-log.log.header found.0 c.say_log-said.result told c.load.ensures.kept c.say_log-said.ensures.runs c.end_listing.ensures.kept found.1
    (λ told_mid holds. c.say_log-said.ensures.said told_mid found.0 holds found.2 found.3) (λ told_mid holds. c.say_log-said.ensures.front told_mid found.0 holds found.2 found.3))

pub returns-clause-front : goal.returns-clause-front
returns-clause-front g c told =
    let first = g.M.Machine.disk c.args.machine.now in
    let found = c.in_ok-log.ensures.read first.reads (told_agrees c.load.ensures.kept told) in
    inr (log_part c.args.choice (all_meaning c.args.b) first (g.M.Machine.disk c.load.new.machine) (g.M.Machine.disk c.say_log-said.new.machine) (g.M.Machine.disk c.end_listing.new.machine) c.in_ok-log.log.active c.in_ok-log.log.header found.0 c.say_log-said.result told c.load.ensures.kept c.say_log-said.ensures.runs c.end_listing.ensures.kept found.1
    (λ told_mid holds. c.say_log-said.ensures.said told_mid found.0 holds found.2 found.3) (λ told_mid holds. c.say_log-said.ensures.front told_mid found.0 holds found.2 found.3))
