use Rattle.std.proofs.Common.{subst, sym}
use Rattle.std.specs.Prelude.{IfErr}
use Rattle.disk_model.specs.Disk.{Files}
use Rattle.disk_model.specs.Moments.{stays_here, stays_twice, told_agrees}
use Rattle.formats.specs.InForce.{HoldsLog}
use Rattle.log_records.specs.Loading.IsLoadFault.{in_blocks}
use Rattle.op_codec.specs.AllOps.{all_meaning}
use Rattle.tool_output.specs.FaultLaws.{read_counted}
use Rattle.tool_output.specs.Found.{HasStore, IsLogStopped}
use Rattle.tool_output.specs.FoundLaws.{load_damaged, log_stopped, stopped_by}
use Rattle.tool_output.specs.Stops.{stop_from_read}
use Rattle.tool_output.specs.declared.stop.Stop.TheVariants as stops
use Rattle.redo_log.proofs.BrokenLemmas.{end_counted, said_broken}
use Rattle.redo_log.proofs.CountLemmas.{tally_made}
use Rattle.redo_log.proofs.stats.tally_log.Goals as goal

pub returns-in_err-tally-clause-kept : goal.returns-in_err-tally-clause-kept
returns-in_err-tally-clause-kept g c = stays_here (g.M.Machine.disk c.args.machine.now) (g.met.M.Machine.lawful c.args.machine.now)

pub returns-in_err-log-clause-kept : goal.returns-in_err-log-clause-kept
returns-in_err-log-clause-kept g c = c.load.ensures.kept

pub returns-in_err-end_listing-clause-kept : goal.returns-in_err-end_listing-clause-kept
returns-in_err-end_listing-clause-kept g c = stays_twice _ _ _ (stays_twice _ _ _ c.load.ensures.kept c.count_log-counted.ensures.kept) c.end_listing.ensures.kept

pub returns-clause-kept : goal.returns-clause-kept
returns-clause-kept g c = stays_twice _ _ _ (stays_twice _ _ _ c.load.ensures.kept c.count_log-counted.ensures.kept) c.end_listing.ensures.kept

pub returns-in_err-tally-clause-cause : goal.returns-in_err-tally-clause-cause
returns-in_err-tally-clause-cause g c told store = stopped_by c.from_residual.result stops.Memory _ c.from_residual.ensures.1 tt

pub returns-in_err-tally-clause-faults : goal.returns-in_err-tally-clause-faults
returns-in_err-tally-clause-faults g c = stopped_by c.from_residual.result stops.Memory _ c.from_residual.ensures.1 tt

pub returns-in_err-log-clause-cause : goal.returns-in_err-log-clause-cause
returns-in_err-log-clause-cause g c told store =
    let files = (g.M.Machine.disk c.args.machine.now).reads in
    stopped_by c.from_residual-in_err-log.result (stop_from_read c.in_err-log.field-0.0) (IsLogStopped files) c.from_residual-in_err-log.ensures.1
    (log_stopped files _ _ c.in_err-log.field-0.0 (λ file place is. load_damaged files c.args.b store file place (in_blocks file place (is files (told_agrees c.load.ensures.kept told)))) c.in_err-log.ensures.cause)

pub returns-in_err-log-clause-faults : goal.returns-in_err-log-clause-faults
returns-in_err-log-clause-faults g c = stopped_by c.from_residual-in_err-log.result (stop_from_read c.in_err-log.field-0.0) _ c.from_residual-in_err-log.ensures.1 (read_counted (g.M.Machine.disk c.args.machine.now) (g.M.Machine.disk c.load.new.machine) _ c.in_err-log.field-0.0 c.in_err-log.ensures.cause)

pub returns-in_err-end_listing-clause-cause : goal.returns-in_err-end_listing-clause-cause
returns-in_err-end_listing-clause-cause g c told store =
    let kept = c.load.ensures.kept in
    let both = stays_twice _ _ _ kept c.count_log-counted.ensures.kept in
    let same = both.reads told in
    let first = g.M.Machine.disk c.args.machine.now in
    let mid = g.M.Machine.disk c.load.new.machine in
    let new = g.M.Machine.disk c.count_log-counted.new.machine in
    let log = c.in_ok-log.log in
    let found = c.in_ok-log.ensures.read first.reads (told_agrees kept told) in
    let here = subst (λ (f : Files). HoldsLog log.active log.header found.0 f) (sym (kept.reads told)) found.1 in
    let there = subst (λ (f : Files). HoldsLog log.active log.header found.0 f) (sym same) found.1 in
    subst (λ (f : Files). IfErr c.from_residual-in_err-end_listing.result (IsLogStopped f)) same
    (stopped_by c.from_residual-in_err-end_listing.result c.in_err-end_listing.field-0.0 (IsLogStopped new.reads) c.from_residual-in_err-end_listing.ensures.1
    (c.in_err-end_listing.ensures.cause (both.time.files_told.0 told) (subst (λ (f : Files). HasStore f c.args.b) (sym same) store) log.active log.header found.0 there
    (said_broken (all_meaning c.args.b) mid new _ found.0 c.count_log-counted.result (λ file place broken. broken (kept.time.files_told.0 told) found.0 here) c.count_log-counted.ensures.cause)))

pub returns-in_err-end_listing-clause-faults : goal.returns-in_err-end_listing-clause-faults
returns-in_err-end_listing-clause-faults g c = stopped_by c.from_residual-in_err-end_listing.result c.in_err-end_listing.field-0.0 _ c.from_residual-in_err-end_listing.ensures.1
    (end_counted (g.M.Machine.disk c.args.machine.now) (g.M.Machine.disk c.load.new.machine) (g.M.Machine.disk c.count_log-counted.new.machine) (g.M.Machine.disk c.end_listing.new.machine) _ c.count_log-counted.result c.in_err-end_listing.field-0.0 c.load.ensures.kept.time (stays_twice _ _ _ c.load.ensures.kept c.count_log-counted.ensures.kept).time c.end_listing.ensures.kept.time c.count_log-counted.ensures.cause c.in_err-end_listing.ensures.faults)

pub returns-clause-counted : goal.returns-clause-counted
returns-clause-counted g c told store =
    let first = g.M.Machine.disk c.args.machine.now in
    let kept = c.load.ensures.kept in
    let found = c.in_ok-log.ensures.read first.reads (told_agrees kept told) in
    tally_made c.args.choice first (g.M.Machine.disk c.load.new.machine) (g.M.Machine.disk c.count_log-counted.new.machine) c.args.b c.in_ok-log.log.active c.in_ok-log.log.header found.0 c.count_log-counted.result c.in_ok-tally.tally.items c.count_log-counted.new.tally.items
    told store kept c.count_log-counted.ensures.kept found.1 (c.in_ok-tally.ensures c.args.choice (all_meaning c.args.b)) c.in_ok-end_listing.ensures.all (λ told_mid holds. c.count_log-counted.ensures.counted told_mid found.0 holds) c.in_ok-end_listing.ensures.whole
