use Rattle.std.proofs.Common.{◌≡◌, ℕ, Option, length, subst}
use Rattle.std.specs.Prelude.{IfNone, IfSome}
use Rattle.formats.specs.Records.{record_code}
use Rattle.formats.specs.declared.record.Record.{Record}
use Rattle.log_records.specs.Codec.{StartsWithRecord}
use Rattle.op_codec.specs.AllOps.{AllOps, all_meaning}
use Rattle.redo_log.specs.Unreadable.{StartsWithNone}
use Rattle.tool_output.specs.Stops.{stop_from_read}
use Rattle.tool_output.specs.FaultLaws.{read_stops, stops_first}
use Rattle.redo_log.proofs.finding.find_record.Goals as goal

pub returns-in_err-found-clause-cause : goal.returns-in_err-found-clause-cause
returns-in_err-found-clause-cause g c =
    stops_first (g.M.Machine.disk c.args.machine.now) (g.M.Machine.disk c.search_record.new.machine) _ _ c.from_residual.result (stop_from_read c.in_err-found.field-0.0) (λ file place none. absurd none) c.from_residual.ensures.1
    (read_stops (g.M.Machine.disk c.args.machine.now) (g.M.Machine.disk c.search_record.new.machine) _ c.in_err-found.field-0.0 c.in_err-found.ensures.cause)

pub returns-in-Some-clause-found : goal.returns-in-Some-clause-found
returns-in-Some-clause-found g c =
    let m = all_meaning c.args.b in
    let bytes = c.search_record.new.payloads.bytes in
    subst (λ (o : Option (Record AllOps × ℕ)). IfSome o (λ pair. StartsWithRecord m bytes pair.0 × (pair.1 ≡ length (record_code m pair.0)))) c.in-Some.is c.in_ok-found.ensures.some

pub returns-in-None-clause-cause : goal.returns-in-None-clause-cause
returns-in-None-clause-cause g c =
    let it = c.search_record.new.payloads in
    let none = subst (λ (o : Option (Record AllOps × ℕ)). IfNone o ((it.left ≡ 0) × StartsWithNone (all_meaning c.args.b) it.bytes)) c.in-None.is c.in_ok-found.ensures.none in
    record {
      whole = none.0;
      none = none.1;
      all = c.in_ok-found.ensures.all.0;
      read = c.in_ok-found.ensures.read;
    }
