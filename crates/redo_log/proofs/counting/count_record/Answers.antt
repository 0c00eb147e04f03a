use Rattle.std.proofs.Common.{arith}
use Rattle.disk_model.specs.Moments.{told_agrees}
use Rattle.op_codec.specs.AllOps.{all_meaning}
use Rattle.tool_output.specs.FaultLaws.{stops_first}
use Rattle.redo_log.proofs.BrokenLemmas.{none_found}
use Rattle.redo_log.proofs.CountLemmas.{counts_record}
use Rattle.redo_log.proofs.ReadLemmas.{ahead_off, code_some, code_within, taken_off}
use Rattle.redo_log.proofs.counting.count_record.Goals as goal

pub take-requires : goal.take-requires
take-requires g c = code_within (all_meaning c.args.b) c.find_record.new.payloads.bytes c.in_ok-it.it c.in_ok-it.length c.in_ok-it.ensures.found.0 c.in_ok-it.ensures.found.1

pub returns-clause-less : goal.returns-clause-less
returns-clause-less g c =
    let m = all_meaning c.args.b in
    let searched = c.find_record.new.payloads in
    let moved = c.take.new.self in
    let found = c.in_ok-it.ensures.found in
    let some = code_some m c.in_ok-it.it in (
      omega (arith, taken_off m searched moved c.in_ok-it.it c.in_ok-it.length found.0 found.1 c.take.ensures.took, some, c.in_ok-it.ensures.all.0),
      omega (arith, ahead_off m searched moved c.in_ok-it.it c.in_ok-it.length found.0 found.1 c.take.ensures.took, some, c.in_ok-it.ensures.all.1),
    )

pub returns-clause-counted : goal.returns-clause-counted
returns-clause-counted g c told all passed taken later is some =
    let first = g.M.Machine.disk c.args.machine.now in
    let kept = c.find_record.ensures.kept in
    let found = c.in_ok-it.ensures.found in
    counts_record c.args.choice (all_meaning c.args.b) first (g.M.Machine.disk c.find_record.new.machine) c.args.payloads.now c.find_record.new.payloads c.take.new.self all passed taken later c.in_ok-it.it c.in_ok-it.length c.args.tally.now.items c.count.new.tally.items
    told kept c.find_record.ensures.file c.in_ok-it.ensures.all.0 found.0 found.1 (c.in_ok-it.ensures.read first.reads (told_agrees kept told) all passed taken later is) c.take.ensures.read c.take.ensures.took (c.count.ensures c.args.b found.1)

pub returns-in_err-it-clause-cause : goal.returns-in_err-it-clause-cause
returns-in_err-it-clause-cause g c = stops_first (g.M.Machine.disk c.args.machine.now) (g.M.Machine.disk c.find_record.new.machine) _ _ c.from_residual.result c.in_err-it.field-0.0 (λ file place finds. none_found (all_meaning c.args.b) (g.M.Machine.disk c.args.machine.now) (g.M.Machine.disk c.find_record.new.machine) c.args.payloads.now c.find_record.new.payloads c.find_record.ensures.kept c.find_record.ensures.file finds) c.from_residual.ensures.1 c.in_err-it.ensures.cause
