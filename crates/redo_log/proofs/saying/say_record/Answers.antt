use Rattle.std.proofs.Common.{◌∙◌, arith}
use Rattle.disk_model.specs.Moments.{told_agrees}
use Rattle.op_codec.specs.AllOps.{all_meaning}
use Rattle.tool_output.specs.Saying.{says_front, says_nothing, says_then}
use Rattle.redo_log.proofs.BrokenLemmas.{none_found}
use Rattle.tool_output.specs.FaultLaws.{stops_first, stops_later}
use Rattle.tool_output.specs.FrontLaws.{on_any}
use Rattle.redo_log.proofs.PartLemmas.{no_record, one_record}
use Rattle.redo_log.proofs.ReadLemmas.{ahead_off, code_some, code_within, taken_off}
use Rattle.redo_log.proofs.Steps.{says_record}
use Rattle.redo_log.proofs.saying.say_record.Goals as goal

pub returns-in_err-it-clause-runs : goal.returns-in_err-it-clause-runs
returns-in_err-it-clause-runs g c = says_nothing c.find_record.ensures.kept

pub returns-in_err-line-clause-runs : goal.returns-in_err-line-clause-runs
returns-in_err-line-clause-runs g c = says_nothing c.find_record.ensures.kept

pub returns-in_err-say_text-clause-runs : goal.returns-in_err-say_text-clause-runs
returns-in_err-say_text-clause-runs g c = says_then (says_nothing c.find_record.ensures.kept) (says_front _ c.say_text.ensures.runs)

pub take-requires : goal.take-requires
take-requires g c = code_within (all_meaning c.args.b) c.find_record.new.payloads.bytes c.in_ok-it.it c.in_ok-it.length c.in_ok-it.ensures.found.0 c.in_ok-it.ensures.found.1

pub returns-clause-runs : goal.returns-clause-runs
returns-clause-runs g c = says_then (says_nothing c.find_record.ensures.kept) (says_front _ c.say_text.ensures.runs)

pub returns-clause-less : goal.returns-clause-less
returns-clause-less g c =
    let m = all_meaning c.args.b in
    let searched = c.find_record.new.payloads in
    let moved = c.take.new.self in
    let found = c.in_ok-it.ensures.found in
    let some = code_some m c.in_ok-it.it in (
      omega (arith, taken_off m searched moved c.in_ok-it.it c.in_ok-it.length found.0 found.1 c.take.ensures.took, some, c.in_ok-it.ensures.all.0),
      omega (arith, ahead_off m searched moved c.in_ok-it.it c.in_ok-it.length found.0 found.1 c.take.ensures.took, some, c.in_ok-it.ensures.all.1),
    )

pub returns-clause-said : goal.returns-clause-said
returns-clause-said g c told all passed taken later is some =
    let first = g.M.Machine.disk c.args.machine.now in
    let kept = c.find_record.ensures.kept in
    let found = c.in_ok-it.ensures.found in
    says_record c.args.choice (all_meaning c.args.b) first (g.M.Machine.disk c.find_record.new.machine) (g.M.Machine.disk c.say_text.new.machine) c.args.payloads.now c.find_record.new.payloads c.take.new.self all passed taken later
    c.in_ok-it.it c.file.result c.in_ok-it.length c.place.result _ told kept c.find_record.ensures.file c.in_ok-it.ensures.all.0 found.0 found.1 some
    (c.in_ok-it.ensures.read first.reads (told_agrees kept told) all passed taken later is) c.take.ensures.read c.take.ensures.took c.file.ensures c.place.ensures
    (c.as_slice.ensures.value ∙ c.in_ok-line.ensures c.args.b) (c.in_ok-say_text.ensures.all (kept.time.files_told.0 told))

pub returns-in_err-it-clause-cause : goal.returns-in_err-it-clause-cause
returns-in_err-it-clause-cause g c = stops_first (g.M.Machine.disk c.args.machine.now) (g.M.Machine.disk c.find_record.new.machine) _ _ c.from_residual.result c.in_err-it.field-0.0 (λ file place finds. none_found (all_meaning c.args.b) (g.M.Machine.disk c.args.machine.now) (g.M.Machine.disk c.find_record.new.machine) c.args.payloads.now c.find_record.new.payloads c.find_record.ensures.kept c.find_record.ensures.file finds) c.from_residual.ensures.1 c.in_err-it.ensures.cause

pub returns-in_err-say_text-clause-cause : goal.returns-in_err-say_text-clause-cause
returns-in_err-say_text-clause-cause g c = stops_later (g.M.Machine.disk c.args.machine.now) (g.M.Machine.disk c.find_record.new.machine) (g.M.Machine.disk c.say_text.new.machine) _ _ c.from_residual-in_err-say_text.result c.in_err-say_text.field-0.0 c.find_record.ensures.kept.time (λ file place none. absurd none) c.from_residual-in_err-say_text.ensures.1 c.in_err-say_text.ensures.cause

pub returns-in_err-it-clause-front : goal.returns-in_err-it-clause-front
returns-in_err-it-clause-front g c told all passed taken later is some =
    let first = g.M.Machine.disk c.args.machine.now in
    on_any c.from_residual.result (no_record c.args.choice (all_meaning c.args.b) (first.reads c.args.payloads.now.file) c.args.payloads.now all passed taken later first.said (g.M.Machine.disk c.find_record.new.machine).said is (c.find_record.ensures.kept.said told))

pub returns-in_err-line-clause-front : goal.returns-in_err-line-clause-front
returns-in_err-line-clause-front g c told all passed taken later is some =
    let first = g.M.Machine.disk c.args.machine.now in
    on_any c.from_residual-in_err-line.result (no_record c.args.choice (all_meaning c.args.b) (first.reads c.args.payloads.now.file) c.args.payloads.now all passed taken later first.said (g.M.Machine.disk c.find_record.new.machine).said is (c.find_record.ensures.kept.said told))

pub returns-in_err-say_text-clause-front : goal.returns-in_err-say_text-clause-front
returns-in_err-say_text-clause-front g c told all passed taken later is some =
    let first = g.M.Machine.disk c.args.machine.now in
    let kept = c.find_record.ensures.kept in
    let searched = c.find_record.new.payloads in
    let found = c.in_ok-it.ensures.found in
    on_any c.from_residual-in_err-say_text.result (one_record c.args.choice (all_meaning c.args.b) (first.reads searched.file) c.args.payloads.now searched all passed taken later c.in_ok-it.it c.file.result c.in_ok-it.length c.place.result _
    first.said (g.M.Machine.disk c.find_record.new.machine).said (g.M.Machine.disk c.say_text.new.machine).said found.0 found.1 c.in_ok-it.ensures.all.0 (c.file.ensures ∙ c.find_record.ensures.file) some
    (c.in_ok-it.ensures.read first.reads (told_agrees kept told) all passed taken later is) c.place.ensures (c.as_slice.ensures.value ∙ c.in_ok-line.ensures c.args.b) (kept.said told) (c.say_text.ensures.runs.said (kept.time.files_told.0 told)))
