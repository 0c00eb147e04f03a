use Rattle.std.proofs.Common.{◌∙◌, ◌++◌, inl, inr}
use Rattle.tool_output.specs.FaultLaws.{counted_since, stops_counted}
use Rattle.tool_output.specs.FoundLaws.{stopped_by}
use Rattle.tool_output.specs.FrontLaws.{all_said, front_at}
use Rattle.tool_output.specs.Saying.{says_front, says_nothing, says_then}
use Rattle.tool_output.specs.declared.stop.Stop.TheVariants as stops
use Rattle.redo_log.specs.Tallying.IsTallyReport.{of_table}
use Rattle.redo_log.proofs.CountLemmas.{quiet_stop, silent_stop, tally_table}
use Rattle.redo_log.proofs.stats.say_tally.Goals as goal

pub returns-in_err-tally-clause-runs : goal.returns-in_err-tally-clause-runs
returns-in_err-tally-clause-runs g c = says_nothing c.tally_log.ensures.kept

pub returns-in_err-text-clause-runs : goal.returns-in_err-text-clause-runs
returns-in_err-text-clause-runs g c = says_nothing c.tally_log.ensures.kept

pub returns-in_err-say_text-clause-runs : goal.returns-in_err-say_text-clause-runs
returns-in_err-say_text-clause-runs g c = says_then (says_nothing c.tally_log.ensures.kept) (says_front _ c.say_text.ensures.runs)

pub returns-clause-runs : goal.returns-clause-runs
returns-clause-runs g c = says_then (says_nothing c.tally_log.ensures.kept) (says_front _ c.say_text.ensures.runs)

pub returns-clause-counted : goal.returns-clause-counted
returns-clause-counted g c told store =
    let first = g.M.Machine.disk c.args.machine.now in
    let kept = c.tally_log.ensures.kept in
    let is = tally_table c.args.choice first.reads c.in_ok-tally.tally.items _ c.in_ok-text.text.items (c.in_ok-tally.ensures.counted told store) c.as_slice.ensures.value c.in_ok-text.ensures in
    (c.in_ok-text.text.items, is, c.in_ok-say_text.ensures.all (kept.time.files_told.0 told) ∙ λ i. kept.said told i ++ c.as_slice-2.ensures.value i)

pub returns-in_err-tally-clause-cause : goal.returns-in_err-tally-clause-cause
returns-in_err-tally-clause-cause g c told store = stopped_by c.from_residual.result c.in_err-tally.field-0.0 _ c.from_residual.ensures.1 (c.in_err-tally.ensures.cause told store)

pub returns-in_err-text-clause-cause : goal.returns-in_err-text-clause-cause
returns-in_err-text-clause-cause g c told store = stopped_by c.from_residual-in_err-text.result stops.Memory _ c.from_residual-in_err-text.ensures.1 tt

pub returns-in_err-say_text-clause-cause : goal.returns-in_err-say_text-clause-cause
returns-in_err-say_text-clause-cause g c told store = stopped_by c.from_residual-in_err-say_text.result c.in_err-say_text.field-0.0 _ c.from_residual-in_err-say_text.ensures.1
    (quiet_stop (g.M.Machine.disk c.args.machine.now).reads (g.M.Machine.disk c.tally_log.new.machine) (g.M.Machine.disk c.say_text.new.machine) c.in_err-say_text.field-0.0 c.in_err-say_text.ensures.cause)

pub returns-in_err-tally-clause-damage : goal.returns-in_err-tally-clause-damage
returns-in_err-tally-clause-damage g c told = stopped_by c.from_residual.result c.in_err-tally.field-0.0 _ c.from_residual.ensures.1 (λ damage. c.tally_log.ensures.kept.said told)

pub returns-in_err-text-clause-damage : goal.returns-in_err-text-clause-damage
returns-in_err-text-clause-damage g c told = stopped_by c.from_residual-in_err-text.result stops.Memory _ c.from_residual-in_err-text.ensures.1 (λ damage. c.tally_log.ensures.kept.said told)

pub returns-in_err-say_text-clause-damage : goal.returns-in_err-say_text-clause-damage
returns-in_err-say_text-clause-damage g c told = stopped_by c.from_residual-in_err-say_text.result c.in_err-say_text.field-0.0 _ c.from_residual-in_err-say_text.ensures.1
    (λ damage. absurd (silent_stop (g.M.Machine.disk c.tally_log.new.machine) (g.M.Machine.disk c.say_text.new.machine) c.in_err-say_text.field-0.0 c.in_err-say_text.ensures.cause damage))

pub returns-in_err-tally-clause-front : goal.returns-in_err-tally-clause-front
returns-in_err-tally-clause-front g c told store = inl (c.tally_log.ensures.kept.said told)

pub returns-in_err-text-clause-front : goal.returns-in_err-text-clause-front
returns-in_err-text-clause-front g c told store = inl (c.tally_log.ensures.kept.said told)

pub returns-in_err-say_text-clause-front : goal.returns-in_err-say_text-clause-front
returns-in_err-say_text-clause-front g c told store =
    let first = g.M.Machine.disk c.args.machine.now in
    let kept = c.tally_log.ensures.kept in
    let text = c.in_ok-text.text.items in
    let is = tally_table c.args.choice first.reads c.in_ok-tally.tally.items _ text (c.in_ok-tally.ensures.counted told store) c.as_slice.ensures.value c.in_ok-text.ensures in
    inr (text, of_table is, front_at text _ first.said _ _ c.as_slice-2.ensures.value (kept.said told) (c.say_text.ensures.runs.said (kept.time.files_told.0 told)))

pub returns-clause-front : goal.returns-clause-front
returns-clause-front g c told store =
    let first = g.M.Machine.disk c.args.machine.now in
    let kept = c.tally_log.ensures.kept in
    let text = c.in_ok-text.text.items in
    let is = tally_table c.args.choice first.reads c.in_ok-tally.tally.items _ text (c.in_ok-tally.ensures.counted told store) c.as_slice.ensures.value c.in_ok-text.ensures in
    inr (text, of_table is, all_said text first.said _ (c.in_ok-say_text.ensures.all (kept.time.files_told.0 told) ∙ λ i. kept.said told i ++ c.as_slice-2.ensures.value i))

pub returns-in_err-tally-clause-faults : goal.returns-in_err-tally-clause-faults
returns-in_err-tally-clause-faults g c = stopped_by c.from_residual.result c.in_err-tally.field-0.0 _ c.from_residual.ensures.1 c.in_err-tally.ensures.faults

pub returns-in_err-text-clause-faults : goal.returns-in_err-text-clause-faults
returns-in_err-text-clause-faults g c = stopped_by c.from_residual-in_err-text.result stops.Memory _ c.from_residual-in_err-text.ensures.1 tt

pub returns-in_err-say_text-clause-faults : goal.returns-in_err-say_text-clause-faults
returns-in_err-say_text-clause-faults g c = stopped_by c.from_residual-in_err-say_text.result c.in_err-say_text.field-0.0 _ c.from_residual-in_err-say_text.ensures.1
    (counted_since (g.M.Machine.disk c.args.machine.now) (g.M.Machine.disk c.tally_log.new.machine) (g.M.Machine.disk c.say_text.new.machine) c.in_err-say_text.field-0.0 c.tally_log.ensures.kept.time (stops_counted (g.M.Machine.disk c.tally_log.new.machine) (g.M.Machine.disk c.say_text.new.machine) _ c.in_err-say_text.field-0.0 c.in_err-say_text.ensures.cause))
