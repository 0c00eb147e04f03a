use Rattle.std.proofs.Common.{rules}
use Rattle.disk_model.specs.Moments.{agreed_before, stays_twice}
use Rattle.disk_model.specs.declared.machine.FileNo.TheVariants.{Objects}
use Rattle.tool_output.specs.FaultLaws.{fails_later}
use Rattle.redo_check.proofs.FormLemmas.{behind_none, behind_some}
use Rattle.redo_check.proofs.objects.push_behind.Goals as goal

pub returns-then-not-are_bounds-clause-text : goal.returns-then-not-are_bounds-clause-text
returns-then-not-are_bounds-clause-text g c files agrees =
    behind_none c.args.form (files Objects) c.read_padded.new.into c.params_of-params.result c.are_bounds.result c.args.text.now.items c.push_numbers.new.text.items (c.in_ok-read_padded.ensures.bytes files agrees) c.params_of-params.ensures c.are_bounds.ensures.is (search rules) c.in_ok-push_numbers.ensures

pub returns-in_err-push_slots-clause-kept : goal.returns-in_err-push_slots-clause-kept
returns-in_err-push_slots-clause-kept g c = stays_twice _ _ _ c.read_padded.ensures.kept c.push_slots.ensures.kept

pub returns-clause-kept : goal.returns-clause-kept
returns-clause-kept g c = stays_twice _ _ _ c.read_padded.ensures.kept c.push_slots.ensures.kept

pub returns-clause-text : goal.returns-clause-text
returns-clause-text g c files agrees =
    behind_some c.args.form (files Objects) c.read_padded.new.into c.params_of-params.result c.are_bounds.result c.args.text.now.items c.push_numbers.new.text.items c.push_slots.new.text.items (c.in_ok-read_padded.ensures.bytes files (agreed_before c.push_slots.ensures.kept files agrees)) c.params_of-params.ensures c.are_bounds.ensures.is (search rules)
    c.in_ok-push_numbers.ensures (c.in_ok-push_slots.ensures.text files agrees)

pub returns-in_err-push_slots-clause-cause : goal.returns-in_err-push_slots-clause-cause
returns-in_err-push_slots-clause-cause g c = fails_later (g.M.Machine.disk c.args.machine.now) (g.M.Machine.disk c.read_padded.new.machine) (g.M.Machine.disk c.push_slots.new.machine) _ c.from_residual-in_err-push_slots.result c.in_err-push_slots.field-0.0 c.read_padded.ensures.kept.time c.from_residual-in_err-push_slots.ensures.1 c.in_err-push_slots.ensures.cause
