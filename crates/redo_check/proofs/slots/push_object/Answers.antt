use Rattle.std.proofs.Common.{◌++◌, ◌∙◌, ℕ, ap}
use Rattle.disk_model.specs.Moments.{agreed_before, stays_twice}
use Rattle.disk_model.specs.Padded.{padded}
use Rattle.disk_model.specs.declared.machine.FileNo.TheVariants.{Objects}
use Rattle.redo_check.specs.Slots.{pair_lines, slot_of}
use Rattle.tool_output.specs.FaultLaws.{fails_later}
use Rattle.redo_check.proofs.slots.push_object.Goals as goal

pub returns-in_err-second-clause-kept : goal.returns-in_err-second-clause-kept
returns-in_err-second-clause-kept g c = stays_twice _ _ _ c.read_slot.ensures.kept c.read_slot-2.ensures.kept

pub returns-in_err-push_pair-clause-kept : goal.returns-in_err-push_pair-clause-kept
returns-in_err-push_pair-clause-kept g c = stays_twice _ _ _ c.read_slot.ensures.kept c.read_slot-2.ensures.kept

pub returns-clause-kept : goal.returns-clause-kept
returns-clause-kept g c = stays_twice _ _ _ c.read_slot.ensures.kept c.read_slot-2.ensures.kept

pub returns-clause-text : goal.returns-clause-text
returns-clause-text g c files agrees =
    let a = c.args in
    let at = λ (p : ℕ). slot_of (padded (files Objects) p 13) in
    let first = c.in_ok-first.ensures.read files (agreed_before c.read_slot-2.ensures.kept files agrees) ∙ ap at c.place_of.ensures.is in
    let second = c.in_ok-second.ensures.read files agrees ∙ ap at c.place_of-2.ensures.is in
    c.in_ok-push_pair.ensures ∙ λ i. a.text.now.items ++ pair_lines a.layout a.size a.object (first i) (second i)

pub returns-in_err-second-clause-cause : goal.returns-in_err-second-clause-cause
returns-in_err-second-clause-cause g c = fails_later (g.M.Machine.disk c.args.machine.now) (g.M.Machine.disk c.read_slot.new.machine) (g.M.Machine.disk c.read_slot-2.new.machine) _ c.from_residual-in_err-second.result c.in_err-second.field-0.0 c.read_slot.ensures.kept.time c.from_residual-in_err-second.ensures.1 c.in_err-second.ensures.cause
