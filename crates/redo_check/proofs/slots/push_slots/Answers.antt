use Rattle.std.proofs.Common.{rules}
use Rattle.std.specs.Prelude.{codes, nat_lt}
use Rattle.disk_model.specs.Moments.{agreed_before, stays_twice}
use Rattle.disk_model.specs.declared.machine.FileNo.TheVariants.{Objects}
use Rattle.formats.specs.Objects.{last_slot}
use Rattle.redo_check.specs.Lines.{number_line}
use Rattle.tool_output.specs.FaultLaws.{fails_later}
use Rattle.redo_check.proofs.SlotLemmas.{pairs_begun, pairs_done, pairs_more}
use Rattle.redo_check.proofs.slots.push_slots.Goals as goal

pub loop-object-init : goal.loop-object-init
loop-object-init g c = record {
  kept = c.size.ensures.kept;
  lines = λ files agrees. (c.in_ok-size.ensures.size files agrees, pairs_begun c.args.layout (files Objects) c.in_ok-size.size c.is_whole.result c.args.text.now.items c.push_found.new.text.items c.is_whole.ensures c.in_ok-push_found.ensures);
}

pub loop-object-preserved : goal.loop-object-preserved
loop-object-preserved g c =
    let inv = c.loop-object.invariant in
    record {
      kept = stays_twice _ _ _ inv.kept c.push_object.ensures.kept;
      lines = λ files agrees.
          let before = inv.lines files (agreed_before c.push_object.ensures.kept files agrees) in
          (before.0, pairs_more c.args.layout (files Objects) c.in_ok-size.size c.loop-object.object c.args.text.now.items (number_line Objects 0 (codes "length") c.in_ok-size.size (nat_lt (last_slot c.args.layout) c.in_ok-size.size)) c.loop-object.text.items c.push_object.new.text.items before.0 before.1 (c.in_ok-push_object.ensures.text files agrees));
    }

pub returns-in_err-push_object-clause-kept : goal.returns-in_err-push_object-clause-kept
returns-in_err-push_object-clause-kept g c = stays_twice _ _ _ c.loop-object.invariant.kept c.push_object.ensures.kept

pub returns-clause-kept : goal.returns-clause-kept
returns-clause-kept g c = c.loop-object.invariant.kept

pub returns-clause-text : goal.returns-clause-text
returns-clause-text g c files agrees =
    let inv = c.loop-object.invariant in
    let so_far = inv.lines files agrees in
    pairs_done c.args.layout (files Objects) c.in_ok-size.size c.loop-object.object c.args.text.now.items c.loop-object.text.items so_far.0 (search rules) so_far.1

pub returns-in_err-push_object-clause-cause : goal.returns-in_err-push_object-clause-cause
returns-in_err-push_object-clause-cause g c = fails_later (g.M.Machine.disk c.args.machine.now) (g.M.Machine.disk c.loop-object.machine) (g.M.Machine.disk c.push_object.new.machine) _ c.from_residual-in_err-push_object.result c.in_err-push_object.field-0.0 c.loop-object.invariant.kept.time c.from_residual-in_err-push_object.ensures.1 c.in_err-push_object.ensures.cause
