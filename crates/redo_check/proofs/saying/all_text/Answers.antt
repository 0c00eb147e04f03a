use Rattle.std.proofs.Common.{◌++◌, ◌∙◌, subst}
use Rattle.disk_model.specs.Disk.{Files}
use Rattle.disk_model.specs.Moments.{stays_twice, told_agrees}
use Rattle.redo_check.specs.Checking.{IsRecordsLine}
use Rattle.tool_output.specs.FaultLaws.{fails_later}
use Rattle.redo_check.proofs.saying.all_text.Goals as goal

pub returns-in_err-blocks-clause-kept : goal.returns-in_err-blocks-clause-kept
returns-in_err-blocks-clause-kept g c = stays_twice _ _ _ c.files_text.ensures.kept c.blocks_text.ensures.kept

pub returns-in_err-extend_from_slice-clause-kept : goal.returns-in_err-extend_from_slice-clause-kept
returns-in_err-extend_from_slice-clause-kept g c = stays_twice _ _ _ c.files_text.ensures.kept c.blocks_text.ensures.kept

pub returns-in_err-records-clause-kept : goal.returns-in_err-records-clause-kept
returns-in_err-records-clause-kept g c = stays_twice _ _ _ (stays_twice _ _ _ c.files_text.ensures.kept c.blocks_text.ensures.kept) c.records_text.ensures.kept

pub returns-in_err-extend_from_slice-2-clause-kept : goal.returns-in_err-extend_from_slice-2-clause-kept
returns-in_err-extend_from_slice-2-clause-kept g c = stays_twice _ _ _ (stays_twice _ _ _ c.files_text.ensures.kept c.blocks_text.ensures.kept) c.records_text.ensures.kept

pub returns-clause-kept : goal.returns-clause-kept
returns-clause-kept g c = stays_twice _ _ _ (stays_twice _ _ _ c.files_text.ensures.kept c.blocks_text.ensures.kept) c.records_text.ensures.kept

pub returns-clause-text : goal.returns-clause-text
returns-clause-text g c told =
    let files = (g.M.Machine.disk c.args.machine.now).reads in
    let twice = stays_twice _ _ _ c.files_text.ensures.kept c.blocks_text.ensures.kept in
    let text = c.in_ok-text.ensures.text files (told_agrees c.files_text.ensures.kept told) in
    let first = c.in_ok-extend_from_slice.ensures.items ∙ λ i. text i ++ c.as_slice.ensures.value i in
    record {
      blocks = c.in_ok-blocks.blocks.items;
      blocks_are = c.in_ok-blocks.ensures.text files (told_agrees twice told);
      records = c.in_ok-records.records.items;
      records_are = subst (λ (f : Files). IsRecordsLine f c.in_ok-records.records.items) (twice.reads told) (c.in_ok-records.ensures.text (twice.time.files_told.0 told));
      is = c.in_ok-extend_from_slice-2.ensures.items ∙ λ i. first i ++ c.as_slice-2.ensures.value i;
    }

pub returns-in_err-blocks-clause-cause : goal.returns-in_err-blocks-clause-cause
returns-in_err-blocks-clause-cause g c = fails_later (g.M.Machine.disk c.args.machine.now) (g.M.Machine.disk c.files_text.new.machine) (g.M.Machine.disk c.blocks_text.new.machine) _ c.from_residual-in_err-blocks.result c.in_err-blocks.field-0.0 c.files_text.ensures.kept.time c.from_residual-in_err-blocks.ensures.1 c.in_err-blocks.ensures.cause

pub returns-in_err-records-clause-cause : goal.returns-in_err-records-clause-cause
returns-in_err-records-clause-cause g c = fails_later (g.M.Machine.disk c.args.machine.now) (g.M.Machine.disk c.blocks_text.new.machine) (g.M.Machine.disk c.records_text.new.machine) _ c.from_residual-in_err-records.result c.in_err-records.field-0.0 (stays_twice _ _ _ c.files_text.ensures.kept c.blocks_text.ensures.kept).time c.from_residual-in_err-records.ensures.1 c.in_err-records.ensures.cause
