use Rattle.std.proofs.Common.{◌+◌, ◌∙◌, [], ◌∷◌, refl, sym, ap, subst, arith, length-append}
use Rattle.std.proofs.lemmas.Result.{err_from_is_err_and}
use Rattle.disk_model.specs.Disk.{Rises}
use Rattle.disk_model.specs.Moments.{told_agrees}
use Rattle.formats.specs.Log.{IsHeader}
use Rattle.formats.specs.Reading.{FailsBy}
use Rattle.formats.specs.declared.record.Record.TheVariants.{Checkpoint}
use Rattle.log_blocks.specs.Reading.{none_told}
use Rattle.log_records.specs.CodecLaws.{has_codes}
use Rattle.log_records.specs.Loading.{IsTailFault}
use Rattle.log_records.specs.Measured.{IsMeasured}
use Rattle.log_records.specs.RecordLog.{RecordLogView, Keeps}
use Rattle.log_records.specs.RecordReader.{AreAll}
use Rattle.log_records.specs.Rewriting.{from_lsn, rewritten_records}
use Rattle.log_records.proofs.Laid.{room_bound}
use Rattle.log_records.proofs.LoadLemmas.{no_tail_fault}
use Rattle.log_records.proofs.Measures.{checkpoint_long, lengths_found}
use Rattle.log_records.proofs.Rewrites.{new_commands, new_short}
use Rattle.log_records.proofs.record_log.RecordLog.measure_new.Goals as goal

pub measure-requires : goal.measure-requires
measure-requires g c = c.self.invariant.in_range.base_high

pub returns-in_err-it-clause-undamaged : goal.returns-in_err-it-clause-undamaged
returns-in_err-it-clause-undamaged g c told stable keeps =
    let old = g.M.Machine.disk c.args.m.now in
    let new = g.M.Machine.disk c.measure.new.m in
    let b = c.self.inside.bounds in
    let m = g.O.Oper.meaning b in
    let codes = has_codes m b c.self.invariant.small (g.met.O.Oper.bounded b) (g.met.O.Oper.lawful b c.self.invariant.small) in
    let k = subst (λ (v : RecordLogView). Keeps (g.O.Oper.meaning v.bounds) old v stable []) (sym c.self.view_is) keeps in
    let p = err_from_is_err_and c.from_residual.result c.from_residual.ensures.1 in
    rw (p.1, p.2) (none_told _ _ c.in_err-it.field-0.0 (no_tail_fault m codes old new _ stable [] k (told_agrees c.measure.ensures.kept told)) c.in_err-it.ensures.cause)

pub returns-in_err-it-clause-cause : goal.returns-in_err-it-clause-cause
returns-in_err-it-clause-cause g c =
    let old = g.M.Machine.disk c.args.m.now in
    let new = g.M.Machine.disk c.measure.new.m in
    let p = err_from_is_err_and c.from_residual.result c.from_residual.ensures.1 in
    rw (p.1, p.2) (subst (λ (v : RecordLogView). FailsBy (Rises old.disk_faults new.disk_faults) (IsTailFault (g.O.Oper.meaning v.bounds) new v.log) c.in_err-it.field-0.0) c.self.view_is c.in_err-it.ensures.cause)

pub checkpoint_length-requires : goal.checkpoint_length-requires
checkpoint_length-requires g c =
    let m = g.O.Oper.meaning c.args.self.now.bounds in
    let table = c.args.table.now in
    omega (arith, checkpoint_long m (Checkpoint table) table table.starts refl refl, c.requires.short)

pub count_record-requires-clause-short : goal.count_record-requires-clause-short
count_record-requires-clause-short g c =
    let m = g.O.Oper.meaning c.args.self.now.bounds in
    let table = c.args.table.now in
    omega (arith, checkpoint_long m (Checkpoint table) table table.starts refl refl, c.requires.short, c.checkpoint_length.ensures)

pub count_record-requires-clause-filled : goal.count_record-requires-clause-filled
count_record-requires-clause-filled g c = c.in_ok-it.ensures.measured.2.short

pub overflow_add-result : goal.overflow_add-result
overflow_add-result g c =
    let now = c.args.self.now in
    let m = g.O.Oper.meaning now.bounds in
    let new = g.M.Machine.disk c.measure.new.m in
    let it = c.in_ok-it.it in
    let range = subst (λ (v : RecordLogView). IsHeader v.log.header) c.self.view_is c.self.invariant.in_range in
    let measured = c.in_ok-it.ensures.measured in
    let all = subst (λ (v : RecordLogView). AreAll (g.O.Oper.meaning v.bounds) new v.log measured.0) c.self.view_is measured.1 in
    let commands = c.commands.ensures ∙ ap (λ (v : RecordLogView). v.log.header.commands) c.self.view_is in
    omega (arith, commands, measured.2.before, new_commands m now.log.header c.args.base measured.0 range all.placed c.requires.low, c.ranges.base)

pub returns-clause-planned : goal.returns-clause-planned
returns-clause-planned g c =
    let now = c.args.self.now in
    let m = g.O.Oper.meaning now.bounds in
    let new = g.M.Machine.disk c.measure.new.m in
    let table = c.args.table.now in
    let measured = c.in_ok-it.ensures.measured in
    let all = subst (λ (v : RecordLogView). AreAll (g.O.Oper.meaning v.bounds) new v.log measured.0) c.self.view_is measured.1 in
    let is = subst (λ (v : RecordLogView). IsMeasured (g.O.Oper.meaning v.bounds) c.args.base measured.0 c.in_ok-it.it) c.self.view_is measured.2 in
    record {
      records = measured.0;
      all = all;
      commands = λ i. (c.commands.ensures ∙ ap (λ (v : RecordLogView). v.log.header.commands) c.self.view_is) i + is.before i;
      lengths = c.in_ok-push.ensures.items
          ∙ lengths_found m c.args.base table measured.0 c.in_ok-it.it c.checkpoint_length.result c.count_record.new.filled c.count_record.new.found.items is (c.checkpoint_length.ensures ∙ sym (checkpoint_long m (Checkpoint table) table table.starts refl refl)) c.in_ok-count_record.ensures.counted;
      short = new_short m c.args.base table measured.0 all.short c.requires.short;
    }

pub returns-clause-fits : goal.returns-clause-fits
returns-clause-fits g c =
    let now = c.args.self.now in
    let m = g.O.Oper.meaning now.bounds in
    let new = g.M.Machine.disk c.measure.new.m in
    let table = c.args.table.now in
    let measured = c.in_ok-it.ensures.measured in
    let all = subst (λ (v : RecordLogView). AreAll (g.O.Oper.meaning v.bounds) new v.log measured.0) c.self.view_is measured.1 in
    let is = subst (λ (v : RecordLogView). IsMeasured (g.O.Oper.meaning v.bounds) c.args.base measured.0 c.in_ok-it.it) c.self.view_is measured.2 in
    let lengths = c.in_ok-push.ensures.items
    ∙ lengths_found m c.args.base table measured.0 c.in_ok-it.it c.checkpoint_length.result c.count_record.new.filled c.count_record.new.found.items is (c.checkpoint_length.ensures ∙ sym (checkpoint_long m (Checkpoint table) table table.starts refl refl)) c.in_ok-count_record.ensures.counted in
    room_bound m (rewritten_records c.args.base table measured.0) (omega (arith, length-append (from_lsn c.args.base measured.0) (Checkpoint table ∷ []))) (new_short m c.args.base table measured.0 all.short c.requires.short) c.push.new.self.items lengths
    (omega (arith, c.if-len-gt-MAX_BLOCKS.false))
