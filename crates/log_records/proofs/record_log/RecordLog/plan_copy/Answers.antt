use Rattle.std.proofs.Common.{◌∙◌, refl, ap, subst, arith}
use Rattle.std.proofs.lemmas.Result.{err_from_is_err_and}
use Rattle.disk_model.specs.Moments.{told_agrees}
use Rattle.oper_core.specs.Meaning.{IsSmall}
use Rattle.log_blocks.specs.LogView.{used_of}
use Rattle.log_records.specs.CodecLaws.{has_codes}
use Rattle.log_records.specs.Laying.{room_of}
use Rattle.log_records.specs.RecordLog.{RecordLogView}
use Rattle.log_records.proofs.CopyingAll.{copy_none_read, copy_read_fails}
use Rattle.log_records.proofs.LoadLemmas.{found_stable}
use Rattle.log_records.proofs.LogCopies.{planned_length}
use Rattle.log_records.proofs.record_log.RecordLog.plan_copy.Goals as goal

pub returns-in_err-new-clause-undamaged : goal.returns-in_err-new-clause-undamaged
returns-in_err-new-clause-undamaged g c told stable pending keeps =
    let p = err_from_is_err_and c.from_residual.result c.from_residual.ensures.1 in
    rw (p.1, p.2) (copy_none_read c.in_err-new.field-0.0 (c.in_err-new.ensures.undamaged told stable pending keeps))

pub returns-in_err-new-clause-cause : goal.returns-in_err-new-clause-cause
returns-in_err-new-clause-cause g c =
    let p = err_from_is_err_and c.from_residual.result c.from_residual.ensures.1 in
    rw (p.1, p.2) (copy_read_fails _ _ _ _ _ _ c.in_err-new.field-0.0 (λ risen. risen) (λ f place there. there) c.in_err-new.ensures.cause)

pub file_length-need-requires : goal.file_length-need-requires
file_length-need-requires g c = omega (arith, c.in_ok-new.ensures.fits, ap room_of c.deref.ensures.value)

pub returns-then-need-gt-MAX_LOG-clause-cause : goal.returns-then-need-gt-MAX_LOG-clause-cause
returns-then-need-gt-MAX_LOG-clause-cause g c = record {
  used_is = c.used.ensures ∙ ap (λ (v : RecordLogView). used_of v.log) c.self.view_is;
  need_is = λ told stable pending keeps.
      let b = c.args.self.now.bounds in
      let m = g.O.Oper.meaning b in
      let old = g.M.Machine.disk c.args.m.now in
      let new = g.M.Machine.disk c.measure_copy.new.m in
      let small : IsSmall b = subst (λ (v : RecordLogView). IsSmall v.bounds) c.self.view_is c.self.invariant.small in
      let codes = has_codes m b small (g.met.O.Oper.bounded b) (g.met.O.Oper.lawful b small) in
      let plan = c.in_ok-new.ensures.planned in
      let same = found_stable m codes old new c.args.self.now stable pending plan.planned.records keeps (told_agrees c.measure_copy.ensures.kept told) plan.planned.all in
      omega (arith, planned_length m new c.args.self.now.log c.in_ok-new.new c.in_ok-new.last plan stable same, c.file_length-need.ensures, ap room_of c.deref.ensures.value);
  limit_is = refl;
  above = c.if-need-gt-MAX_LOG.true;
}

pub returns-clause-fits : goal.returns-clause-fits
returns-clause-fits g c = omega (arith, c.file_length-need.ensures, c.if-need-gt-MAX_LOG.false, ap room_of c.deref.ensures.value)

pub returns-clause-within : goal.returns-clause-within
returns-clause-within g c told stable pending keeps =
    let b = c.args.self.now.bounds in
    let m = g.O.Oper.meaning b in
    let old = g.M.Machine.disk c.args.m.now in
    let new = g.M.Machine.disk c.measure_copy.new.m in
    let small : IsSmall b = subst (λ (v : RecordLogView). IsSmall v.bounds) c.self.view_is c.self.invariant.small in
    let codes = has_codes m b small (g.met.O.Oper.bounded b) (g.met.O.Oper.lawful b small) in
    let plan = c.in_ok-new.ensures.planned in
    let same = found_stable m codes old new c.args.self.now stable pending plan.planned.records keeps (told_agrees c.measure_copy.ensures.kept told) plan.planned.all in
    omega (arith, planned_length m new c.args.self.now.log c.in_ok-new.new c.in_ok-new.last plan stable same, c.file_length-need.ensures, ap room_of c.deref.ensures.value, c.if-need-gt-MAX_LOG.false)
