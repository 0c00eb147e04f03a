use Rattle.std.proofs.Common.{◌≢◌, ◌∙◌, [], refl, ap, subst, arith}
use Rattle.std.proofs.lemmas.Result.{err_from_is_err_and}
use Rattle.disk_model.specs.Disk.{Rises}
use Rattle.disk_model.specs.Moments.{told_agrees}
use Rattle.oper_core.specs.Meaning.{IsSmall}
use Rattle.formats.specs.InForce.{other_of}
use Rattle.log_blocks.specs.LogView.{used_of}
use Rattle.log_records.specs.CodecLaws.{has_codes}
use Rattle.log_records.specs.Laying.{room_of}
use Rattle.log_records.specs.Loading.{IsTailFault}
use Rattle.log_records.specs.RecordLog.{RecordLogView}
use Rattle.log_records.specs.Rewriting.{IsNewLength}
use Rattle.log_records.proofs.LoadLemmas.{found_stable}
use Rattle.log_records.proofs.Replaced.{is_plan, new_writer}
use Rattle.log_records.proofs.Rewrites.{none_found, read_fails}
use Rattle.log_records.proofs.record_log.RecordLog.plan.Goals as goal

pub returns-in_err-new-clause-undamaged : goal.returns-in_err-new-clause-undamaged
returns-in_err-new-clause-undamaged g c told stable keeps =
    let p = err_from_is_err_and c.from_residual.result c.from_residual.ensures.1 in
    rw (p.1, p.2) (none_found c.in_err-new.field-0.0 (c.in_err-new.ensures.undamaged told stable keeps))

pub returns-in_err-new-clause-cause : goal.returns-in_err-new-clause-cause
returns-in_err-new-clause-cause g c =
    let old = g.M.Machine.disk c.args.m.now in
    let new = g.M.Machine.disk c.measure_new.new.m in
    let now = c.args.self.now in
    let m = g.O.Oper.meaning now.bounds in
    let p = err_from_is_err_and c.from_residual.result c.from_residual.ensures.1 in
    rw (p.1, p.2) (read_fails (Rises old.disk_faults new.disk_faults) (IsTailFault m new now.log) (IsNewLength m old now c.args.base c.args.table.now) now.log c.args.most c.in_err-new.field-0.0
    (omega (arith, c.if-epoch-ge-LSN_END.false, ap (λ (v : RecordLogView). v.log.header.epoch) c.self.view_is)) c.in_err-new.ensures.cause)

pub returns-then-need-most-clause-cause : goal.returns-then-need-most-clause-cause
returns-then-need-most-clause-cause g c = (
  c.used.ensures ∙ ap (λ (v : RecordLogView). used_of v.log) c.self.view_is,
  λ told stable keeps.
      let b = c.args.self.now.bounds in
      let m = g.O.Oper.meaning b in
      let old = g.M.Machine.disk c.args.m.now in
      let new = g.M.Machine.disk c.measure_new.new.m in
      let small : IsSmall b = subst (λ (v : RecordLogView). IsSmall v.bounds) c.self.view_is c.self.invariant.small in
      let codes = has_codes m b small (g.met.O.Oper.bounded b) (g.met.O.Oper.lawful b small) in
      let planned = c.in_ok-new.ensures.planned in
      let plan = is_plan m new c.args.self.now.log c.args.base c.args.table.now stable c.in_ok-new.new planned (found_stable m codes old new c.args.self.now stable [] planned.records keeps (told_agrees c.measure_new.ensures.kept told) planned.all) in
      omega (arith, plan.end, c.file_length-need.ensures, ap room_of c.deref.ensures.value),
  refl,
  c.if-need-most.true,
  omega (arith, c.if-epoch-ge-LSN_END.false, ap (λ (v : RecordLogView). v.log.header.epoch) c.self.view_is),
)

pub returns-in_err-out-clause-cause : goal.returns-in_err-out-clause-cause
returns-in_err-out-clause-cause g c =
    let p = err_from_is_err_and c.from_residual-in_err-out.result c.from_residual-in_err-out.ensures.1 in
    rw (p.1, p.2) (omega (arith, c.if-epoch-ge-LSN_END.false, ap (λ (v : RecordLogView). v.log.header.epoch) c.self.view_is))

pub returns-in_err-out-clause-undamaged : goal.returns-in_err-out-clause-undamaged
returns-in_err-out-clause-undamaged g c told stable keeps =
    let p = err_from_is_err_and c.from_residual-in_err-out.result c.from_residual-in_err-out.ensures.1 in
    rw (p.1, p.2) (λ found. found)

pub file_length-need-requires : goal.file_length-need-requires
file_length-need-requires g c = omega (arith, c.in_ok-new.ensures.fits, ap room_of c.deref.ensures.value)

pub returns-clause-may : goal.returns-clause-may
returns-clause-may g c = record {
  may = c.requires.rewritable;
  planned = c.in_ok-new.ensures.planned;
  epoch = omega (arith, c.if-epoch-ge-LSN_END.false, ap (λ (v : RecordLogView). v.log.header.epoch) c.self.view_is);
  within = omega (arith, c.file_length-need.ensures, c.if-need-most.false, c.requires.most, ap room_of c.deref.ensures.value);
  out_is = c.in_ok-out.ensures.made ∙ ap (λ (v : RecordLogView). new_writer v.log) c.self.view_is;
  apart = subst (λ (v : RecordLogView). v.log.active ≢ other_of v.log.active) c.self.view_is c.writer.ensures.apart;
}

pub returns-clause-within : goal.returns-clause-within
returns-clause-within g c told stable keeps =
    let b = c.args.self.now.bounds in
    let m = g.O.Oper.meaning b in
    let old = g.M.Machine.disk c.args.m.now in
    let new = g.M.Machine.disk c.measure_new.new.m in
    let small : IsSmall b = subst (λ (v : RecordLogView). IsSmall v.bounds) c.self.view_is c.self.invariant.small in
    let codes = has_codes m b small (g.met.O.Oper.bounded b) (g.met.O.Oper.lawful b small) in
    let planned = c.in_ok-new.ensures.planned in
    let plan = is_plan m new c.args.self.now.log c.args.base c.args.table.now stable c.in_ok-new.new planned (found_stable m codes old new c.args.self.now stable [] planned.records keeps (told_agrees c.measure_new.ensures.kept told) planned.all) in
    omega (arith, plan.end, c.file_length-need.ensures, ap room_of c.deref.ensures.value, c.if-need-most.false)
