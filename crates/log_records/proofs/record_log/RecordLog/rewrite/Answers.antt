use Rattle.std.proofs.Common.{[], refl, ap, arith}
use Rattle.std.proofs.lemmas.Result.{err_from_is_err_and}
use Rattle.disk_model.specs.Disk.{Rises}
use Rattle.disk_model.specs.Moments.{stays_settled}
use Rattle.formats.specs.InForce.{other_of}
use Rattle.log_records.specs.Loading.{IsTailFault}
use Rattle.log_records.specs.RecordLaws.{keeps_stay}
use Rattle.log_records.specs.Rewriting.{IsNewLength, rewrite_from_read}
use Rattle.log_records.proofs.LoadLemmas.{rises_before}
use Rattle.log_records.proofs.Replaced.{planned_partly, planned_refused, planned_run}
use Rattle.log_records.proofs.Rewrites.{none_found, old_partly, old_stays, read_fails, refused_stays}
use Rattle.log_blocks.specs.Reading.{fails_on}
use Rattle.log_records.proofs.record_log.RecordLog.rewrite.Goals as goal

pub returns-in_err-new-clause-any_moment : goal.returns-in_err-new-clause-any_moment
returns-in_err-new-clause-any_moment g c told stable keeps =
    let m = g.O.Oper.meaning c.args.self.now.bounds in
    let old = g.M.Machine.disk c.args.m.now in
    let new = g.M.Machine.disk c.plan.new.m in
    old_partly m old new c.args.self.now.log c.args.base c.args.table stable (old_stays m old new c.args.self.now stable keeps c.plan.ensures.kept told)

pub returns-in_err-new-clause-ends : goal.returns-in_err-new-clause-ends
returns-in_err-new-clause-ends g c =
    let kept = c.plan.ensures.kept in
    let p = err_from_is_err_and c.from_residual.result c.from_residual.ensures.1 in
    rw (p.1, p.2) (record {
      kept = refl;
      refused = λ apart. refused_stays (g.O.Oper.meaning c.args.self.now.bounds) (g.M.Machine.disk c.args.m.now) (g.M.Machine.disk c.plan.new.m) c.args.self.now kept;
      long = λ told stable keeps over. kept;
      made = tt;
    })

pub returns-in_err-new-clause-undamaged : goal.returns-in_err-new-clause-undamaged
returns-in_err-new-clause-undamaged g c told stable keeps =
    let p = err_from_is_err_and c.from_residual.result c.from_residual.ensures.1 in
    rw (p.1, p.2) (c.in_err-new.ensures.undamaged told stable keeps)

pub returns-in_err-new-clause-cause : goal.returns-in_err-new-clause-cause
returns-in_err-new-clause-cause g c =
    let p = err_from_is_err_and c.from_residual.result c.from_residual.ensures.1 in
    rw (p.1, p.2) c.in_err-new.ensures.cause

pub returns-in_err-replace-clause-runs : goal.returns-in_err-replace-clause-runs
returns-in_err-replace-clause-runs g c =
    planned_run (g.M.Machine.disk c.args.m.now) (g.M.Machine.disk c.plan.new.m) (g.M.Machine.disk c.replace.new.m) (other_of c.args.self.now.log.active) c.plan.ensures.kept c.replace.ensures.runs

pub returns-in_err-replace-clause-any_moment : goal.returns-in_err-replace-clause-any_moment
returns-in_err-replace-clause-any_moment g c told stable keeps =
    planned_partly (g.O.Oper.meaning c.args.self.now.bounds) (g.M.Machine.disk c.args.m.now) (g.M.Machine.disk c.plan.new.m) (g.M.Machine.disk c.replace.new.m) c.args.self.now c.plan.ensures.kept c.args.base c.args.table stable keeps told
    (λ told_mid keeps_mid. c.replace.ensures.any_moment told_mid stable keeps_mid)

pub returns-in_err-replace-clause-ends : goal.returns-in_err-replace-clause-ends
returns-in_err-replace-clause-ends g c =
    let p = err_from_is_err_and c.from_residual-in_err-replace.result c.from_residual-in_err-replace.ensures.1 in
    rw (p.1, p.2) (record {
      kept = c.in_err-replace.ensures.kept;
      refused = λ apart. planned_refused (g.O.Oper.meaning c.args.self.now.bounds) (g.M.Machine.disk c.args.m.now) (g.M.Machine.disk c.plan.new.m) (g.M.Machine.disk c.replace.new.m) c.args.self.now c.plan.ensures.kept
          (c.in_err-replace.ensures.refused (λ same. apart (ap rewrite_from_read same)));
      long = λ told stable keeps over. absurd (omega (arith, over, c.in_ok-new.ensures.within told stable keeps));
      made = tt;
    })

pub returns-in_err-replace-clause-idle : goal.returns-in_err-replace-clause-idle
returns-in_err-replace-clause-idle g c last = absurd (omega (arith, last, c.in_ok-new.ensures.may.epoch))

pub returns-in_err-replace-clause-undamaged : goal.returns-in_err-replace-clause-undamaged
returns-in_err-replace-clause-undamaged g c told stable keeps =
    let kept = c.plan.ensures.kept in
    let p = err_from_is_err_and c.from_residual-in_err-replace.result c.from_residual-in_err-replace.ensures.1 in
    rw (p.1, p.2) (none_found c.in_err-replace.field-0.0 (c.in_err-replace.ensures.undamaged (kept.time.files_told.0 told) stable
    (keeps_stay (g.O.Oper.meaning c.args.self.now.bounds) (g.M.Machine.disk c.args.m.now) (g.M.Machine.disk c.plan.new.m) c.args.self.now stable [] told kept keeps)))

pub returns-in_err-replace-clause-cause : goal.returns-in_err-replace-clause-cause
returns-in_err-replace-clause-cause g c =
    let old = g.M.Machine.disk c.args.m.now in
    let mid = g.M.Machine.disk c.plan.new.m in
    let new = g.M.Machine.disk c.replace.new.m in
    let now = c.args.self.now in
    let m = g.O.Oper.meaning now.bounds in
    let p = err_from_is_err_and c.from_residual-in_err-replace.result c.from_residual-in_err-replace.ensures.1 in
    rw (p.1, p.2) (read_fails (Rises old.disk_faults new.disk_faults) (IsTailFault m new now.log) (IsNewLength m old now c.args.base c.args.table) now.log c.args.most c.in_err-replace.field-0.0 c.in_ok-new.ensures.may.epoch
    (fails_on _ _ _ _ c.in_err-replace.field-0.0 (rises_before old mid new c.plan.ensures.kept) (λ f place there. there) c.in_err-replace.ensures.cause))

pub returns-clause-runs : goal.returns-clause-runs
returns-clause-runs g c =
    planned_run (g.M.Machine.disk c.args.m.now) (g.M.Machine.disk c.plan.new.m) (g.M.Machine.disk c.replace.new.m) (other_of c.args.self.now.log.active) c.plan.ensures.kept c.replace.ensures.runs

pub returns-clause-any_moment : goal.returns-clause-any_moment
returns-clause-any_moment g c told stable keeps =
    planned_partly (g.O.Oper.meaning c.args.self.now.bounds) (g.M.Machine.disk c.args.m.now) (g.M.Machine.disk c.plan.new.m) (g.M.Machine.disk c.replace.new.m) c.args.self.now c.plan.ensures.kept c.args.base c.args.table stable keeps told
    (λ told_mid keeps_mid. c.replace.ensures.any_moment told_mid stable keeps_mid)

pub returns-clause-acknowledged : goal.returns-clause-acknowledged
returns-clause-acknowledged g c told stable keeps =
    let kept = c.plan.ensures.kept in
    c.in_ok-replace.ensures.acknowledged (kept.time.files_told.0 told) stable
    (keeps_stay (g.O.Oper.meaning c.args.self.now.bounds) (g.M.Machine.disk c.args.m.now) (g.M.Machine.disk c.plan.new.m) c.args.self.now stable [] told kept keeps)

pub returns-clause-settled : goal.returns-clause-settled
returns-clause-settled g c settled = c.in_ok-replace.ensures.settled (λ file. stays_settled (g.M.Machine.disk c.args.m.now) (g.M.Machine.disk c.plan.new.m) file c.plan.ensures.kept (settled file))

pub returns-clause-rewritten : goal.returns-clause-rewritten
returns-clause-rewritten g c = c.in_ok-replace.ensures.rewritten

pub returns-clause-ends : goal.returns-clause-ends
returns-clause-ends g c = record {
  kept = tt;
  refused = tt;
  long = λ told stable keeps over. absurd (omega (arith, over, c.in_ok-new.ensures.within told stable keeps));
  made = (c.in_ok-new.ensures.may.epoch, c.in_ok-new.ensures.within);
}

pub returns-clause-idle : goal.returns-clause-idle
returns-clause-idle g c last = absurd (omega (arith, last, c.in_ok-new.ensures.may.epoch))
