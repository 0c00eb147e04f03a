use Rattle.std.proofs.Common.{subst, arith}
use Rattle.std.proofs.lemmas.Result.{err_from_is_err_and}
use Rattle.disk_model.specs.Moments.{stays_twice, told_agrees}
use Rattle.oper_core.specs.Meaning.{IsSmall}
use Rattle.log_records.specs.CodecLaws.{has_codes}
use Rattle.log_records.specs.RecordLog.{RecordLogView}
use Rattle.log_records.proofs.CopyingAll.{copy_none_told}
use Rattle.log_records.proofs.LoadLemmas.{no_tail_fault}
use Rattle.log_records.proofs.record_log.RecordLog.copy_to.Goals as goal

pub returns-in_err-new-clause-undamaged : goal.returns-in_err-new-clause-undamaged
returns-in_err-new-clause-undamaged g c told stable pending keeps =
    let p = err_from_is_err_and c.from_residual.result c.from_residual.ensures.1 in
    rw (p.1, p.2) (c.in_err-new.ensures.undamaged told stable pending keeps)

pub returns-in_err-put_copy-clause-long : goal.returns-in_err-put_copy-clause-long
returns-in_err-put_copy-clause-long g c told stable pending keeps over =
    let within = c.in_ok-new.ensures.within told stable pending keeps in
    absurd (omega (arith, within, over))

pub returns-in_err-put_copy-clause-undamaged : goal.returns-in_err-put_copy-clause-undamaged
returns-in_err-put_copy-clause-undamaged g c told stable pending keeps =
    let now = c.args.self.now in
    let m = g.O.Oper.meaning now.bounds in
    let old = g.M.Machine.disk c.args.m.now in
    let mid = g.M.Machine.disk c.plan_copy.new.m in
    let new = g.M.Machine.disk c.put_copy.new.m in
    let small : IsSmall now.bounds = subst (λ (v : RecordLogView). IsSmall v.bounds) c.self.view_is c.self.invariant.small in
    let codes = has_codes m now.bounds small (g.met.O.Oper.bounded now.bounds) (g.met.O.Oper.lawful now.bounds small) in
    let kept = stays_twice old mid new c.plan_copy.ensures.kept c.put_copy.ensures.kept in
    let p = err_from_is_err_and c.from_residual-in_err-put_copy.result c.from_residual-in_err-put_copy.ensures.1 in
    rw (p.1, p.2) (copy_none_told _ _ _ _ c.in_err-put_copy.field-0.0 (no_tail_fault m codes old new now stable pending keeps (told_agrees kept told)) c.in_err-put_copy.ensures.cause)

pub returns-clause-long : goal.returns-clause-long
returns-clause-long g c told stable pending keeps over =
    let within = c.in_ok-new.ensures.within told stable pending keeps in
    absurd (omega (arith, within, over))
