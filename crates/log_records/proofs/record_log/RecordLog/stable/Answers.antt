use Rattle.std.proofs.Common.{rules, sym, subst}
use Rattle.std.proofs.lemmas.Result.{err_from_is_err_and}
use Rattle.disk_model.specs.Disk.{Rises}
use Rattle.disk_model.specs.Moments.{told_agrees}
use Rattle.formats.specs.Reading.{FailsBy}
use Rattle.log_blocks.specs.Reading.{none_told}
use Rattle.log_records.specs.CodecLaws.{has_codes}
use Rattle.log_records.specs.Loading.{IsTailFault}
use Rattle.log_records.specs.LsnReaderLaws.{all_in_grammar}
use Rattle.log_records.specs.RecordLog.{RecordLogView, Keeps}
use Rattle.log_records.specs.RecordReader.{AreAll}
use Rattle.log_records.proofs.LoadLemmas.{found_stable, no_tail_fault}
use Rattle.log_records.proofs.record_log.RecordLog.stable.Goals as goal

pub returns-in_err-records-clause-undamaged : goal.returns-in_err-records-clause-undamaged
returns-in_err-records-clause-undamaged g c told stable pending keeps =
    let old = g.M.Machine.disk c.args.m.now in
    let new = g.M.Machine.disk c.stable_records.new.m in
    let b = c.self.inside.bounds in
    let m = g.O.Oper.meaning b in
    let codes = has_codes m b c.self.invariant.small (g.met.O.Oper.bounded b) (g.met.O.Oper.lawful b c.self.invariant.small) in
    let k = subst (λ (v : RecordLogView). Keeps (g.O.Oper.meaning v.bounds) old v stable pending) (sym c.self.view_is) keeps in
    let p = err_from_is_err_and c.from_residual.result c.from_residual.ensures.1 in
    rw (p.1, p.2) (none_told _ _ c.in_err-records.field-0.0 (no_tail_fault m codes old new _ stable pending k (told_agrees c.stable_records.ensures.kept told)) c.in_err-records.ensures.cause)

pub returns-in_err-records-clause-cause : goal.returns-in_err-records-clause-cause
returns-in_err-records-clause-cause g c =
    let old = g.M.Machine.disk c.args.m.now in
    let new = g.M.Machine.disk c.stable_records.new.m in
    let p = err_from_is_err_and c.from_residual.result c.from_residual.ensures.1 in
    rw (p.1, p.2) (subst (λ (v : RecordLogView). FailsBy (Rises old.disk_faults new.disk_faults) (IsTailFault (g.O.Oper.meaning v.bounds) new v.log) c.in_err-records.field-0.0) c.self.view_is c.in_err-records.ensures.cause)

pub returns : goal.returns
returns g c =
    let new = g.M.Machine.disk c.stable_records.new.m in
    let all = subst (λ (v : RecordLogView). AreAll (g.O.Oper.meaning v.bounds) new v.log c.in_ok-records.records.items) c.self.view_is c.in_ok-records.ensures.all in
    record {
      kept = search rules;
      records = λ told stable pending keeps.
          let old = g.M.Machine.disk c.args.m.now in
          let b = c.self.inside.bounds in
          let m = g.O.Oper.meaning b in
          let codes = has_codes m b c.self.invariant.small (g.met.O.Oper.bounded b) (g.met.O.Oper.lawful b c.self.invariant.small) in
          let k = subst (λ (v : RecordLogView). Keeps (g.O.Oper.meaning v.bounds) old v stable pending) (sym c.self.view_is) keeps in
          found_stable m codes old new _ stable pending c.in_ok-records.records.items k (told_agrees c.stable_records.ensures.kept told) c.in_ok-records.ensures.all;
      grammar =
          let now = c.args.self.now in
          all_in_grammar (g.O.Oper.meaning now.bounds) now.log.header.base now.log.header.base c.in_ok-records.records.items all.placed;
      placed = all.placed;
      short = all.short;
      undamaged = search rules;
      cause = search rules;
    }
