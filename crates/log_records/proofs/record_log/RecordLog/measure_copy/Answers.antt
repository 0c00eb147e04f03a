use Rattle.std.proofs.Common.{rules, sym, subst, arith}
use Rattle.std.proofs.lemmas.Result.{err_from_is_err_and}
use Rattle.disk_model.specs.Disk.{Rises}
use Rattle.disk_model.specs.Moments.{told_agrees}
use Rattle.formats.specs.Reading.{FailsBy}
use Rattle.log_blocks.specs.Reading.{none_told}
use Rattle.log_records.specs.CodecLaws.{has_codes}
use Rattle.log_records.specs.Loading.{IsTailFault}
use Rattle.log_records.specs.LogCopy.{HasLast, IsCopyPlanned}
use Rattle.log_records.specs.RecordLog.{RecordLogView, Keeps}
use Rattle.log_records.proofs.LoadLemmas.{no_tail_fault}
use Rattle.log_records.proofs.LogCopies.{measured_copy, measured_fits}
use Rattle.log_records.proofs.record_log.RecordLog.measure_copy.Goals as goal

pub measure-requires : goal.measure-requires
measure-requires g c = c.self.invariant.in_range.base_high

pub returns-in_err-it-clause-undamaged : goal.returns-in_err-it-clause-undamaged
returns-in_err-it-clause-undamaged g c told stable pending keeps =
    let old = g.M.Machine.disk c.args.m.now in
    let new = g.M.Machine.disk c.measure.new.m in
    let b = c.self.inside.bounds in
    let m = g.O.Oper.meaning b in
    let codes = has_codes m b c.self.invariant.small (g.met.O.Oper.bounded b) (g.met.O.Oper.lawful b c.self.invariant.small) in
    let k = subst (λ (v : RecordLogView). Keeps (g.O.Oper.meaning v.bounds) old v stable pending) (sym c.self.view_is) keeps in
    let p = err_from_is_err_and c.from_residual.result c.from_residual.ensures.1 in
    rw (p.1, p.2) (none_told _ _ c.in_err-it.field-0.0 (no_tail_fault m codes old new _ stable pending k (told_agrees c.measure.ensures.kept told)) c.in_err-it.ensures.cause)

pub returns-in_err-it-clause-cause : goal.returns-in_err-it-clause-cause
returns-in_err-it-clause-cause g c =
    let old = g.M.Machine.disk c.args.m.now in
    let new = g.M.Machine.disk c.measure.new.m in
    let p = err_from_is_err_and c.from_residual.result c.from_residual.ensures.1 in
    rw (p.1, p.2) (subst (λ (v : RecordLogView). FailsBy (Rises old.disk_faults new.disk_faults) (IsTailFault (g.O.Oper.meaning v.bounds) new v.log) c.in_err-it.field-0.0) c.self.view_is c.in_err-it.ensures.cause)

pub returns : goal.returns
returns g c =
    let new = g.M.Machine.disk c.measure.new.m in
    let b = c.self.inside.bounds in
    let m = g.O.Oper.meaning b in
    let log = c.self.inside.log in
    let measured = c.in_ok-it.ensures.measured in
    let last = c.count_last-last.result in
    let has = subst (λ (k : _). HasLast m k measured.0 c.count_last-last.new.so_far last) c.base-base.ensures (c.count_last-last.ensures b measured.0 measured.2) in
    record {
      kept = search rules;
      planned =
          subst (λ (v : RecordLogView). IsCopyPlanned (g.O.Oper.meaning v.bounds) new v.log (record { commands = c.commands.result; lengths = c.push.new.self }) last) c.self.view_is
          (measured_copy m new log measured.0 c.count_last-last.new.so_far last (record { commands = c.commands.result; lengths = c.push.new.self }) measured.1 has c.commands.ensures c.in_ok-push.ensures.items);
      fits = measured_fits m new log measured.0 c.count_last-last.new.so_far last (record { commands = c.commands.result; lengths = c.push.new.self }) measured.1 has c.commands.ensures c.in_ok-push.ensures.items (omega (arith, c.if-len-gt-MAX_BLOCKS.false));
      undamaged = search rules;
      cause = search rules;
    }
