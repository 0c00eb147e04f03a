use Rattle.std.proofs.Common.{◌∙◌, List, sym, subst}
use Rattle.std.proofs.lemmas.Result.{err_from_is_err_and}
use Rattle.disk_model.specs.Moments.{stays_twice}
use Rattle.formats.specs.declared.record.Record.{Record}
use Rattle.log_records.specs.RecordReader.{IsReading}
use Rattle.log_records.proofs.Passing.{next_found, next_ended, next_fails}
use Rattle.log_records.proofs.stable.stable_records.Goals as goal

pub loop-found-init : goal.loop-found-init
loop-found-init g c = record {
  kept = c.in_ok-reader.ensures.kept;
  bounds = c.in_ok-reader.ensures.bounds;
  reading = subst (λ (l : List (Record g.row.O.Denot)). IsReading (g.O.Oper.meaning c.args.b) (g.M.Machine.disk c.new.new.m) c.args.log.now c.in_ok-reader.reader l) (sym c.new-found.ensures.items) c.in_ok-reader.ensures.reading;
}

pub loop-found-preserved : goal.loop-found-preserved
loop-found-preserved g c =
    let inv = c.loop-found.invariant in
    let b = c.args.b in
    let log = c.args.log.now in
    let first = g.M.Machine.disk c.args.m.now in
    let mid = g.M.Machine.disk c.loop-found.m in
    let new = g.M.Machine.disk c.next.new.m in
    record {
      kept = stays_twice first mid new inv.kept c.next.ensures.kept;
      bounds = c.next.ensures.bounds ∙ inv.bounds;
      reading = subst (λ (l : List (Record g.row.O.Denot)). IsReading (g.O.Oper.meaning b) new log c.next.new.self l) (sym c.in_ok-push.ensures.items)
          (next_found g.O.Oper.meaning b mid new log c.loop-found.reader c.next.new.self c.loop-found.found.items inv.bounds inv.reading c.in_ok-record.field-0 c.in-Some.record c.in-Some.is c.in_ok-record.ensures.read);
    }

pub returns-in_err-record-clause-cause : goal.returns-in_err-record-clause-cause
returns-in_err-record-clause-cause g c =
    let inv = c.loop-found.invariant in
    let p = err_from_is_err_and c.from_residual-in_err-record.result c.from_residual-in_err-record.ensures.1 in
    rw (p.1, p.2) (next_fails g.O.Oper.meaning c.args.b (g.M.Machine.disk c.loop-found.m) (g.M.Machine.disk c.next.new.m) c.args.log.now c.loop-found.reader c.next.new.self c.loop-found.found.items inv.bounds inv.reading
    (g.M.Machine.disk c.args.m.now) c.in_err-record.field-0.0 inv.kept c.in_err-record.ensures.cause)

pub returns-clause-all : goal.returns-clause-all
returns-clause-all g c =
    let inv = c.loop-found.invariant in
    (next_ended g.O.Oper.meaning c.args.b (g.M.Machine.disk c.loop-found.m) (g.M.Machine.disk c.next.new.m) c.args.log.now c.loop-found.reader c.next.new.self c.loop-found.found.items inv.bounds inv.reading c.in_ok-record.field-0
    c.in_default.is c.in_ok-record.ensures.read).0

pub returns-in_err-record-clause-kept : goal.returns-in_err-record-clause-kept
returns-in_err-record-clause-kept g c =
    stays_twice (g.M.Machine.disk c.args.m.now) (g.M.Machine.disk c.loop-found.m) (g.M.Machine.disk c.next.new.m) c.loop-found.invariant.kept c.next.ensures.kept

pub returns-in_err-push-clause-kept : goal.returns-in_err-push-clause-kept
returns-in_err-push-clause-kept g c =
    stays_twice (g.M.Machine.disk c.args.m.now) (g.M.Machine.disk c.loop-found.m) (g.M.Machine.disk c.next.new.m) c.loop-found.invariant.kept c.next.ensures.kept

pub returns-clause-kept : goal.returns-clause-kept
returns-clause-kept g c =
    stays_twice (g.M.Machine.disk c.args.m.now) (g.M.Machine.disk c.loop-found.m) (g.M.Machine.disk c.next.new.m) c.loop-found.invariant.kept c.next.ensures.kept
