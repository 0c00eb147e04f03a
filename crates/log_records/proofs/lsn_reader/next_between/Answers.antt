use Rattle.std.proofs.Common.{◌∙◌, ◌++◌, List, [], ◌∷◌, refl, sym, ap, subst, arith, append_assoc}
use Rattle.std.proofs.lemmas.List.{append-nil}
use Rattle.std.proofs.lemmas.Result.{err_from_is_err_and}
use Rattle.disk_model.specs.Moments.{stays_twice, stays_here}
use Rattle.formats.specs.declared.record.Record.{Record}
use Rattle.log_records.specs.RecordReader.{IsReading}
use Rattle.log_records.proofs.Passing.{next_found, next_ended, next_fails}
use Rattle.log_records.proofs.LsnReading.{between_more, passing_more}
use Rattle.log_records.proofs.lsn_reader.next_between.Goals as goal

pub loop-record-init : goal.loop-record-init
loop-record-init g c =
    let first = g.M.Machine.disk c.args.m.now in
    let b = c.args.records.now.bounds in
    record {
      kept = stays_here first (g.met.M.Machine.lawful c.args.m.now);
      bounds = refl;
      less = omega arith;
      more = [];
      none = refl;
      reading = λ log all is. subst (λ (l : List (Record g.row.O.Denot)). IsReading (g.O.Oper.meaning b) first log c.args.records.now l) (sym (append-nil all)) is;
    }

pub loop-record-preserved : goal.loop-record-preserved
loop-record-preserved g c =
    let less = rw c.in-Some.is at c.in_ok-record.ensures.less in
    passing_more g.O.Oper.meaning c.args.from c.args.end (g.M.Machine.disk c.args.m.now) (g.M.Machine.disk c.loop-record.m) (g.M.Machine.disk c.next.new.m) c.args.records.now c.loop-record.records c.next.new.self
    c.in_ok-record.field-0 c.in-Some.record c.loop-record.invariant c.next.ensures.kept c.next.ensures.bounds less c.in-Some.is (sym c.is_between.ensures ∙ c.if-is_between.false) c.in_ok-record.ensures.read

pub loop-record-preserved-else-is_between : goal.loop-record-preserved-else-is_between
loop-record-preserved-else-is_between g c =
    let less = rw c.in-Some.is at c.in_ok-record.ensures.less in
    passing_more g.O.Oper.meaning c.args.from c.args.end (g.M.Machine.disk c.args.m.now) (g.M.Machine.disk c.loop-record.m) (g.M.Machine.disk c.next.new.m) c.args.records.now c.loop-record.records c.next.new.self
    c.in_ok-record.field-0 c.in-Some.record c.loop-record.invariant c.next.ensures.kept c.next.ensures.bounds less c.in-Some.is (sym c.is_between.ensures ∙ c.if-is_between.false) c.in_ok-record.ensures.read

pub loop-record-preserved-else-is_between-2 : goal.loop-record-preserved-else-is_between-2
loop-record-preserved-else-is_between-2 g c =
    let less = rw c.in-Some.is at c.in_ok-record.ensures.less in
    passing_more g.O.Oper.meaning c.args.from c.args.end (g.M.Machine.disk c.args.m.now) (g.M.Machine.disk c.loop-record.m) (g.M.Machine.disk c.next.new.m) c.args.records.now c.loop-record.records c.next.new.self
    c.in_ok-record.field-0 c.in-Some.record c.loop-record.invariant c.next.ensures.kept c.next.ensures.bounds less c.in-Some.is (sym c.is_between.ensures ∙ c.if-is_between.false) c.in_ok-record.ensures.read

pub returns-in_err-record-clause-kept : goal.returns-in_err-record-clause-kept
returns-in_err-record-clause-kept g c =
    stays_twice (g.M.Machine.disk c.args.m.now) (g.M.Machine.disk c.loop-record.m) (g.M.Machine.disk c.next.new.m) c.loop-record.invariant.kept c.next.ensures.kept

pub returns-in_err-record-clause-bounds : goal.returns-in_err-record-clause-bounds
returns-in_err-record-clause-bounds g c = c.next.ensures.bounds ∙ c.loop-record.invariant.bounds

pub returns-in_err-record-clause-cause : goal.returns-in_err-record-clause-cause
returns-in_err-record-clause-cause g c log all is =
    let inv = c.loop-record.invariant in
    let p = err_from_is_err_and c.from_residual.result c.from_residual.ensures.1 in
    rw (p.1, p.2) (next_fails g.O.Oper.meaning c.args.records.now.bounds (g.M.Machine.disk c.loop-record.m) (g.M.Machine.disk c.next.new.m) log c.loop-record.records c.next.new.self (all ++ inv.more) inv.bounds (inv.reading log all is)
    (g.M.Machine.disk c.args.m.now) c.in_err-record.field-0.0 inv.kept c.in_err-record.ensures.cause)

pub returns-then-is_between-clause-kept : goal.returns-then-is_between-clause-kept
returns-then-is_between-clause-kept g c =
    stays_twice (g.M.Machine.disk c.args.m.now) (g.M.Machine.disk c.loop-record.m) (g.M.Machine.disk c.next.new.m) c.loop-record.invariant.kept c.next.ensures.kept

pub returns-then-is_between-clause-bounds : goal.returns-then-is_between-clause-bounds
returns-then-is_between-clause-bounds g c = c.next.ensures.bounds ∙ c.loop-record.invariant.bounds

pub returns-then-is_between-clause-less : goal.returns-then-is_between-clause-less
returns-then-is_between-clause-less g c =
    let less = rw c.in-Some.is at c.in_ok-record.ensures.less in
    omega (arith, less, c.loop-record.invariant.less)

pub returns-then-is_between-clause-read : goal.returns-then-is_between-clause-read
returns-then-is_between-clause-read g c =
    let inv = c.loop-record.invariant in
    let b = c.args.records.now.bounds in
    let mid = g.M.Machine.disk c.loop-record.m in
    let new = g.M.Machine.disk c.next.new.m in
    let r = c.in-Some.record in
    record {
      more = inv.more ++ r ∷ [];
      found_is = between_more c.args.from c.args.end inv.more r (sym c.is_between.ensures ∙ c.if-is_between.true) ∙ ap (λ (l : List (Record g.row.O.Denot)). l ++ r ∷ []) inv.none;
      reading = λ log all is. subst (λ (l : List (Record g.row.O.Denot)). IsReading (g.O.Oper.meaning b) new log c.next.new.self l) (append_assoc all inv.more (r ∷ []))
          (next_found g.O.Oper.meaning b mid new log c.loop-record.records c.next.new.self (all ++ inv.more) inv.bounds (inv.reading log all is) c.in_ok-record.field-0 r c.in-Some.is c.in_ok-record.ensures.read);
    }

pub returns-clause-kept : goal.returns-clause-kept
returns-clause-kept g c =
    stays_twice (g.M.Machine.disk c.args.m.now) (g.M.Machine.disk c.loop-record.m) (g.M.Machine.disk c.next.new.m) c.loop-record.invariant.kept c.next.ensures.kept

pub returns-clause-bounds : goal.returns-clause-bounds
returns-clause-bounds g c = c.next.ensures.bounds ∙ c.loop-record.invariant.bounds

pub returns-clause-read : goal.returns-clause-read
returns-clause-read g c =
    let inv = c.loop-record.invariant in
    let mid = g.M.Machine.disk c.loop-record.m in
    let new = g.M.Machine.disk c.next.new.m in
    record {
      more = inv.more;
      found_is = inv.none;
      reading = λ log all is. next_ended g.O.Oper.meaning c.args.records.now.bounds mid new log c.loop-record.records c.next.new.self (all ++ inv.more) inv.bounds (inv.reading log all is) c.in_ok-record.field-0 c.in_default.is c.in_ok-record.ensures.read;
    }
