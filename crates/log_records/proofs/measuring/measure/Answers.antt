use Rattle.std.proofs.Common.{◌∙◌, ◌≤◌, ◌^◌, ◌++◌, [], ◌∷◌, ℕ, List, length, refl, sym, ap, arith}
use Rattle.std.proofs.lemmas.Result.{err_from_is_err_and}
use Rattle.disk_model.specs.Moments.{stays_twice}
use Rattle.formats.specs.Records.{record_code}
use Rattle.log_records.specs.Measuring.{block_lengths}
use Rattle.log_records.specs.LsnReaderLaws.{last_of}
use Rattle.log_records.specs.RecordLaws.{next_rises, lsn_end}
use Rattle.log_records.proofs.FromLsn.{counts_part}
use Rattle.log_records.proofs.Passing.{next_found, next_ended, next_fails}
use Rattle.log_records.proofs.measuring.measure.Goals as goal

pub loop-so_far-init : goal.loop-so_far-init
loop-so_far-init g c = record {
  kept = c.in_ok-reader.ensures.kept;
  bounds = c.in_ok-reader.ensures.bounds;
  records = [];
  reading = c.in_ok-reader.ensures.reading;
  measured = record {
    before = refl;
    short = omega arith;
    none = λ empty. refl;
    blocks = λ rest. ap (λ (l : List ℕ). l ++ block_lengths 0 rest) (sym c.new-full.ensures.items);
  };
}

pub measure_record-requires-clause-short : goal.measure_record-requires-clause-short
measure_record-requires-clause-short g c =
    let inv = c.loop-so_far.invariant in
    let b = c.args.b in
    let m = g.O.Oper.meaning b in
    let r = c.in-Some.record in
    let reading = next_found g.O.Oper.meaning b (g.M.Machine.disk c.loop-so_far.m) (g.M.Machine.disk c.next.new.m) c.args.log.now c.loop-so_far.reader c.next.new.self inv.records inv.bounds inv.reading c.in_ok-record.field-0 r c.in-Some.is c.in_ok-record.ensures.read in
    (b, last_of m (λ x. length (record_code m x) ≤ 2 ^ 30) inv.records r reading.short)

pub measure_record-requires-clause-filled : goal.measure_record-requires-clause-filled
measure_record-requires-clause-filled g c = c.loop-so_far.invariant.measured.short

pub measure_record-requires-clause-few : goal.measure_record-requires-clause-few
measure_record-requires-clause-few g c =
    let inv = c.loop-so_far.invariant in
    let m = g.O.Oper.meaning c.args.b in
    let base = c.args.log.now.header.base in
    omega (arith, inv.measured.before, counts_part m c.args.base inv.records, next_rises m base inv.records, lsn_end m base base inv.records c.requires inv.reading.placed)

pub loop-so_far-preserved : goal.loop-so_far-preserved
loop-so_far-preserved g c =
    let inv = c.loop-so_far.invariant in
    let b = c.args.b in
    let log = c.args.log.now in
    let first = g.M.Machine.disk c.args.m.now in
    let mid = g.M.Machine.disk c.loop-so_far.m in
    let new = g.M.Machine.disk c.next.new.m in
    let r = c.in-Some.record in
    record {
      kept = stays_twice first mid new inv.kept c.next.ensures.kept;
      bounds = c.next.ensures.bounds ∙ inv.bounds;
      records = inv.records ++ r ∷ [];
      reading = next_found g.O.Oper.meaning b mid new log c.loop-so_far.reader c.next.new.self inv.records inv.bounds inv.reading c.in_ok-record.field-0 r c.in-Some.is c.in_ok-record.ensures.read;
      measured = c.in_ok-measure_record.ensures b inv.records inv.measured;
    }

pub loop-so_far-preserved-in_ok-measure_record : goal.loop-so_far-preserved-in_ok-measure_record
loop-so_far-preserved-in_ok-measure_record g c =
    let inv = c.loop-so_far.invariant in
    let b = c.args.b in
    let log = c.args.log.now in
    let first = g.M.Machine.disk c.args.m.now in
    let mid = g.M.Machine.disk c.loop-so_far.m in
    let new = g.M.Machine.disk c.next.new.m in
    let r = c.in-Some.record in
    record {
      kept = stays_twice first mid new inv.kept c.next.ensures.kept;
      bounds = c.next.ensures.bounds ∙ inv.bounds;
      records = inv.records ++ r ∷ [];
      reading = next_found g.O.Oper.meaning b mid new log c.loop-so_far.reader c.next.new.self inv.records inv.bounds inv.reading c.in_ok-record.field-0 r c.in-Some.is c.in_ok-record.ensures.read;
      measured = c.in_ok-measure_record.ensures b inv.records inv.measured;
    }

pub loop-so_far-preserved-in_ok-measure_record-2 : goal.loop-so_far-preserved-in_ok-measure_record-2
loop-so_far-preserved-in_ok-measure_record-2 g c =
    let inv = c.loop-so_far.invariant in
    let b = c.args.b in
    let log = c.args.log.now in
    let first = g.M.Machine.disk c.args.m.now in
    let mid = g.M.Machine.disk c.loop-so_far.m in
    let new = g.M.Machine.disk c.next.new.m in
    let r = c.in-Some.record in
    record {
      kept = stays_twice first mid new inv.kept c.next.ensures.kept;
      bounds = c.next.ensures.bounds ∙ inv.bounds;
      records = inv.records ++ r ∷ [];
      reading = next_found g.O.Oper.meaning b mid new log c.loop-so_far.reader c.next.new.self inv.records inv.bounds inv.reading c.in_ok-record.field-0 r c.in-Some.is c.in_ok-record.ensures.read;
      measured = c.in_ok-measure_record.ensures b inv.records inv.measured;
    }

pub returns-in_err-record-clause-cause : goal.returns-in_err-record-clause-cause
returns-in_err-record-clause-cause g c =
    let inv = c.loop-so_far.invariant in
    let p = err_from_is_err_and c.from_residual-in_err-record.result c.from_residual-in_err-record.ensures.1 in
    rw (p.1, p.2) (next_fails g.O.Oper.meaning c.args.b (g.M.Machine.disk c.loop-so_far.m) (g.M.Machine.disk c.next.new.m) c.args.log.now c.loop-so_far.reader c.next.new.self inv.records inv.bounds inv.reading
    (g.M.Machine.disk c.args.m.now) c.in_err-record.field-0.0 inv.kept c.in_err-record.ensures.cause)

pub returns-clause-measured : goal.returns-clause-measured
returns-clause-measured g c =
    let inv = c.loop-so_far.invariant in
    let mid = g.M.Machine.disk c.loop-so_far.m in
    let new = g.M.Machine.disk c.next.new.m in
    let ended = next_ended g.O.Oper.meaning c.args.b mid new c.args.log.now c.loop-so_far.reader c.next.new.self inv.records inv.bounds inv.reading c.in_ok-record.field-0 c.in_default.is c.in_ok-record.ensures.read in
    (inv.records, ended.0, inv.measured)

pub returns-in_err-record-clause-kept : goal.returns-in_err-record-clause-kept
returns-in_err-record-clause-kept g c =
    stays_twice (g.M.Machine.disk c.args.m.now) (g.M.Machine.disk c.loop-so_far.m) (g.M.Machine.disk c.next.new.m) c.loop-so_far.invariant.kept c.next.ensures.kept

pub returns-clause-kept : goal.returns-clause-kept
returns-clause-kept g c =
    stays_twice (g.M.Machine.disk c.args.m.now) (g.M.Machine.disk c.loop-so_far.m) (g.M.Machine.disk c.next.new.m) c.loop-so_far.invariant.kept c.next.ensures.kept
