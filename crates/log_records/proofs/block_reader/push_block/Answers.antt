use Rattle.std.proofs.Common.{◌++◌, List, ℕ, length, refl, sym, ap, subst, arith}
use Rattle.std.proofs.lemmas.Bool.{both_ways}
use Rattle.std.proofs.lemmas.Result.{err_from_is_err_and}
use Rattle.disk_model.specs.Moments.{stays_here}
use Rattle.oper_core.specs.Meaning.{IsSmall}
use Rattle.oper_core.specs.declared.bounds.Bounds.{Bounds}
use Rattle.formats.specs.Records.{records_of}
use Rattle.formats.specs.declared.record.Record.{Record}
use Rattle.log_blocks.specs.LogView.{LogView}
use Rattle.log_records.specs.CodecLaws.{encodable-from_grammar, has_codes}
use Rattle.log_records.specs.RecordReader.{IsReading, HasFound}
use Rattle.log_records.proofs.Blocks.{IsGathered, Takes, gathered_all, gathered_none, gathered_whole, gathering_more, gathering_on}
use Rattle.log_records.proofs.Passing.{next_fails}
use Rattle.log_records.proofs.block_reader.push_block.Goals as goal

pub loop-record-init : goal.loop-record-init
loop-record-init g c =
    let first = g.M.Machine.disk c.args.m.now in
    let m = g.O.Oper.meaning c.args.records.now.bounds in
    record {
      kept = stays_here first (g.met.M.Machine.lawful c.args.m.now);
      bounds = refl;
      less = omega arith;
      rest = λ none. c.requires.empty;
      gathered = λ log given is. subst (λ (l : List ℕ). IsGathered m first log c.args.records.now c.args.from given l) (sym c.requires.empty) (gathered_none m first log c.args.records.now c.args.from given is);
    }

pub push_from_lsn-requires : goal.push_from_lsn-requires
push_from_lsn-requires g c =
    let b = c.loop-record.records.bounds in
    let small = subst IsSmall (sym c.loop-record.invariant.bounds) c.requires.small in
    let codes = has_codes (g.O.Oper.meaning b) b small (g.met.O.Oper.bounded b) (g.met.O.Oper.lawful b small) in
    let good = rw c.in-Some.is at c.in_ok-record.ensures.grammar in
    encodable-from_grammar g.O.Oper.meaning b codes c.in-Some.record good

pub loop-record-preserved : goal.loop-record-preserved
loop-record-preserved g c =
    gathering_on g.O.Oper.meaning (g.M.Machine.disk c.args.m.now) (g.M.Machine.disk c.loop-record.m) (g.M.Machine.disk c.next.new.m) c.args.from c.args.records.now c.loop-record.records c.next.new.self c.loop-record.into.items c.push_from_lsn.new.into.items c.in_ok-record.field-0 c.in-Some.record
    c.in-Some.is c.loop-record.invariant c.next.ensures.kept (c.in_ok-push_from_lsn.ensures c.args.records.now.bounds) c.in_ok-record.ensures.read c.in_ok-record.ensures.takes c.next.ensures.bounds (rw c.in-Some.is at c.in_ok-record.ensures.less)
    (λ whole. both_ways _ c.if-is_whole.false (c.is_whole.ensures.1 (whole.0, omega (arith, whole.1, ap length c.deref.ensures.value))))

pub loop-record-preserved-else-is_whole : goal.loop-record-preserved-else-is_whole
loop-record-preserved-else-is_whole g c =
    gathering_on g.O.Oper.meaning (g.M.Machine.disk c.args.m.now) (g.M.Machine.disk c.loop-record.m) (g.M.Machine.disk c.next.new.m) c.args.from c.args.records.now c.loop-record.records c.next.new.self c.loop-record.into.items c.push_from_lsn.new.into.items c.in_ok-record.field-0 c.in-Some.record
    c.in-Some.is c.loop-record.invariant c.next.ensures.kept (c.in_ok-push_from_lsn.ensures c.args.records.now.bounds) c.in_ok-record.ensures.read c.in_ok-record.ensures.takes c.next.ensures.bounds (rw c.in-Some.is at c.in_ok-record.ensures.less)
    (λ whole. both_ways _ c.if-is_whole.false (c.is_whole.ensures.1 (whole.0, omega (arith, whole.1, ap length c.deref.ensures.value))))

pub loop-record-preserved-else-is_whole-2 : goal.loop-record-preserved-else-is_whole-2
loop-record-preserved-else-is_whole-2 g c =
    gathering_on g.O.Oper.meaning (g.M.Machine.disk c.args.m.now) (g.M.Machine.disk c.loop-record.m) (g.M.Machine.disk c.next.new.m) c.args.from c.args.records.now c.loop-record.records c.next.new.self c.loop-record.into.items c.push_from_lsn.new.into.items c.in_ok-record.field-0 c.in-Some.record
    c.in-Some.is c.loop-record.invariant c.next.ensures.kept (c.in_ok-push_from_lsn.ensures c.args.records.now.bounds) c.in_ok-record.ensures.read c.in_ok-record.ensures.takes c.next.ensures.bounds (rw c.in-Some.is at c.in_ok-record.ensures.less)
    (λ whole. both_ways _ c.if-is_whole.false (c.is_whole.ensures.1 (whole.0, omega (arith, whole.1, ap length c.deref.ensures.value))))

pub returns-in_err-record-clause-cause : goal.returns-in_err-record-clause-cause
returns-in_err-record-clause-cause g c log given is =
    let inv = c.loop-record.invariant in
    let so_far = (inv.gathered log given is).so_far in
    let p = err_from_is_err_and c.from_residual.result c.from_residual.ensures.1 in
    rw (p.1, p.2) (next_fails g.O.Oper.meaning c.args.records.now.bounds (g.M.Machine.disk c.loop-record.m) (g.M.Machine.disk c.next.new.m) log c.loop-record.records c.next.new.self (records_of so_far.groups ++ so_far.part) inv.bounds so_far.reading.reading
    (g.M.Machine.disk c.args.m.now) c.in_err-record.field-0.0 inv.kept c.in_err-record.ensures.cause)

pub returns-then-is_whole-clause-given : goal.returns-then-is_whole-clause-given
returns-then-is_whole-clause-given g c log given is =
    let old = c.args.records.now in
    let m = g.O.Oper.meaning old.bounds in
    let new = g.M.Machine.disk c.next.new.m in
    let into = c.push_from_lsn.new.into.items in
    let whole = c.is_whole.ensures.0 c.if-is_whole.true in
    gathered_whole m new log c.next.new.self c.args.from given into
    (gathering_more g.O.Oper.meaning (g.M.Machine.disk c.args.m.now) (g.M.Machine.disk c.loop-record.m) new c.args.from old c.loop-record.records c.next.new.self c.loop-record.into.items into c.in_ok-record.field-0 c.in-Some.record
    c.in-Some.is c.loop-record.invariant c.next.ensures.kept (c.in_ok-push_from_lsn.ensures old.bounds) c.in_ok-record.ensures.read c.in_ok-record.ensures.takes log given is)
    whole.0 (omega (arith, whole.1, ap length c.deref.ensures.value))

pub returns-clause-given : goal.returns-clause-given
returns-clause-given g c log given is =
    let inv = c.loop-record.invariant in
    let old = c.args.records.now in
    let it = c.loop-record.records in
    let now = c.next.new.self in
    let mid = g.M.Machine.disk c.loop-record.m in
    let new = g.M.Machine.disk c.next.new.m in
    let found = c.in_ok-record.field-0 in
    let none = rw c.in_default.is at c.in_ok-record.ensures.through in
    gathered_all (g.O.Oper.meaning old.bounds) mid new log it now c.args.from given c.loop-record.into.items found c.in_default.is c.next.ensures.kept (inv.gathered log given is) none
    (subst (λ (b : Bounds). (log : LogView) (records : List (Record g.row.O.Denot)) → IsReading (g.O.Oper.meaning b) mid log it records → HasFound (g.O.Oper.meaning b) new log now records found) inv.bounds c.in_ok-record.ensures.read)
    (subst (λ (b : Bounds). Takes (g.O.Oper.meaning b) new it now found) inv.bounds c.in_ok-record.ensures.takes)
