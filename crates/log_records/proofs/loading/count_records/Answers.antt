use Rattle.std.proofs.Common.{◌∙◌, ◌++◌, [], ◌∷◌, refl, sym, ap, arith, Option}
use Rattle.std.specs.Option.{option_or}
use Rattle.std.proofs.lemmas.Result.{err_from_is_err_and}
use Rattle.disk_model.specs.Moments.{stays_twice}
use Rattle.dirty_page_table.specs.declared.table.DirtyPageTable.{DirtyPageTable}
use Rattle.formats.specs.Records.{last_checkpoint}
use Rattle.log_records.specs.RecordLaws.{count-append, next_rises, lsn_end}
use Rattle.log_records.proofs.Lasts.{last_push}
use Rattle.log_records.proofs.Passing.{next_found, next_ended, next_fails}
use Rattle.log_records.proofs.loading.count_records.Goals as goal

pub loop-last-init : goal.loop-last-init
loop-last-init g c = record {
  kept = c.in_ok-reader.ensures.kept;
  bounds = c.in_ok-reader.ensures.bounds;
  records = [];
  reading = c.in_ok-reader.ensures.reading;
  commands_are = refl;
  last_is = refl;
}

pub loop-last-preserved : goal.loop-last-preserved
loop-last-preserved g c =
    let inv = c.loop-last.invariant in
    let b = c.args.b in
    let m = g.O.Oper.meaning b in
    let log = c.args.log.now in
    let first = g.M.Machine.disk c.args.m.now in
    let mid = g.M.Machine.disk c.loop-last.m in
    let new = g.M.Machine.disk c.next.new.m in
    let r = c.in-Some.record in
    record {
      kept = stays_twice first mid new inv.kept c.next.ensures.kept;
      bounds = c.next.ensures.bounds ∙ inv.bounds;
      records = inv.records ++ r ∷ [];
      reading = next_found g.O.Oper.meaning b mid new log c.loop-last.reader c.next.new.self inv.records inv.bounds inv.reading c.in_ok-record.field-0 r c.in-Some.is c.in_ok-record.ensures.read;
      commands_are = omega (arith, inv.commands_are, c.commands_in-commands.ensures.value, count-append m inv.records (r ∷ []));
      last_is = c.last_table-last.ensures ∙ ap (λ (o : Option DirtyPageTable). option_or (last_checkpoint (r ∷ [])) o) inv.last_is ∙ sym (last_push inv.records r);
    }

pub overflow_add-commands : goal.overflow_add-commands
overflow_add-commands g c =
    let inv = c.loop-last.invariant in
    let m = g.O.Oper.meaning c.args.b in
    let base = c.args.log.now.header.base in
    omega (arith, inv.commands_are, c.commands_in-commands.ensures.few, next_rises m base inv.records, lsn_end m base base inv.records c.requires inv.reading.placed)

pub returns-in_err-record-clause-cause : goal.returns-in_err-record-clause-cause
returns-in_err-record-clause-cause g c =
    let inv = c.loop-last.invariant in
    let p = err_from_is_err_and c.from_residual-in_err-record.result c.from_residual-in_err-record.ensures.1 in
    rw (p.1, p.2) (next_fails g.O.Oper.meaning c.args.b (g.M.Machine.disk c.loop-last.m) (g.M.Machine.disk c.next.new.m) c.args.log.now c.loop-last.reader c.next.new.self inv.records inv.bounds inv.reading
    (g.M.Machine.disk c.args.m.now) c.in_err-record.field-0.0 inv.kept c.in_err-record.ensures.cause)

pub returns-clause-counted : goal.returns-clause-counted
returns-clause-counted g c =
    let inv = c.loop-last.invariant in
    let mid = g.M.Machine.disk c.loop-last.m in
    let new = g.M.Machine.disk c.next.new.m in
    let ended = next_ended g.O.Oper.meaning c.args.b mid new c.args.log.now c.loop-last.reader c.next.new.self inv.records inv.bounds inv.reading c.in_ok-record.field-0 c.in_default.is c.in_ok-record.ensures.read in (
      inv.records,
      ended.0,
      record { next = c.next_lsn.ensures ∙ ended.1; commands = inv.commands_are; last = inv.last_is },
    )

pub returns-in_err-record-clause-kept : goal.returns-in_err-record-clause-kept
returns-in_err-record-clause-kept g c =
    stays_twice (g.M.Machine.disk c.args.m.now) (g.M.Machine.disk c.loop-last.m) (g.M.Machine.disk c.next.new.m) c.loop-last.invariant.kept c.next.ensures.kept

pub returns-clause-kept : goal.returns-clause-kept
returns-clause-kept g c =
    stays_twice (g.M.Machine.disk c.args.m.now) (g.M.Machine.disk c.loop-last.m) (g.M.Machine.disk c.next.new.m) c.loop-last.invariant.kept c.next.ensures.kept
