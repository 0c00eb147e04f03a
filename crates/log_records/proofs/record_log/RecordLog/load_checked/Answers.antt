use Rattle.std.proofs.Common.{rules, ◌∙◌, ◌+◌, ◌-◌, ◌^◌, ℕ, List, refl, ap, arith, min}
use Rattle.std.proofs.lemmas.Result.{err_from_is_err_and}
use Rattle.disk_model.specs.Moments.{agreed_before, told_agrees, stays_twice}
use Rattle.oper_core.specs.Meaning.{IsSmall}
use Rattle.formats.specs.Records.{last_checkpoint}
use Rattle.formats.specs.declared.record.Record.{Record}
use Rattle.log_blocks.specs.Laws.{no_first_log_fault}
use Rattle.log_blocks.specs.Reading.{fails_on, none_told}
use Rattle.log_records.specs.Loading.{in_blocks}
use Rattle.log_records.specs.CodecLaws.{has_codes}
use Rattle.log_records.specs.RecordLaws.{next_rises, lsn_end}
use Rattle.log_records.specs.Uniqueness.{log_of}
use Rattle.log_records.proofs.LoadLemmas.{no_load_fault, record_fails, is_held, is_loaded, rises_before}
use Rattle.log_records.proofs.record_log.RecordLog.load_checked.Goals as goal

pub returns-in_err-log-clause-cause : goal.returns-in_err-log-clause-cause
returns-in_err-log-clause-cause g c =
    let p = err_from_is_err_and c.from_residual.result c.from_residual.ensures.1 in
    rw (p.1, p.2) (fails_on _ _ _ _ c.in_err-log.field-0.0 (λ risen. risen) (λ f place there files agree. in_blocks f place (there files agree)) c.in_err-log.ensures.cause)

pub returns-in_err-log-clause-whole : goal.returns-in_err-log-clause-whole
returns-in_err-log-clause-whole g c told active header groups is =
    let old = g.M.Machine.disk c.args.m.now in
    let p = err_from_is_err_and c.from_residual.result c.from_residual.ensures.1 in
    rw (p.1, p.2) (none_told _ _ c.in_err-log.field-0.0 (λ f place fault. no_first_log_fault active header _ old.reads f place (log_of (g.O.Oper.meaning c.args.b) is) (fault old.reads (told_agrees c.load.ensures.kept told))) c.in_err-log.ensures.cause)

pub returns-in_err-counted-clause-cause : goal.returns-in_err-counted-clause-cause
returns-in_err-counted-clause-cause g c =
    let old = g.M.Machine.disk c.args.m.now in
    let mid = g.M.Machine.disk c.load.new.machine in
    let new = g.M.Machine.disk c.count_records.new.m in
    let log = c.in_ok-log.log in
    let p = err_from_is_err_and c.from_residual-in_err-counted.result c.from_residual-in_err-counted.ensures.1 in
    rw (p.1, p.2) (fails_on _ _ _ _ c.in_err-counted.field-0.0 (rises_before old mid new c.load.ensures.kept)
    (λ f place there files agree.
    let read = c.in_ok-log.ensures.read files (agreed_before c.count_records.ensures.kept files agree) in
    record_fails (g.O.Oper.meaning c.args.b) log.header read.0 files log.active f place read.1 there.0 (there.1 files agree read.0 read.1.log))
    c.in_err-counted.ensures.cause)

pub returns-in_err-counted-clause-whole : goal.returns-in_err-counted-clause-whole
returns-in_err-counted-clause-whole g c told active header groups is =
    let old = g.M.Machine.disk c.args.m.now in
    let mid = g.M.Machine.disk c.load.new.machine in
    let new = g.M.Machine.disk c.count_records.new.m in
    let m = g.O.Oper.meaning c.args.b in
    let log = c.in_ok-log.log in
    let small : IsSmall c.args.b = record { objects = omega arith; cap = omega arith } in
    let agree = told_agrees (stays_twice old mid new c.load.ensures.kept c.count_records.ensures.kept) told in
    let p = err_from_is_err_and c.from_residual-in_err-counted.result c.from_residual-in_err-counted.ensures.1 in
    rw (p.1, p.2) (none_told _ _ c.in_err-counted.field-0.0
    (λ f place there.
    let read = c.in_ok-log.ensures.read old.reads (told_agrees c.load.ensures.kept told) in
    no_load_fault m (has_codes m c.args.b small (g.met.O.Oper.bounded c.args.b) (g.met.O.Oper.lawful c.args.b small)) active header groups old.reads f place is
    (record_fails m log.header read.0 old.reads log.active f place read.1 there.0 (there.1 old.reads agree read.0 read.1.log)))
    c.in_err-counted.ensures.cause)

pub returns : goal.returns
returns g c =
    let counted = c.in_ok-counted.ensures.counted in
    record {
      kept = stays_twice (g.M.Machine.disk c.args.m.now) (g.M.Machine.disk c.load.new.machine) (g.M.Machine.disk c.count_records.new.m) c.load.ensures.kept c.count_records.ensures.kept;
      read = λ told.
          let old = g.M.Machine.disk c.args.m.now in
          let mid = g.M.Machine.disk c.load.new.machine in
          let new = g.M.Machine.disk c.count_records.new.m in
          let kept = stays_twice old mid new c.load.ensures.kept c.count_records.ensures.kept in
          let read = c.in_ok-log.ensures.read old.reads (told_agrees c.load.ensures.kept told) in
          let groups = counted.1.read old.reads (told_agrees kept told) read.0 read.1.log in
          let loaded = is_loaded (g.O.Oper.meaning c.args.b) c.args.b old new _ read.0 counted.0 c.in_ok-counted.counted.commands told kept read.1 read.2 read.3 refl groups counted.1.placed counted.2.next counted.2.commands
          (c.saturating_add-accepted.ensures ∙ ap (λ (n : ℕ). min (n + c.in_ok-counted.counted.commands) (2 ^ 64 - 1)) c.commands.ensures) refl in
          (loaded.0, counted.2.last ∙ ap (λ (l : List (Record g.row.O.Denot)). last_checkpoint l) loaded.1);
      held = λ files agree.
          let read = c.in_ok-log.ensures.read files (agreed_before c.count_records.ensures.kept files agree) in
          is_held (g.O.Oper.meaning c.args.b) files _ read.0 counted.0 read.1 (counted.1.read files agree read.0 read.1.log) counted.1.placed counted.2.next;
      counted = (counted.0, counted.1, counted.2.next, counted.2.last);
      bounds = search rules;
      next =
          let m = g.O.Oper.meaning c.args.b in
          let base = c.in_ok-log.log.header.base in
          let header = c.in_ok-log.ensures.header in
          let counted = c.in_ok-counted.ensures.counted in (
            omega (arith, header.base_low, counted.2.next, next_rises m base counted.0),
            omega (arith, counted.2.next, lsn_end m base base counted.0 header.base_high counted.1.placed),
          );
      cause = search rules;
      whole = search rules;
    }

pub invariant_of-log : goal.invariant_of-log
invariant_of-log g c =
    let m = g.O.Oper.meaning c.args.b in
    let base = c.in_ok-log.log.header.base in
    let header = c.in_ok-log.ensures.header in
    let counted = c.in_ok-counted.ensures.counted in
    let rises = next_rises m base counted.0 in
    record {
      small = record { objects = omega arith; cap = omega arith };
      in_range = header;
      base = omega (arith, counted.2.next, rises);
      last = omega (arith, counted.2.next, lsn_end m base base counted.0 header.base_high counted.1.placed);
      count = omega (arith, c.saturating_add-accepted.ensures, c.commands.ensures, counted.2.commands, counted.2.next, rises, header.commands);
    }
