use Rattle.std.proofs.Common.{rules, ◌∙◌, [], ◌∷◌, map, refl, sym, ap, subst, arith}
use Rattle.std.specs.Prelude.{option_copied}
use Rattle.std.proofs.lemmas.Result.{err_from_is_err_and}
use Rattle.disk_model.specs.Disk.{Files, HoldsAt, In, IsSettledIn, Runs, Same, Torn}
use Rattle.disk_model.specs.declared.machine.FileNo.{FileNo}
use Rattle.disk_model.specs.declared.machine.FileNo.TheVariants.{LogB}
use Rattle.oper_core.specs.Meaning.{IsSmall}
use Rattle.formats.specs.Log.{IsClosedLog, IsHeader}
use Rattle.formats.specs.Records.{IsRecordLog, payload_of, records_of}
use Rattle.log_blocks.specs.RewriteLaws.{keeps_twice}
use Rattle.log_blocks.specs.Rewriting.{IsPrepared, KeepsClosed, second_header}
use Rattle.log_blocks.specs.Writing.{HasPutLog, LogWriterView}
use Rattle.log_records.specs.CodecLaws.{has_codes}
use Rattle.log_records.specs.LogCopy.{copied_groups}
use Rattle.log_records.specs.RecordLog.{RecordLogView}
use Rattle.log_records.proofs.Copies.{rises_since}
use Rattle.log_records.proofs.CopyingAll.{copy_fails_on}
use Rattle.log_records.proofs.LogCopies.{copy_planned_stays, copy_put, copy_short, holds_copy, one_run, still_new, two_runs}
use Rattle.log_records.proofs.record_log.RecordLog.put_copy.Goals as goal

pub begin_second-requires : goal.begin_second-requires
begin_second-requires g c =
    let file = ap (λ (w : LogWriterView). w.file) c.requires.out in
    c.requires.out ∙ (λ i. record { file = sym file i; place = 1; bytes = [] })

pub copy_into-requires-clause-fits : goal.copy_into-requires-clause-fits
copy_into-requires-clause-fits g c = omega (arith, c.in_ok-begin_second.ensures.end, c.requires.fits)

pub finish-requires : goal.finish-requires
finish-requires g c = record { fits = omega (arith, c.in_ok-begin_second.ensures.end, c.in_ok-copy_into.ensures.copied.end, c.requires.fits) }

pub returns-in_err-close_header-clause-runs : goal.returns-in_err-close_header-clause-runs
returns-in_err-close_header-clause-runs g c =
    let b = ap (λ (w : LogWriterView). w.file) c.requires.out in
    let t0 = g.T.Machine.disk c.args.target.now in
    let t1 = g.T.Machine.disk c.close_header.new.machine in
    let r1 = one_run t0 t1 _ (Torn 0 1) b c.close_header.ensures.runs in
    r1

pub returns-in_err-close_header-clause-refused : goal.returns-in_err-close_header-clause-refused
returns-in_err-close_header-clause-refused g c told is =
    let p = err_from_is_err_and c.from_residual.result c.from_residual.ensures.1 in
    rw (p.1, p.2) (λ apart. absurd (apart refl))

pub returns-in_err-begin_second-clause-runs : goal.returns-in_err-begin_second-clause-runs
returns-in_err-begin_second-clause-runs g c =
    let b = ap (λ (w : LogWriterView). w.file) c.requires.out in
    let t0 = g.T.Machine.disk c.args.target.now in
    let t1 = g.T.Machine.disk c.close_header.new.machine in
    let t2 = g.T.Machine.disk c.begin_second.new.machine in
    let r1 = one_run t0 t1 _ (Torn 0 1) b c.close_header.ensures.runs in
    let r2 = one_run t1 t2 _ KeepsClosed b c.begin_second.ensures.runs in
    two_runs t0 t1 t2 r1 r2

pub returns-in_err-begin_second-clause-refused : goal.returns-in_err-begin_second-clause-refused
returns-in_err-begin_second-clause-refused g c told is =
    let p = err_from_is_err_and c.from_residual-in_err-begin_second.result c.from_residual-in_err-begin_second.ensures.1 in
    rw (p.1, p.2) (λ apart. absurd (apart refl))

pub returns-in_err-begin_second-clause-cause : goal.returns-in_err-begin_second-clause-cause
returns-in_err-begin_second-clause-cause g c =
    let b = ap (λ (w : LogWriterView). w.file) c.requires.out in
    let t0 = g.T.Machine.disk c.args.target.now in
    let t1 = g.T.Machine.disk c.close_header.new.machine in
    let r1 = one_run t0 t1 _ (Torn 0 1) b c.close_header.ensures.runs in
    let p = err_from_is_err_and c.from_residual-in_err-begin_second.result c.from_residual-in_err-begin_second.ensures.1 in
    rw (p.1, p.2) (rises_since t0 t1 (g.T.Machine.disk c.begin_second.new.machine) (r1).time.disk_faults (c.in_err-begin_second.ensures.cause refl))

pub returns-in_err-copy_into : goal.returns-in_err-copy_into
returns-in_err-copy_into g c =
    let b = ap (λ (w : LogWriterView). w.file) c.requires.out in
    let t0 = g.T.Machine.disk c.args.target.now in
    let t1 = g.T.Machine.disk c.close_header.new.machine in
    let t2 = g.T.Machine.disk c.begin_second.new.machine in
    let t3 = g.T.Machine.disk c.copy_into.new.target in
    let r1 = one_run t0 t1 _ (Torn 0 1) b c.close_header.ensures.runs in
    let r2 = one_run t1 t2 _ KeepsClosed b c.begin_second.ensures.runs in
    let r3 = one_run t2 t3 _ KeepsClosed (c.begin_second.ensures.file ∙ b) c.copy_into.ensures.runs in
    let p = err_from_is_err_and c.from_residual-in_err-copy_into.result c.from_residual-in_err-copy_into.ensures.1 in
    record {
      kept = search rules;
      runs = two_runs t0 t2 t3 (two_runs t0 t1 t2 r1 r2) r3;
      copied = search rules;
      settled = search rules;
      refused = λ told is.
          let second = subst (λ (f : FileNo). Runs (In f KeepsClosed) Same t1 t2) b c.begin_second.ensures.runs in
          let third = subst (λ (f : FileNo). Runs (In f KeepsClosed) Same t2 t3) (c.begin_second.ensures.file ∙ b) c.copy_into.ensures.runs in
          let closed = subst (λ (f : FileNo). IsClosedLog (t1.reads f)) b (c.in_ok-close_header.ensures.closed told) in
          let still = ((keeps_twice t1 t2 t3 LogB second third).reads (r1.time.files_told.0 told)).changed closed in
          let whole = two_runs t0 t2 t3 (two_runs t0 t1 t2 r1 r2) r3 in
          rw (p.1, p.2) (λ apart. still_new t0.reads t3.reads (whole.reads told) still is);
      cause = rw (p.1, p.2) (copy_fails_on _ _ _ _ _ _ _ _ c.in_err-copy_into.field-0.0 (λ risen. risen) (rises_since t0 t2 (g.T.Machine.disk c.copy_into.new.target) (two_runs t0 t1 t2 r1 r2).time.disk_faults) (λ f place there. there) (λ u n l never. never) c.in_err-copy_into.ensures.cause);
    }

pub returns-in_err-finish : goal.returns-in_err-finish
returns-in_err-finish g c =
    let b = ap (λ (w : LogWriterView). w.file) c.requires.out in
    let t0 = g.T.Machine.disk c.args.target.now in
    let t1 = g.T.Machine.disk c.close_header.new.machine in
    let t2 = g.T.Machine.disk c.begin_second.new.machine in
    let t3 = g.T.Machine.disk c.copy_into.new.target in
    let r1 = one_run t0 t1 _ (Torn 0 1) b c.close_header.ensures.runs in
    let r2 = one_run t1 t2 _ KeepsClosed b c.begin_second.ensures.runs in
    let r3 = one_run t2 t3 _ KeepsClosed (c.begin_second.ensures.file ∙ b) c.copy_into.ensures.runs in
    let p = err_from_is_err_and c.from_residual-in_err-finish.result c.from_residual-in_err-finish.ensures.1 in
    record {
      kept = search rules;
      runs =
          let t4 = g.T.Machine.disk c.finish.new.machine in
          let r4 = one_run t3 t4 _ KeepsClosed (c.copy_into.ensures.file ∙ c.begin_second.ensures.file ∙ b) c.finish.ensures.runs in
          two_runs t0 t3 t4 (two_runs t0 t2 t3 (two_runs t0 t1 t2 r1 r2) r3) r4;
      copied = search rules;
      settled = search rules;
      refused = λ told is. rw (p.1, p.2) (λ apart. absurd (apart refl));
      cause = rw (p.1, p.2) (rises_since t0 t3 (g.T.Machine.disk c.finish.new.machine) (two_runs t0 t2 t3 (two_runs t0 t1 t2 r1 r2) r3).time.disk_faults (c.in_err-finish.ensures.cause refl));
    }

pub returns-in_err-open_header : goal.returns-in_err-open_header
returns-in_err-open_header g c =
    let b = ap (λ (w : LogWriterView). w.file) c.requires.out in
    let t0 = g.T.Machine.disk c.args.target.now in
    let t1 = g.T.Machine.disk c.close_header.new.machine in
    let t2 = g.T.Machine.disk c.begin_second.new.machine in
    let t3 = g.T.Machine.disk c.copy_into.new.target in
    let t4 = g.T.Machine.disk c.finish.new.machine in
    let r1 = one_run t0 t1 _ (Torn 0 1) b c.close_header.ensures.runs in
    let r2 = one_run t1 t2 _ KeepsClosed b c.begin_second.ensures.runs in
    let r3 = one_run t2 t3 _ KeepsClosed (c.begin_second.ensures.file ∙ b) c.copy_into.ensures.runs in
    let r4 = one_run t3 t4 _ KeepsClosed (c.copy_into.ensures.file ∙ c.begin_second.ensures.file ∙ b) c.finish.ensures.runs in
    let p = err_from_is_err_and c.from_residual-in_err-open_header.result c.from_residual-in_err-open_header.ensures.1 in
    record {
      kept = search rules;
      runs =
          let t5 = g.T.Machine.disk c.open_header.new.machine in
          let r5 = one_run t4 t5 _ (Torn 0 1) (c.finish.ensures.file ∙ c.copy_into.ensures.file ∙ c.begin_second.ensures.file ∙ b) c.open_header.ensures.runs in
          two_runs t0 t4 t5 (two_runs t0 t3 t4 (two_runs t0 t2 t3 (two_runs t0 t1 t2 r1 r2) r3) r4) r5;
      copied = search rules;
      settled = search rules;
      refused = λ told is. rw (p.1, p.2) (λ apart. absurd (apart refl));
      cause = rw (p.1, p.2) (rises_since t0 t4 (g.T.Machine.disk c.open_header.new.machine) (two_runs t0 t3 t4 (two_runs t0 t2 t3 (two_runs t0 t1 t2 r1 r2) r3) r4).time.disk_faults (c.in_err-open_header.ensures.cause refl));
    }

pub returns : goal.returns
returns g c =
    let b = ap (λ (w : LogWriterView). w.file) c.requires.out in
    let t0 = g.T.Machine.disk c.args.target.now in
    let t1 = g.T.Machine.disk c.close_header.new.machine in
    let t2 = g.T.Machine.disk c.begin_second.new.machine in
    let t3 = g.T.Machine.disk c.copy_into.new.target in
    let t4 = g.T.Machine.disk c.finish.new.machine in
    let t5 = g.T.Machine.disk c.open_header.new.machine in
    let r1 = one_run t0 t1 _ (Torn 0 1) b c.close_header.ensures.runs in
    let r2 = one_run t1 t2 _ KeepsClosed b c.begin_second.ensures.runs in
    let r3 = one_run t2 t3 _ KeepsClosed (c.begin_second.ensures.file ∙ b) c.copy_into.ensures.runs in
    let r4 = one_run t3 t4 _ KeepsClosed (c.copy_into.ensures.file ∙ c.begin_second.ensures.file ∙ b) c.finish.ensures.runs in
    let r5 = one_run t4 t5 _ (Torn 0 1) (c.finish.ensures.file ∙ c.copy_into.ensures.file ∙ c.begin_second.ensures.file ∙ b) c.open_header.ensures.runs in
    record {
      kept = search rules;
      runs = two_runs t0 t4 t5 (two_runs t0 t3 t4 (two_runs t0 t2 t3 (two_runs t0 t1 t2 r1 r2) r3) r4) r5;
      copied = λ read_told told is groups holds.
          let now = c.args.self.now in
          let m = g.O.Oper.meaning now.bounds in
          let log = now.log in
          let base = log.header.base in
          let last = option_copied c.args.last in
          let small : IsSmall now.bounds = subst (λ (v : RecordLogView). IsSmall v.bounds) c.self.view_is c.self.invariant.small in
          let codes = has_codes m now.bounds small (g.met.O.Oper.bounded now.bounds) (g.met.O.Oper.lawful now.bounds small) in
          let source = g.M.Machine.disk c.args.m.now in
          let d = g.M.Machine.disk c.copy_into.new.m in
          let kept = c.copy_into.ensures.kept in
          let agree = kept.ends.agreeing (kept.time.files_told.0 read_told) in
          let holds_d = subst (λ (f : Files). IsRecordLog m log.header groups (f log.active)) (sym (kept.reads read_told)) holds in
          let plan = copy_planned_stays m source d log c.args.new last kept c.requires.planned in
          let told1 = r1.time.files_told.0 told in
          let told2 = r2.time.files_told.0 told1 in
          let told3 = r3.time.files_told.0 told2 in
          let told4 = r4.time.files_told.0 told3 in
          let base_is = c.base.ensures ∙ ap (λ (v : RecordLogView). v.log.header.base) c.self.view_is in
          let commands_are = c.commands.ensures ∙ ap (λ (v : RecordLogView). v.log.header.commands) c.self.view_is in
          let begun = subst (λ (h : _). HasPutLog t2 c.begin_second.new.self h []) (λ i. second_header (base_is i) (commands_are i)) (c.in_ok-begin_second.ensures.begun told1 (c.in_ok-close_header.ensures.closed told)) in
          let payloads = map (payload_of m) (copied_groups m base (records_of groups)) in
          let header = second_header base log.header.commands in
          let put = copy_put m d log c.args.new last plan codes groups agree holds_d t2 t3 c.begin_second.new.self c.copy_into.new.out told2 begun c.in_ok-copy_into.ensures.copied in
          let file = c.copy_into.ensures.file ∙ c.begin_second.ensures.file ∙ b in
          let prepared = subst (λ (f : FileNo). IsPrepared header payloads (t4.reads f)) file (c.in_ok-finish.ensures.prepared told3 header payloads put) in
          let opened = subst (λ (f : FileNo). In f (HoldsAt 0 (1 ∷ [])) t4.reads t5.reads) (c.finish.ensures.file ∙ file) (c.in_ok-open_header.ensures.opened told4) in
          let range = subst (λ (v : RecordLogView). IsHeader v.log.header) c.self.view_is c.self.invariant.in_range in
          let whole = two_runs t0 t4 t5 (two_runs t0 t3 t4 (two_runs t0 t2 t3 (two_runs t0 t1 t2 r1 r2) r3) r4) r5 in
          holds_copy m log (records_of groups) t0.reads t4.reads t5.reads range holds.placed (copy_short m d log c.args.new last plan codes groups agree holds_d) is (whole.reads told) prepared opened;
      settled = subst (λ (f : FileNo). IsSettledIn f (g.T.Machine.disk c.open_header.new.machine)) (c.finish.ensures.file ∙ c.copy_into.ensures.file ∙ c.begin_second.ensures.file ∙ b) c.in_ok-open_header.ensures.settled;
      refused = search rules;
      cause = search rules;
    }
