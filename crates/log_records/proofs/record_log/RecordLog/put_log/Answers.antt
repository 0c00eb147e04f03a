use Rattle.std.proofs.Common.{rules, ◌≢◌, ◌+◌, ◌<◌, ◌^◌, ◌∙◌, ◌++◌, [], ◌∷◌, List, ℕ, map, refl, sym, subst, arith}
use Rattle.std.proofs.lemmas.Result.{err_from_is_err_and}
use Rattle.disk_model.specs.Disk.{In, IsSettledIn, Runs, Same}
use Rattle.disk_model.specs.declared.machine.FileNo.{FileNo}
use Rattle.oper_core.specs.Meaning.{IsSmall}
use Rattle.formats.specs.Records.{IsRecordLog, payload_of, records_of}
use Rattle.log_blocks.specs.Reading.{fails_on}
use Rattle.log_blocks.specs.RewriteLaws.{keeps_twice}
use Rattle.log_blocks.specs.Rewriting.{IsPrepared, KeepsClosed, next_header}
use Rattle.log_blocks.specs.Writing.{HasPutLog}
use Rattle.log_records.specs.CodecLaws.{has_codes}
use Rattle.log_records.specs.RecordLog.{RecordLogView}
use Rattle.log_records.specs.Rewriting.{in_full_blocks, from_lsn}
use Rattle.log_records.proofs.Copies.{planned_beside, put_log, rises_since, some_with}
use Rattle.log_records.proofs.record_log.RecordLog.put_log.Goals as goal

pub begin_log-requires-clause-epoch : goal.begin_log-requires-clause-epoch
begin_log-requires-clause-epoch g c = subst (λ (v : RecordLogView). v.log.header.epoch < 2 ^ 62) (sym c.self.view_is) c.requires.epoch

pub copy-requires-clause-apart : goal.copy-requires-clause-apart
copy-requires-clause-apart g c = subst (λ (f : FileNo). c.args.self.now.log.active ≢ f) (sym c.begin_log.ensures.file) c.requires.apart

pub copy-requires-clause-planned : goal.copy-requires-clause-planned
copy-requires-clause-planned g c =
    planned_beside (g.O.Oper.meaning c.args.self.now.bounds) (g.M.Machine.disk c.args.m.now) (g.M.Machine.disk c.begin_log.new.machine) c.args.out.now.file c.args.self.now.log c.args.base (c.args.checkpoint.now ∷ []) c.args.new c.requires.apart c.begin_log.ensures.runs c.requires.planned

pub copy-requires-clause-fits : goal.copy-requires-clause-fits
copy-requires-clause-fits g c = omega (arith, c.in_ok-begin_log.ensures.end, c.requires.fits)

pub end-end-requires : goal.end-end-requires
end-end-requires g c = omega (arith, c.in_ok-begin_log.ensures.end, c.in_ok-copy.ensures.copied.end, c.requires.fits)

pub finish-requires : goal.finish-requires
finish-requires g c = record { fits = omega (arith, c.in_ok-begin_log.ensures.end, c.in_ok-copy.ensures.copied.end, c.requires.fits) }

pub returns-in_err-copy-clause-runs : goal.returns-in_err-copy-clause-runs
returns-in_err-copy-clause-runs g c =
    let one = g.M.Machine.disk c.begin_log.new.machine in
    let two = g.M.Machine.disk c.copy.new.m in
    keeps_twice (g.M.Machine.disk c.args.m.now) one two c.args.out.now.file c.begin_log.ensures.runs (subst (λ (f : FileNo). Runs (In f KeepsClosed) Same one two) c.begin_log.ensures.file c.copy.ensures.runs)

pub returns-in_err-copy-clause-cause : goal.returns-in_err-copy-clause-cause
returns-in_err-copy-clause-cause g c =
    let p = err_from_is_err_and c.from_residual-in_err-copy.result c.from_residual-in_err-copy.ensures.1 in
    rw (p.1, p.2) (fails_on _ _ _ _ c.in_err-copy.field-0.0 (rises_since (g.M.Machine.disk c.args.m.now) (g.M.Machine.disk c.begin_log.new.machine) (g.M.Machine.disk c.copy.new.m) c.begin_log.ensures.runs.time.disk_faults) (λ f place there. there) c.in_err-copy.ensures.cause)

pub returns-in_err-finish-clause-runs : goal.returns-in_err-finish-clause-runs
returns-in_err-finish-clause-runs g c =
    let old = g.M.Machine.disk c.args.m.now in
    let one = g.M.Machine.disk c.begin_log.new.machine in
    let two = g.M.Machine.disk c.copy.new.m in
    let fin = g.M.Machine.disk c.finish.new.machine in
    let file = c.args.out.now.file in
    let same = c.copy.ensures.file ∙ c.begin_log.ensures.file in
    keeps_twice old two fin file (keeps_twice old one two file c.begin_log.ensures.runs (subst (λ (f : FileNo). Runs (In f KeepsClosed) Same one two) c.begin_log.ensures.file c.copy.ensures.runs))
    (subst (λ (f : FileNo). Runs (In f KeepsClosed) Same two fin) same c.finish.ensures.runs)

pub returns-in_err-finish-clause-cause : goal.returns-in_err-finish-clause-cause
returns-in_err-finish-clause-cause g c =
    let old = g.M.Machine.disk c.args.m.now in
    let one = g.M.Machine.disk c.begin_log.new.machine in
    let two = g.M.Machine.disk c.copy.new.m in
    let p = err_from_is_err_and c.from_residual-in_err-finish.result c.from_residual-in_err-finish.ensures.1 in
    rw (p.1, p.2) (rises_since old two (g.M.Machine.disk c.finish.new.machine) (omega (arith, c.begin_log.ensures.runs.time.disk_faults, c.copy.ensures.runs.time.disk_faults)) (c.in_err-finish.ensures.cause refl))

pub returns : goal.returns
returns g c =
    let old = g.M.Machine.disk c.args.m.now in
    let one = g.M.Machine.disk c.begin_log.new.machine in
    let two = g.M.Machine.disk c.copy.new.m in
    let fin = g.M.Machine.disk c.finish.new.machine in
    let file = c.args.out.now.file in
    let same = c.copy.ensures.file ∙ c.begin_log.ensures.file in
    record {
      runs =
          keeps_twice old two fin file (keeps_twice old one two file c.begin_log.ensures.runs (subst (λ (f : FileNo). Runs (In f KeepsClosed) Same one two) c.begin_log.ensures.file c.copy.ensures.runs))
          (subst (λ (f : FileNo). Runs (In f KeepsClosed) Same two fin) same c.finish.ensures.runs);
      prepared = λ told closed groups holds.
          let now = c.args.self.now in
          let b = now.bounds in
          let m = g.O.Oper.meaning b in
          let small : IsSmall b = subst (λ (v : RecordLogView). IsSmall v.bounds) c.self.view_is c.self.invariant.small in
          let codes = has_codes m b small (g.met.O.Oper.bounded b) (g.met.O.Oper.lawful b small) in
          let run = keeps_twice old one two file c.begin_log.ensures.runs (subst (λ (f : FileNo). Runs (In f KeepsClosed) Same one two) c.begin_log.ensures.file c.copy.ensures.runs) in
          let told_one = c.begin_log.ensures.runs.time.files_told.0 told in
          let told_two = run.time.files_told.0 told in
          let holds_two = subst (λ (f : List ℕ). IsRecordLog m now.log.header groups f) (sym ((run.reads told).others now.log.active c.requires.apart)) holds in
          let begun = subst (λ (v : RecordLogView). HasPutLog one c.begin_log.new.writer (next_header v.log c.args.base c.args.new.commands) []) c.self.view_is (c.in_ok-begin_log.ensures.begun told closed) in
          let planned = planned_beside m old two file now.log c.args.base (c.args.checkpoint.now ∷ []) c.args.new c.requires.apart run c.requires.planned in
          let header = next_header now.log c.args.base c.args.new.commands in
          let payloads = map (payload_of m) (in_full_blocks m (from_lsn c.args.base (records_of groups) ++ c.args.checkpoint.now ∷ [])) in
          subst (λ (f : FileNo). IsPrepared header payloads (fin.reads f)) same
          (c.in_ok-finish.ensures.prepared told_two header payloads
          (put_log m codes two one two now.log c.args.base (c.args.checkpoint.now ∷ []) c.args.new c.begin_log.new.writer c.copy.new.out header groups told_one (run.ends.agreeing told_two) holds_two planned (some_with m (from_lsn c.args.base planned.records) c.args.checkpoint.now) begun
          c.in_ok-copy.ensures.copied));
      settled = subst (λ (f : FileNo). IsSettledIn f (g.M.Machine.disk c.finish.new.machine)) (c.copy.ensures.file ∙ c.begin_log.ensures.file) c.in_ok-finish.ensures.settled;
      file = search rules;
      end = omega (arith, c.end-end.ensures, c.in_ok-begin_log.ensures.end, c.in_ok-copy.ensures.copied.end);
      cause = search rules;
    }
