use Rattle.std.proofs.Common.{◌∙◌, ◌++◌, [], ◌∷◌, List, ℕ, refl, sym, subst, arith}
use Rattle.std.proofs.lemmas.Result.{err_from_is_err_and}
use Rattle.disk_model.specs.Disk.{In, Rises, Runs, Same}
use Rattle.disk_model.specs.Moments.{runs_then_stays, stays_here}
use Rattle.disk_model.specs.declared.machine.FileNo.{FileNo}
use Rattle.formats.specs.Reading.{FailsBy}
use Rattle.formats.specs.Records.{IsRecord}
use Rattle.formats.specs.declared.read_err.ReadErr.{ReadErr}
use Rattle.log_blocks.specs.Reading.{fails_on}
use Rattle.log_blocks.specs.RewriteLaws.{keeps_still, keeps_twice}
use Rattle.log_blocks.specs.Rewriting.{KeepsClosed}
use Rattle.log_records.specs.CodecLaws.{encodable-from_grammar, has_codes}
use Rattle.log_records.specs.Copying.{HasLaid, IsLaid}
use Rattle.log_records.specs.Laying.{codes_of}
use Rattle.log_records.specs.Loading.{IsTailFault}
use Rattle.log_records.specs.LsnReaderLaws.{all_in_grammar, last_of}
use Rattle.log_records.specs.Rewriting.{from_lsn}
use Rattle.log_records.proofs.Copies.{all_beside, codes_then, laid_none, laid_on, laid_then, no_room, put_fails, reading_on, rises_since}
use Rattle.log_records.proofs.Passing.{next_found, next_ended, next_fails}
use Rattle.log_records.proofs.copying.copy_from_lsn.Goals as goal

pub loop-code-init : goal.loop-code-init
loop-code-init g c =
    let old = g.M.Machine.disk c.args.m.now in
    let new = g.M.Machine.disk c.new.new.m in
    record {
      kept = keeps_still old new c.args.out.now.file c.in_ok-reader.ensures.kept;
      file = refl;
      bounds = c.in_ok-reader.ensures.bounds;
      records = [];
      reading = c.in_ok-reader.ensures.reading;
      laid = laid_none old new c.args.out.now c.args.blocks.now c.in_ok-reader.ensures.kept;
    }

pub copy_record-requires-clause-code : goal.copy_record-requires-clause-code
copy_record-requires-clause-code g c =
    let inv = c.loop-code.invariant in
    let b = c.args.b in
    let m = g.O.Oper.meaning b in
    let base = c.args.log.now.header.base in
    let codes = has_codes m b c.requires.small (g.met.O.Oper.bounded b) (g.met.O.Oper.lawful b c.requires.small) in
    let r = c.in-Some.record in
    let reading = next_found g.O.Oper.meaning b (g.M.Machine.disk c.loop-code.m) (g.M.Machine.disk c.next.new.m) c.args.log.now c.loop-code.reader c.next.new.self inv.records inv.bounds inv.reading c.in_ok-record.field-0 r c.in-Some.is c.in_ok-record.ensures.read in
    encodable-from_grammar g.O.Oper.meaning b codes r (last_of m (IsRecord m) inv.records r (all_in_grammar m base base (inv.records ++ r ∷ []) reading.placed))

pub copy_record-requires-clause-fits : goal.copy_record-requires-clause-fits
copy_record-requires-clause-fits g c = omega (arith, c.loop-code.invariant.laid.end, c.requires.fits)

pub loop-code-preserved : goal.loop-code-preserved
loop-code-preserved g c =
    let inv = c.loop-code.invariant in
    let b = c.args.b in
    let m = g.O.Oper.meaning b in
    let log = c.args.log.now in
    let out = c.args.out.now in
    let blocks = c.args.blocks.now in
    let first = g.M.Machine.disk c.args.m.now in
    let mid = g.M.Machine.disk c.loop-code.m in
    let read = g.M.Machine.disk c.next.new.m in
    let new = g.M.Machine.disk c.copy_record.new.m in
    let r = c.in-Some.record in
    let run = subst (λ (f : FileNo). Runs (In f KeepsClosed) Same read new) inv.file c.copy_record.ensures.runs in
    let so_far = runs_then_stays first mid read (In out.file KeepsClosed) inv.kept c.next.ensures.kept in
    let put = subst (λ (fits : _). HasLaid read new c.loop-code.out c.copy_record.new.out c.loop-code.blocks c.copy_record.new.blocks (codes_of m (from_lsn c.args.base (r ∷ []))) fits) c.if-not-branch.false (c.in_ok-copy_record.ensures.laid b) in
    record {
      kept = keeps_twice first read new out.file so_far run;
      file = c.copy_record.ensures.file ∙ inv.file;
      bounds = c.next.ensures.bounds ∙ inv.bounds;
      records = inv.records ++ r ∷ [];
      reading = reading_on m read new out.file log c.next.new.self (inv.records ++ r ∷ []) c.requires.apart run
          (next_found g.O.Oper.meaning b mid read log c.loop-code.reader c.next.new.self inv.records inv.bounds inv.reading c.in_ok-record.field-0 r c.in-Some.is c.in_ok-record.ensures.read);
      laid = subst (λ (l : List (List ℕ)). IsLaid first new out c.copy_record.new.out blocks c.copy_record.new.blocks l) (sym (codes_then m c.args.base inv.records (r ∷ [])))
          (laid_then first read new out c.loop-code.out c.copy_record.new.out blocks c.loop-code.blocks c.copy_record.new.blocks (codes_of m (from_lsn c.args.base inv.records)) (codes_of m (from_lsn c.args.base (r ∷ []))) so_far.time.files_told.0
          (laid_on first mid read out c.loop-code.out blocks c.loop-code.blocks (codes_of m (from_lsn c.args.base inv.records)) inv.kept.time.files_told.0 inv.laid c.next.ensures.kept) put);
    }

pub loop-code-preserved-else-not-branch-2 : goal.loop-code-preserved-else-not-branch-2
loop-code-preserved-else-not-branch-2 g c =
    let inv = c.loop-code.invariant in
    let b = c.args.b in
    let m = g.O.Oper.meaning b in
    let log = c.args.log.now in
    let out = c.args.out.now in
    let blocks = c.args.blocks.now in
    let first = g.M.Machine.disk c.args.m.now in
    let mid = g.M.Machine.disk c.loop-code.m in
    let read = g.M.Machine.disk c.next.new.m in
    let new = g.M.Machine.disk c.copy_record.new.m in
    let r = c.in-Some.record in
    let run = subst (λ (f : FileNo). Runs (In f KeepsClosed) Same read new) inv.file c.copy_record.ensures.runs in
    let so_far = runs_then_stays first mid read (In out.file KeepsClosed) inv.kept c.next.ensures.kept in
    let put = subst (λ (fits : _). HasLaid read new c.loop-code.out c.copy_record.new.out c.loop-code.blocks c.copy_record.new.blocks (codes_of m (from_lsn c.args.base (r ∷ []))) fits) c.if-not-branch.false (c.in_ok-copy_record.ensures.laid b) in
    record {
      kept = keeps_twice first read new out.file so_far run;
      file = c.copy_record.ensures.file ∙ inv.file;
      bounds = c.next.ensures.bounds ∙ inv.bounds;
      records = inv.records ++ r ∷ [];
      reading = reading_on m read new out.file log c.next.new.self (inv.records ++ r ∷ []) c.requires.apart run
          (next_found g.O.Oper.meaning b mid read log c.loop-code.reader c.next.new.self inv.records inv.bounds inv.reading c.in_ok-record.field-0 r c.in-Some.is c.in_ok-record.ensures.read);
      laid = subst (λ (l : List (List ℕ)). IsLaid first new out c.copy_record.new.out blocks c.copy_record.new.blocks l) (sym (codes_then m c.args.base inv.records (r ∷ [])))
          (laid_then first read new out c.loop-code.out c.copy_record.new.out blocks c.loop-code.blocks c.copy_record.new.blocks (codes_of m (from_lsn c.args.base inv.records)) (codes_of m (from_lsn c.args.base (r ∷ []))) so_far.time.files_told.0
          (laid_on first mid read out c.loop-code.out blocks c.loop-code.blocks (codes_of m (from_lsn c.args.base inv.records)) inv.kept.time.files_told.0 inv.laid c.next.ensures.kept) put);
    }

pub loop-code-preserved-else-not-branch : goal.loop-code-preserved-else-not-branch
loop-code-preserved-else-not-branch g c =
    let inv = c.loop-code.invariant in
    let b = c.args.b in
    let m = g.O.Oper.meaning b in
    let log = c.args.log.now in
    let out = c.args.out.now in
    let blocks = c.args.blocks.now in
    let first = g.M.Machine.disk c.args.m.now in
    let mid = g.M.Machine.disk c.loop-code.m in
    let read = g.M.Machine.disk c.next.new.m in
    let new = g.M.Machine.disk c.copy_record.new.m in
    let r = c.in-Some.record in
    let run = subst (λ (f : FileNo). Runs (In f KeepsClosed) Same read new) inv.file c.copy_record.ensures.runs in
    let so_far = runs_then_stays first mid read (In out.file KeepsClosed) inv.kept c.next.ensures.kept in
    let put = subst (λ (fits : _). HasLaid read new c.loop-code.out c.copy_record.new.out c.loop-code.blocks c.copy_record.new.blocks (codes_of m (from_lsn c.args.base (r ∷ []))) fits) c.if-not-branch.false (c.in_ok-copy_record.ensures.laid b) in
    record {
      kept = keeps_twice first read new out.file so_far run;
      file = c.copy_record.ensures.file ∙ inv.file;
      bounds = c.next.ensures.bounds ∙ inv.bounds;
      records = inv.records ++ r ∷ [];
      reading = reading_on m read new out.file log c.next.new.self (inv.records ++ r ∷ []) c.requires.apart run
          (next_found g.O.Oper.meaning b mid read log c.loop-code.reader c.next.new.self inv.records inv.bounds inv.reading c.in_ok-record.field-0 r c.in-Some.is c.in_ok-record.ensures.read);
      laid = subst (λ (l : List (List ℕ)). IsLaid first new out c.copy_record.new.out blocks c.copy_record.new.blocks l) (sym (codes_then m c.args.base inv.records (r ∷ [])))
          (laid_then first read new out c.loop-code.out c.copy_record.new.out blocks c.loop-code.blocks c.copy_record.new.blocks (codes_of m (from_lsn c.args.base inv.records)) (codes_of m (from_lsn c.args.base (r ∷ []))) so_far.time.files_told.0
          (laid_on first mid read out c.loop-code.out blocks c.loop-code.blocks (codes_of m (from_lsn c.args.base inv.records)) inv.kept.time.files_told.0 inv.laid c.next.ensures.kept) put);
    }

pub returns-in_err-record-clause-cause : goal.returns-in_err-record-clause-cause
returns-in_err-record-clause-cause g c all last are fits =
    let inv = c.loop-code.invariant in
    let mid = g.M.Machine.disk c.loop-code.m in
    let read = g.M.Machine.disk c.next.new.m in
    let p = err_from_is_err_and c.from_residual-in_err-record.result c.from_residual-in_err-record.ensures.1 in
    rw (p.1, p.2) (fails_on _ _ _ _ c.in_err-record.field-0.0 (rises_since (g.M.Machine.disk c.args.m.now) mid read inv.kept.time.disk_faults) (λ f place there. there)
    (next_fails g.O.Oper.meaning c.args.b mid read c.args.log.now c.loop-code.reader c.next.new.self inv.records inv.bounds inv.reading mid c.in_err-record.field-0.0 (stays_here mid inv.kept.ends) c.in_err-record.ensures.cause))

pub returns-in_err-record-clause-runs : goal.returns-in_err-record-clause-runs
returns-in_err-record-clause-runs g c =
    runs_then_stays (g.M.Machine.disk c.args.m.now) (g.M.Machine.disk c.loop-code.m) (g.M.Machine.disk c.next.new.m) (In c.args.out.now.file KeepsClosed) c.loop-code.invariant.kept c.next.ensures.kept

pub returns-clause-runs : goal.returns-clause-runs
returns-clause-runs g c =
    runs_then_stays (g.M.Machine.disk c.args.m.now) (g.M.Machine.disk c.loop-code.m) (g.M.Machine.disk c.next.new.m) (In c.args.out.now.file KeepsClosed) c.loop-code.invariant.kept c.next.ensures.kept

pub returns-in_err-copy_record-clause-runs : goal.returns-in_err-copy_record-clause-runs
returns-in_err-copy_record-clause-runs g c =
    let inv = c.loop-code.invariant in
    let first = g.M.Machine.disk c.args.m.now in
    let read = g.M.Machine.disk c.next.new.m in
    let new = g.M.Machine.disk c.copy_record.new.m in
    let out = c.args.out.now in
    keeps_twice first read new out.file (runs_then_stays first (g.M.Machine.disk c.loop-code.m) read (In out.file KeepsClosed) inv.kept c.next.ensures.kept) (subst (λ (f : FileNo). Runs (In f KeepsClosed) Same read new) inv.file c.copy_record.ensures.runs)

pub returns-in_err-copy_record-clause-cause : goal.returns-in_err-copy_record-clause-cause
returns-in_err-copy_record-clause-cause g c all last are fits =
    let inv = c.loop-code.invariant in
    let first = g.M.Machine.disk c.args.m.now in
    let read = g.M.Machine.disk c.next.new.m in
    let so_far = runs_then_stays first (g.M.Machine.disk c.loop-code.m) read (In c.args.out.now.file KeepsClosed) inv.kept c.next.ensures.kept in
    let p = err_from_is_err_and c.from_residual-in_err-copy_record.result c.from_residual-in_err-copy_record.ensures.1 in
    rw (p.1, p.2) (put_fails _ _ _ c.in_err-copy_record.field-0.0 (rises_since first read (g.M.Machine.disk c.copy_record.new.m) so_far.time.disk_faults) c.in_err-copy_record.ensures.cause)

pub returns-then-not-branch-clause-cause : goal.returns-then-not-branch-clause-cause
returns-then-not-branch-clause-cause g c all last are fits =
    let inv = c.loop-code.invariant in
    let b = c.args.b in
    let m = g.O.Oper.meaning b in
    let log = c.args.log.now in
    let out = c.args.out.now in
    let first = g.M.Machine.disk c.args.m.now in
    let mid = g.M.Machine.disk c.loop-code.m in
    let read = g.M.Machine.disk c.next.new.m in
    let new = g.M.Machine.disk c.copy_record.new.m in
    let r = c.in-Some.record in
    let codes = has_codes m b c.requires.small (g.met.O.Oper.bounded b) (g.met.O.Oper.lawful b c.requires.small) in
    let run = subst (λ (f : FileNo). Runs (In f KeepsClosed) Same read new) inv.file c.copy_record.ensures.runs in
    let whole = keeps_twice first read new out.file (runs_then_stays first mid read (In out.file KeepsClosed) inv.kept c.next.ensures.kept) run in
    let reading = reading_on m read new out.file log c.next.new.self (inv.records ++ r ∷ []) c.requires.apart run
    (next_found g.O.Oper.meaning b mid read log c.loop-code.reader c.next.new.self inv.records inv.bounds inv.reading c.in_ok-record.field-0 r c.in-Some.is c.in_ok-record.ensures.read) in
    let none = subst (λ (fits : _). HasLaid read new c.loop-code.out c.copy_record.new.out c.loop-code.blocks c.copy_record.new.blocks (codes_of m (from_lsn c.args.base (r ∷ []))) fits) c.if-not-branch.true (c.in_ok-copy_record.ensures.laid b) in
    subst (λ (e : ReadErr). FailsBy (Rises first.disk_faults new.disk_faults) (IsTailFault m new log) e) (sym c.changed.ensures)
    (no_room m codes first new log c.next.new.self out c.loop-code.out c.args.blocks.now c.loop-code.blocks c.args.base all inv.records r last mid
    (all_beside m first new out.file log all c.requires.apart whole are) reading inv.laid none fits 0)

pub returns-then-not-branch-clause-runs : goal.returns-then-not-branch-clause-runs
returns-then-not-branch-clause-runs g c =
    let inv = c.loop-code.invariant in
    let first = g.M.Machine.disk c.args.m.now in
    let read = g.M.Machine.disk c.next.new.m in
    let new = g.M.Machine.disk c.copy_record.new.m in
    let out = c.args.out.now in
    keeps_twice first read new out.file (runs_then_stays first (g.M.Machine.disk c.loop-code.m) read (In out.file KeepsClosed) inv.kept c.next.ensures.kept) (subst (λ (f : FileNo). Runs (In f KeepsClosed) Same read new) inv.file c.copy_record.ensures.runs)

pub returns-clause-copied : goal.returns-clause-copied
returns-clause-copied g c =
    let inv = c.loop-code.invariant in
    let m = g.O.Oper.meaning c.args.b in
    let first = g.M.Machine.disk c.args.m.now in
    let mid = g.M.Machine.disk c.loop-code.m in
    let new = g.M.Machine.disk c.next.new.m in
    let ended = next_ended g.O.Oper.meaning c.args.b mid new c.args.log.now c.loop-code.reader c.next.new.self inv.records inv.bounds inv.reading c.in_ok-record.field-0 c.in_default.is c.in_ok-record.ensures.read in
    (inv.records, ended.0, laid_on first mid new c.args.out.now c.loop-code.out c.args.blocks.now c.loop-code.blocks (codes_of m (from_lsn c.args.base inv.records)) inv.kept.time.files_told.0 inv.laid c.next.ensures.kept)
