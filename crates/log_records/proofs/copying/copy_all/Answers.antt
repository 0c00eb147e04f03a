use Rattle.std.proofs.Common.{◌∙◌, [], ◌∷◌, Bool, ℕ, refl, sym, ap, subst, arith}
use Rattle.std.proofs.lemmas.Result.{err_from_is_err_and}
use Rattle.disk_model.specs.Disk.{In, Rises, Runs, Same}
use Rattle.disk_model.specs.Moments.{runs_none, stays_twice}
use Rattle.disk_model.specs.declared.machine.FileNo.{FileNo}
use Rattle.oper_core.specs.declared.bounds.Bounds.{Bounds}
use Rattle.formats.specs.Records.{IsRecord}
use Rattle.log_blocks.specs.RewriteLaws.{keeps_none, keeps_twice}
use Rattle.log_blocks.specs.Rewriting.{KeepsClosed}
use Rattle.log_records.specs.CodecLaws.{encodable-from_grammar, has_codes}
use Rattle.log_records.specs.Copying.{HasLaid}
use Rattle.log_records.specs.Laying.{codes_of}
use Rattle.log_records.specs.Loading.{IsTailFault}
use Rattle.log_records.specs.LogCopy.{CopyFails, copy_from_read}
use Rattle.log_records.specs.Rewriting.{from_lsn}
use Rattle.log_records.specs.declared.copy_err.CopyErr.{CopyErr}
use Rattle.log_records.proofs.Copies.{laid_nothing, no_room, rises_since}
use Rattle.log_records.proofs.CopyingAll.{all_stays, copied_more, copy_put_fails, copy_read_fails}
use Rattle.log_records.proofs.Passing.{next_found, next_ended, next_fails}
use Rattle.log_records.proofs.copying.copy_all.Goals as goal

pub loop-code-init : goal.loop-code-init
loop-code-init g c = record {
  stays = c.in_ok-reader.ensures.kept;
  kept = runs_none (g.T.Machine.disk c.args.target.now) (In c.args.out.now.file KeepsClosed) (keeps_none c.args.out.now.file) (g.met.T.Machine.lawful c.args.target.now);
  file = refl;
  bounds = c.in_ok-reader.ensures.bounds;
  records = [];
  reading = c.in_ok-reader.ensures.reading;
  laid = laid_nothing (g.T.Machine.disk c.args.target.now) c.args.out.now c.args.blocks.now;
}

pub copy_record-requires-clause-code : goal.copy_record-requires-clause-code
copy_record-requires-clause-code g c =
    let inv = c.loop-code.invariant in
    let b = c.args.b in
    let m = g.O.Oper.meaning b in
    let codes = has_codes m b c.requires.small (g.met.O.Oper.bounded b) (g.met.O.Oper.lawful b c.requires.small) in
    let r = c.in-Some.record in
    let good : IsRecord m r = subst (λ (x : Bounds). IsRecord (g.O.Oper.meaning x) r) inv.bounds (rw c.in-Some.is at c.in_ok-record.ensures.grammar) in
    encodable-from_grammar g.O.Oper.meaning b codes r good

pub copy_record-requires-clause-fits : goal.copy_record-requires-clause-fits
copy_record-requires-clause-fits g c = omega (arith, c.loop-code.invariant.laid.end, c.requires.fits)

pub loop-code-preserved : goal.loop-code-preserved
loop-code-preserved g c =
    copied_more g.O.Oper.meaning c.args.b c.args.log.now (g.M.Machine.disk c.args.m.now) (g.M.Machine.disk c.loop-code.m) (g.M.Machine.disk c.next.new.m) (g.T.Machine.disk c.args.target.now) (g.T.Machine.disk c.loop-code.target) (g.T.Machine.disk c.copy_record.new.m)
    c.loop-code.reader c.next.new.self c.args.out.now c.loop-code.out c.copy_record.new.out c.args.blocks.now c.loop-code.blocks c.copy_record.new.blocks c.in_ok-record.field-0 c.in-Some.record c.base.result c.base.ensures c.in-Some.is c.loop-code.invariant
    c.next.ensures.kept c.next.ensures.bounds c.in_ok-record.ensures.read c.copy_record.ensures.runs c.copy_record.ensures.file
    (subst (λ (fits : Bool). HasLaid (g.T.Machine.disk c.loop-code.target) (g.T.Machine.disk c.copy_record.new.m) c.loop-code.out c.copy_record.new.out c.loop-code.blocks c.copy_record.new.blocks (codes_of (g.O.Oper.meaning c.args.b) (from_lsn c.base.result (c.in-Some.record ∷ []))) fits)
    c.if-not-branch.false (c.in_ok-copy_record.ensures.laid c.args.b))

pub loop-code-preserved-else-not-branch-2 : goal.loop-code-preserved-else-not-branch-2
loop-code-preserved-else-not-branch-2 g c =
    copied_more g.O.Oper.meaning c.args.b c.args.log.now (g.M.Machine.disk c.args.m.now) (g.M.Machine.disk c.loop-code.m) (g.M.Machine.disk c.next.new.m) (g.T.Machine.disk c.args.target.now) (g.T.Machine.disk c.loop-code.target) (g.T.Machine.disk c.copy_record.new.m)
    c.loop-code.reader c.next.new.self c.args.out.now c.loop-code.out c.copy_record.new.out c.args.blocks.now c.loop-code.blocks c.copy_record.new.blocks c.in_ok-record.field-0 c.in-Some.record c.base.result c.base.ensures c.in-Some.is c.loop-code.invariant
    c.next.ensures.kept c.next.ensures.bounds c.in_ok-record.ensures.read c.copy_record.ensures.runs c.copy_record.ensures.file
    (subst (λ (fits : Bool). HasLaid (g.T.Machine.disk c.loop-code.target) (g.T.Machine.disk c.copy_record.new.m) c.loop-code.out c.copy_record.new.out c.loop-code.blocks c.copy_record.new.blocks (codes_of (g.O.Oper.meaning c.args.b) (from_lsn c.base.result (c.in-Some.record ∷ []))) fits)
    c.if-not-branch.false (c.in_ok-copy_record.ensures.laid c.args.b))

pub loop-code-preserved-else-not-branch : goal.loop-code-preserved-else-not-branch
loop-code-preserved-else-not-branch g c =
    copied_more g.O.Oper.meaning c.args.b c.args.log.now (g.M.Machine.disk c.args.m.now) (g.M.Machine.disk c.loop-code.m) (g.M.Machine.disk c.next.new.m) (g.T.Machine.disk c.args.target.now) (g.T.Machine.disk c.loop-code.target) (g.T.Machine.disk c.copy_record.new.m)
    c.loop-code.reader c.next.new.self c.args.out.now c.loop-code.out c.copy_record.new.out c.args.blocks.now c.loop-code.blocks c.copy_record.new.blocks c.in_ok-record.field-0 c.in-Some.record c.base.result c.base.ensures c.in-Some.is c.loop-code.invariant
    c.next.ensures.kept c.next.ensures.bounds c.in_ok-record.ensures.read c.copy_record.ensures.runs c.copy_record.ensures.file
    (subst (λ (fits : Bool). HasLaid (g.T.Machine.disk c.loop-code.target) (g.T.Machine.disk c.copy_record.new.m) c.loop-code.out c.copy_record.new.out c.loop-code.blocks c.copy_record.new.blocks (codes_of (g.O.Oper.meaning c.args.b) (from_lsn c.base.result (c.in-Some.record ∷ []))) fits)
    c.if-not-branch.false (c.in_ok-copy_record.ensures.laid c.args.b))

pub returns-in_err-reader-clause-cause : goal.returns-in_err-reader-clause-cause
returns-in_err-reader-clause-cause g c all last are fits =
    let p = err_from_is_err_and c.from_residual.result c.from_residual.ensures.1 in
    rw (p.1, p.2) (copy_read_fails _ _ _ _ _ _ c.in_err-reader.field-0.0 (λ risen. risen) (λ f place never. absurd never) c.in_err-reader.ensures.cause)

pub returns-in_err-record-clause-kept : goal.returns-in_err-record-clause-kept
returns-in_err-record-clause-kept g c = stays_twice (g.M.Machine.disk c.args.m.now) (g.M.Machine.disk c.loop-code.m) (g.M.Machine.disk c.next.new.m) c.loop-code.invariant.stays c.next.ensures.kept

pub returns-in_err-record-clause-cause : goal.returns-in_err-record-clause-cause
returns-in_err-record-clause-cause g c all last are fits =
    let inv = c.loop-code.invariant in
    let mid = g.M.Machine.disk c.loop-code.m in
    let read = g.M.Machine.disk c.next.new.m in
    let p = err_from_is_err_and c.from_residual-in_err-record.result c.from_residual-in_err-record.ensures.1 in
    rw (p.1, p.2) (copy_read_fails _ _ _ _ _ _ c.in_err-record.field-0.0 (λ risen. risen) (λ f place there. there)
    (next_fails g.O.Oper.meaning c.args.b mid read c.args.log.now c.loop-code.reader c.next.new.self inv.records inv.bounds inv.reading (g.M.Machine.disk c.args.m.now) c.in_err-record.field-0.0 inv.stays c.in_err-record.ensures.cause))

pub returns-in_err-copy_record-clause-kept : goal.returns-in_err-copy_record-clause-kept
returns-in_err-copy_record-clause-kept g c = stays_twice (g.M.Machine.disk c.args.m.now) (g.M.Machine.disk c.loop-code.m) (g.M.Machine.disk c.next.new.m) c.loop-code.invariant.stays c.next.ensures.kept

pub returns-in_err-copy_record-clause-runs : goal.returns-in_err-copy_record-clause-runs
returns-in_err-copy_record-clause-runs g c =
    let inv = c.loop-code.invariant in
    let now = g.T.Machine.disk c.loop-code.target in
    let new = g.T.Machine.disk c.copy_record.new.m in
    keeps_twice (g.T.Machine.disk c.args.target.now) now new c.args.out.now.file inv.kept (subst (λ (f : FileNo). Runs (In f KeepsClosed) Same now new) inv.file c.copy_record.ensures.runs)

pub returns-in_err-copy_record-clause-cause : goal.returns-in_err-copy_record-clause-cause
returns-in_err-copy_record-clause-cause g c all last are fits =
    let first = g.T.Machine.disk c.args.target.now in
    let p = err_from_is_err_and c.from_residual-in_err-copy_record.result c.from_residual-in_err-copy_record.ensures.1 in
    rw (p.1, p.2) (copy_put_fails _ _ _ _ _ c.in_err-copy_record.field-0.0 (rises_since first (g.T.Machine.disk c.loop-code.target) (g.T.Machine.disk c.copy_record.new.m) c.loop-code.invariant.kept.time.disk_faults) c.in_err-copy_record.ensures.cause)

pub returns-then-not-branch-clause-kept : goal.returns-then-not-branch-clause-kept
returns-then-not-branch-clause-kept g c = stays_twice (g.M.Machine.disk c.args.m.now) (g.M.Machine.disk c.loop-code.m) (g.M.Machine.disk c.next.new.m) c.loop-code.invariant.stays c.next.ensures.kept

pub returns-then-not-branch-clause-runs : goal.returns-then-not-branch-clause-runs
returns-then-not-branch-clause-runs g c =
    let inv = c.loop-code.invariant in
    let now = g.T.Machine.disk c.loop-code.target in
    let new = g.T.Machine.disk c.copy_record.new.m in
    keeps_twice (g.T.Machine.disk c.args.target.now) now new c.args.out.now.file inv.kept (subst (λ (f : FileNo). Runs (In f KeepsClosed) Same now new) inv.file c.copy_record.ensures.runs)

pub returns-then-not-branch-clause-cause : goal.returns-then-not-branch-clause-cause
returns-then-not-branch-clause-cause g c all last are fits =
    let inv = c.loop-code.invariant in
    let b = c.args.b in
    let m = g.O.Oper.meaning b in
    let log = c.args.log.now in
    let base = log.header.base in
    let mid = g.M.Machine.disk c.loop-code.m in
    let read = g.M.Machine.disk c.next.new.m in
    let first = g.T.Machine.disk c.args.target.now in
    let now = g.T.Machine.disk c.loop-code.target in
    let new = g.T.Machine.disk c.copy_record.new.m in
    let r = c.in-Some.record in
    let codes = has_codes m b c.requires.small (g.met.O.Oper.bounded b) (g.met.O.Oper.lawful b c.requires.small) in
    let reading = next_found g.O.Oper.meaning b mid read log c.loop-code.reader c.next.new.self inv.records inv.bounds inv.reading c.in_ok-record.field-0 r c.in-Some.is c.in_ok-record.ensures.read in
    let put = subst (λ (k : ℕ). HasLaid now new c.loop-code.out c.copy_record.new.out c.loop-code.blocks c.copy_record.new.blocks (codes_of m (from_lsn k (r ∷ []))) c.in_ok-copy_record.field-0) c.base.ensures (c.in_ok-copy_record.ensures.laid b) in
    let none = subst (λ (fits : Bool). HasLaid now new c.loop-code.out c.copy_record.new.out c.loop-code.blocks c.copy_record.new.blocks (codes_of m (from_lsn base (r ∷ []))) fits) c.if-not-branch.true put in
    let here = all_stays m (g.M.Machine.disk c.args.m.now) read log all (stays_twice (g.M.Machine.disk c.args.m.now) mid read inv.stays c.next.ensures.kept) are in
    subst (λ (e : CopyErr). CopyFails (Rises (g.M.Machine.disk c.args.m.now).disk_faults read.disk_faults) (Rises first.disk_faults new.disk_faults) (IsTailFault m read log) (λ u n l. ⊥) e) (sym (c.from.ensures ∙ ap copy_from_read c.changed.ensures))
    (no_room m codes first read log c.next.new.self c.args.out.now c.loop-code.out c.args.blocks.now c.loop-code.blocks base all inv.records r last now here reading inv.laid none fits 0)

pub returns-clause-kept : goal.returns-clause-kept
returns-clause-kept g c = stays_twice (g.M.Machine.disk c.args.m.now) (g.M.Machine.disk c.loop-code.m) (g.M.Machine.disk c.next.new.m) c.loop-code.invariant.stays c.next.ensures.kept

pub returns-clause-copied : goal.returns-clause-copied
returns-clause-copied g c =
    let inv = c.loop-code.invariant in
    let mid = g.M.Machine.disk c.loop-code.m in
    let new = g.M.Machine.disk c.next.new.m in
    let ended = next_ended g.O.Oper.meaning c.args.b mid new c.args.log.now c.loop-code.reader c.next.new.self inv.records inv.bounds inv.reading c.in_ok-record.field-0 c.in_default.is c.in_ok-record.ensures.read in
    (inv.records, ended.0, inv.laid)
