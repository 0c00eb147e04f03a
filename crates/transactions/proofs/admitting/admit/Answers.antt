use Rattle.std.proofs.Common.{◌≡◌, ◌∙◌, ap, subst, sym, None, Some, List, ℕ, map, length}
use Rattle.oper_core.specs.State.{State}
use Rattle.formats.specs.Objects.{bounds_of}
use Rattle.formats.specs.declared.params.Params.{Params}
use Rattle.running_store.specs.Laid.Among.{small_bounds}
use Rattle.store_engine.specs.Engine.{params_of}
use Rattle.store_engine.specs.Store.{meaning_in, state_of}
use Rattle.transactions.specs.Staged.{overlaid}
use Rattle.transactions.proofs.Reading.{reads_none, reads_so}
use Rattle.transactions.proofs.Staging.{cut_off_admitted, fits_reads, judged, refused_by_shape}
use Rattle.transactions.proofs.admitting.admit.Goals as goal

pub returns-in-Err-clause-reads : goal.returns-in-Err-clause-reads
returns-in-Err-clause-reads g c = reads_none g.O.Oper.meaning (g.M.Machine.disk c.args.machine.now) c.args.engine.now _ (g.met.M.Machine.lawful c.args.machine.now) c.requires.unbroken (λ none. absurd none)

pub returns-in-Err-clause-admitted : goal.returns-in-Err-clause-admitted
returns-in-Err-clause-admitted g c = λ commands holds.
    let p = params_of c.args.engine.now in
    refused_by_shape (meaning_in g.O.Oper.meaning p) (overlaid c.args.made.now (state_of g.O.Oper.meaning p commands)) c.args.op.now c.in-Err.refusal
    (subst (λ (q : Params). (meaning_in g.O.Oper.meaning q).shape c.args.op.now ≡ Some c.in-Err.refusal) c.params-params.ensures.value (sym c.in-Err.ensures))

pub check-requires : goal.check-requires
check-requires g c =
    let b = bounds_of c.params-params.result in
    fits_reads g.O.Oper.meaning b (g.met.O.Oper.bounded b) c.args.op.now c.as_slice.result.now c.in-Ok.values (params_of c.args.engine.now).cap (c.as_slice.ensures.value ∙ c.reads.ensures b) c.in-Ok.ensures.fits.0 c.in-Ok.ensures.fits.1
    (ap (λ (q : Params). q.cap) (sym c.params-params.ensures.value))

pub returns-in-Err-check-clause-reads : goal.returns-in-Err-check-clause-reads
returns-in-Err-check-clause-reads g c =
    let disk = g.M.Machine.disk in
    reads_so g.O.Oper.meaning (disk c.args.machine.now) (disk c.values_of.new.machine) c.args.engine.now c.values_of.new.engine _ _ (λ failed. absurd failed) (λ none. absurd none) c.in-Ok.ensures.reads

pub returns-in-Err-check-clause-admitted : goal.returns-in-Err-check-clause-admitted
returns-in-Err-check-clause-admitted g c = λ commands holds.
    let p = params_of c.args.engine.now in
    let s : State = overlaid c.args.made.now (state_of g.O.Oper.meaning p commands) in
    judged (meaning_in g.O.Oper.meaning p) s c.args.op.now c.in-Ok.values (Some c.in-Err-check.refusal)
    (subst (λ (q : Params). (meaning_in g.O.Oper.meaning q).shape c.args.op.now ≡ None) c.params-params.ensures.value (sym c.in_default.ensures))
    (c.in-Ok.ensures.values p commands holds ∙ ap (λ (l : List ℕ). map s l) (c.as_slice.ensures.value ∙ c.reads.ensures (bounds_of p)))
    (subst (λ (q : Params). (meaning_in g.O.Oper.meaning q).check c.args.op.now c.in-Ok.values ≡ Some c.in-Err-check.refusal) c.params-params.ensures.value (sym c.in-Err-check.ensures))

pub apply-requires : goal.apply-requires
apply-requires g c =
    let b = bounds_of c.params-params.result in
    fits_reads g.O.Oper.meaning b (g.met.O.Oper.bounded b) c.args.op.now c.as_slice.result.now c.in-Ok.values (params_of c.args.engine.now).cap (c.as_slice.ensures.value ∙ c.reads.ensures b) c.in-Ok.ensures.fits.0 c.in-Ok.ensures.fits.1
    (ap (λ (q : Params). q.cap) (sym c.params-params.ensures.value))

pub returns-in-Ok-apply-clause-reads : goal.returns-in-Ok-apply-clause-reads
returns-in-Ok-apply-clause-reads g c =
    let disk = g.M.Machine.disk in
    reads_so g.O.Oper.meaning (disk c.args.machine.now) (disk c.values_of.new.machine) c.args.engine.now c.values_of.new.engine _ _ (λ failed. absurd failed) (λ none. absurd none) c.in-Ok.ensures.reads

pub returns-in-Ok-apply-clause-count : goal.returns-in-Ok-apply-clause-count
returns-in-Ok-apply-clause-count g c =
    let p = params_of c.args.engine.now in
    let b = bounds_of p in
    let grammar = subst (λ (q : Params). (meaning_in g.O.Oper.meaning q).shape c.args.op.now ≡ None) c.params-params.ensures.value (sym c.in_default.ensures) in
    let fits = fits_reads g.O.Oper.meaning b (g.met.O.Oper.bounded b) c.args.op.now c.as_slice.result.now c.in-Ok.values p.cap (c.as_slice.ensures.value ∙ c.reads.ensures b) c.in-Ok.ensures.fits.0 c.in-Ok.ensures.fits.1 (λ i. p.cap) in
    let new = subst (λ (q : Params). c.in-Ok-apply.new ≡ (meaning_in g.O.Oper.meaning q).effect c.args.op.now c.in-Ok.values) c.params-params.ensures.value c.in-Ok-apply.ensures in
    ap (λ (l : List (List ℕ)). length l) new ∙ ((g.met.O.Oper.lawful b (small_bounds p c.params-params.ensures.range)).made c.args.op.now c.in-Ok.values grammar fits).0

pub returns-in-Ok-apply-clause-admitted : goal.returns-in-Ok-apply-clause-admitted
returns-in-Ok-apply-clause-admitted g c = λ commands holds.
    let p = params_of c.args.engine.now in
    let m = meaning_in g.O.Oper.meaning p in
    let s : State = overlaid c.args.made.now (state_of g.O.Oper.meaning p commands) in
    let are = c.in-Ok.ensures.values p commands holds ∙ ap (λ (l : List ℕ). map s l) (c.as_slice.ensures.value ∙ c.reads.ensures (bounds_of p)) in (
      judged m s c.args.op.now c.in-Ok.values None
          (subst (λ (q : Params). (meaning_in g.O.Oper.meaning q).shape c.args.op.now ≡ None) c.params-params.ensures.value (sym c.in_default.ensures)) are
          (subst (λ (q : Params). (meaning_in g.O.Oper.meaning q).check c.args.op.now c.in-Ok.values ≡ None) c.params-params.ensures.value (sym c.in_default-check.ensures)),
      subst (λ (q : Params). c.in-Ok-apply.new ≡ (meaning_in g.O.Oper.meaning q).effect c.args.op.now c.in-Ok.values) c.params-params.ensures.value c.in-Ok-apply.ensures
          ∙ ap (λ (l : List (List ℕ)). m.effect c.args.op.now l) are,
    )

pub returns-in-Ok-clause-reads : goal.returns-in-Ok-clause-reads
returns-in-Ok-clause-reads g c =
    let disk = g.M.Machine.disk in
    reads_so g.O.Oper.meaning (disk c.args.machine.now) (disk c.values_of.new.machine) c.args.engine.now c.values_of.new.engine _ _ (λ failed. absurd failed) (λ none. absurd none) c.in-Ok.ensures.reads

pub returns-clause-reads : goal.returns-clause-reads
returns-clause-reads g c =
    let disk = g.M.Machine.disk in
    reads_so g.O.Oper.meaning (disk c.args.machine.now) (disk c.values_of.new.machine) c.args.engine.now c.values_of.new.engine _ _ (λ failed. c.unread.ensures.fault.0 failed) (λ failed. c.unread.ensures.fault.1 failed) c.in-Err-values_of.ensures.reads

pub returns-clause-admitted : goal.returns-clause-admitted
returns-clause-admitted g c = λ commands holds.
    let p = params_of c.args.engine.now in
    cut_off_admitted (meaning_in g.O.Oper.meaning p) (overlaid c.args.made.now (state_of g.O.Oper.meaning p commands)) c.args.op.now c.unread.result c.unread.ensures.cut_off
