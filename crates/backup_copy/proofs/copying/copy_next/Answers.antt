use Rattle.std.proofs.Common.{◌≡◌, ◌∙◌, ◌<◌, ◌+◌, ℕ, List, None, Some, ap, refl, sym, inl, inr, ⊎_elim, subst, arith}
use Rattle.formats.specs.declared.params.Params.{Params}
use Rattle.store_engine.specs.Engine.{EngineView}
use Rattle.backup_copy.proofs.Copied.{PutsNext, copied_next, copied_still}
use Rattle.backup_copy.proofs.Ends.{error_from, read_cause, read_count, read_failed, read_fault}
use Rattle.backup_copy.proofs.Passed.{read_after}
use Rattle.backup_copy.proofs.copying.copy_next.Goals as goal

pub returns-in_err-lsn-clause-read : goal.returns-in_err-lsn-clause-read
returns-in_err-lsn-clause-read g c =
    read_after g.O.Oper.meaning (g.M.Machine.disk c.args.machine.now) (g.M.Machine.disk c.held.new.machine) c.args.engine.now c.held.new.self c.held.new.self c.held.new.self.copied c.held.ensures.read refl
    (read_failed c.held.result c.in_err-lsn.field-0.0 c.from_residual.result c.in_err-lsn.was (error_from c.from_residual.result _ c.from_residual.ensures.1))

pub returns-in-Ok-clause-read : goal.returns-in-Ok-clause-read
returns-in-Ok-clause-read g c =
    read_after g.O.Oper.meaning (g.M.Machine.disk c.args.machine.now) (g.M.Machine.disk c.held.new.machine) c.args.engine.now c.set_copied.new.self c.held.new.self (Some (c.args.object + 1)) c.in_ok-lsn.ensures.read c.set_copied.ensures
    (λ failed. cc, λ failed. cc)

pub returns-in-Err-clause-read : goal.returns-in-Err-clause-read
returns-in-Err-clause-read g c =
    read_after g.O.Oper.meaning (g.M.Machine.disk c.args.machine.now) (g.M.Machine.disk c.held.new.machine) c.args.engine.now c.set_copied-in-Err.new.self c.held.new.self None c.in_ok-lsn.ensures.read c.set_copied-in-Err.ensures
    (λ failed. cc, λ failed. cc)

pub returns-in_err-lsn-clause-count : goal.returns-in_err-lsn-clause-count
returns-in_err-lsn-clause-count g c =
    read_count c.args.object (c.args.object + 1) c.held.new.self.copied c.in_err-lsn.field-0.0 c.from_residual.result (omega arith) (ap (λ (e : EngineView). e.copied) c.held.ensures.read.engine ∙ c.requires.next)
    (error_from c.from_residual.result _ c.from_residual.ensures.1)

pub returns-in_err-lsn-clause-goes_on : goal.returns-in_err-lsn-clause-goes_on
returns-in_err-lsn-clause-goes_on g c = λ p w is.
    let old = g.M.Machine.disk c.args.machine.now in
    let new = g.M.Machine.disk c.held.new.machine in
    let t = g.T.Machine.disk c.args.target.now in
    let same = ap (λ (e : EngineView). e.copied) c.held.ensures.read.engine in
    read_fault c.held.result c.in_err-lsn.field-0.0 c.from_residual.result c.in_err-lsn.was (error_from c.from_residual.result _ c.from_residual.ensures.1)
    (⊎_elim (λ failed. inl failed) (λ shows. inr (copied_still g.O.Oper.meaning p old new c.args.engine.now c.held.new.self w t same shows is)) (c.held.ensures.read.shows p w is.shows))

pub returns-in-Ok-clause-goes_on : goal.returns-in-Ok-clause-goes_on
returns-in-Ok-clause-goes_on g c = λ p w is.
    let old = g.M.Machine.disk c.args.machine.now in
    let new = g.M.Machine.disk c.held.new.machine in
    let t = g.T.Machine.disk c.args.target.now in
    let t' = g.T.Machine.disk c.put_pair.new.target in
    let value = c.deref.result.now in
    let params : c.params.result ≡ p = c.params.ensures.value ∙ ap (λ (e : EngineView). e.parts.volatile.objects.slots.params) c.held.ensures.read.engine ∙ is.shows.shows.store.params in
    let below = subst (λ (q : Params). c.args.object < q.objects) (is.shows.shows.store.params) c.requires.below in
    let shows = ⊎_elim (λ failed. cc) (λ shows. shows) (c.in_ok-lsn.ensures.read.shows p w is.shows) in
    let pair : w.slots c.args.object ≡ record { lsn = c.in_ok-lsn.lsn; value = value } =
    subst (λ (l : List ℕ). w.slots c.args.object ≡ record { lsn = c.in_ok-lsn.lsn; value = l }) (sym c.deref.ensures.value) (c.in_ok-lsn.ensures.pair p w is.shows) in
    inr (copied_next g.O.Oper.meaning p old new c.args.engine.now c.held.new.self c.set_copied.new.self w t t' c.args.object c.in_ok-lsn.lsn value
    (λ b w copied cells sound is. c.copying_goes_on.ensures.more b w copied cells sound is) below c.requires.next pair shows c.set_copied.ensures c.put_pair.ensures.runs
    (λ told. subst (λ (q : Params). PutsNext q t t' c.args.object c.in_ok-lsn.lsn value) params (λ cells pair may before. c.in-Ok.ensures.put told cells pair may before)) is)

pub returns-in_err-lsn-clause-cause : goal.returns-in_err-lsn-clause-cause
returns-in_err-lsn-clause-cause g c =
    read_cause (g.M.Machine.disk c.args.machine.now) (g.M.Machine.disk c.held.new.machine) c.args.engine.now c.held.new.self.copied c.args.object (ap (λ (e : EngineView). e.copied) c.held.ensures.read.engine ∙ c.requires.next) _
    c.held.result c.in_err-lsn.field-0.0 c.from_residual.result c.in_err-lsn.was (error_from c.from_residual.result _ c.from_residual.ensures.1) c.held.ensures.cause
