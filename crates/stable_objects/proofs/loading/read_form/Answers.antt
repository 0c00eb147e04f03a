use Rattle.std.proofs.lemmas.Result.{err_from_is_err_and}
use Rattle.disk_model.specs.Disk.{Files, Rises}
use Rattle.disk_model.specs.declared.machine.FileNo.TheVariants.{Objects}
use Rattle.formats.specs.Reading.{FailsBy}
use Rattle.stable_objects.specs.Reading.{FailsAt, IsDamagedAt, opens_not}
use Rattle.stable_objects.proofs.Found.{closed_read, damaged_read, open_read, handed_on}
use Rattle.stable_objects.proofs.loading.read_form.Goals as goal

pub returns-then-head-ne-OPEN-clause-cause : goal.returns-then-head-ne-OPEN-clause-cause
returns-then-head-ne-OPEN-clause-cause g c files agree = closed_read (files Objects) c.read_padded.new.into (c.in_ok-read_padded.ensures.bytes files agree) c.if-head-ne-OPEN.true

pub returns-in_err-form-clause-cause : goal.returns-in_err-form-clause-cause
returns-in_err-form-clause-cause g c =
    let old = g.M.Machine.disk c.args.machine.now in
    let new = g.M.Machine.disk c.read_padded.new.machine in
    let e = c.in_err-form.field-0.0 in
    let p = err_from_is_err_and c.from_residual-in_err-form.result c.from_residual-in_err-form.ensures.1 in
    rw (p.1, p.2) (opens_not _ (FailsBy (Rises old.disk_faults new.disk_faults) (FailsAt (λ place. (files : Files) → new.agrees files → IsDamagedAt (files Objects) place))) e
    (handed_on ⊥ _ _ _ e (λ none. absurd none)
    (λ place fault files agree. damaged_read (files Objects) c.read_padded.new.into place (c.in_ok-read_padded.ensures.bytes files agree) c.if-head-ne-OPEN.false fault)
    c.in_err-form.ensures.cause))

pub returns-clause-known : goal.returns-clause-known
returns-clause-known g c = c.in_ok-form.ensures.ok.known

pub returns-clause-read : goal.returns-clause-read
returns-clause-read g c files agree = open_read (files Objects) c.read_padded.new.into c.in_ok-form.form (c.in_ok-read_padded.ensures.bytes files agree) c.if-head-ne-OPEN.false c.in_ok-form.ensures.ok
