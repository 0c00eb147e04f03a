use Rattle.std.proofs.Common.{◌∙◌, subst}
use Rattle.std.proofs.lemmas.Result.{err_from_is_err_and}
use Rattle.disk_model.specs.declared.machine.FileNo.TheVariants.{Objects}
use Rattle.formats.specs.FirstFault.{NoMore, NumberChecks}
use Rattle.formats.specs.declared.params.Params.{Params}
use Rattle.stable_objects.proofs.Found.{numbers_read, handed_on}
use Rattle.stable_objects.proofs.loading.read_numbers.Goals as goal

pub returns-in_err-params-clause-cause : goal.returns-in_err-params-clause-cause
returns-in_err-params-clause-cause g c =
    let form = c.args.form in
    let bytes = c.read_padded.new.into in
    let p = err_from_is_err_and c.from_residual-in_err-params.result c.from_residual-in_err-params.ensures.1 in
    rw (p.1, p.2) (handed_on ⊥ _ _ _ _ (λ none. absurd none)
    (λ place fault files agree. subst (λ (q : Params). NumberChecks form q NoMore place) (numbers_read (files Objects) bytes form.numbers (c.in_ok-read_padded.ensures.bytes files agree)) fault)
    c.in_err-params.ensures.cause)

pub returns-clause-read : goal.returns-clause-read
returns-clause-read g c files agree = c.in_ok-params.ensures.ok.0 ∙ numbers_read (files Objects) c.read_padded.new.into c.args.form.numbers (c.in_ok-read_padded.ensures.bytes files agree)
