use Rattle.std.proofs.Common.{refl, arith}
use Rattle.std.proofs.lemmas.Result.{err_from_is_err_and}
use Rattle.disk_model.specs.Moments.{agreed_before, stays_twice}
use Rattle.disk_model.specs.declared.machine.FileNo.TheVariants.{Objects}
use Rattle.stable_objects.specs.LayoutLaws.{in_layout}
use Rattle.stable_objects.proofs.Found.{numbers_failed, cut_short, header_read, last_gate}
use Rattle.stable_objects.proofs.loading.read_layout.Goals as goal

pub returns-in_err-params-clause-cause : goal.returns-in_err-params-clause-cause
returns-in_err-params-clause-cause g c =
    let p = err_from_is_err_and c.from_residual-in_err-params.result c.from_residual-in_err-params.ensures.1 in
    rw (p.1, p.2) (numbers_failed (g.M.Machine.disk c.args.machine.now) (g.M.Machine.disk c.read_form.new.machine) (g.M.Machine.disk c.read_numbers.new.machine) c.in_ok-form.form _
    c.read_form.ensures.kept c.read_numbers.ensures.kept c.in_ok-form.ensures.read c.in_err-params.ensures.cause)

pub returns-then-size-gate_place-clause-cause : goal.returns-then-size-gate_place-clause-cause
returns-then-size-gate_place-clause-cause g c = (
  refl,
  λ files agree.
      let p = c.in_ok-params.params in
      let form = c.in_ok-form.form in
      let size = c.in_ok-size.ensures.size files agree in
      let numbered = agreed_before c.size.ensures.kept files agree in
      let has = c.in_ok-form.ensures.read files (agreed_before c.read_numbers.ensures.kept files numbered) in
      let in_range = c.in_ok-params.ensures.in_range in
      cut_short (files Objects) form p has.0 has.1 (c.in_ok-params.ensures.read files numbered) in_range.0 in_range.1
      (omega (arith, size, c.if-size-gate_place.true, c.gate_place.ensures, last_gate (record { params = p; first = form.first }) in_range.0)),
)

pub returns-clause-read : goal.returns-clause-read
returns-clause-read g c files agree =
    let p = c.in_ok-params.params in
    let form = c.in_ok-form.form in
    let size = c.in_ok-size.ensures.size files agree in
    let numbered = agreed_before c.size.ensures.kept files agree in
    let has = c.in_ok-form.ensures.read files (agreed_before c.read_numbers.ensures.kept files numbered) in
    let in_range = c.in_ok-params.ensures.in_range in
    header_read (files Objects) form p has.0 has.1 (c.in_ok-params.ensures.read files numbered) in_range.0 in_range.1
    (omega (arith, size, c.if-size-gate_place.false, c.gate_place.ensures, last_gate (record { params = p; first = form.first }) in_range.0))

pub returns-clause-is_layout : goal.returns-clause-is_layout
returns-clause-is_layout g c =
    let in_range = c.in_ok-params.ensures.in_range in
    in_layout c.in_ok-form.form c.in_ok-params.params c.in_ok-form.ensures.known in_range.0 in_range.1

pub returns-in_err-params-clause-kept : goal.returns-in_err-params-clause-kept
returns-in_err-params-clause-kept g c = stays_twice _ _ _ c.read_form.ensures.kept c.read_numbers.ensures.kept

pub returns-in_err-size-clause-kept : goal.returns-in_err-size-clause-kept
returns-in_err-size-clause-kept g c = stays_twice _ _ _ (stays_twice _ _ _ c.read_form.ensures.kept c.read_numbers.ensures.kept) c.size.ensures.kept

pub returns-then-size-gate_place-clause-kept : goal.returns-then-size-gate_place-clause-kept
returns-then-size-gate_place-clause-kept g c = stays_twice _ _ _ (stays_twice _ _ _ c.read_form.ensures.kept c.read_numbers.ensures.kept) c.size.ensures.kept

pub returns-clause-kept : goal.returns-clause-kept
returns-clause-kept g c = stays_twice _ _ _ (stays_twice _ _ _ c.read_form.ensures.kept c.read_numbers.ensures.kept) c.size.ensures.kept
