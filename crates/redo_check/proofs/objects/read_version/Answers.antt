use Rattle.std.proofs.Common.{◌∙◌, arith, sym}
use Rattle.disk_model.specs.declared.machine.FileNo.TheVariants.{Objects}
use Rattle.redo_check.proofs.FormLemmas.{version_first, version_second, version_third, version_unplaced}
use Rattle.redo_check.proofs.objects.read_version.Goals as goal

pub returns-then-not-is_second-clause-read : goal.returns-then-not-is_second-clause-read
returns-then-not-is_second-clause-read g c files agrees = sym (version_first c.args.head.now (files Objects) (sym c.is_second.ensures ∙ c.if-not-is_second.true))

pub returns-in_default-clause-read : goal.returns-in_default-clause-read
returns-in_default-clause-read g c files agrees = sym (version_unplaced c.args.head.now (files Objects) (sym c.is_second.ensures ∙ c.if-not-is_second.false) c.in_default.ensures.none)

pub read_switch-requires : goal.read_switch-requires
read_switch-requires g c = let known = c.in-Some.ensures.some.1 in omega (arith, known.between, known.near)

pub returns-then-set-clause-read : goal.returns-then-set-clause-read
returns-then-set-clause-read g c files agrees =
    sym (version_third c.args.head.now (files Objects) c.in-Some.form (sym c.is_second.ensures ∙ c.if-not-is_second.false) c.in-Some.ensures.some.0 c.in-Some.ensures.some.2 (sym (c.in_ok-set.ensures.read files agrees) ∙ c.if-set.true))

pub returns-else-set-clause-read : goal.returns-else-set-clause-read
returns-else-set-clause-read g c files agrees =
    sym (version_second c.args.head.now (files Objects) c.in-Some.form (sym c.is_second.ensures ∙ c.if-not-is_second.false) c.in-Some.ensures.some.0 c.in-Some.ensures.some.2 (sym (c.in_ok-set.ensures.read files agrees) ∙ c.if-set.false))
