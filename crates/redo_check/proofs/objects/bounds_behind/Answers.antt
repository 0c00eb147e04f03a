use Rattle.std.proofs.Common.{rules, arith}
use Rattle.disk_model.specs.declared.machine.FileNo.TheVariants.{Objects}
use Rattle.redo_check.proofs.FormLemmas.{bounds_none, bounds_some}
use Rattle.redo_check.proofs.objects.bounds_behind.Goals as goal

pub returns-then-not-are_bounds-clause-read : goal.returns-then-not-are_bounds-clause-read
returns-then-not-are_bounds-clause-read g c files agrees =
    bounds_none c.args.form (files Objects) c.read_padded.new.into c.params_of-params.result c.are_bounds.result (c.in_ok-read_padded.ensures.bytes files agrees) c.params_of-params.ensures c.are_bounds.ensures.is (search rules)

pub returns-clause-read : goal.returns-clause-read
returns-clause-read g c files agrees =
    bounds_some c.args.form (files Objects) c.read_padded.new.into c.params_of-params.result c.are_bounds.result (c.in_ok-read_padded.ensures.bytes files agrees) c.params_of-params.ensures c.are_bounds.ensures.is (search rules)

pub returns-clause-small : goal.returns-clause-small
returns-clause-small g c =
    let within = c.are_bounds.ensures.within (search rules) in
    record { objects = omega (arith, within.1); cap = omega (arith, within.2) }
