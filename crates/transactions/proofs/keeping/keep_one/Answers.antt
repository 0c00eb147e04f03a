use Rattle.std.proofs.Common.{◌∙◌, refl, sym, [], None, Some}
use Rattle.std.proofs.lemmas.Bool.{ltb-true}
use Rattle.store_engine.specs.Engine.{params_of}
use Rattle.transactions.proofs.Kept.{fetched_or_broken, none_there, one_old, one_value, values_same}
use Rattle.transactions.proofs.keeping.keep_one.Goals as goal

pub returns-in-Ok-true-clause-reads : goal.returns-in-Ok-true-clause-reads
returns-in-Ok-true-clause-reads g c =
    let disk = g.M.Machine.disk in
    fetched_or_broken g.O.Oper.meaning (disk c.args.machine.now) (disk c.fetch.new.machine) c.args.engine.now c.fetch.new.self c.args.object None c.in-Ok-true.ensures.fetched

pub returns-in-Ok-true-clause-stands : goal.returns-in-Ok-true-clause-stands
returns-in-Ok-true-clause-stands g c = λ are.
    let count = (params_of c.args.engine.now).objects in
    absurd (none_there c.args.kept.now c.args.object count (c.is_kept.ensures.no c.if-is_kept.false) are (ltb-true c.args.object count (sym c.in-Ok-true.ensures.there ∙ c.in-Ok-true.field-0-test)))

pub returns-in-Err-clause-stands : goal.returns-in-Err-clause-stands
returns-in-Err-clause-stands g c = λ are.
    let count = (params_of c.args.engine.now).objects in
    absurd (none_there c.args.kept.now c.args.object count (c.is_kept.ensures.no c.if-is_kept.false) are c.in-Err.ensures.fetched.cause.0)

pub returns-in-Ok-true-clause-same : goal.returns-in-Ok-true-clause-same
returns-in-Ok-true-clause-same g c =
    one_old c.args.kept.now c.keep_value.new.kept c.args.object c.get.result.now (record { none = c.is_kept.ensures.no c.if-is_kept.false; here = c.keep_value.ensures.here; others = c.keep_value.ensures.others })

pub returns-in-Ok-true-clause-values : goal.returns-in-Ok-true-clause-values
returns-in-Ok-true-clause-values g c = λ p commands holds.
    one_value g.O.Oper.meaning p commands c.args.kept.now c.keep_value.new.kept c.args.object c.get.result.now (record { none = c.is_kept.ensures.no c.if-is_kept.false; here = c.keep_value.ensures.here; others = c.keep_value.ensures.others })
    (c.get.ensures.value [] ∙ c.in-Ok-true.ensures.value p commands holds c.in-Ok-true.field-0-test [])

pub returns-in-Ok-false-clause-reads : goal.returns-in-Ok-false-clause-reads
returns-in-Ok-false-clause-reads g c =
    let disk = g.M.Machine.disk in
    fetched_or_broken g.O.Oper.meaning (disk c.args.machine.now) (disk c.fetch.new.machine) c.args.engine.now c.fetch.new.self c.args.object None c.in-Ok-false.ensures.fetched

pub returns-in-Ok-false-clause-values : goal.returns-in-Ok-false-clause-values
returns-in-Ok-false-clause-values g c = λ p commands holds. values_same g.O.Oper.meaning p commands c.args.kept.now c.args.kept.now (λ x. refl)

pub returns-in-Err-clause-reads : goal.returns-in-Err-clause-reads
returns-in-Err-clause-reads g c =
    let disk = g.M.Machine.disk in
    fetched_or_broken g.O.Oper.meaning (disk c.args.machine.now) (disk c.fetch.new.machine) c.args.engine.now c.fetch.new.self c.args.object (Some c.in-Err.field-0) c.in-Err.ensures.fetched

pub returns-in-Err-clause-values : goal.returns-in-Err-clause-values
returns-in-Err-clause-values g c = λ p commands holds. values_same g.O.Oper.meaning p commands c.args.kept.now c.args.kept.now (λ x. refl)
