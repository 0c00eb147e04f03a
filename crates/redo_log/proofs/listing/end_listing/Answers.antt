use Rattle.std.proofs.Common.{◌≡◌, inl, rules, subst, sym}
use Rattle.std.specs.Prelude.{Err, IfErr, Result}
use Rattle.op_codec.specs.AllOps.{all_meaning}
use Rattle.redo_log.specs.Unreadable.{IsBroken}
use Rattle.redo_log.specs.Fronts.{IsDamage}
use Rattle.tool_output.specs.declared.stop.Stop.{Stop}
use Rattle.tool_output.specs.declared.stop.Stop.TheVariants as stops
use Rattle.tool_output.specs.FoundLaws.{stopped_by}
use Rattle.redo_log.proofs.BrokenLemmas.{if_ok, on_err}
use Rattle.redo_log.proofs.listing.end_listing.Goals as goal

pub returns-in-Ok-clause-whole : goal.returns-in-Ok-clause-whole
returns-in-Ok-clause-whole g c told store = if_ok c.check_store.result (λ both. both.0) (c.check_store.ensures.whole told store)

pub returns-in-Ok-clause-cause : goal.returns-in-Ok-clause-cause
returns-in-Ok-clause-cause g c told store active header payloads holds broken = c.check_store.ensures.cause told store

pub returns-in-Ok-clause-faults : goal.returns-in-Ok-clause-faults
returns-in-Ok-clause-faults g c = on_err c.check_store.result (λ stop counts. inl counts) c.check_store.ensures.faults

pub returns-in_err-check_store-in-Err-Damaged-clause-cause : goal.returns-in_err-check_store-in-Err-Damaged-clause-cause
returns-in_err-check_store-in-Err-Damaged-clause-cause g c told store active header payloads holds broken = stopped_by c.from_residual.result c.in_err-check_store-in-Err-Damaged.field-0.0 _ c.from_residual.ensures.1 (c.in_err-check_store-in-Err-Damaged.ensures.cause told store)

pub returns-in_err-check_store-in-Err-Damaged-clause-faults : goal.returns-in_err-check_store-in-Err-Damaged-clause-faults
returns-in_err-check_store-in-Err-Damaged-clause-faults g c = stopped_by c.from_residual.result c.in_err-check_store-in-Err-Damaged.field-0.0 _ c.from_residual.ensures.1 (inl c.in_err-check_store-in-Err-Damaged.ensures.faults)

pub returns-in_ok-check_store-in-Err-Damaged-clause-cause : goal.returns-in_ok-check_store-in-Err-Damaged-clause-cause
returns-in_ok-check_store-in-Err-Damaged-clause-cause g c told store active header payloads holds broken =
    let same : c.args.said ≡ Err (stops.Damaged c.in-Err-Damaged.file c.in-Err-Damaged.place) = search rules in
    absurd ((c.in_ok-check_store-in-Err-Damaged.ensures.whole told store).1 active header payloads holds (subst (λ (r : Result _ Stop). IfErr r (IsBroken (all_meaning c.args.b) payloads)) same broken))

pub returns-in_ok-check_store-in-Err-Damaged-clause-faults : goal.returns-in_ok-check_store-in-Err-Damaged-clause-faults
returns-in_ok-check_store-in-Err-Damaged-clause-faults g c = inl tt

pub returns-in-Err-NotAStore-clause-cause : goal.returns-in-Err-NotAStore-clause-cause
returns-in-Err-NotAStore-clause-cause g c told store active header payloads holds broken =
    let same : c.args.said ≡ Err stops.NotAStore = search rules in
    absurd (subst (λ (r : Result _ Stop). IfErr r (IsBroken (all_meaning c.args.b) payloads)) same broken)

pub returns-in_err-check_store-in-Err-Damaged-clause-damage : goal.returns-in_err-check_store-in-Err-Damaged-clause-damage
returns-in_err-check_store-in-Err-Damaged-clause-damage g c =
    let same : c.args.said ≡ Err (stops.Damaged c.in-Err-Damaged.file c.in-Err-Damaged.place) = search rules in
    stopped_by c.from_residual.result c.in_err-check_store-in-Err-Damaged.field-0.0 _ c.from_residual.ensures.1 (λ damage. subst (λ (r : Result _ Stop). IfErr r IsDamage) (sym same) tt)

pub returns-in_ok-check_store-in-Err-Damaged-clause-damage : goal.returns-in_ok-check_store-in-Err-Damaged-clause-damage
returns-in_ok-check_store-in-Err-Damaged-clause-damage g c damage =
    let same : c.args.said ≡ Err (stops.Damaged c.in-Err-Damaged.file c.in-Err-Damaged.place) = search rules in
    subst (λ (r : Result _ Stop). IfErr r IsDamage) (sym same) tt

pub returns-in-Err-NotAStore-clause-damage : goal.returns-in-Err-NotAStore-clause-damage
returns-in-Err-NotAStore-clause-damage g c damage = absurd damage

pub returns-in-Err-DiskFault-clause-damage : goal.returns-in-Err-DiskFault-clause-damage
returns-in-Err-DiskFault-clause-damage g c damage = absurd damage

pub returns-in-Err-SayFault-clause-damage : goal.returns-in-Err-SayFault-clause-damage
returns-in-Err-SayFault-clause-damage g c damage = absurd damage

pub returns-in-Err-Memory-clause-damage : goal.returns-in-Err-Memory-clause-damage
returns-in-Err-Memory-clause-damage g c damage = absurd damage
