use Rattle.std.proofs.Common.{◌≡◌, refl, sym, ap, ◌∙◌, ℕ, [], Option, Some, Ok, Err, option_map}
use Rattle.formats.specs.Objects.{bounds_of}
use Rattle.running_store.specs.Taking.Ending.{Done}
use Rattle.store_engine.specs.Lists.{ending_of}
use Rattle.range_calls.specs.ReadLaws.{passed, refused_passed}
use Rattle.range_calls.specs.Store.{state_of}
use Rattle.map_client.specs.Answers.{cause_of}
use Rattle.named_objects.specs.Answers.{value_told, valued}
use Rattle.named_objects.proofs.Told.{err_through, ok_through}
use Rattle.named_objects.proofs.valuing.value.Goals as goal

pub returns-in_err-object-clause-refused : goal.returns-in_err-object-clause-refused
returns-in_err-object-clause-refused g c = λ p commands holds.
    let e = c.in_err-object.field-0.0 in
    refused_passed c.from_residual.result e
    (λ x. ending_of (cause_of x) ≡ Done → value_told (bounds_of p) c.args.map.now.lo c.args.map.now.hi (state_of p commands) c.args.name.now ≡ Err x)
    (passed c.from_residual.result e c.from_residual.ensures.1) (λ done. ap (valued (bounds_of p) c.args.map.now.lo (state_of p commands)) (sym (c.in_err-object.ensures.answer p commands holds done)))

pub returns-in-Some-clause-reads : goal.returns-in-Some-clause-reads
returns-in-Some-clause-reads g c =
    c.reads_go_on.ensures.behind c.args.machine.now c.find.new.machine c.value_of.new.machine c.args.store.now c.find.new.store c.value_of.new.store (λ p commands. []) _ c.in_ok-object.ensures.reads c.value_of.ensures.reads

pub returns-in-Some-clause-found : goal.returns-in-Some-clause-found
returns-in-Some-clause-found g c = λ p commands holds.
    let b = bounds_of p in
    let lo = c.args.map.now.lo in
    let s = state_of p commands in
    ok_through (value_told b lo c.args.map.now.hi s c.args.name.now) (valued b lo s (Ok (Some c.in-Some.object))) (option_map (λ v. v.items)) c.value_of.result
    (ap (valued b lo s) (sym (c.in_ok-object.ensures.answer p commands holds refl) ∙ ap (λ (o : Option ℕ). Ok o) c.in-Some.is))
    (c.value_of.ensures.found p commands (c.reads_go_on.ensures.holds p c.args.machine.now c.find.new.machine c.args.store.now c.find.new.store commands c.in_ok-object.ensures.reads holds))

pub returns-in-Some-clause-refused : goal.returns-in-Some-clause-refused
returns-in-Some-clause-refused g c = λ p commands holds.
    let b = bounds_of p in
    let lo = c.args.map.now.lo in
    let s = state_of p commands in
    err_through (value_told b lo c.args.map.now.hi s c.args.name.now) (valued b lo s (Ok (Some c.in-Some.object))) c.value_of.result
    (ap (valued b lo s) (sym (c.in_ok-object.ensures.answer p commands holds refl) ∙ ap (λ (o : Option ℕ). Ok o) c.in-Some.is))
    (c.value_of.ensures.refused p commands (c.reads_go_on.ensures.holds p c.args.machine.now c.find.new.machine c.args.store.now c.find.new.store commands c.in_ok-object.ensures.reads holds))

pub returns-in-None-clause-found : goal.returns-in-None-clause-found
returns-in-None-clause-found g c = λ p commands holds.
    let b = bounds_of p in
    let lo = c.args.map.now.lo in
    ap (valued b lo (state_of p commands)) (sym (c.in_ok-object.ensures.answer p commands holds refl) ∙ ap (λ (o : Option ℕ). Ok o) c.in-None.is)
