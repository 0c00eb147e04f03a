use Rattle.std.proofs.Common.{rules, subst, sym}
use Rattle.std.proofs.lemmas.Result.{err_from_is_err_and}
use Rattle.disk_model.specs.declared.machine.FileNo.TheVariants.{Objects}
use Rattle.dirty_cache.specs.Contents.{Contents}
use Rattle.running_store.specs.Laid.{IsLaidOn}
use Rattle.running_store.specs.Laid.Lengths.{AreKept}
use Rattle.running_store.proofs.objects.Objects.load.Goals as goal

pub returns-in_err-empties-clause-whole : goal.returns-in_err-empties-clause-whole
returns-in_err-empties-clause-whole g c = λ files agree p whole.
    let e = err_from_is_err_and c.from_residual-in_err-empties.result c.from_residual-in_err-empties.ensures.1 in
    rw (e.1, e.2) tt

pub invariant_of-result : goal.invariant_of-result
invariant_of-result g c =
    let slots = c.in_ok-slots.slots in
    let marks = c.in_ok-empties.empties.marks in
    subst (λ (cache : Contents). AreKept (record { slots = slots; cache = cache }) marks) (sym c.in_ok-cache.ensures) (record {
      cached = record { in_range = search rules; each = λ x e there. cc };
      empties = record { count = c.in_ok-empties.ensures.count; each = c.in_ok-empties.ensures.each };
    })

pub returns-clause-read : goal.returns-clause-read
returns-clause-read g c = λ files agree.
    subst (λ (cache : Contents). IsLaidOn (record { slots = c.in_ok-slots.slots; cache = cache }) (files Objects)) (sym c.in_ok-cache.ensures) (record {
      slots = c.in_ok-slots.ensures.read files agree;
      clean = λ x e clean there. cc;
    })
