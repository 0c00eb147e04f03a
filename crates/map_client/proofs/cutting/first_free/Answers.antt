use Rattle.std.proofs.Common.{◌<◌, ℕ, ◌+◌, ap, sym, subst, None, Some, Option, arith}
use Rattle.formats.specs.declared.params.Params.{Params}
use Rattle.range_calls.specs.Free.{IsLeastFree}
use Rattle.range_calls.specs.Store.{state_of}
use Rattle.map_client.proofs.CutLemmas.{first_two}
use Rattle.map_client.proofs.cutting.first_free.Goals as goal

pub returns-in-Some : goal.returns-in-Some
returns-in-Some g c = λ p commands holds.
    let s = state_of p commands in
    let hi = c.args.map.now.hi in
    let fits = ap (λ (q : Params). q.objects) (g.S.Store.view.numbers p (g.M.Machine.disk c.args.machine.now) c.args.store.now commands holds) in
    let there : hi < p.objects = omega (arith, c.requires, fits) in
    let first = subst (λ (x : ℕ). IsLeastFree s (x + 1) hi (Some c.in-Some.first)) c.root.ensures (subst (λ (y : ℕ). IsLeastFree s (c.root.result + 1) y (Some c.in-Some.first)) c.last-last.ensures.value
    (c.in-Some.ensures.answer p commands holds (subst (λ (y : ℕ). y < p.objects) (sym c.last-last.ensures.value) there))) in
    let second = subst (λ (y : ℕ). IsLeastFree s (c.in-Some.first + 1) y c.least_free-in-Some.result) c.last-last.ensures.value
    (c.least_free-in-Some.ensures.answer p commands holds (subst (λ (y : ℕ). y < p.objects) (sym c.last-last.ensures.value) there)) in
    first_two s hi c.args.map.now.lo (Some c.in-Some.first) c.least_free-in-Some.result first second

pub returns-in-None : goal.returns-in-None
returns-in-None g c = λ p commands holds.
    let s = state_of p commands in
    let hi = c.args.map.now.hi in
    let fits = ap (λ (q : Params). q.objects) (g.S.Store.view.numbers p (g.M.Machine.disk c.args.machine.now) c.args.store.now commands holds) in
    let there : hi < p.objects = omega (arith, c.requires, fits) in
    let none : Option ℕ = None in
    let first = subst (λ (x : ℕ). IsLeastFree s (x + 1) hi none) c.root.ensures (subst (λ (y : ℕ). IsLeastFree s (c.root.result + 1) y none) c.last-last.ensures.value
    (c.in-None.ensures.answer p commands holds (subst (λ (y : ℕ). y < p.objects) (sym c.last-last.ensures.value) there))) in
    first_two s hi c.args.map.now.lo none none first tt
