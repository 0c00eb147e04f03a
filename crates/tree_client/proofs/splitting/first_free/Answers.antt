use Rattle.std.proofs.Common.{sym, subst, ◌<◌, ℕ}
use Rattle.range_calls.specs.Free.{IsLeastFree}
use Rattle.range_calls.specs.Store.{state_of}
use Rattle.tree_client.proofs.splitting.first_free.Goals as goal

pub returns-clause-answer : goal.returns-clause-answer
returns-clause-answer g c = λ p commands holds fits.
    let s = state_of p commands in
    let found = c.least_free.ensures.answer p commands holds (subst (λ (x : ℕ). x < p.objects) (sym c.last.ensures.value) fits) in
    subst (λ (x : ℕ). IsLeastFree s x c.args.tree.now.hi c.least_free.result) c.root.ensures
    (subst (λ (x : ℕ). IsLeastFree s c.root.result x c.least_free.result) c.last.ensures.value found)
