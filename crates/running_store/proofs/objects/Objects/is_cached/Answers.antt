use Rattle.running_store.proofs.LaidLemmas.{kept_same, laid_same}
use Rattle.running_store.proofs.objects.Objects.is_cached.Goals as goal

pub invariant_of-self : goal.invariant_of-self
invariant_of-self c = kept_same c.self.inside.slots c.self.inside.cache c.view.follows.lender-at-none c.self.inside.empties.marks c.view.follows.holds-at-none.0 c.self.invariant

pub returns-clause-laid : goal.returns-clause-laid
returns-clause-laid c = rw (← c.self.view_is) (λ file laid. laid_same c.self.inside.slots c.self.inside.cache c.view.follows.lender-at-none file c.view.follows.holds-at-none.0 laid)
