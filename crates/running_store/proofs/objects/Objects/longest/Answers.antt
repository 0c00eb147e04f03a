use Rattle.running_store.proofs.DoneLemmas.{short_cached}
use Rattle.running_store.proofs.objects.Objects.longest.Goals as goal

pub returns : goal.returns
returns c = rw (← c.self.view_is) (short_cached (record { slots = c.self.inside.slots; cache = c.self.inside.cache }) c.self.inside.empties.marks c.self.invariant)
