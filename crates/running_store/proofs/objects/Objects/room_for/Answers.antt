use Rattle.running_store.proofs.LaidLemmas.{kept_same, laid_same}
use Rattle.running_store.proofs.objects.Objects.room_for.Goals as goal

pub invariant_of-self : goal.invariant_of-self
invariant_of-self c = kept_same c.self.inside.slots c.self.inside.cache c.make_room.new.self c.self.inside.empties.marks c.make_room.ensures.same c.self.invariant

pub returns-clause-laid : goal.returns-clause-laid
returns-clause-laid c = rw (← c.self.view_is) (λ file laid. laid_same c.self.inside.slots c.self.inside.cache c.make_room.new.self file c.make_room.ensures.same laid)
