use Rattle.std.proofs.Common.{◌≡◌, ◌∙◌, sym}
use Rattle.dirty_cache.specs.Places.{count_of}
use Rattle.dirty_cache.proofs.Swaps.{count-swapped}
use Rattle.dirty_cache.proofs.places.Places.swap.Goals as goal

counted : (c : goal.After-self-2-1) → count_of (c.get_mut.follows.lender c.swap_place.new.place).entries ≡ count_of c.self.inside.places.entries
counted c =
    count-swapped c.args.x c.self.inside.places.entries _ c.in-Some.place.now c.swap_place.new.place c.args.bytes.now (sym c.in-Some.ensures.value) (c.get_mut.follows.holds c.swap_place.new.place).0 c.swap_place.ensures.place

pub invariant_of-self-2 : goal.invariant_of-self-2
invariant_of-self-2 c = (c.self.invariant.0 ∙ sym (counted c), (c.get_mut.follows.holds c.swap_place.new.place).4)

pub returns-clause-count : goal.returns-clause-count
returns-clause-count c = rw (← c.self.view_is) (counted c)
