use Rattle.std.proofs.Common.{sym, subst, ◌<◌, arith}
use Rattle.number_lists.specs.Lists.{Lists}
use Rattle.number_lists.proofs.Standing.{begun-standing, wider-standing, wider-seen}
use Rattle.number_lists.proofs.sparse_chains.SparseChains.add_list.Goals as goal

pub begin-requires : goal.begin-requires
begin-requires c e = omega (arith, subst (λ (v : Lists). 0 < v.list_room) (sym c.self.view_is) c.requires, e)

pub add_list-requires : goal.add_list-requires
add_list-requires c = omega (arith, subst (λ (v : Lists). 0 < v.list_room) (sym c.self.view_is) c.requires, c.begin.ensures.size, c.begin.ensures.list_room)

pub invariant_of-self : goal.invariant_of-self
invariant_of-self c =
    let some = subst (λ (v : Lists). 0 < v.list_room) (sym c.self.view_is) c.requires in
    let begun = begun-standing c.self.inside.places c.begin.new.places c.self.inside.numbers.items c.self.inside.items c.begin.ensures c.self.invariant.0 in (
      wider-standing c.begin.new.places c.add_list.new.self c.self.inside.numbers.items c.self.inside.items c.add_list.ensures (omega (arith, some, c.begin.ensures.size)) begun,
      c.self.invariant.1,
      omega (arith, c.self.invariant.2, c.begin.ensures.items, c.begin.ensures.item_room, c.add_list.ensures.items, c.add_list.ensures.item_room),
      c.self.invariant.3,
    )

pub returns : goal.returns
returns c = rw (← c.self.view_is) (wider-seen c.self.inside.places c.begin.new.places c.add_list.new.self c.self.inside.numbers.items c.self.inside.items c.self.inside.room c.begin.ensures c.add_list.ensures)
