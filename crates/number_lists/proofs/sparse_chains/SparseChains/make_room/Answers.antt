use Rattle.std.proofs.Common.{ap, sym, subst, ℕ, List, length, arith}
use Rattle.number_lists.specs.Sparse.{AreStanding}
use Rattle.number_lists.proofs.Standing.{same-standing}
use Rattle.number_lists.proofs.sparse_chains.SparseChains.make_room.Goals as goal

pub invariant_of-self : goal.invariant_of-self
invariant_of-self c = (
  same-standing c.self.inside.places c.make_room.new.self c.self.inside.numbers.items c.self.inside.items c.make_room.ensures.lists c.make_room.ensures.items c.self.invariant.0,
  c.self.invariant.1,
  omega (arith, c.self.invariant.2, c.make_room.ensures.items, c.make_room.ensures.items_kept),
  c.self.invariant.3,
)

pub invariant_of-self-in_err-reserve : goal.invariant_of-self-in_err-reserve
invariant_of-self-in_err-reserve c = (
  subst (λ (xs : List ℕ). AreStanding c.make_room.new.self xs c.self.inside.items) (sym c.reserve.ensures.items) (same-standing c.self.inside.places c.make_room.new.self c.self.inside.numbers.items c.self.inside.items c.make_room.ensures.lists c.make_room.ensures.items c.self.invariant.0),
  c.self.invariant.1,
  omega (arith, c.self.invariant.2, c.make_room.ensures.items, c.make_room.ensures.items_kept),
  omega (arith, c.self.invariant.3, c.reserve.ensures.capacity),
)

pub invariant_of-self-2 : goal.invariant_of-self-2
invariant_of-self-2 c = (
  subst (λ (xs : List ℕ). AreStanding c.make_room.new.self xs c.self.inside.items) (sym c.reserve.ensures.items) (same-standing c.self.inside.places c.make_room.new.self c.self.inside.numbers.items c.self.inside.items c.make_room.ensures.lists c.make_room.ensures.items c.self.invariant.0),
  omega (arith, c.self.invariant.1, c.if-items-self.false, c.max-self-inside.ensures),
  omega (arith, c.self.invariant.2, c.self.invariant.0.count, c.make_room.ensures.items, c.make_room.ensures.items_kept, c.in_ok-make_room.ensures.item_room, c.len-2.ensures, c.self.inside.numbers.ok.0, c.max-self-inside.ensures),
  omega (arith, c.self.invariant.3, c.reserve.ensures.capacity, c.in_ok-reserve.ensures.ok, c.len-2.ensures, c.self.inside.numbers.ok.0, c.max-self-inside.ensures),
)

pub returns-clause-list_room : goal.returns-clause-list_room
returns-clause-list_room c = omega (arith, c.in_ok-make_room.ensures.list_room, ap length c.make_room.ensures.lists, c.len.ensures, c.if-lists-len.false)
