use Rattle.std.proofs.Common.{◌≡◌, ℕ, suc, refl, sym, subst, ◌+◌, ◌<◌, ◌^◌, length, arith}
use Rattle.std.proofs.Math.Facts.{Fits-of_lt}
use Rattle.number_lists.specs.Lists.{Lists, IsPoured}
use Rattle.number_lists.proofs.Standing.{length-listed, poured-standing, cleared-seen}
use Rattle.number_lists.proofs.sparse_chains.SparseChains.clear.Goals as goal

pub overflow_add-list : goal.overflow_add-list
overflow_add-list c =
    let low = subst (λ (v : Lists). c.args.list < length v.lists) (sym c.self.view_is) c.requires in
    let size = length-listed c.self.inside.numbers.items c.self.inside.places.lists in
    let fits : c.args.list + 1 < 2 ^ 32 = omega (arith, low, size, c.self.invariant.0.few) in
    Fits-of_lt fits

pub pour-requires-clause-from : goal.pour-requires-clause-from
pour-requires-clause-from c =
    let low = subst (λ (v : Lists). c.args.list < length v.lists) (sym c.self.view_is) c.requires in
    let size = length-listed c.self.inside.numbers.items c.self.inside.places.lists in
    omega (arith, low, size)

pub pour-requires-clause-to : goal.pour-requires-clause-to
pour-requires-clause-to c =
    let low = subst (λ (v : Lists). c.args.list < length v.lists) (sym c.self.view_is) c.requires in
    let size = length-listed c.self.inside.numbers.items c.self.inside.places.lists in
    omega (arith, low, size)

at : (c : goal.After-pour) → IsPoured c.self.inside.places (suc c.args.list) 0 c.pour.new.self
at c =
    let next : c.args.list + 1 ≡ suc c.args.list = omega arith in
    subst (λ (k : ℕ). IsPoured c.self.inside.places k 0 c.pour.new.self) next c.pour.ensures

pub invariant_of-self : goal.invariant_of-self
invariant_of-self c = (
  poured-standing c.self.inside.places c.pour.new.self c.self.inside.numbers.items c.self.inside.items c.args.list 0 c.self.invariant.0 (at c),
  c.self.invariant.1,
  omega (arith, c.self.invariant.2, c.pour.ensures.same.items, c.pour.ensures.same.item_room),
  c.self.invariant.3,
)

pub returns : goal.returns
returns c = rw (← c.self.view_is) (cleared-seen c.self.inside.places c.pour.new.self c.self.inside.numbers.items c.self.inside.items c.args.list 0 c.self.invariant.0 (at c) refl c.self.inside.room)
