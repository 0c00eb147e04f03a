use Rattle.std.proofs.Common.{◌≡◌, ℕ, suc, refl, sym, subst, ◌+◌, ◌<◌, ◌^◌, length, arith}
use Rattle.std.proofs.Math.Facts.{Fits-of_lt}
use Rattle.number_lists.specs.Lists.{Lists, IsPoured}
use Rattle.number_lists.proofs.Standing.{length-listed, poured-standing, poured-seen}
use Rattle.number_lists.proofs.sparse_chains.SparseChains.pour.Goals as goal

pub overflow_add-from : goal.overflow_add-from
overflow_add-from c =
    let low = subst (λ (v : Lists). c.args.from < length v.lists) (sym c.self.view_is) c.requires.from in
    let size = length-listed c.self.inside.numbers.items c.self.inside.places.lists in
    let fits : c.args.from + 1 < 2 ^ 32 = omega (arith, low, size, c.self.invariant.0.few) in
    Fits-of_lt fits

pub overflow_add-to : goal.overflow_add-to
overflow_add-to c =
    let low = subst (λ (v : Lists). c.args.to < length v.lists) (sym c.self.view_is) c.requires.to in
    let size = length-listed c.self.inside.numbers.items c.self.inside.places.lists in
    let fits : c.args.to + 1 < 2 ^ 32 = omega (arith, low, size, c.self.invariant.0.few) in
    Fits-of_lt fits

pub pour-requires-clause-from : goal.pour-requires-clause-from
pour-requires-clause-from c =
    let low = subst (λ (v : Lists). c.args.from < length v.lists) (sym c.self.view_is) c.requires.from in
    let size = length-listed c.self.inside.numbers.items c.self.inside.places.lists in
    omega (arith, low, size)

pub pour-requires-clause-to : goal.pour-requires-clause-to
pour-requires-clause-to c =
    let low = subst (λ (v : Lists). c.args.to < length v.lists) (sym c.self.view_is) c.requires.to in
    let size = length-listed c.self.inside.numbers.items c.self.inside.places.lists in
    omega (arith, low, size)

pub pour-requires-clause-apart : goal.pour-requires-clause-apart
pour-requires-clause-apart c e = c.requires.apart (omega (arith, e))

at : (c : goal.After-pour) → IsPoured c.self.inside.places (suc c.args.from) (suc c.args.to) c.pour.new.self
at c =
    let from : c.args.from + 1 ≡ suc c.args.from = omega arith in
    let to : c.args.to + 1 ≡ suc c.args.to = omega arith in
    subst (λ (k : ℕ). IsPoured c.self.inside.places (suc c.args.from) k c.pour.new.self) to (subst (λ (k : ℕ). IsPoured c.self.inside.places k (c.args.to + 1) c.pour.new.self) from c.pour.ensures)

pub invariant_of-self : goal.invariant_of-self
invariant_of-self c = (
  poured-standing c.self.inside.places c.pour.new.self c.self.inside.numbers.items c.self.inside.items c.args.from (suc c.args.to) c.self.invariant.0 (at c),
  c.self.invariant.1,
  omega (arith, c.self.invariant.2, c.pour.ensures.same.items, c.pour.ensures.same.item_room),
  c.self.invariant.3,
)

pub returns : goal.returns
returns c = rw (← c.self.view_is) (poured-seen c.self.inside.places c.pour.new.self c.self.inside.numbers.items c.self.inside.items c.args.from (suc c.args.to) c.self.invariant.0 (at c) c.args.to refl c.self.inside.room)
