use Rattle.std.proofs.Common.{sym, subst, ◌+◌, ◌-◌, ◌<◌, ◌≤◌, ◌^◌, arith}
use Rattle.std.proofs.Math.Facts.{Fits-of_lt}
use Rattle.number_lists.specs.Lists.{Lists}
use Rattle.number_lists.proofs.Standing.{added-standing, added-seen}
use Rattle.number_lists.proofs.sparse_chains.SparseChains.add_items.Goals as goal

pub overflow_add-self : goal.overflow_add-self
overflow_add-self c =
    let some = subst (λ (v : Lists). c.args.count ≤ v.item_room) (sym c.self.view_is) c.requires in
    let lt : c.self.inside.items + c.args.count < 2 ^ 64 = omega (arith, some, c.self.invariant.1) in
    Fits-of_lt lt

pub overflow_sub-self : goal.overflow_sub-self
overflow_sub-self c = subst (λ (v : Lists). c.args.count ≤ v.item_room) (sym c.self.view_is) c.requires

pub invariant_of-self : goal.invariant_of-self
invariant_of-self c =
    let some = subst (λ (v : Lists). c.args.count ≤ v.item_room) (sym c.self.view_is) c.requires in (
      added-standing c.self.inside.places c.self.inside.numbers.items c.self.inside.items c.args.count c.self.invariant.0,
      omega (arith, some, c.self.invariant.1),
      omega (arith, some, c.self.invariant.2),
      omega (arith, some, c.self.invariant.3),
    )

pub returns : goal.returns
returns c =
    let some = subst (λ (v : Lists). c.args.count ≤ v.item_room) (sym c.self.view_is) c.requires in
    rw (← c.self.view_is) (added-seen c.self.inside.places c.self.inside.numbers.items c.self.inside.items c.args.count c.self.inside.room (c.self.inside.room - c.args.count) (omega (arith, some)) c.self.invariant.0)
