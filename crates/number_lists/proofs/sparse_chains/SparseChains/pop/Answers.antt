use Rattle.std.proofs.Common.{◌≡◌, ◌≤◌, ◌∙◌, ℕ, suc, sym, subst, ◌+◌, ◌<◌, ◌^◌, length, arith}
use Rattle.std.proofs.Math.Facts.{Fits-of_lt}
use Rattle.std.specs.Prelude.{slice_index}
use Rattle.std.specs.Vec.{vec_capacity}
use Rattle.std.proofs.lemmas.Grind.{get_or_default_zero}
use Rattle.number_lists.specs.Sparse.{seen, AreStanding}
use Rattle.number_lists.specs.Lists.{Lists, IsEmptied, IsPopped}
use Rattle.number_lists.proofs.Standing.{length-listed, emptied-seen, popped-standing, popped-seen}
use Rattle.number_lists.proofs.sparse_chains.SparseChains.pop.Goals as goal

pub overflow_add-list : goal.overflow_add-list
overflow_add-list c =
    let low = subst (λ (v : Lists). c.args.list < length v.lists) (sym c.self.view_is) c.requires in
    let size = length-listed c.self.inside.numbers.items c.self.inside.places.lists in
    let fits : c.args.list + 1 < 2 ^ 32 = omega (arith, low, size, c.self.invariant.0.few) in
    Fits-of_lt fits

pub pop-requires : goal.pop-requires
pop-requires c =
    let low = subst (λ (v : Lists). c.args.list < length v.lists) (sym c.self.view_is) c.requires in
    let size = length-listed c.self.inside.numbers.items c.self.inside.places.lists in
    omega (arith, low, size)

pub push-requires-clause-list : goal.push-requires-clause-list
push-requires-clause-list c =
    let low = subst (λ (v : Lists). c.args.list < length v.lists) (sym c.self.view_is) c.requires in
    let size = length-listed c.self.inside.numbers.items c.self.inside.places.lists in
    omega (arith, low, size, c.in-Some.ensures.same.lists)

pub index-requires : goal.index-requires
index-requires c = omega (arith, c.in-Some.ensures.below, c.in-Some.ensures.same.items, c.self.invariant.0.count, c.self.inside.numbers.ok.0)

pub invariant_of-self : goal.invariant_of-self
invariant_of-self c =
    let all = c.self.inside.items + c.self.inside.room in
    subst (λ (w : Lists). AreStanding w c.self.inside.numbers.items c.self.inside.items × (all ≤ 2 ^ 31) × (all ≤ w.items + w.item_room) × (all ≤ vec_capacity c.self.inside.numbers)) (sym c.in_default.ensures.same) c.self.invariant

pub returns-in_default : goal.returns-in_default
returns-in_default c =
    let next : c.args.list + 1 ≡ suc c.args.list = omega arith in
    let none = subst (λ (k : ℕ). IsEmptied c.self.inside.places k c.pop.new.self) next c.in_default.ensures in
    rw (← c.self.view_is) (emptied-seen c.self.inside.places c.pop.new.self c.self.inside.numbers.items c.self.inside.items c.args.list c.self.inside.room none)

pub invariant_of-self-2 : goal.invariant_of-self-2
invariant_of-self-2 c =
    let next : c.args.list + 1 ≡ suc c.args.list = omega arith in
    let at = subst (λ (k : ℕ). IsPopped c.self.inside.places k c.in-Some.place c.pop.new.self) next c.in-Some.ensures in (
      popped-standing c.self.inside.places c.pop.new.self c.push.new.self c.self.inside.numbers.items c.self.inside.items c.args.list c.in-Some.place c.self.invariant.0 at c.push.ensures,
      c.self.invariant.1,
      omega (arith, c.self.invariant.2, c.in-Some.ensures.same.items, c.in-Some.ensures.same.item_room, c.push.ensures.same.items, c.push.ensures.same.item_room),
      c.self.invariant.3,
    )

pub returns : goal.returns
returns c =
    let next : c.args.list + 1 ≡ suc c.args.list = omega arith in
    let at = subst (λ (k : ℕ). IsPopped c.self.inside.places k c.in-Some.place c.pop.new.self) next c.in-Some.ensures in
    let numbers = c.self.inside.numbers.items in
    let lt : c.in-Some.place < length numbers = omega (arith, c.in-Some.ensures.below, c.in-Some.ensures.same.items, c.self.invariant.0.count) in
    let read : c.index.result.now ≡ slice_index numbers c.in-Some.place = c.index.ensures ∙ get_or_default_zero numbers c.in-Some.place c.index.result.now lt in
    rw (← c.self.view_is) (subst (λ (k : ℕ). IsPopped (seen c.self.inside.places numbers c.self.inside.items c.self.inside.room) c.args.list k (seen c.push.new.self numbers c.self.inside.items c.self.inside.room)) (sym read)
    (popped-seen c.self.inside.places c.pop.new.self c.push.new.self numbers c.self.inside.items c.args.list c.in-Some.place c.self.invariant.0 at c.push.ensures c.self.inside.room))
