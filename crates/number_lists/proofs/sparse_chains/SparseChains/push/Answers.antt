use Rattle.std.proofs.Common.{◌≡◌, ℕ, suc, ◌≤◌, inl, inr, sym, subst, ◌+◌, ◌<◌, ◌^◌, length, arith}
use Rattle.std.proofs.Math.Facts.{Fits-of_lt}
use Rattle.number_lists.specs.Lists.{Lists, IsFree, IsPushed}
use Rattle.number_lists.proofs.Standing.{length-listed, fewer, pushed-standing, pushed-seen}
use Rattle.number_lists.proofs.sparse_chains.SparseChains.push.Goals as goal
use Rattle.number_lists.proofs.sparse_chains.SparseChains.push.Goals.{After-push}

pub stand-place-requires-clause-begun : goal.stand-place-requires-clause-begun
stand-place-requires-clause-begun c =
    let low = subst (λ (v : Lists). c.args.list < length v.lists) (sym c.self.view_is) c.requires.list in
    let size = length-listed c.self.inside.numbers.items c.self.inside.places.lists in
    omega (arith, low, size)

pub stand-place-requires-clause-room : goal.stand-place-requires-clause-room
stand-place-requires-clause-room c none =
    let small = subst (λ (v : Lists). c.args.item < v.items) (sym c.self.view_is) c.requires.item in
    let free = subst (λ (v : Lists). IsFree v.lists c.args.item) (sym c.self.view_is) c.requires.free in
    let less = fewer c.self.inside.places c.self.inside.numbers.items c.self.inside.items c.args.item c.self.invariant.0 none small free in
    (omega (arith, less, c.self.invariant.0.count, c.self.invariant.2), omega (arith, less, c.self.invariant.3), omega (arith, less, c.self.invariant.1))

pub overflow_add-list : goal.overflow_add-list
overflow_add-list c =
    let low = subst (λ (v : Lists). c.args.list < length v.lists) (sym c.self.view_is) c.requires.list in
    let size = length-listed c.self.inside.numbers.items c.self.inside.places.lists in
    let fits : c.args.list + 1 < 2 ^ 32 = omega (arith, low, size, c.self.invariant.0.few) in
    Fits-of_lt fits

pub push-requires-clause-list : goal.push-requires-clause-list
push-requires-clause-list c =
    let low = subst (λ (v : Lists). c.args.list < length v.lists) (sym c.self.view_is) c.requires.list in
    let size = length-listed c.self.inside.numbers.items c.self.inside.places.lists in
    omega (arith, low, size, c.stand-place.ensures.stood.size)

pub push-requires-clause-item : goal.push-requires-clause-item
push-requires-clause-item c = omega (arith, c.stand-place.ensures.stood.below, c.stand-place.ensures.stood.count)

pub push-requires-clause-free : goal.push-requires-clause-free
push-requires-clause-free c = c.stand-place.ensures.stood.free

fit : (c : After-push) → length c.stand-place.new.numbers.items ≤ c.self.inside.items
fit c =
    let small = subst (λ (v : Lists). c.args.item < v.items) (sym c.self.view_is) c.requires.item in
    let free = subst (λ (v : Lists). IsFree v.lists c.args.item) (sym c.self.view_is) c.requires.free in
    elim c.stand-place.ensures.stood.grown [
      | inl e ↦ omega (arith, e, c.self.invariant.0.fit)
      | inr g ↦ omega (arith, g.1, fewer c.self.inside.places c.self.inside.numbers.items c.self.inside.items c.args.item c.self.invariant.0 g.0 small free)
    ]

at : (c : After-push) → IsPushed c.stand-place.new.places (suc c.args.list) c.stand-place.result c.push.new.self
at c =
    let next : c.args.list + 1 ≡ suc c.args.list = omega arith in
    subst (λ (k : ℕ). IsPushed c.stand-place.new.places k c.stand-place.result c.push.new.self) next c.push.ensures

pub invariant_of-self : goal.invariant_of-self
invariant_of-self c =
    let small = subst (λ (v : Lists). c.args.item < v.items) (sym c.self.view_is) c.requires.item in
    let free = subst (λ (v : Lists). IsFree v.lists c.args.item) (sym c.self.view_is) c.requires.free in (
      pushed-standing c.self.inside.places c.stand-place.new.places c.push.new.self c.self.inside.numbers.items c.stand-place.new.numbers.items c.self.inside.items c.args.list c.args.item c.stand-place.result c.self.invariant.0 c.stand-place.ensures.stood (at c) free (fit c) small,
      c.self.invariant.1,
      omega (arith, c.self.invariant.2, c.stand-place.ensures.stood.room, c.push.ensures.same.items, c.push.ensures.same.item_room),
      omega (arith, c.self.invariant.3, c.stand-place.ensures.capacity),
    )

pub returns : goal.returns
returns c =
    let free = subst (λ (v : Lists). IsFree v.lists c.args.item) (sym c.self.view_is) c.requires.free in
    rw (← c.self.view_is) (pushed-seen c.self.inside.places c.stand-place.new.places c.push.new.self c.self.inside.numbers.items c.stand-place.new.numbers.items c.self.inside.items c.args.list c.args.item c.stand-place.result c.self.invariant.0 c.stand-place.ensures.stood (at c) free c.self.inside.room)
