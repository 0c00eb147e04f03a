use Rattle.std.proofs.Common.{◌≡◌, ◌∙◌, ap, ℕ, suc, List, map, ◌≤◌, sym, subst, ◌+◌, ◌<◌, ◌^◌, length, arith}
use Rattle.std.proofs.Math.Facts.{Fits-of_lt}
use Rattle.std.specs.Prelude.{IsTrue, nat_eq, slice_index}
use Rattle.std.specs.List.{IsDistinct}
use Rattle.std.specs.Vec.{vec_capacity}
use Rattle.oper_core.specs.State.{is_among}
use Rattle.number_lists.specs.Lists.{Lists, list_at}
use Rattle.number_lists.proofs.Standing.{at-list, length-listed, distinct-list}
use Rattle.number_lists.proofs.sparse_chains.SparseChains.copy_to.Goals as goal
use Rattle.number_lists.proofs.sparse_chains.SparseChains.copy_to.Goals.{After-name_all}

pub overflow_add-list : goal.overflow_add-list
overflow_add-list c =
    let low = subst (λ (v : Lists). c.args.list < length v.lists) (sym c.self.view_is) c.requires.list in
    let size = length-listed c.self.inside.numbers.items c.self.inside.places.lists in
    let fits : c.args.list + 1 < 2 ^ 32 = omega (arith, low, size, c.self.invariant.0.few) in
    Fits-of_lt fits

pub copy_to-requires-clause-list : goal.copy_to-requires-clause-list
copy_to-requires-clause-list c =
    let low = subst (λ (v : Lists). c.args.list < length v.lists) (sym c.self.view_is) c.requires.list in
    let size = length-listed c.self.inside.numbers.items c.self.inside.places.lists in
    omega (arith, low, size)

pub copy_to-requires-clause-room : goal.copy_to-requires-clause-room
copy_to-requires-clause-room c =
    let room = subst (λ (v : Lists). v.items ≤ vec_capacity c.args.out.now) (sym c.self.view_is) c.requires.room in
    omega (arith, room, c.self.invariant.0.count, c.self.invariant.0.fit)

pub name_all-requires : goal.name_all-requires
name_all-requires c k t =
    let there = subst (λ (xs : List ℕ). IsTrue (is_among k xs)) c.copy_to.ensures.items t in
    omega (arith, c.self.invariant.0.below (c.args.list + 1) k there, ap length c.as_slice.ensures.value)

listed-items : (c : After-name_all) → c.name_all.new.places.items ≡ map (slice_index c.self.inside.numbers.items) (list_at c.self.inside.places.lists (suc c.args.list))
listed-items c =
    let next : c.args.list + 1 ≡ suc c.args.list = omega arith in
    c.name_all.ensures.items
    ∙ ap (λ (ns : List ℕ). map (slice_index ns) c.copy_to.new.out.items) c.as_slice.ensures.value
    ∙ ap (map (slice_index c.self.inside.numbers.items)) (c.copy_to.ensures.items ∙ ap (list_at c.self.inside.places.lists) next)

pub returns-clause-items : goal.returns-clause-items
returns-clause-items c = listed-items c ∙ sym (at-list c.self.inside.numbers.items c.self.inside.places.lists c.args.list) ∙ ap (λ (v : Lists). list_at v.lists c.args.list) c.self.view_is

pub returns-clause-distinct : goal.returns-clause-distinct
returns-clause-distinct c =
    let next : c.args.list + 1 ≡ suc c.args.list = omega arith in
    let are = subst (λ (xs : List ℕ). IsDistinct nat_eq xs) (c.copy_to.ensures.items ∙ ap (list_at c.self.inside.places.lists) next) c.copy_to.ensures.distinct in
    subst (λ (xs : List ℕ). IsDistinct nat_eq xs) (sym (listed-items c)) (distinct-list c.self.inside.places c.self.inside.numbers.items c.self.inside.items c.args.list c.self.invariant.0 are)
