use Rattle.std.proofs.Common.{◌≡◌, ℕ, suc, List, map, ◌∙◌, ap, sym, subst, ◌+◌, ◌<◌, ◌^◌, length, arith}
use Rattle.std.proofs.Math.Facts.{Fits-of_lt}
use Rattle.std.specs.Prelude.{nat_eq, slice_index}
use Rattle.std.specs.List.{IsDistinct}
use Rattle.std.proofs.lemmas.List.{length-map}
use Rattle.number_lists.specs.Lists.{Lists, list_at}
use Rattle.number_lists.proofs.Standing.{at-list, length-listed, distinct-list}
use Rattle.number_lists.proofs.sparse_chains.SparseChains.count.Goals as goal

pub overflow_add-list : goal.overflow_add-list
overflow_add-list c =
    let low = subst (λ (v : Lists). c.args.list < length v.lists) (sym c.self.view_is) c.requires in
    let size = length-listed c.self.inside.numbers.items c.self.inside.places.lists in
    let fits : c.args.list + 1 < 2 ^ 32 = omega (arith, low, size, c.self.invariant.0.few) in
    Fits-of_lt fits

pub count-requires : goal.count-requires
count-requires c =
    let low = subst (λ (v : Lists). c.args.list < length v.lists) (sym c.self.view_is) c.requires in
    let size = length-listed c.self.inside.numbers.items c.self.inside.places.lists in
    omega (arith, low, size)

pub returns-clause-value : goal.returns-clause-value
returns-clause-value c =
    let numbers = c.self.inside.numbers.items in
    let lists = c.self.inside.places.lists in
    c.count.ensures.value
    ∙ sym (length-map (list_at lists (c.args.list + 1)) (slice_index numbers))
    ∙ ap (λ (k : ℕ). length (map (slice_index numbers) (list_at lists k))) (omega arith)
    ∙ sym (ap length (at-list numbers lists c.args.list))
    ∙ ap (λ (v : Lists). length (list_at v.lists c.args.list)) c.self.view_is

pub returns-clause-distinct : goal.returns-clause-distinct
returns-clause-distinct c =
    let numbers = c.self.inside.numbers.items in
    let places = c.self.inside.places in
    let next : c.args.list + 1 ≡ suc c.args.list = omega arith in
    let are = distinct-list places numbers c.self.inside.items c.args.list c.self.invariant.0 (subst (λ (k : ℕ). IsDistinct nat_eq (list_at places.lists k)) next c.count.ensures.distinct) in
    subst (λ (v : Lists). IsDistinct nat_eq (list_at v.lists c.args.list)) c.self.view_is (subst (λ (xs : List ℕ). IsDistinct nat_eq xs) (sym (at-list numbers places.lists c.args.list)) are)
