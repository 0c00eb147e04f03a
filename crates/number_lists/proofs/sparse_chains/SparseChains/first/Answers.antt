use Rattle.std.proofs.Common.{◌≡◌, ◌∙◌, ap, ℕ, suc, ◌∷◌, map, sym, subst, ◌+◌, ◌<◌, ◌^◌, length, arith}
use Rattle.std.proofs.Math.Facts.{Fits-of_lt}
use Rattle.std.specs.Prelude.{slice_index}
use Rattle.std.proofs.lemmas.Grind.{get_or_default_zero}
use Rattle.number_lists.specs.Lists.{Lists, list_at}
use Rattle.number_lists.proofs.Standing.{at-list, length-listed, first-below}
use Rattle.number_lists.proofs.sparse_chains.SparseChains.first.Goals as goal

pub overflow_add-list : goal.overflow_add-list
overflow_add-list c =
    let low = subst (λ (v : Lists). c.args.list < length v.lists) (sym c.self.view_is) c.requires in
    let size = length-listed c.self.inside.numbers.items c.self.inside.places.lists in
    let fits : c.args.list + 1 < 2 ^ 32 = omega (arith, low, size, c.self.invariant.0.few) in
    Fits-of_lt fits

pub first-requires : goal.first-requires
first-requires c =
    let low = subst (λ (v : Lists). c.args.list < length v.lists) (sym c.self.view_is) c.requires in
    let size = length-listed c.self.inside.numbers.items c.self.inside.places.lists in
    omega (arith, low, size)

pub index-requires : goal.index-requires
index-requires c =
    let there = first-below c.self.inside.places.lists (c.args.list + 1) c.in-Some.place c.in-Some.ensures.0 c.in-Some.ensures.1 in
    omega (arith, c.self.invariant.0.below (c.args.list + 1) c.in-Some.place there, c.self.inside.numbers.ok.0)

pub returns : goal.returns
returns c =
    let numbers = c.self.inside.numbers.items in
    let lists = c.self.inside.places.lists in
    let next : suc c.args.list ≡ c.args.list + 1 = omega arith in
    let there = first-below lists (c.args.list + 1) c.in-Some.place c.in-Some.ensures.0 c.in-Some.ensures.1 in
    let lt = c.self.invariant.0.below (c.args.list + 1) c.in-Some.place there in
    let read : c.index.result.now ≡ slice_index numbers c.in-Some.place = c.index.ensures ∙ get_or_default_zero numbers c.in-Some.place c.index.result.now lt in (
      map (slice_index numbers) c.in-Some.ensures.0,
      ap (λ (v : Lists). list_at v.lists c.args.list) (sym c.self.view_is)
          ∙ at-list numbers lists c.args.list
          ∙ ap (λ (k : ℕ). map (slice_index numbers) (list_at lists k)) next
          ∙ ap (map (slice_index numbers)) c.in-Some.ensures.1
          ∙ ap (λ (h : ℕ). h ∷ map (slice_index numbers) c.in-Some.ensures.0) (sym read),
    )

pub returns-in_default : goal.returns-in_default
returns-in_default c =
    let numbers = c.self.inside.numbers.items in
    let lists = c.self.inside.places.lists in
    let next : suc c.args.list ≡ c.args.list + 1 = omega arith in
    ap (λ (v : Lists). list_at v.lists c.args.list) (sym c.self.view_is)
    ∙ at-list numbers lists c.args.list
    ∙ ap (λ (k : ℕ). map (slice_index numbers) (list_at lists k)) next
    ∙ ap (map (slice_index numbers)) c.in_default.ensures
