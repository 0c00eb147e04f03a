use Rattle.std.proofs.Common.{◌≡◌, sym, subst, ℕ, List, [], ◌∷◌, ◌++◌, length, ◌<◌, ◌+◌, ◌^◌, arith}
use Rattle.std.specs.Prelude.{IsFalse, slice_set}
use Rattle.std.proofs.lemmas.List.{length-set}
use Rattle.std.proofs.Math.Facts.{Fits-of_lt}
use Rattle.oper_core.specs.State.{is_among}
use Rattle.number_lists.specs.Members.{Members, ArePlaced}
use Rattle.number_lists.proofs.Placed.{placed-more, placed-same, few-more}
use Rattle.number_lists.proofs.number_set.NumberSet.insert.Goals as goal

pub fill-requires : goal.fill-requires
fill-requires c =
    let low : c.args.n < c.self.inside.end = subst (λ (v : Members). c.args.n < v.end) (sym c.self.view_is) c.requires.below in
    omega (arith, low, c.self.invariant.4)

pub overflow_cast-len : goal.overflow_cast-len
overflow_cast-len c =
    let members = c.self.inside.members.items in
    let place = c.fill.new.numbers.items in
    let low : c.args.n < c.self.inside.end = subst (λ (v : Members). c.args.n < v.end) (sym c.self.view_is) c.requires.below in
    let out : IsFalse (is_among c.args.n members) = subst (λ (v : Members). IsFalse (is_among c.args.n v.members)) (sym c.self.view_is) c.requires.out in
    let are = placed-same members c.self.inside.place.items place c.fill.ensures.each (omega (arith, c.fill.ensures.longer)) c.self.invariant.0 in
    let few = few-more members place c.args.n (omega (arith, c.fill.ensures.enough)) out are in
    let lt : c.len.result < 2 ^ 32 = omega (arith, low, few, c.len.ensures, c.self.inside.members.ok.0, c.fill.ensures.few, c.self.invariant.1, c.self.invariant.2) in
    Fits-of_lt lt

pub push_in_room-requires : goal.push_in_room-requires
push_in_room-requires c =
    let members = c.self.inside.members.items in
    let place = c.fill.new.numbers.items in
    let low : c.args.n < c.self.inside.end = subst (λ (v : Members). c.args.n < v.end) (sym c.self.view_is) c.requires.below in
    let out : IsFalse (is_among c.args.n members) = subst (λ (v : Members). IsFalse (is_among c.args.n v.members)) (sym c.self.view_is) c.requires.out in
    let are = placed-same members c.self.inside.place.items place c.fill.ensures.each (omega (arith, c.fill.ensures.longer)) c.self.invariant.0 in
    let few = few-more members place c.args.n (omega (arith, c.fill.ensures.enough)) out are in
    omega (arith, low, few, c.self.inside.members.ok.0, c.fill.ensures.few, c.self.invariant.1, c.self.invariant.3)

pub invariant_of-self : goal.invariant_of-self
invariant_of-self c =
    let members = c.self.inside.members.items in
    let place = c.fill.new.numbers.items in
    let low : c.args.n < c.self.inside.end = subst (λ (v : Members). c.args.n < v.end) (sym c.self.view_is) c.requires.below in
    let out : IsFalse (is_among c.args.n members) = subst (λ (v : Members). IsFalse (is_among c.args.n v.members)) (sym c.self.view_is) c.requires.out in
    let are = placed-same members c.self.inside.place.items place c.fill.ensures.each (omega (arith, c.fill.ensures.longer)) c.self.invariant.0 in
    let count : c.len.result ≡ length members = omega (arith, c.len.ensures, c.self.inside.members.ok.0) in
    let now : ArePlaced (members ++ c.args.n ∷ []) (slice_set place c.args.n c.len.result) = subst (λ (k : ℕ). ArePlaced (members ++ c.args.n ∷ []) (slice_set place c.args.n k)) (sym count) (placed-more members place c.args.n (omega (arith, c.fill.ensures.enough)) out are) in
    let same = length-set place c.args.n c.len.result in (
      subst (λ (xs : List ℕ). ArePlaced xs (slice_set place c.args.n c.len.result)) (sym c.push_in_room.ensures.items) now,
      omega (arith, same, low, c.fill.ensures.few, c.self.invariant.1),
      c.self.invariant.2,
      omega (arith, c.self.invariant.3, c.push_in_room.ensures.capacity),
      omega (arith, c.self.invariant.4, c.fill.ensures.capacity),
    )
