use Rattle.std.proofs.Common.{◌∙◌, ap, sym, subst, ℕ, List, length, ◌<◌, ◌≤◌, arith}
use Rattle.std.specs.Prelude.{IsTrue, nat_eq}
use Rattle.std.specs.List.{IsDistinct}
use Rattle.std.specs.Vec.{vec_capacity}
use Rattle.oper_core.specs.State.{is_among}
use Rattle.number_lists.specs.Links.{follow}
use Rattle.number_lists.specs.Lists.{Lists, list_at}
use Rattle.number_lists.proofs.Steps.{walk-start, walk-few}
use Rattle.number_lists.proofs.chains.Chains.copy_to.Goals as goal

pub walk-requires-clause-below : goal.walk-requires-clause-below
walk-requires-clause-below c =
    let lt = subst (λ (v : Lists). c.args.list < length v.lists) (sym c.self.view_is) c.requires.list in
    let e = walk-start c.self.inside.next.items c.self.inside.chains.items c.args.list c.index-chain.result.now lt c.index-chain.ensures in
    rw c.as_slice.ensures.value (λ k there. c.self.invariant.0.below c.args.list k (subst (λ (ys : List ℕ). IsTrue (is_among k ys)) e there))

pub walk-requires-clause-room : goal.walk-requires-clause-room
walk-requires-clause-room c =
    let lt = subst (λ (v : Lists). c.args.list < length v.lists) (sym c.self.view_is) c.requires.list in
    let room = subst (λ (v : Lists). v.items ≤ vec_capacity c.args.out.now) (sym c.self.view_is) c.requires.room in
    let few = walk-few c.self.inside.next.items c.self.inside.chains.items c.args.list c.index-chain.result.now lt c.index-chain.ensures c.self.invariant.0 in
    omega (arith, room, few)

pub returns-clause-items : goal.returns-clause-items
returns-clause-items c =
    let lt = subst (λ (v : Lists). c.args.list < length v.lists) (sym c.self.view_is) c.requires.list in
    let e = walk-start c.self.inside.next.items c.self.inside.chains.items c.args.list c.index-chain.result.now lt c.index-chain.ensures in
    c.walk.ensures.items ∙ ap (λ (next : List ℕ). follow next c.index-chain.result.now.count c.index-chain.result.now.first) c.as_slice.ensures.value ∙ e ∙ ap (λ (v : Lists). list_at v.lists c.args.list) c.self.view_is

pub returns-clause-distinct : goal.returns-clause-distinct
returns-clause-distinct c =
    let lt = subst (λ (v : Lists). c.args.list < length v.lists) (sym c.self.view_is) c.requires.list in
    let e = walk-start c.self.inside.next.items c.self.inside.chains.items c.args.list c.index-chain.result.now lt c.index-chain.ensures in
    let items = c.walk.ensures.items ∙ ap (λ (next : List ℕ). follow next c.index-chain.result.now.count c.index-chain.result.now.first) c.as_slice.ensures.value ∙ e in
    subst (λ (xs : List ℕ). IsDistinct nat_eq xs) (sym items) (c.self.invariant.0.distinct c.args.list)
