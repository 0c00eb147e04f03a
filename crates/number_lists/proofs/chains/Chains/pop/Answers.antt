use Rattle.std.proofs.Common.{ap, sym, subst, ℕ, List, length, ◌<◌, ◌-◌, arith}
use Rattle.number_lists.specs.Lists.{Lists}
use Rattle.number_lists.proofs.Steps.{GoesOn, popped, popped-apart, first-below, emptied}
use Rattle.number_lists.proofs.chains.Chains.pop.Goals as goal

pub returns-then-chain-eq0 : goal.returns-then-chain-eq0
returns-then-chain-eq0 c =
    let lt = subst (λ (v : Lists). c.args.list < length v.lists) (sym c.self.view_is) c.requires in
    rw (← c.self.view_is) (emptied c.self.inside.next.items _ c.self.inside.chains.items _ c.args.list c.index-chain.result.now lt c.index-chain.ensures c.if-chain-eq0.true)

pub after-first-requires : goal.after-first-requires
after-first-requires c some =
    let lt = subst (λ (v : Lists). c.args.list < length v.lists) (sym c.self.view_is) c.requires in
    let r = first-below c.self.inside.next.items c.self.inside.chains.items c.args.list c.index-chain.result.now lt c.index-chain.ensures c.if-chain-eq0.false c.self.invariant.0 in
    omega (arith, r, ap length c.as_slice.ensures.value)

pub invariant_of-self : goal.invariant_of-self
invariant_of-self c =
    let lt = subst (λ (v : Lists). c.args.list < length v.lists) (sym c.self.view_is) c.requires in
    let chain = c.index-chain.result.now in
    let on : GoesOn c.self.inside.next.items (chain.count - 1) chain.first c.after-first.result =
    subst (λ (xs : List ℕ). GoesOn xs (chain.count - 1) chain.first c.after-first.result) c.as_slice.ensures.value c.after-first.ensures in
    (popped-apart c.self.inside.next.items c.self.inside.chains.items c.args.list c.after-first.result chain lt c.index-chain.ensures c.if-chain-eq0.false on c.self.invariant.0, c.self.invariant.1)

pub returns : goal.returns
returns c =
    let lt = subst (λ (v : Lists). c.args.list < length v.lists) (sym c.self.view_is) c.requires in
    let chain = c.index-chain.result.now in
    let on : GoesOn c.self.inside.next.items (chain.count - 1) chain.first c.after-first.result =
    subst (λ (xs : List ℕ). GoesOn xs (chain.count - 1) chain.first c.after-first.result) c.as_slice.ensures.value c.after-first.ensures in
    rw (← c.self.view_is) (popped c.self.inside.next.items _ c.self.inside.chains.items _ c.args.list c.after-first.result chain lt c.index-chain.ensures c.if-chain-eq0.false on c.self.invariant.0)
