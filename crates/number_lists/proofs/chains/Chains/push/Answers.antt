use Rattle.std.proofs.Common.{sym, subst, length, ◌<◌, arith}
use Rattle.std.proofs.lemmas.List.{length-set}
use Rattle.number_lists.specs.Lists.{Lists, IsFree}
use Rattle.number_lists.proofs.Steps.{pushed, pushed-apart, few-fits}
use Rattle.number_lists.proofs.chains.Chains.push.Goals as goal

pub overflow_add-chain : goal.overflow_add-chain
overflow_add-chain c =
    let lt = subst (λ (v : Lists). c.args.list < length v.lists) (sym c.self.view_is) c.requires.list in
    few-fits c.self.inside.next.items c.self.inside.chains.items c.args.list c.index-chain.result.now lt c.index-chain.ensures c.self.invariant.0 c.self.invariant.1

pub invariant_of-self : goal.invariant_of-self
invariant_of-self c =
    let lt = subst (λ (v : Lists). c.args.list < length v.lists) (sym c.self.view_is) c.requires.list in
    let below = subst (λ (v : Lists). c.args.item < v.items) (sym c.self.view_is) c.requires.item in
    let free = subst (λ (v : Lists). IsFree v.lists c.args.item) (sym c.self.view_is) c.requires.free in (
      pushed-apart c.self.inside.next.items c.self.inside.chains.items c.args.list c.args.item c.index-chain.result.now lt below free c.index-chain.ensures c.self.invariant.0,
      omega (arith, length-set c.self.inside.next.items c.args.item c.index-chain.result.now.first, c.self.invariant.1),
    )

pub returns : goal.returns
returns c =
    let lt = subst (λ (v : Lists). c.args.list < length v.lists) (sym c.self.view_is) c.requires.list in
    let below = subst (λ (v : Lists). c.args.item < v.items) (sym c.self.view_is) c.requires.item in
    let free = subst (λ (v : Lists). IsFree v.lists c.args.item) (sym c.self.view_is) c.requires.free in
    rw (← c.self.view_is) (pushed c.self.inside.next.items _ c.self.inside.chains.items _ c.args.list c.args.item c.index-chain.result.now lt below free c.index-chain.ensures)
