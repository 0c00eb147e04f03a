use Rattle.std.proofs.Common.{sym, subst, length, ◌<◌}
use Rattle.number_lists.specs.Lists.{Lists}
use Rattle.number_lists.proofs.Steps.{cleared, cleared-apart}
use Rattle.number_lists.proofs.chains.Chains.clear.Goals as goal

pub invariant_of-self : goal.invariant_of-self
invariant_of-self c = (cleared-apart c.self.inside.next.items c.self.inside.chains.items c.args.list c.self.invariant.0, c.self.invariant.1)

pub returns : goal.returns
returns c =
    let lt = subst (λ (v : Lists). c.args.list < length v.lists) (sym c.self.view_is) c.requires in
    rw (← c.self.view_is) (cleared c.self.inside.next.items _ c.self.inside.chains.items _ c.args.list lt c.self.invariant.0)
