use Rattle.std.proofs.Common.{◌∙◌, ap, sym, subst, length, ◌<◌}
use Rattle.std.specs.Prelude.{nat_eq}
use Rattle.std.specs.List.{IsDistinct}
use Rattle.number_lists.specs.Lists.{Lists, list_at}
use Rattle.number_lists.proofs.Links.{length-follow}
use Rattle.number_lists.proofs.Steps.{walk-start}
use Rattle.number_lists.proofs.chains.Chains.count.Goals as goal

pub returns-clause-value : goal.returns-clause-value
returns-clause-value c =
    let lt = subst (λ (v : Lists). c.args.list < length v.lists) (sym c.self.view_is) c.requires in
    let chain = c.index-chain.result.now in
    sym (length-follow c.self.inside.next.items chain.count chain.first)
    ∙ ap length (walk-start c.self.inside.next.items c.self.inside.chains.items c.args.list chain lt c.index-chain.ensures)
    ∙ ap (λ (v : Lists). length (list_at v.lists c.args.list)) c.self.view_is

pub returns-clause-distinct : goal.returns-clause-distinct
returns-clause-distinct c = subst (λ (v : Lists). IsDistinct nat_eq (list_at v.lists c.args.list)) c.self.view_is (c.self.invariant.0.distinct c.args.list)
