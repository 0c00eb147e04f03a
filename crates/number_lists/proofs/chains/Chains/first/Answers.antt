use Rattle.std.proofs.Common.{◌∙◌, ap, sym, subst, refl, length, ◌<◌}
use Rattle.std.specs.Prelude.{slice_index}
use Rattle.number_lists.specs.Lists.{Lists, list_at}
use Rattle.number_lists.proofs.Steps.{begins, emptied}
use Rattle.number_lists.proofs.chains.Chains.first.Goals as goal

pub returns-then-chain-eq0 : goal.returns-then-chain-eq0
returns-then-chain-eq0 c =
    let lt = subst (λ (v : Lists). c.args.list < length v.lists) (sym c.self.view_is) c.requires in
    let was = emptied c.self.inside.next.items 0 c.self.inside.chains.items 0 c.args.list c.index-chain.result.now lt c.index-chain.ensures c.if-chain-eq0.true in
    ap (λ (v : Lists). list_at v.lists c.args.list) (sym c.self.view_is) ∙ was.was

pub returns : goal.returns
returns c =
    let lt = subst (λ (v : Lists). c.args.list < length v.lists) (sym c.self.view_is) c.requires in
    let chain = c.index-chain.result.now in
    (_, ap (λ (v : Lists). list_at v.lists c.args.list) (sym c.self.view_is) ∙ begins c.self.inside.next.items c.self.inside.chains.items c.args.list (slice_index c.self.inside.next.items chain.first) chain lt c.index-chain.ensures c.if-chain-eq0.false refl)
