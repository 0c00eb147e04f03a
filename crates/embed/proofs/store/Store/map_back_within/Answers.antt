use Rattle.std.proofs.Common.{◌∙◌, rules, sym}
use Rattle.embed.proofs.WithinCalls.{broken_within, called_within}
use Rattle.embed.proofs.store.Store.map_back_within.Goals as goal

pub returns-then-is_broken : goal.returns-then-is_broken
returns-then-is_broken g c = broken_within g.M.Machine.disk _ _ _ _ c.args.self.now c.args.transaction.now (sym c.is_broken.ensures ∙ c.if-is_broken.true)

pub returns : goal.returns
returns g c =
    called_within g.M.Machine.disk _ _ _ _ c.back.result c.args.self.now.machine c.back.new.machine _ c.back.new.store (search rules) (sym c.is_broken.ensures ∙ c.if-is_broken.false)
    c.back.ensures.calls (λ p commands all. c.back.ensures.adds p commands all) (λ p commands all. (c.back.ensures.found p commands all, c.back.ensures.refused p commands all))
