use Rattle.std.proofs.Common.{◌∙◌, rules, sym}
use Rattle.embed.proofs.WithinCalls.{broken_within, called_within}
use Rattle.embed.proofs.store.Store.tree_piece_within.Goals as goal

pub returns-then-is_broken-clause-call : goal.returns-then-is_broken-clause-call
returns-then-is_broken-clause-call g c = broken_within g.M.Machine.disk _ _ _ _ c.args.self.now c.args.transaction.now (sym c.is_broken.ensures ∙ c.if-is_broken.true)

pub returns-clause-call : goal.returns-clause-call
returns-clause-call g c =
    called_within g.M.Machine.disk _ _ _ _ c.piece_from.result c.args.self.now.machine c.piece_from.new.machine _ c.piece_from.new.store (search rules) (sym c.is_broken.ensures ∙ c.if-is_broken.false)
    c.piece_from.ensures.calls (λ p commands all. c.piece_from.ensures.adds p commands all) (λ p commands all. (c.piece_from.ensures.pairs p commands all, c.piece_from.ensures.refused p commands all))
