use Rattle.std.proofs.Common.{◌∙◌, arith}
use Rattle.std.proofs.lemmas.List.{get_or-set_same, get_or-set_other}
use Rattle.graph_nodes.proofs.levels.set_level.Goals as goal

pub returns-clause-here : goal.returns-clause-here
returns-clause-here c = get_or-set_same c.fill.new.level.items c.args.n c.args.l 0 (omega (arith, c.fill.ensures.enough))

pub returns-clause-others : goal.returns-clause-others
returns-clause-others c m ne = get_or-set_other c.fill.new.level.items c.args.n m c.args.l 0 ne ∙ c.fill.ensures.each m
