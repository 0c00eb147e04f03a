use Rattle.write_graph.proofs.Unlinked.{none_linked}
use Rattle.write_graph.proofs.links.Links.new.Goals as goal

pub returns-clause-linked : goal.returns-clause-linked
returns-clause-linked c = none_linked c.new.result c.new-2.result c.new.ensures.arcs c.new.ensures.node c.new.ensures.held c.new-2.ensures
