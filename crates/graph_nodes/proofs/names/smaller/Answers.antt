use Rattle.std.proofs.Common.{rules}
use Rattle.graph_nodes.proofs.names.smaller.Goals as goal

pub returns-then-left-right-clause-left : goal.returns-then-left-right-clause-left
returns-then-left-right-clause-left c = search rules

pub returns-else-left-right-clause-right : goal.returns-else-left-right-clause-right
returns-else-left-right-clause-right c = search rules
