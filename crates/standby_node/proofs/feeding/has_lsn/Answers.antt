use Rattle.std.proofs.Common.{rules}
use Rattle.standby_node.proofs.feeding.has_lsn.Goals as goal

pub returns-in-None : goal.returns-in-None
returns-in-None g c = search rules
