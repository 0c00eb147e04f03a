use Rattle.std.proofs.Common.{rules}
use Rattle.standby_node.proofs.standby.Standby.note.Goals as goal

pub returns : goal.returns
returns g c = search rules
