use Rattle.std.proofs.Common.{rules}
use Rattle.standby_node.proofs.standby.Standby.next_record.Goals as goal

pub returns-in-Some : goal.returns-in-Some
returns-in-Some g c = search rules

pub returns-in-None : goal.returns-in-None
returns-in-None g c = search rules
