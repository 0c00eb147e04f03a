use Rattle.std.proofs.Common.{rules}
use Rattle.log_records.proofs.placing.commands_in.Goals as goal

pub returns-in-Identity-clause-value : goal.returns-in-Identity-clause-value
returns-in-Identity-clause-value g c = search rules
