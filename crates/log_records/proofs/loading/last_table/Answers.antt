use Rattle.std.proofs.Common.{rules}
use Rattle.log_records.proofs.loading.last_table.Goals as goal

pub returns-in-Checkpoint : goal.returns-in-Checkpoint
returns-in-Checkpoint g c = search rules
