use Rattle.std.proofs.Common.{rules}
use Rattle.log_records.proofs.placing.is_placed.Goals as goal

pub returns-then-table-next : goal.returns-then-table-next
returns-then-table-next g c = search rules

pub returns-then-lsn-next : goal.returns-then-lsn-next
returns-then-lsn-next g c = search rules
