use Rattle.std.proofs.Common.{rules}
use Rattle.log_records.proofs.lsn_reader.is_between.Goals as goal

pub returns-else-from-lsn : goal.returns-else-from-lsn
returns-else-from-lsn g c = search rules
