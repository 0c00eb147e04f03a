use Rattle.std.proofs.Common.{rules}
use Rattle.backup_copy.proofs.forcing.force.Goals as goal

pub returns-in-Ok : goal.returns-in-Ok
returns-in-Ok g c = search rules
