use Rattle.std.proofs.Common.{rules}
use Rattle.backup_copy.proofs.refusing.may_finish.Goals as goal

pub returns : goal.returns
returns g c = search rules
