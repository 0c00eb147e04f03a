use Rattle.std.proofs.Common.{rules}
use Rattle.identity_writes.proofs.thinning.first_longest.Goals as goal

pub returns-clause-some : goal.returns-clause-some
returns-clause-some c = search rules
