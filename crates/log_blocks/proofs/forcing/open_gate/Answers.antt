use Rattle.std.proofs.Common.{rules}
use Rattle.log_blocks.proofs.forcing.open_gate.Goals as goal

pub returns-clause-settled : goal.returns-clause-settled
returns-clause-settled g c = search rules
