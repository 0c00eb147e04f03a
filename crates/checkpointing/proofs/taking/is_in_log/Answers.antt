use Rattle.std.proofs.Common.{rules}
use Rattle.checkpointing.proofs.taking.is_in_log.Goals as goal

pub returns-then-object-objects : goal.returns-then-object-objects
returns-then-object-objects c = search rules
