use Rattle.std.proofs.Common.{rules}
use Rattle.install_order.proofs.order.is_edge_at.Goals as goal

pub returns-then-not-is_written_between : goal.returns-then-not-is_written_between
returns-then-not-is_written_between c = search rules

pub returns-else-not-is_written_between : goal.returns-else-not-is_written_between
returns-else-not-is_written_between c = search rules
