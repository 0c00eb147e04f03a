use Rattle.std.proofs.Common.{◌≤◌, length}
use Rattle.tool_output.proofs.glance_machine.read_at.Given as goal

abbrev pub invariant-loop : goal.invariant-loop
invariant-loop g l = l.count ≤ length l.into
