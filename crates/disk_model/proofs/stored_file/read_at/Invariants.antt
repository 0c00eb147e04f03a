use Rattle.std.proofs.Common.{◌≤◌, length}
use Rattle.disk_model.proofs.stored_file.read_at.Given as goal

abbrev pub invariant-loop : goal.invariant-loop
invariant-loop g l = l.count ≤ length l.into
