use Rattle.std.proofs.Common.{arith}
use Rattle.key_entries.proofs.Copied.{copied}
use Rattle.key_entries.proofs.short.Short.new.Goals as goal

pub invariant_of-result : goal.invariant_of-result
invariant_of-result c = copied c.args.bytes.now c.copy_from_slice.new.self c.copy_from_slice.ensures.after (omega arith) (omega arith)
