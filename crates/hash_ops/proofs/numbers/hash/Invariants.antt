use Rattle.std.proofs.Common.{◌≡◌, fold, drop}
use Rattle.hash_ops.specs.Hash as numbers
use Rattle.hash_ops.proofs.numbers.hash.Given as goal

abbrev pub invariant-loop-byte : goal.invariant-loop-byte
invariant-loop-byte l = numbers.hash l.fn.key ≡ fold numbers.with_byte l.number (drop l.byte-index l.byte-items)
