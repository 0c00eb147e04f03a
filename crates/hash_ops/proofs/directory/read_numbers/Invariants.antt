use Rattle.std.proofs.Common.{◌≡◌, ◌+◌, ◌*◌, ◌++◌, length}
use Rattle.hash_ops.specs.Blocks.{numbers_in}
use Rattle.hash_ops.proofs.directory.read_numbers.Given as goal

abbrev pub invariant-loop-rest : goal.invariant-loop-rest
invariant-loop-rest l = record {
  so_far : numbers_in l.bytes ≡ l.numbers.items ++ numbers_in l.rest;
  size : 4 * length l.numbers.items + length l.rest ≡ length l.bytes;
}

abbrev pub decreases-loop-rest : goal.decreases-loop-rest
decreases-loop-rest l = length l.rest
