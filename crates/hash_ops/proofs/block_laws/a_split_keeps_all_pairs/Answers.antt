use Rattle.std.proofs.Common.{true, false}
use Rattle.hash_ops.specs.BlockLaws.{splits_pairs, half_keeps}
use Rattle.hash_ops.proofs.block_laws.a_split_keeps_all_pairs.Goals as goal

pub returns : goal.returns
returns c = record { pairs = splits_pairs; low = half_keeps false; high = half_keeps true }
