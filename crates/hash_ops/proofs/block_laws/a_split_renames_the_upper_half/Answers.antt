use Rattle.hash_ops.specs.RenameLaws.{splits_entries}
use Rattle.hash_ops.proofs.block_laws.a_split_renames_the_upper_half.Goals as goal

pub returns : goal.returns
returns c = splits_entries
