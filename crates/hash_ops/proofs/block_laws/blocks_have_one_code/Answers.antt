use Rattle.hash_ops.specs.BlockLaws.{directory_found, directory_only, bucket_found, bucket_only}
use Rattle.hash_ops.proofs.block_laws.blocks_have_one_code.Goals as goal

pub returns : goal.returns
returns c = record { directory_found = directory_found; directory_only = directory_only; bucket_found = bucket_found; bucket_only = bucket_only }
