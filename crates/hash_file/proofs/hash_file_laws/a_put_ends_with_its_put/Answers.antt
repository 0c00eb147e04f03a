use Rattle.hash_file.proofs.CallLemmas.{put_ends}
use Rattle.hash_file.proofs.hash_file_laws.a_put_ends_with_its_put.Goals as goal

pub returns : goal.returns
returns c = λ b lo hi s key value range. put_ends b lo hi key value range s
