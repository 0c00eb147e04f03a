use Rattle.hash_file.proofs.CallLemmas.{put_refusals, delete_refusals}
use Rattle.hash_file.proofs.hash_file_laws.a_hash_file_refuses_by_cause.Goals as goal

pub returns : goal.returns
returns c = record {
  put = λ b lo hi s key value r range file is. put_refusals b lo hi key value range s r file is;
  delete = delete_refusals;
}
