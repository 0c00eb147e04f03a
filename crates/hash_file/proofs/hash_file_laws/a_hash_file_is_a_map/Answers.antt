use Rattle.hash_file.proofs.CallLemmas.{get_tells, put_acts, delete_acts}
use Rattle.hash_file.proofs.hash_file_laws.a_hash_file_is_a_map.Goals as goal

pub returns : goal.returns
returns c = record {
  get = get_tells;
  put = λ b lo hi s key value range short fits file. put_acts b lo hi key value range short fits s file;
  delete = λ b lo hi s key range file. delete_acts b lo hi s key range file;
}
