use Rattle.hash_file.proofs.AlikeLemmas.{file_stays}
use Rattle.hash_file.proofs.hash_file_laws.a_hash_file_depends_on_its_range.Goals as goal

pub returns : goal.returns
returns c = λ lo hi order s t alike is. file_stays lo hi s t alike order is
