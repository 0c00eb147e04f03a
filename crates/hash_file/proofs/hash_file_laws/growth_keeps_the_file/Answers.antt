use Rattle.hash_file.proofs.GrowthLemmas.{growth}
use Rattle.hash_file.proofs.hash_file_laws.growth_keeps_the_file.Goals as goal

pub returns : goal.returns
returns c = λ b lo hi s key value op range file comes. growth b lo hi key value range s op file comes
