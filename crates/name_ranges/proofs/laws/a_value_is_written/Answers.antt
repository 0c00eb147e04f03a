use Rattle.name_ranges.proofs.Naming.{value_given, value_spare}
use Rattle.name_ranges.proofs.laws.a_value_is_written.Goals as goal

pub returns : goal.returns
returns c = record {
  given = λ b lo hi s names is op name bytes x writes fits has. value_given b lo hi s names is op x bytes writes fits name has;
  spare = λ b lo hi s names is op bytes x writes fits spare. value_spare b lo hi s names is op x bytes writes fits spare;
}
