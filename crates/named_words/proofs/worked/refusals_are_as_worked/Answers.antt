use Rattle.std.proofs.Common.{refl}
use Rattle.std.specs.Fmt.{digits}
use Rattle.named_words.proofs.worked.refusals_are_as_worked.Goals as goal

pub returns : goal.returns
unfolding digits
returns c = record {
  unknown = λ names s. refl;
  count = λ names s. refl;
  part_count = λ names s. refl;
  part = λ names s. refl;
  odd = λ names s. refl;
  number = λ names s. refl;
  cursor = λ names s. refl;
  database = λ names s. refl;
  same = λ names s. refl;
}
