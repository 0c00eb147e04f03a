use Rattle.std.proofs.Common.{refl}
use Rattle.name_ranges.proofs.worked.keys_are_as_worked.Goals as goal

pub returns : goal.returns
returns c = record {
  place_of_none = refl;
  place = refl;
  key_of_none = refl;
  key = refl;
  name = refl;
  number = refl;
  read_back = refl;
}
