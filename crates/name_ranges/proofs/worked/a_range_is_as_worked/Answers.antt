use Rattle.std.proofs.Common.{refl}
use Rattle.name_ranges.proofs.Sample.{sample_is_named}
use Rattle.name_ranges.proofs.worked.a_range_is_as_worked.Goals as goal

pub returns : goal.returns
returns c = record {
  named = sample_is_named;
  found = refl;
  not_found = refl;
  set = refl;
  set_again = refl;
  deleted = refl;
  missing = refl;
  long = refl;
}
