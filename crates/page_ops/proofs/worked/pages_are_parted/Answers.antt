use Rattle.std.proofs.Common.{refl}
use Rattle.page_ops.proofs.worked.pages_are_parted.Goals as goal

pub returns : goal.returns
returns c = record {
  upper = refl;
  lower = refl;
  joined = refl;
  upper_of_both = refl;
  of_the_other = refl;
  some = refl;
}
