use Rattle.std.proofs.Common.{refl}
use Rattle.page_ops.proofs.worked.parts_have_their_codes.Goals as goal

pub returns : goal.returns
returns c = record {
  part = refl;
  absorb = refl;
  join = refl;
  keep = refl;
  turn = refl;
  turn_two = refl;
  root = refl;
}
