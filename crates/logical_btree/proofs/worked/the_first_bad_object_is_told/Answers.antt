use Rattle.std.proofs.Common.{refl}
use Rattle.logical_btree.proofs.worked.the_first_bad_object_is_told.Goals as goal

pub returns : goal.returns
returns c = record {
  no_node = refl;
  equal_right = refl;
  below_left = refl;
  outside = refl;
  left_alone = refl;
  right_too = refl;
  root_below = refl;
  too_long = refl;
}
