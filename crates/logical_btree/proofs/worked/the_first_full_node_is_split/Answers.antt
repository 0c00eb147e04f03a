use Rattle.std.proofs.Common.{refl}
use Rattle.logical_btree.proofs.worked.the_first_full_node_is_split.Goals as goal

pub returns : goal.returns
returns c = record {
  full = refl;
  present = refl;
  none_free = refl;
  empty = refl;
  no_keys = refl;
  past = refl;
  upside_down = refl;
}
