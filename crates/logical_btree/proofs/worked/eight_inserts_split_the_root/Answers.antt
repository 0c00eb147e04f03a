use Rattle.std.proofs.Common.{refl}
use Rattle.logical_btree.proofs.worked.eight_inserts_split_the_root.Goals as goal

pub returns : goal.returns
returns c = record {
  seven = refl;
  eight = refl;
  get = refl;
  range = refl;
  delete = refl;
  split = refl;
  absent = refl;
  full = refl;
}
