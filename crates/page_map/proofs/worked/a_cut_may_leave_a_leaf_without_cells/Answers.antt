use Rattle.std.proofs.Common.{refl}
use Rattle.page_map.proofs.worked.a_cut_may_leave_a_leaf_without_cells.Goals as goal

pub returns : goal.returns
returns c = record {
  pair = refl;
  all = refl;
  place = refl;
}
