use Rattle.std.proofs.Common.{refl}
use Rattle.page_ops.proofs.worked.changes_have_their_codes.Goals as goal

pub returns : goal.returns
returns c = record {
  put = refl;
  set = refl;
  delete = refl;
  free = refl;
}
