use Rattle.std.proofs.Common.{refl}
use Rattle.install_order.proofs.TableNodes.{table-is}
use Rattle.install_order.proofs.order_laws.worked_tables.Goals as goal

pub returns : goal.returns
returns c = record {
  put_copy_put = table-is 2 4 _ _ _ refl;
  copy_there_and_back = table-is 2 3 _ _ _ refl;
  copy_there_and_back_put = table-is 2 4 _ _ _ refl;
  put_put_swap = table-is 2 4 _ _ _ refl;
  put_put_swap_identity = table-is 2 5 _ _ _ refl;
  put_append = table-is 2 3 _ _ _ refl;
  put_copies_put = table-is 5 7 _ _ _ refl;
  put_put_copy_put = table-is 2 5 _ _ _ refl;
  put_copy = table-is 2 3 _ _ _ refl;
  swap_copy_copy_put = table-is 3 5 _ _ _ refl;
  copy_copy_put = table-is 3 5 _ _ _ refl;
}
