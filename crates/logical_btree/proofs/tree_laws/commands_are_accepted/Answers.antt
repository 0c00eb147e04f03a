use Rattle.logical_btree.proofs.AcceptedLaws.{insert_accepted, delete_accepted, insert_too_large, delete_too_large}
use Rattle.logical_btree.proofs.TopLaws.{wide_enough, too_narrow}
use Rattle.logical_btree.proofs.tree_laws.commands_are_accepted.Goals as goal

pub returns : goal.returns
returns c = record {
  insert = λ b lo hi s key value short fits wide. insert_accepted b lo hi key value short fits s (wide_enough b.cap wide);
  delete = λ b lo hi s key short wide. delete_accepted b lo hi s key short (wide_enough b.cap wide);
  insert_too_large = λ b lo hi s key value short fits narrow. insert_too_large b lo hi key value short fits s (too_narrow b.cap narrow);
  delete_too_large = λ b lo hi s key short narrow. delete_too_large b lo hi s key short (too_narrow b.cap narrow);
}
