use Rattle.logical_btree.proofs.FullLaws.{insert_refusals, delete_refusals}
use Rattle.logical_btree.proofs.tree_laws.a_tree_refuses_by_cause.Goals as goal

pub returns : goal.returns
returns c = record {
  insert = λ b lo hi s key value r range tree is. insert_refusals b lo hi range key value s tree r is;
  delete = λ b lo hi s key there tree. delete_refusals b lo hi s key there tree;
}
