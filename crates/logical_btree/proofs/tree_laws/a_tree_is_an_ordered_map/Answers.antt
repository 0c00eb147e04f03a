use Rattle.logical_btree.proofs.GoesLemmas.{get_tells}
use Rattle.logical_btree.proofs.RangeLaws.{range_tells}
use Rattle.logical_btree.proofs.TopLaws.{insert_in_range, delete_in_range}
use Rattle.logical_btree.proofs.tree_laws.a_tree_is_an_ordered_map.Goals as goal

pub returns : goal.returns
returns c = record {
  get = λ b lo hi s key there tree. get_tells key lo hi s b there tree;
  range = λ b lo hi s from to there tree. range_tells lo hi s b from to there tree;
  insert = λ b lo hi s key value range short fits tree. insert_in_range b lo hi range s key value short fits tree;
  delete = λ b lo hi s key range tree. delete_in_range b lo hi range s key tree;
}
