use Rattle.logical_btree.proofs.TopLaws.{keeps_in_range}
use Rattle.logical_btree.proofs.tree_laws.a_split_keeps_the_tree.Goals as goal

pub returns : goal.returns
returns c = λ b lo hi s key value op range tree is. keeps_in_range b lo hi range s key value op tree is
