use Rattle.logical_btree.proofs.EndLaws.{insert_ends}
use Rattle.logical_btree.proofs.tree_laws.an_insert_ends_with_its_put.Goals as goal

pub returns : goal.returns
returns c = λ b lo hi s key value range. insert_ends b lo hi s key value range
