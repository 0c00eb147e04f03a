use Rattle.logical_btree.proofs.RangeLaws.{range_rises}
use Rattle.logical_btree.proofs.tree_laws.a_range_rises.Goals as goal

pub returns : goal.returns
returns c = λ b lo hi s from to pairs tree is. range_rises lo hi s b from to pairs tree is
