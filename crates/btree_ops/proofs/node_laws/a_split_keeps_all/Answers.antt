use Rattle.btree_ops.specs.MapLaws.{leaf_splits, inner_splits, leaf_cut, inner_cut}
use Rattle.btree_ops.proofs.node_laws.a_split_keeps_all.Goals as goal

pub returns : goal.returns
returns c = record { leaf = leaf_splits; inner = inner_splits; full_leaf = leaf_cut; full_inner = inner_cut }
