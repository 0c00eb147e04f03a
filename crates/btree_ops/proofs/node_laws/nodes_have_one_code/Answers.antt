use Rattle.btree_ops.specs.NodeLaws.{node_found, node_is}
use Rattle.btree_ops.specs.MapLaws.{leaf_size, inner_size}
use Rattle.btree_ops.proofs.node_laws.nodes_have_one_code.Goals as goal

pub returns : goal.returns
returns c = record { found = node_found; only = node_is; leaf_size = leaf_size; inner_size = inner_size }
