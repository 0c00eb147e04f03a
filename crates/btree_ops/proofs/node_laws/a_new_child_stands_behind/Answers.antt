use Rattle.btree_ops.specs.MapLaws.{stands_behind}
use Rattle.btree_ops.proofs.node_laws.a_new_child_stands_behind.Goals as goal

pub returns : goal.returns
returns c = stands_behind
