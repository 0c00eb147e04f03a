use Rattle.std.proofs.Common.{arith}
use Rattle.btree_ops.specs.MapLaws.{read_some, read_none}
use Rattle.btree_ops.proofs.node.Node.read.Goals as goal

pub returns-clause-some : goal.returns-clause-some
returns-clause-some c = read_some c.args.bytes.now c.read_node.result (λ i. omega (arith, c.type_inv.bytes i)) c.read_node.ensures

pub returns-clause-none : goal.returns-clause-none
returns-clause-none c = read_none c.args.bytes.now c.read_node.result c.read_node.ensures
