-- What the operations of a store mean: each means what it means in its family.
use Rattle.oper_core.specs.Meaning.{Meaning}
use Rattle.oper_core.specs.declared.bounds.Bounds.{Bounds}
use Rattle.op_meaning.specs.Table.{plain_meaning}
use Rattle.op_meaning.specs.declared.plain_op.PlainOp.{PlainOp}
use Rattle.btree_ops.specs.Operation.{node_meaning}
use Rattle.btree_ops.specs.declared.node_op.NodeOp.{NodeOp}
use Rattle.app_program.specs.Table.{program_meaning}
use Rattle.app_program.specs.declared.program_op.ProgramOp.{ProgramOp}
use Rattle.hash_ops.specs.Operation.{hash_meaning}
use Rattle.hash_ops.specs.declared.hash_op.HashOp.{HashOp}
use Rattle.page_ops.specs.Operation.{page_meaning}
use Rattle.page_ops.specs.declared.page_op.PageOp.{PageOp}
use Rattle.op_codec.specs.Sum.{sum_meaning}
use Rattle.op_codec.specs.declared.sum.Sum.{Sum}
use Rattle.op_codec.specs.declared.sum.Sum.TheVariants.{First, Second}

-- an operation of a store is one of these families
abbrev pub AllOps : Type 0
AllOps = Sum PlainOp (Sum NodeOp (Sum ProgramOp (Sum HashOp PageOp)))

abbrev pub plain : PlainOp → AllOps
plain op = First op

abbrev pub node : NodeOp → AllOps
node op = Second (First op)

abbrev pub program : ProgramOp → AllOps
program op = Second (Second (First op))

abbrev pub hash : HashOp → AllOps
hash op = Second (Second (Second (First op)))

abbrev pub page : PageOp → AllOps
page op = Second (Second (Second (Second op)))

abbrev pub all_meaning : Bounds → Meaning AllOps
all_meaning = sum_meaning plain_meaning (sum_meaning node_meaning (sum_meaning program_meaning (sum_meaning hash_meaning page_meaning)))
