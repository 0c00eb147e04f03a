use Rattle.std.proofs.Common.{sym, subst, arith}
use Rattle.btree_ops.specs.Operation.{op_code}
use Rattle.btree_ops.specs.declared.node_op.NodeOp.{NodeOp}
use Rattle.app_program.specs.OneCode.{AreBytes}
use Rattle.app_steps.proofs.EntryBytes.{put_bytes}
use Rattle.app_steps.proofs.bytes.known_node.Goals as goal

pub returns-in-Put : goal.returns-in-Put
returns-in-Put c =
    let put = c.in-Put in
    subst (λ (op : NodeOp). AreBytes (op_code op)) (sym put.is) (put_bytes 10 put.object put.key put.value (omega arith) c.known_short.ensures c.known_short-in-Put.ensures)
