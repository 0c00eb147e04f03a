use Rattle.std.proofs.Common.{sym, subst, arith}
use Rattle.hash_ops.specs.Operation.{op_code}
use Rattle.hash_ops.specs.declared.hash_op.HashOp.{HashOp}
use Rattle.app_program.specs.OneCode.{AreBytes}
use Rattle.app_steps.proofs.EntryBytes.{put_bytes}
use Rattle.app_steps.proofs.bytes.known_hash.Goals as goal

pub returns-in-Put : goal.returns-in-Put
returns-in-Put c =
    let put = c.in-Put in
    subst (λ (op : HashOp). AreBytes (op_code op)) (sym put.is) (put_bytes 18 put.bucket put.key put.value (omega arith) c.known_short.ensures c.known_short-in-Put.ensures)
