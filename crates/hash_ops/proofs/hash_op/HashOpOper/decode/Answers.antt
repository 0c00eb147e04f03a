use Rattle.std.proofs.Common.{ℕ, List, drop, length, sym, ◌∙◌, arith}
use Rattle.hash_ops.specs.Operation.{op_code}
use Rattle.hash_ops.specs.OperationLaws.{op_begins}
use Rattle.hash_ops.proofs.Outcomes.{no_error}
use Rattle.hash_ops.proofs.hash_op.HashOpOper.decode.Goals as goal

pub returns-clause-some : goal.returns-clause-some
returns-clause-some c =
    let bytes : List ℕ = c.args.bytes.now in
    let op = c.in-Some.op in
    let at = op_begins bytes op (λ i. omega (arith, c.type_inv.bytes i)) (sym c.in-Some.ensures) in (
      record { rest = drop (length (op_code op)) bytes; split = at.split; in_grammar = sym c.shape.ensures ∙ no_error c.shape.result c.if-is_err.ensures.value },
      c.code_len-length.ensures,
    )
