use Rattle.std.proofs.Common.{◌≡◌, ℕ, Some, List, sym, ◌∙◌, arith}
use Rattle.page_ops.specs.Operation.{op_in}
use Rattle.page_ops.specs.OperationLaws.{op_begins}
use Rattle.page_ops.proofs.Outcomes.{no_error, is_refused, refused_begins}
use Rattle.page_ops.proofs.page_op.PageOpOper.decode.Goals as goal

pub returns-clause-some : goal.returns-clause-some
returns-clause-some c =
    let bytes : List ℕ = c.args.bytes.now in
    let read : op_in bytes ≡ Some c.in-Some.op = sym c.in_ok-op.ensures ∙ c.in-Some.is in
    let at = op_begins bytes c.in-Some.op (λ i. omega (arith, c.type_inv.bytes i)) read in (
      record { rest = at.rest; split = at.split; in_grammar = sym c.shape.ensures ∙ no_error c.shape.result c.if-is_err.ensures.value },
      c.code_len-length.ensures,
    )

pub returns-then-is_err-clause-none : goal.returns-then-is_err-clause-none
returns-then-is_err-clause-none c = λ op begins.
    let bytes : List ℕ = c.args.bytes.now in
    let read : op_in bytes ≡ Some c.in-Some.op = sym c.in_ok-op.ensures ∙ c.in-Some.is in
    refused_begins c.args.b bytes c.in-Some.op read (λ none. is_refused c.shape.result c.if-is_err.ensures.value (c.shape.ensures ∙ none)) op begins
