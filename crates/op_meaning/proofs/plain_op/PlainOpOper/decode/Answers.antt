use Rattle.std.proofs.Common.{◌≡◌, ◌<◌, ◌≤◌, ◌^◌, ℕ, Option, Some, List, ◌++◌, length, drop, ap, subst, ◌∙◌, arith}
use Rattle.std.specs.Prelude.{IfSome}
use Rattle.std.proofs.lemmas.List.Elements.{All-from_recursion}
use Rattle.op_rows.specs.Rows.{all_numbers, names_code, names_shape, text_of}
use Rattle.op_rows.specs.RowLaws.{no_other}
use Rattle.op_meaning.specs.Table.{plain_row}
use Rattle.op_meaning.specs.TableLaws.{are_plain_rows}
use Rattle.op_meaning.specs.declared.plain_op.PlainOp.{PlainOp}
use Rattle.op_rows.specs.FirstBytes.{is_refused}
use Rattle.op_meaning.proofs.plain_op.PlainOpOper.decode.Goals as goal

-- what holds of an operation that was found
found : (P : PlainOp → Type 0) (o : Option PlainOp) (op : PlainOp) → o ≡ Some op → IfSome o P → P op
found P o op is holds = subst (λ (x : Option PlainOp). IfSome x P) is holds

pub returns-then-is_err-clause-none : goal.returns-then-is_err-clause-none
returns-then-is_err-clause-none c = λ op begins.
    let bytes : List ℕ = c.args.bytes.now in
    let read = c.in-Some.op in
    let short = found (λ op. length (text_of (plain_row op).names) ≤ c.args.b.cap) c.in_ok-op.field-0 read c.in-Some.is c.in_ok-op.ensures.short in
    let split = found (λ op. bytes ≡ names_code (plain_row op).names ++ drop (length (names_code (plain_row op).names)) bytes) c.in_ok-op.field-0 read c.in-Some.is c.in_ok-op.ensures.some in
    let small = c.known_as_small.ensures in
    let cap = small.cap in
    no_other plain_row are_plain_rows c.args.b small read op bytes (drop (length (names_code (plain_row read).names)) bytes)
    (record { numbers = All-from_recursion (λ (x : ℕ). x < 2 ^ 32) (all_numbers (plain_row read).names) c.names.ensures.fit; text = omega (arith, short, cap) }) split
    (λ none. is_refused c.shape.result c.if-is_err.ensures.value (c.shape.ensures ∙ ap (names_shape c.args.b) c.names.ensures.value ∙ none)) begins
