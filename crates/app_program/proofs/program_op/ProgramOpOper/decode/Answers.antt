use Rattle.std.proofs.Common.{◌≡◌, ℕ, Option, Some, List, ◌++◌, ◌<◌, ◌^◌, length, drop, ap, subst, ◌∙◌}
use Rattle.std.specs.Prelude.{IfSome}
use Rattle.std.proofs.lemmas.List.Elements.{All-from_recursion}
use Rattle.op_rows.specs.FirstBytes.{is_refused}
use Rattle.op_rows.specs.Rows.{all_numbers, names_code, names_shape}
use Rattle.op_rows.specs.RowLaws.{no_other}
use Rattle.app_program.specs.Table.{program_row}
use Rattle.app_program.specs.TableLaws.{are_program_rows}
use Rattle.app_program.specs.declared.program_op.ProgramOp.{ProgramOp}
use Rattle.app_program.proofs.ReadOps.{text_fits}
use Rattle.app_program.proofs.program_op.ProgramOpOper.decode.Goals as goal

-- what holds of an operation that was found
found : (P : ProgramOp → Type 0) (o : Option ProgramOp) (op : ProgramOp) → o ≡ Some op → IfSome o P → P op
found P o op is holds = subst (λ (x : Option ProgramOp). IfSome x P) is holds

pub returns-then-is_err-clause-none : goal.returns-then-is_err-clause-none
returns-then-is_err-clause-none c = λ op begins.
    let bytes : List ℕ = c.args.bytes.now in
    let read = c.in-Some.op in
    let split = found (λ op. bytes ≡ names_code (program_row op).names ++ drop (length (names_code (program_row op).names)) bytes) c.read.result read c.in-Some.is c.read.ensures.some in
    no_other program_row are_program_rows c.args.b c.known_as_small.ensures read op bytes (drop (length (names_code (program_row read).names)) bytes)
    (record { numbers = All-from_recursion (λ (x : ℕ). x < 2 ^ 32) (all_numbers (program_row read).names) c.names.ensures.fit; text = text_fits read }) split
    (λ none. is_refused c.shape.result c.if-is_err.ensures.value (c.shape.ensures ∙ ap (names_shape c.args.b) c.names.ensures.value ∙ none)) begins

pub returns-in_default-clause-none : goal.returns-in_default-clause-none
returns-in_default-clause-none c = c.in_default.ensures.none c.args.b
