-- What holds of an operation that is read.
use Rattle.std.proofs.Common.{◌<◌, ◌^◌, length, arith}
use Rattle.op_rows.specs.Rows.{text_of}
use Rattle.app_program.specs.Table.{program_row}
use Rattle.app_program.specs.declared.program_op.ProgramOp.{ProgramOp}
use Rattle.app_program.specs.declared.program_op.ProgramOp.TheVariants.{Step, Feed, Drain}

-- it has no text
pub text_fits : (op : ProgramOp) → length (text_of (program_row op).names) < 2 ^ 32
text_fits (Step a p) = omega arith
text_fits (Feed a x) = omega arith
text_fits (Drain a x) = omega arith
