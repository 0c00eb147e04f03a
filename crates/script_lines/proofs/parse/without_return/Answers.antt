use Rattle.std.proofs.Common.{◌-◌, length, arith}
use Rattle.script_lines.proofs.FieldLemmas.{return_dropped, return_kept}
use Rattle.script_lines.proofs.parse.without_return.Goals as goal

pub returns-in-13 : goal.returns-in-13
returns-in-13 c = return_dropped c.args.line.now (length c.args.line.now - 1) (omega arith) (omega arith)

pub returns-in_default-2 : goal.returns-in_default-2
returns-in_default-2 c = return_kept c.args.line.now (length c.args.line.now - 1) (omega arith) (λ is. omega (arith, is))
