use Rattle.std.proofs.Common.{codes, refl, rules}
use Rattle.app_program.specs.declared.program_op.ProgramOp.TheVariants.{Step, Feed, Drain}
use Rattle.op_codec.specs.AllOps.{plain, program}
use Rattle.op_meaning.specs.declared.plain_op.PlainOp.TheVariants.{Exec, AppRead, AppWrite}
use Rattle.script_lines.specs.Grammar.{program_rows}
use Rattle.script_lines.specs.declared.line.Line.TheVariants.{Make, Run}
use Rattle.script_lines.specs.declared.line.Making.TheVariants.{ProgramRun}
use Rattle.script_lines.proofs.ReadLemmas.{by_row}
use Rattle.script_lines.proofs.parse.program_line.Goals as goal

pub returns-then-eq : goal.returns-then-eq
returns-then-eq c = by_row program_rows c.args.word.now (codes "exec") _ c.map.result (c.one_number.ensures (λ app. Run (plain (Exec app)))) (search rules) refl (search rules)

pub returns-then-eq-2 : goal.returns-then-eq-2
returns-then-eq-2 c = by_row program_rows c.args.word.now (codes "aread") _ c.map-then-eq-2.result (c.two_numbers.ensures (λ app x. Run (plain (AppRead app x)))) (search rules) refl (search rules)

pub returns-then-eq-3 : goal.returns-then-eq-3
returns-then-eq-3 c = by_row program_rows c.args.word.now (codes "awrite") _ c.map-then-eq-3.result (c.two_numbers-then-eq-3.ensures (λ app x. Run (plain (AppWrite app x)))) (search rules) refl (search rules)

pub returns-then-eq-4 : goal.returns-then-eq-4
returns-then-eq-4 c = by_row program_rows c.args.word.now (codes "pexec") _ c.map-then-eq-4.result (c.two_numbers-then-eq-4.ensures (λ app p. Run (program (Step app p)))) (search rules) refl (search rules)

pub returns-then-eq-5 : goal.returns-then-eq-5
returns-then-eq-5 c = by_row program_rows c.args.word.now (codes "pread") _ c.map-then-eq-5.result (c.two_numbers-then-eq-5.ensures (λ app x. Run (program (Feed app x)))) (search rules) refl (search rules)

pub returns-then-eq-6 : goal.returns-then-eq-6
returns-then-eq-6 c = by_row program_rows c.args.word.now (codes "pwrite") _ c.map-then-eq-6.result (c.two_numbers-then-eq-6.ensures (λ app x. Run (program (Drain app x)))) (search rules) refl (search rules)

pub returns-then-eq-7 : goal.returns-then-eq-7
returns-then-eq-7 c = by_row program_rows c.args.word.now (codes "prun") _ c.map-then-eq-7.result (c.three_numbers.ensures (λ app p steps. Make (ProgramRun app p steps))) (search rules) refl (search rules)
