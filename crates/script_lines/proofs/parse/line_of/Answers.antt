use Rattle.std.proofs.Common.{codes, refl, rules}
use Rattle.op_meaning.specs.declared.plain_op.PlainOp.TheVariants.{Put, Copy, Append, Cut, Sort, Swap}
use Rattle.op_codec.specs.AllOps.{plain}
use Rattle.script_lines.specs.Grammar.{rows}
use Rattle.script_lines.specs.declared.line.Line.TheVariants.{Run}
use Rattle.script_lines.proofs.ReadLemmas.{by_row}
use Rattle.script_lines.proofs.parse.line_of.Goals as goal

pub returns-in_ok-put : goal.returns-in_ok-put
returns-in_ok-put c = by_row rows c.args.word.now (codes "put") _ c.map.result (c.in_ok-put.ensures (λ x bytes. Run (plain (Put x bytes)))) (search rules) refl (search rules)

pub returns-then-eq-2 : goal.returns-then-eq-2
returns-then-eq-2 c = by_row rows c.args.word.now (codes "copy") _ c.map-then-eq-2.result (c.two_numbers.ensures (λ x y. Run (plain (Copy x y)))) (search rules) refl (search rules)

pub returns-then-eq-3 : goal.returns-then-eq-3
returns-then-eq-3 c = by_row rows c.args.word.now (codes "append") _ c.map-then-eq-3.result (c.two_numbers-then-eq-3.ensures (λ x y. Run (plain (Append x y)))) (search rules) refl (search rules)

pub returns-then-eq-4 : goal.returns-then-eq-4
returns-then-eq-4 c = by_row rows c.args.word.now (codes "cut") _ c.map-then-eq-4.result (c.three_numbers.ensures (λ x y place. Run (plain (Cut x y place)))) (search rules) refl (search rules)

pub returns-then-eq-5 : goal.returns-then-eq-5
returns-then-eq-5 c = by_row rows c.args.word.now (codes "sort") _ c.map-then-eq-5.result (c.three_numbers-then-eq-5.ensures (λ x y width. Run (plain (Sort x y width)))) (search rules) refl (search rules)

pub returns-then-eq-6 : goal.returns-then-eq-6
returns-then-eq-6 c = by_row rows c.args.word.now (codes "swap") _ c.map-then-eq-6.result (c.two_numbers-then-eq-6.ensures (λ x y. Run (plain (Swap x y)))) (search rules) refl (search rules)
