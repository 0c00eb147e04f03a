use Rattle.std.proofs.Common.{codes, refl, rules}
use Rattle.script_lines.specs.Grammar.{store_rows}
use Rattle.script_lines.specs.declared.line.Line.TheVariants.{Ask, Force, Group, Keep, Save, Stat}
use Rattle.script_lines.specs.declared.line.Question.TheVariants.{Get}
use Rattle.script_lines.specs.declared.line.Upkeep.TheVariants.{Checkpoint, Drain, Install, Trim}
use Rattle.script_lines.specs.declared.line.Grouping.TheVariants.{Abort, Begin, End}
use Rattle.script_lines.specs.declared.line.Saving.TheVariants.{Copy as CopyOn, Finish, Start}
use Rattle.script_lines.proofs.ReadLemmas.{by_row}
use Rattle.script_lines.proofs.parse.store_line.Goals as goal

pub returns-then-eq : goal.returns-then-eq
returns-then-eq c = by_row store_rows c.args.word.now (codes "get") _ c.map.result (c.one_number.ensures (λ x. Ask (Get x))) (search rules) refl (search rules)

pub returns-then-eq-2 : goal.returns-then-eq-2
returns-then-eq-2 c = by_row store_rows c.args.word.now (codes "force") _ c.map-then-eq-2.result (c.no_field.ensures Force) (search rules) refl (search rules)

pub returns-then-eq-3 : goal.returns-then-eq-3
returns-then-eq-3 c = by_row store_rows c.args.word.now (codes "install") _ c.map-then-eq-3.result (c.no_field-then-eq-3.ensures (Keep Install)) (search rules) refl (search rules)

pub returns-then-eq-4 : goal.returns-then-eq-4
returns-then-eq-4 c = by_row store_rows c.args.word.now (codes "drain") _ c.map-then-eq-4.result (c.no_field-then-eq-4.ensures (Keep Drain)) (search rules) refl (search rules)

pub returns-then-eq-5 : goal.returns-then-eq-5
returns-then-eq-5 c = by_row store_rows c.args.word.now (codes "checkpoint") _ c.map-then-eq-5.result (c.no_field-then-eq-5.ensures (Keep Checkpoint)) (search rules) refl (search rules)

pub returns-then-eq-6 : goal.returns-then-eq-6
returns-then-eq-6 c = by_row store_rows c.args.word.now (codes "trim") _ c.map-then-eq-6.result (c.no_field-then-eq-6.ensures (Keep Trim)) (search rules) refl (search rules)

pub returns-then-eq-7 : goal.returns-then-eq-7
returns-then-eq-7 c = by_row store_rows c.args.word.now (codes "begin") _ c.map-then-eq-7.result (c.no_field-then-eq-7.ensures (Group Begin)) (search rules) refl (search rules)

pub returns-then-eq-8 : goal.returns-then-eq-8
returns-then-eq-8 c = by_row store_rows c.args.word.now (codes "end") _ c.map-then-eq-8.result (c.no_field-then-eq-8.ensures (Group End)) (search rules) refl (search rules)

pub returns-then-eq-9 : goal.returns-then-eq-9
returns-then-eq-9 c = by_row store_rows c.args.word.now (codes "abort") _ c.map-then-eq-9.result (c.no_field-then-eq-9.ensures (Group Abort)) (search rules) refl (search rules)

pub returns-then-eq-10 : goal.returns-then-eq-10
returns-then-eq-10 c = by_row store_rows c.args.word.now (codes "stat") _ c.map-then-eq-10.result (c.no_field-then-eq-10.ensures Stat) (search rules) refl (search rules)

pub returns-then-eq-11 : goal.returns-then-eq-11
returns-then-eq-11 c = by_row store_rows c.args.word.now (codes "bstart") _ c.map-then-eq-11.result (c.no_field-then-eq-11.ensures (Save Start)) (search rules) refl (search rules)

pub returns-then-eq-12 : goal.returns-then-eq-12
returns-then-eq-12 c = by_row store_rows c.args.word.now (codes "bcopy") _ c.map-then-eq-12.result (c.one_number-then-eq-12.ensures (λ count. Save (CopyOn count))) (search rules) refl (search rules)

pub returns-then-eq-13 : goal.returns-then-eq-13
returns-then-eq-13 c = by_row store_rows c.args.word.now (codes "bfinish") _ c.map-then-eq-13.result (c.no_field-then-eq-13.ensures (Save Finish)) (search rules) refl (search rules)
