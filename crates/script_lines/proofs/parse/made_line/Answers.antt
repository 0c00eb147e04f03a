use Rattle.std.proofs.Common.{codes, refl, rules}
use Rattle.script_lines.specs.Grammar.{made_rows}
use Rattle.script_lines.specs.declared.line.Line.TheVariants.{Ask, Make}
use Rattle.script_lines.specs.declared.line.Making.TheVariants.{AppRun, TreeDelete, TreeInsert}
use Rattle.script_lines.specs.declared.line.Question.TheVariants.{TreeGet, TreeRange}
use Rattle.script_lines.proofs.ReadLemmas.{by_row}
use Rattle.script_lines.proofs.parse.made_line.Goals as goal

pub returns-then-eq : goal.returns-then-eq
returns-then-eq c = by_row made_rows c.args.word.now (codes "arun") _ c.map.result (c.two_numbers.ensures (λ app steps. Make (AppRun app steps))) (search rules) refl (search rules)

pub returns-then-eq-2 : goal.returns-then-eq-2
returns-then-eq-2 c = by_row made_rows c.args.word.now (codes "tinsert") _ c.map-then-eq-2.result (c.range_and_two.ensures (λ low high key value. Make (TreeInsert low high key value))) (search rules) refl (search rules)

pub returns-then-eq-3 : goal.returns-then-eq-3
returns-then-eq-3 c = by_row made_rows c.args.word.now (codes "tget") _ c.map-then-eq-3.result (c.range_and_key.ensures (λ low high key. Ask (TreeGet low high key))) (search rules) refl (search rules)

pub returns-then-eq-4 : goal.returns-then-eq-4
returns-then-eq-4 c = by_row made_rows c.args.word.now (codes "tdelete") _ c.map-then-eq-4.result (c.range_and_key-then-eq-4.ensures (λ low high key. Make (TreeDelete low high key))) (search rules) refl (search rules)

pub returns-then-eq-5 : goal.returns-then-eq-5
returns-then-eq-5 c = by_row made_rows c.args.word.now (codes "trange") _ c.map-then-eq-5.result (c.range_and_two-then-eq-5.ensures (λ low high from to. Ask (TreeRange low high from to))) (search rules) refl (search rules)
