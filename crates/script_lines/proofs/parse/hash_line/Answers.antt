use Rattle.std.proofs.Common.{codes, refl, rules}
use Rattle.script_lines.specs.Grammar.{hash_rows}
use Rattle.script_lines.specs.declared.line.Line.TheVariants.{Ask, Make}
use Rattle.script_lines.specs.declared.line.Making.TheVariants.{HashDelete, HashPut}
use Rattle.script_lines.specs.declared.line.Question.TheVariants.{HashGet}
use Rattle.script_lines.proofs.ReadLemmas.{by_row}
use Rattle.script_lines.proofs.parse.hash_line.Goals as goal

pub returns-then-eq : goal.returns-then-eq
returns-then-eq c = by_row hash_rows c.args.word.now (codes "hset") _ c.map.result (c.range_and_two.ensures (λ low high key value. Make (HashPut low high key value))) (search rules) refl (search rules)

pub returns-then-eq-2 : goal.returns-then-eq-2
returns-then-eq-2 c = by_row hash_rows c.args.word.now (codes "hget") _ c.map-then-eq-2.result (c.range_and_key.ensures (λ low high key. Ask (HashGet low high key))) (search rules) refl (search rules)

pub returns-then-eq-3 : goal.returns-then-eq-3
returns-then-eq-3 c = by_row hash_rows c.args.word.now (codes "hdel") _ c.map-then-eq-3.result (c.range_and_key-then-eq-3.ensures (λ low high key. Make (HashDelete low high key))) (search rules) refl (search rules)
