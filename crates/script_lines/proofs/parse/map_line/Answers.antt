use Rattle.std.proofs.Common.{codes, refl, rules}
use Rattle.script_lines.specs.Grammar.{ask_map, change_map, map_rows}
use Rattle.script_lines.specs.declared.line.MapChange.TheVariants.{Set, Delete}
use Rattle.script_lines.specs.declared.line.MapQuestion.TheVariants as map_questions
use Rattle.script_lines.proofs.ReadLemmas.{by_row}
use Rattle.script_lines.proofs.parse.map_line.Goals as goal

pub returns-in_ok-set : goal.returns-in_ok-set
returns-in_ok-set c = by_row map_rows c.args.word.now (codes "mset") _ c.map.result (c.in_ok-set.ensures (λ low high key value. change_map low high (Set key value))) (search rules) refl (search rules)

pub returns-in_ok-get : goal.returns-in_ok-get
returns-in_ok-get c = by_row map_rows c.args.word.now (codes "mget") _ c.map-then-eq-2.result (c.in_ok-get.ensures (λ low high key. ask_map low high (map_questions.Get key))) (search rules) refl (search rules)

pub returns-in_ok-delete : goal.returns-in_ok-delete
returns-in_ok-delete c = by_row map_rows c.args.word.now (codes "mdel") _ c.map-then-eq-3.result (c.in_ok-delete.ensures (λ low high key. change_map low high (Delete key))) (search rules) refl (search rules)

pub returns-in_ok-range : goal.returns-in_ok-range
returns-in_ok-range c = by_row map_rows c.args.word.now (codes "mrange") _ c.map-then-eq-4.result (c.in_ok-range.ensures (λ low high from to limit. ask_map low high (map_questions.Range from to limit))) (search rules) refl (search rules)

pub returns-in_ok-back : goal.returns-in_ok-back
returns-in_ok-back c = by_row map_rows c.args.word.now (codes "mback") _ c.map-then-eq-5.result (c.in_ok-back.ensures (λ low high from to limit. ask_map low high (map_questions.Back from to limit))) (search rules) refl (search rules)

pub returns-in_ok-count : goal.returns-in_ok-count
returns-in_ok-count c = by_row map_rows c.args.word.now (codes "mcount") _ c.map-then-eq-6.result (c.in_ok-count.ensures (λ low high from to. ask_map low high (map_questions.Count from to))) (search rules) refl (search rules)

pub returns-in_ok-next : goal.returns-in_ok-next
returns-in_ok-next c = by_row map_rows c.args.word.now (codes "mnext") _ c.map-then-eq-7.result (c.in_ok-next.ensures (λ low high key. ask_map low high (map_questions.Next key))) (search rules) refl (search rules)

pub returns-in_ok-prev : goal.returns-in_ok-prev
returns-in_ok-prev c = by_row map_rows c.args.word.now (codes "mprev") _ c.map-then-eq-8.result (c.in_ok-prev.ensures (λ low high key. ask_map low high (map_questions.Prev key))) (search rules) refl (search rules)
