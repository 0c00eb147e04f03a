use Rattle.std.proofs.Common.{◌∙◌, sym, nat_eq}
use Rattle.indexmap.specs.IndexMap.{get}
use Rattle.write_graph.proofs.FirstWriters.{noted-there, noted-new}
use Rattle.write_graph.proofs.firsts.note_write.Goals as goal

pub returns-then-contains_key-clause-noted : goal.returns-then-contains_key-clause-noted
returns-then-contains_key-clause-noted c y = noted-there c.args.x c.args.slot (get nat_eq c.args.firsts.now) y (sym c.contains_key.ensures ∙ c.if-contains_key.true)

pub returns-clause-noted : goal.returns-clause-noted
returns-clause-noted c y = noted-new c.args.x c.args.slot (get nat_eq c.args.firsts.now) (get nat_eq c.insert.new.self) y (sym c.contains_key.ensures ∙ c.if-contains_key.false) (c.in-Ok.ensures.updates.0 y)
