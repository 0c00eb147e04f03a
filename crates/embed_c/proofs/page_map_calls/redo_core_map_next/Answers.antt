use Rattle.std.proofs.Common.{nat_le}
use Rattle.embed_c.specs.PageMaps.{IfInOrder, IsFound, map_next}
use Rattle.embed_c.proofs.OnHandles.{was_closed, was_open}
use Rattle.embed_c.proofs.page_map_calls.redo_core_map_next.Goals as goal

pub returns-in-None : goal.returns-in-None
returns-in-None c = was_closed (IfInOrder (nat_le c.args.range.now.low c.args.range.now.high) (IsFound (map_next c.args.range.now.low c.args.range.now.high c.args.key.now) c.args.count.now)) c.in-None.ensures.none c.in-None.ensures.left

pub returns-in-Some : goal.returns-in-Some
returns-in-Some c = was_open (IfInOrder (nat_le c.args.range.now.low c.args.range.now.high) (IsFound (map_next c.args.range.now.low c.args.range.now.high c.args.key.now) c.map_next-answer.new.count)) c.in-Some.ensures.some c.deref_mut.ensures.value c.put_back.ensures c.map_next-answer.ensures
