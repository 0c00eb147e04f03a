use Rattle.std.proofs.Common.{nat_le}
use Rattle.embed_c.specs.PageMaps.{IfInOrder, map_get, of_map}
use Rattle.embed_c.specs.Ranges.{OnRange, TellsFound, told_found}
use Rattle.embed_c.proofs.OnHandles.{was_closed, was_open}
use Rattle.embed_c.proofs.page_map_calls.redo_core_map_get.Goals as goal

pub returns-in-None : goal.returns-in-None
returns-in-None c = was_closed (IfInOrder (nat_le c.args.range.now.low c.args.range.now.high) (OnRange (map_get c.args.range.now.low c.args.range.now.high c.args.key.now) (told_found of_map) (λ made. TellsFound made c.args.into.now c.args.into.now c.args.length.now))) c.in-None.ensures.none c.in-None.ensures.left

pub returns-in-Some : goal.returns-in-Some
returns-in-Some c = was_open (IfInOrder (nat_le c.args.range.now.low c.args.range.now.high) (OnRange (map_get c.args.range.now.low c.args.range.now.high c.args.key.now) (told_found of_map) (λ made. TellsFound made c.args.into.now c.map_get-answer.new.into c.map_get-answer.new.length))) c.in-Some.ensures.some c.deref_mut.ensures.value c.put_back.ensures c.map_get-answer.ensures
